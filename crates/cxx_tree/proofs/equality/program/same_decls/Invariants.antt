use Rattle.std.proofs.Common.{◌≡◌, ◌↔◌, drop, map}
use Rattle.cxx_tree.specs.Blank.{blank_decl}
use Rattle.cxx_tree.specs.ProgramTree.{decl_tree}
use Rattle.cxx_tree.proofs.equality.program.same_decls.Given as goal

-- what is left of the lists is the same exactly where the whole lists are
abbrev pub invariant-loop-first : goal.invariant-loop-first
invariant-loop-first l =
    (map blank_decl (map decl_tree (drop l.first-index l.a)) ≡ map blank_decl (map decl_tree l.rest)) ↔ (map blank_decl (map decl_tree l.a) ≡ map blank_decl (map decl_tree l.fn.b))
