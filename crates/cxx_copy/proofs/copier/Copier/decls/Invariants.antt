use Rattle.std.proofs.Common.{◌≡◌, ◌++◌, drop, map}
use Rattle.cxx_tree.specs.ProgramTree.{decl_tree}
use Rattle.cxx_copy.proofs.copier.Copier.decls.Given as goal

-- what was copied, and then what is left, is the whole
abbrev pub invariant-loop-decl : goal.invariant-loop-decl
invariant-loop-decl l = map decl_tree l.copies ++ map decl_tree (drop l.decl-index l.decls) ≡ map decl_tree l.decls
