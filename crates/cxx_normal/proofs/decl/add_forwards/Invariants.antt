use Rattle.std.proofs.Common.{◌≡◌, ◌++◌, drop, map}
use Rattle.std.specs.List.{flat_map}
use Rattle.cxx_tree.specs.ProgramTree.{decl_tree}
use Rattle.cxx_normal.specs.Declarations.{forward}
use Rattle.cxx_normal.proofs.decl.add_forwards.Given as goal

abbrev pub invariant-loop-decl : goal.invariant-loop-decl
invariant-loop-decl l =
    map decl_tree l.copies ++ flat_map forward (map decl_tree (drop l.decl-index l.decls)) ≡ map decl_tree l.fn.copies ++ flat_map forward (map decl_tree l.decls)
