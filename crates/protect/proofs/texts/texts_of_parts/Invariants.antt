use Rattle.std.proofs.Common.{◌≡◌, ◌++◌, drop, map}
use Rattle.std.specs.List.{flat_map}
use Rattle.cxx_tree.specs.ProgramTree.{decl_tree}
use Rattle.protect.specs.GeneratedNames.{texts_of_decl}
use Rattle.protect.proofs.texts.texts_of_parts.Given as goal

-- the texts so far, and then those of the declarations that are left, are all
abbrev pub invariant-loop-decl : goal.invariant-loop-decl
invariant-loop-decl l =
    l.texts ++ flat_map (texts_of_decl l.names l.kinds) (map decl_tree (drop l.decl-index l.decls))
    ≡ flat_map (texts_of_decl l.names l.kinds) (map decl_tree l.decls)
