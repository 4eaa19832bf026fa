use Rattle.std.proofs.Common.{◌≡◌, drop, map}
use Rattle.cxx_tree.specs.ProgramTree.{decl_tree}
use Rattle.protect.specs.GeneratedNames.{most_in_decls}
use Rattle.protect.proofs.texts.most_in_decls.Given as goal

abbrev pub invariant-loop-decl : goal.invariant-loop-decl
invariant-loop-decl l = most_in_decls l.most (map decl_tree (drop l.decl-index l.decls)) ≡ most_in_decls 0 (map decl_tree l.decls)
