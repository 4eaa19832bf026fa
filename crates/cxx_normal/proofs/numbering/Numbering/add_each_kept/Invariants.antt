use Rattle.std.proofs.Common.{drop, map, refl}
use Rattle.std.specs.List.{flat_map}
use Rattle.cxx_tree.specs.ProgramTree.{decl_tree}
use Rattle.cxx_normal.specs.Declarations.{kept}
use Rattle.cxx_normal.specs.Gives.{behind}
use Rattle.cxx_normal.specs.Normal.{rebuilt_decl}
use Rattle.cxx_normal.specs.Numbers.{number_each, number_decl}
use Rattle.cxx_normal.proofs.Loops.{IsAdded}
use Rattle.cxx_normal.proofs.numbering.Numbering.add_each_kept.Given as goal

abbrev pub invariant-loop-decl : goal.invariant-loop-decl
invariant-loop-decl l =
    IsAdded decl_tree number_decl (λ ds. flat_map kept (map (rebuilt_decl l.main.0) (map decl_tree ds))) (λ d. kept (rebuilt_decl l.main.0 (decl_tree d))) (λ x xs. refl) (behind (map decl_tree l.fn.copies) (number_each number_decl (flat_map kept (map (rebuilt_decl l.main.0) (map decl_tree l.decls))) l.fn.self.next)) l.copies (drop l.decl-index l.decls) l.self.next
