use Rattle.std.proofs.Common.{refl, ap, map}
use Rattle.std.specs.List.{flat_map}
use Rattle.cxx_tree.specs.ProgramTree.{decl_tree}
use Rattle.cxx_normal.specs.Declarations.{kept}
use Rattle.cxx_normal.specs.Gives.{behind}
use Rattle.cxx_normal.specs.Normal.{rebuilt_decl}
use Rattle.cxx_normal.specs.Numbers.{number_each, number_decl}
use Rattle.cxx_normal.proofs.Loops.{add-turn, add-done}
use Rattle.cxx_normal.proofs.numbering.Numbering.add_each_kept.Goals as goal

pub loop-decl-preserved : goal.loop-decl-preserved
loop-decl-preserved c =
    add-turn decl_tree number_decl (λ ds. flat_map kept (map (rebuilt_decl c.args.main.0) (map decl_tree ds))) (λ d. kept (rebuilt_decl c.args.main.0 (decl_tree d))) (λ x xs. refl) _ c.args.decls.now c.loop-decl.decl-index c.decl-item.result c.loop-decl.copies c.add_kept.new.copies c.loop-decl.self.next c.add_kept.new.self.next c.loop-decl.invariant c.loop-decl-test.true c.decl-item.is c.in_ok-add_kept.ensures

pub returns : goal.returns
returns c =
    let whole = behind (map decl_tree c.args.copies.now) (number_each number_decl (flat_map kept (map (rebuilt_decl c.args.main.0) (map decl_tree c.args.decls.now))) c.args.self.now.next) in
    let done = add-done decl_tree number_decl (λ ds. flat_map kept (map (rebuilt_decl c.args.main.0) (map decl_tree ds))) (λ d. kept (rebuilt_decl c.args.main.0 (decl_tree d))) (λ x xs. refl) refl whole c.args.decls.now c.loop-decl.decl-index c.loop-decl.copies c.loop-decl.self.next c.loop-decl.invariant c.loop-decl-test.false in
    (ap (λ w. w.0) done, ap (λ w. w.1) done)
