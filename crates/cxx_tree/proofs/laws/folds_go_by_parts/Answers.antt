use Rattle.cxx_tree.proofs.Folded.{program-folded, each-parts}
use Rattle.cxx_tree.specs.Fold.{fold_decl}
use Rattle.cxx_tree.proofs.laws.folds_go_by_parts.Goals as goal

pub returns : goal.returns
returns c start = record {
  of_map = program-folded;
  of_parts = λ f monoid ds others. each-parts f (fold_decl f) monoid ds others;
}
