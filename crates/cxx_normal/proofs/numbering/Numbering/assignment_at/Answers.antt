use Rattle.std.proofs.Common.{◌≡◌, ◌∙◌, ◌++◌, [], None, ap, sym, slice_get, map, option_map, append-nil}
use Rattle.std.proofs.lemmas.Bool.{ltb-false}
use Rattle.std.proofs.lemmas.Option.{slice_get-map, slice_get_past}
use Rattle.cxx_tree.specs.StmtTree.{stmt_tree}
use Rattle.cxx_tree.specs.ProgramTree.{init_tree}
use Rattle.cxx_normal.specs.Numbers.{number_each, number_stmt}
use Rattle.cxx_normal.specs.Places.{assignment_at, assignment_of_any}
use Rattle.cxx_normal.proofs.numbering.Numbering.assignment_at.Goals as goal

pub returns-in-None : goal.returns-in-None
returns-in-None c =
    let past : slice_get c.args.inits.now c.args.place ≡ None = slice_get_past c.args.inits.now c.args.place (ltb-false c.args.place _ (sym c.in-None.ensures.lookup.0)) in
    let none : assignment_at (map init_tree c.args.inits.now) c.args.place ≡ [] = ap assignment_of_any (slice_get-map init_tree c.args.inits.now c.args.place ∙ ap (option_map init_tree) past) in
    let kept = map stmt_tree c.args.stmts.now in
    let from = c.args.self.now.next in (
      sym (ap (λ ss. kept ++ (number_each number_stmt ss from).0) none ∙ append-nil kept),
      sym (ap (λ ss. (number_each number_stmt ss from).1) none),
    )
