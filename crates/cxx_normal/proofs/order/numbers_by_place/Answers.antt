use Rattle.std.proofs.Common.{◌≡◌, ◌∙◌, ◌++◌, ◌∷◌, [], ◌+◌, ap, sym, Some, nat_eq, if◌then◌else◌, length, map, take, arith}
use Rattle.std.specs.BTreeMap.{get}
use Rattle.std.specs.List.{list_any}
use Rattle.std.specs.Ordering.{nat_cmp}
use Rattle.std.proofs.lemmas.List.{map_more, length-map, length-take}
use Rattle.cxx_tree.specs.ProgramTree.{init_tree}
use Rattle.cxx_normal.proofs.Places.{init-told, init-kept}
use Rattle.cxx_normal.proofs.order.numbers_by_place.Goals as goal
use Rattle.cxx_normal.proofs.order.numbers_by_place.Goals.{then-not-names_base+in_ok-put_at, else-not-names_base}

pub loop-number-preserved : goal.loop-number-preserved
loop-number-preserved c = λ place.
    let is = map init_tree (take c.loop-number.number c.args.inits.now) in
    let init = c.index-inits-number.result in
    let old = get nat_cmp c.loop-number.numbers place in
    let taken : map init_tree (take (c.loop-number.number + 1) c.args.inits.now) ≡ is ++ init_tree init ∷ [] =
    map_more init_tree c.args.inits.now c.loop-number.number init c.loop-number-test.true ∙ ap (λ x. is ++ init_tree x ∷ []) (sym c.index-inits-number.is) in
    let count : c.loop-number.number ≡ length is = grind (arith, length-map, length-take) in
    elim c.if-not-names_base.branch [
      | then-not-names_base+in_ok-put_at w ↦ init-told c.args.base c.args.members.now is _ (init_tree init) place c.loop-number.number old _ (sym c.names_base.ensures ∙ w.if-not-names_base.true) (c.loop-number.invariant place) taken count
          (ap (λ m. get nat_cmp m place) w.numbers-is ∙ w.in_ok-put_at.ensures place ∙ ap (λ ps. if list_any (nat_eq place) ps then Some c.loop-number.number else old) w.places.ensures)
      | else-not-names_base w ↦ ap (λ m. get nat_cmp m place) w.numbers-is ∙ init-kept c.args.base c.args.members.now is _ (init_tree init) place old (sym c.names_base.ensures ∙ w.if-not-names_base.false) (c.loop-number.invariant place) taken
    ]
