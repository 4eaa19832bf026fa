use Rattle.std.proofs.Common.{rules, ◌∙◌, ap, get_or, unwrap_or, take, arith}
use Rattle.std.specs.BTreeMap.{get}
use Rattle.std.specs.Ordering.{nat_cmp}
use Rattle.std.proofs.lemmas.List.{take_more, length-take}
use Rattle.agxx_base.specs.declared.ids.NameId.{NameId}
use Rattle.cxx_normal.proofs.Places.{table-turn}
use Rattle.cxx_normal.proofs.members.places_by_name.Goals as goal

pub loop-place-preserved : goal.loop-place-preserved
loop-place-preserved c = λ number.
    let id : NameId = get_or c.args.ids.now c.loop-place.place (record { 0 = 0 }) in
    let t =
    table-turn number c.loop-place.place (take c.loop-place.place c.args.ids.now) _ id (get nat_cmp c.loop-place.places id.0) _ _ c.new.result c.or_insert.result.now c.push.new.self (c.loop-place.invariant number) (c.loop-place.invariant id.0) c.new.ensures.items
    (c.or_insert.ensures.value ∙ ap (λ o. unwrap_or o c.new.result) c.in_ok-places.ensures.value) c.in_ok-push.ensures.items ((c.in_ok-places.ensures.update.0 c.push.new.self).0 number) (take_more c.args.ids.now c.loop-place.place (record { 0 = 0 }) c.loop-place-test.true) (grind (arith, length-take)) in
    search (rules, t)
