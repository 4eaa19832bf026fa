use Rattle.std.proofs.Common.{◌∙◌, sym}
use Rattle.std.proofs.lemmas.Bool.{eqb-true, eqb-false}
use Rattle.fault_watch.proofs.Firsts.{IsFrom, found, other-found, none-found}
use Rattle.fault_watch.proofs.Orders.{class-tested, class-apart}
use Rattle.fault_watch.proofs.waiting.first_of.Goals as goal
use Rattle.fault_watch.proofs.waiting.first_of.Goals.{else-eq-via-then-eq+else-eq-2, else-eq-via-else-eq}

pub returns-in_default : goal.returns-in_default
returns-in_default c =
    let from : IsFrom c.args.object.0 c.args.class c.args.lines.now c.range.result = c.range.ensures.in_range tt in
    none-found c.args.object.0 c.args.class c.args.lines.now c.range.result from c.in_default.ensures.steps.0

pub returns-then-eq-2 : goal.returns-then-eq-2
returns-then-eq-2 c =
    let from : IsFrom c.args.object.0 c.args.class c.args.lines.now c.range.result = c.range.ensures.in_range tt in
    found c.args.object.0 c.args.class c.args.lines.now c.range.result c.next.new.self c.in-Some.spot.now c.in-Some.field-0-1.now from c.in-Some.ensures.steps
    (eqb-true _ _ (sym c.eq.ensures ∙ c.if-eq.true)) (class-tested _ _ (sym c.eq-then-eq.ensures ∙ c.if-eq-2.true))

pub returns-else-eq : goal.returns-else-eq
returns-else-eq c =
    let from : IsFrom c.args.object.0 c.args.class c.args.lines.now c.range.result = c.range.ensures.in_range tt in
    other-found c.args.object.0 c.args.class c.args.lines.now c.range.result c.next.new.self c.in-Some.spot.now c.in-Some.field-0-1.now from c.in-Some.ensures.steps
    (elim c.else-eq.branch [
      | else-eq-via-then-eq+else-eq-2 w ↦ λ object class. class-apart _ _ (sym w.eq-then-eq.ensures ∙ w.if-eq-2.false) class
      | else-eq-via-else-eq w ↦ λ object class. eqb-false _ _ (sym c.eq.ensures ∙ w.if-eq.false) object
    ])
