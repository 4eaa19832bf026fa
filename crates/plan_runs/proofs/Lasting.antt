-- How many of some lines still wait.
use Rattle.std.proofs.Common.{◌≡◌, ◌<◌, ◌≤◌, ◌+◌, ℕ, Bool, true, false, List, [], ◌∷◌, Option, Some, None, if◌then◌else◌, refl, ap, sym, ◌∙◌, arith}
use Rattle.agxx_base.specs.declared.ids.ClassId.{ClassId}
use Rattle.flip_plan.specs.declared.flip.PlannedFlip.{PlannedFlip}
use Rattle.fault_lines.specs.Due.{insert_in_order}
use Rattle.fault_lines.specs.Waiting.{Waiter, is_spot, waits, TakesFirst}
use Rattle.fault_watch.proofs.Orders.{spot-tells}
use Rattle.plan_runs.specs.Watches.{Watched, TakesOut, with_due_lines}
use Rattle.plan_runs.proofs.Wakings.{WakesSome, first-fewer, first-gone}

abbrev one_if : Option PlannedFlip → ℕ
one_if None = 0
one_if (Some f) = 1

abbrev here : List Waiter → Waiter → Option PlannedFlip
here v w = waits v w.flip.object.0 w.class w.flip.number

-- how many of the first still wait in the second
abbrev pub lasting : List Waiter → List Waiter → ℕ
lasting [] v = 0
lasting (w ∷ ws) v = one_if (here v w) + lasting ws v

no-more : (x y : Option PlannedFlip) → ((g : PlannedFlip) → y ≡ Some g → x ≡ Some g) → one_if y ≤ one_if x
no-more x None h = omega arith
no-more x (Some g) h = let e : one_if x ≡ 1 = ap one_if (h g refl) in omega (arith, e)

module _ (o : ℕ) (c : Option ClassId) (f : PlannedFlip) (v after : List Waiter) (t : TakesFirst o c f v after) where
  no-more-here : (w : Waiter) → one_if (here after w) ≤ one_if (here v w)
  no-more-here w = no-more (here v w) (here after w) (first-fewer o c f v after t w.flip.object.0 w.class w.flip.number)

  no-more-last : (ws : List Waiter) → lasting ws after ≤ lasting ws v
  no-more-last [] = omega arith
  no-more-last (w ∷ ws) = omega (arith, no-more-here w, no-more-last ws)

  here-is : (w : Waiter) (u : List Waiter) → is_spot o c f.number w.flip.object.0 w.class w.flip.number ≡ true → here u w ≡ waits u o c f.number
  here-is w u e =
      let k = spot-tells o c f.number w.flip.object.0 w.class w.flip.number e in
      sym (ap (λ x. waits u x c f.number) k.0 ∙ ap (λ x. waits u w.flip.object.0 x f.number) k.1 ∙ ap (waits u w.flip.object.0 w.class) k.2)

  fewer-last : (ws : List Waiter) → waits ws o c f.number ≡ Some f → lasting ws after < lasting ws v
  unfolding waits
  fewer-last [] e = absurd cc
  fewer-last (w ∷ ws) e = go (is_spot o c f.number w.flip.object.0 w.class w.flip.number) refl e (fewer-last ws) (no-more-last ws) (no-more-here w)
    where
      go : (b : Bool) → is_spot o c f.number w.flip.object.0 w.class w.flip.number ≡ b
          → (if b then Some w.flip else waits ws o c f.number) ≡ Some f
          → (waits ws o c f.number ≡ Some f → lasting ws after < lasting ws v)
          → lasting ws after ≤ lasting ws v → one_if (here after w) ≤ one_if (here v w)
          → one_if (here after w) + lasting ws after < one_if (here v w) + lasting ws v
      go false q h next l m = let k = next h in omega (arith, k, m)
      go true q h next l m =
          let x : one_if (here v w) ≡ 1 = ap one_if (here-is w v q ∙ t.0) in
          let y : one_if (here after w) ≡ 0 = ap one_if (here-is w after q ∙ first-gone o c f v after t) in
          omega (arith, x, y, l)

pub fewer-wait : (o : ℕ) (c : Option ClassId) (f : PlannedFlip) (u w mid after : Watched) → WakesSome u w → TakesOut o c f w mid
    → after ≡ with_due_lines (insert_in_order f mid.queues.due) mid
    → lasting u.queues.waiting after.queues.waiting < lasting u.queues.waiting w.queues.waiting
fewer-wait o c f u w mid after x t e =
    let l = fewer-last o c f w.queues.waiting mid.queues.waiting t.first u.queues.waiting (x.wakes.fewer o c f.number f t.first.0) in
    let k : lasting u.queues.waiting after.queues.waiting ≡ lasting u.queues.waiting mid.queues.waiting =
    ap (λ (z : Watched). lasting u.queues.waiting z.queues.waiting) e in
    omega (arith, l, k)
