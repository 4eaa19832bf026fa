-- The lines that wait for the parts that a frame was inside of, and for the object that was made.
use Rattle.std.proofs.Common.{◌≡◌, ◌<◌, ◌≤◌, ◌⊎◌, inl, inr, ℕ, List, [], ◌++◌, length, Option, Some, None, refl, ap, sym, subst, ◌∙◌, arith}
use Rattle.std.proofs.lemmas.Option.{same_Some}
use Rattle.agxx_base.specs.declared.ids.ClassId.{ClassId}
use Rattle.agxx_base.specs.declared.ids.ObjectId.{ObjectId}
use Rattle.flip_plan.specs.declared.flip.PlannedFlip.{PlannedFlip}
use Rattle.step_machine.specs.Turn.{thread_at}
use Rattle.step_machine.specs.Machine.{Machine}
use Rattle.fault_lines.specs.Waiting.{Waiter, waits, NoLineWaits, NoLineWaitsFor}
use Rattle.fault_watch.specs.declared.inside.Top.{Top}
use Rattle.plan_runs.specs.Watches.{Watched}
use Rattle.plan_runs.specs.Wakings.{Empties, WakesLeft, WakesBy}
use Rattle.plan_runs.proofs.Wakings.{wakes-none, wakes-both, led-later, no-line}

-- ---- the parts that a frame was inside of

module _ (m : Machine) (thread : ℕ) (top : Option Top) (w : Watched) where
  left-alone : ((t : Top) (object : ObjectId) → top ≡ Some t → t.object ≡ Some object → length (thread_at m.threads thread) < t.depth → ⊥)
      → WakesLeft m thread top w w
  left-alone h = record { taken = []; wakes = wakes-none w; led = λ t object class e d l k. absurd (h t object e d l) }

  pub left-no-top : top ≡ None → WakesLeft m thread top w w
  left-no-top e = left-alone (λ t object d f l. let k : None ≡ Some t = sym e ∙ d in cc)

  pub left-no-object : (t : Top) → top ≡ Some t → t.object ≡ None → WakesLeft m thread top w w
  left-no-object t e f =
      left-alone (λ u object d g l.
      let k : None ≡ Some object = sym f ∙ ap (λ (x : Top). x.object) (same_Some t u (sym e ∙ d)) ∙ g in cc)

  pub left-inside : (t : Top) (depth : ℕ) → top ≡ Some t → depth ≡ length (thread_at m.threads thread) → t.depth ≤ depth → WakesLeft m thread top w w
  left-inside t depth e f h =
      left-alone (λ u object d g l.
      let k : t.depth ≡ u.depth = ap (λ (x : Top). x.depth) (same_Some t u (sym e ∙ d)) in absurd (omega (arith, k, f, h, l)))

-- ---- all

still-none : (old new : List Waiter) (o : ℕ) (c : Option ClassId) → NoLineWaitsFor o c old
    → ((n : ℕ) (f : PlannedFlip) → waits new o c n ≡ Some f → waits old o c n ≡ Some f) → NoLineWaitsFor o c new
still-none old new o c none fewer n = go (waits new o c n) refl
  where
    go : (x : Option PlannedFlip) → waits new o c n ≡ x → x ≡ None
    go None e = refl
    go (Some f) e = no-line old o c n f none (fewer n f e)

module _ (m : Machine) (thread : ℕ) (top : Option Top) (made : ℕ) where
  pub by-none : (w : Watched) → NoLineWaits w.queues.waiting → WakesBy m thread top made w w
  by-none w h = record {
    taken = [];
    wakes = wakes-none w;
    led = λ t object class e d l k n f j. no-line w.queues.waiting object.0 (Some class) n f (h object.0 (Some class)) j;
    none = λ l. h made None;
  }

  by-left : (w after : Watched) → length m.world.objects ≤ made → WakesLeft m thread top w after → WakesBy m thread top made w after
  by-left w after h x = record { taken = x.taken; wakes = x.wakes; led = x.led; none = λ l. absurd (omega (arith, h, l)) }

  by-both : (w mid after : Watched) → Empties made w mid → WakesLeft m thread top mid after → WakesBy m thread top made w after
  by-both w mid after x y = record {
    taken = x.taken ++ y.taken;
    wakes = wakes-both x.taken y.taken w mid after x.wakes y.wakes;
    led = λ t object class e d l k.
        led-later x.taken y.taken w mid after x.wakes y.wakes m object.0 class (y.led t object class e d l k);
    none = λ l. still-none mid.queues.waiting after.queues.waiting made None x.none (y.wakes.fewer made None);
  }

-- what waits for the object that was made is woken, where one was made
abbrev IsMadeOrNot : Machine → ℕ → Watched → Watched → Type 0
IsMadeOrNot m made w mid = Empties made w mid ⊎ ((length m.world.objects ≤ made) × (mid ≡ w))

pub wakes-all : (m : Machine) (thread : ℕ) (top : Option Top) (made : ℕ) (w mid after : Watched) → IsMadeOrNot m made w mid
    → WakesLeft m thread top mid after → WakesBy m thread top made w after
wakes-all m thread top made w mid after (inl x) y = by-both m thread top made w mid after x y
wakes-all m thread top made w mid after (inr x) y =
    by-left m thread top made w after x.0 (subst (λ z. WakesLeft m thread top z after) x.1 y)

pub empties-at : (n made : ℕ) (w mid after : Watched) → n ≡ made → after ≡ mid → Empties n w mid → Empties made w after
empties-at n made w mid after e d x = subst (Empties made w) (sym d) (subst (λ k. Empties k w mid) e x)
