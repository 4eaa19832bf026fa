-- A turn leads from where a run stands to where it stands then.
use Rattle.std.proofs.Common.{◌≡◌, ◌<◌, ◌+◌, ℕ, suc, List, [], ◌∷◌, ◌++◌, length, Bool, true, false, ◌&&◌, Option, Some, None, option_map, refl, ap, sym, subst, ◌∙◌, arith, true≢false}
use Rattle.std.proofs.lemmas.Bool.Decides.{nat_tests}
use Rattle.agxx_base.specs.declared.ids.ClassId.{ClassId}
use Rattle.agxx_base.specs.declared.ids.ObjectId.{ObjectId}
use Rattle.flip_plan.specs.declared.flip.PlannedFlip.{PlannedFlip}
use Rattle.step_machine.specs.declared.outcome.StepKind.{StepKind}
use Rattle.step_machine.specs.declared.outcome.StepKind.TheVariants as kind
use Rattle.step_machine.specs.Setting.{Setting, class_of_function, is_of}
use Rattle.step_machine.specs.Frame.{Frame, is_object}
use Rattle.step_machine.specs.Turn.{Thread, thread_at}
use Rattle.step_machine.specs.Machine.{Machine, Next, next, as_object}
use Rattle.step_machine.specs.Runs as runs
use Rattle.step_machine.specs.Runs.{counted}
use Rattle.step_machine.specs.Total.{Total, NextOf, reading, next_of}
use Rattle.step_machine.proofs.Turns.{agree}
use Rattle.step_frame.specs.Works.{number_of}
use Rattle.step_engine.specs.TurnRuns.{counts_of, turns_in}
use Rattle.step_engine.specs.declared.runs.Counts.{Counts}
use Rattle.fault_model.specs.Progress.{Progress, with_turn, erased_by}
use Rattle.fault_model.specs.Stays.{is_top_on}
use Rattle.fault_model.proofs.Stays.{stays-change}
use Rattle.fault_lines.specs.Marks.{Marks, Tells, cleared, cleared_by}
use Rattle.fault_lines.specs.Waiting.{waits, NoLineWaitsFor}
use Rattle.fault_lines.specs.Keeping.{Queues, Takes, IsLedBy}
use Rattle.fault_lines.proofs.Marks.{sets-tell-hits}
use Rattle.fault_watch.specs.MarkSets.{has}
use Rattle.fault_watch.specs.Tops.{top_of}
use Rattle.fault_watch.specs.declared.inside.Top.{Top}
use Rattle.plan_runs.specs.Watches.{Watched, StandsAt, IsCounted, IsCleared}
use Rattle.plan_runs.specs.Wakings.{AreLed, WakesBy}
use Rattle.plan_runs.specs.Turns.{LeavesParts, TakesTurn}

-- ---- the frame that runs

number-of-id : (x : Option ℕ) → option_map number_of (option_map as_object x) ≡ x
number-of-id None = refl
number-of-id (Some o) = refl

or-top : Top → Option Top → Top
or-top t None = t
or-top t (Some u) = u

same-top : (t u : Top) → Some t ≡ Some u → t ≡ u
unfolding or-top
same-top t u e = ap (or-top t) e

cleared-top : (s : Setting) (fs : Thread) (t : Top) (marks : Marks) → top_of s fs ≡ Some t
    → cleared s (option_map number_of t.object) t.class marks ≡ cleared_by s fs marks
cleared-top s [] t marks e = cc e
cleared-top s (f ∷ fs) t marks e =
    ap (λ (u : Top). cleared s (option_map number_of u.object) u.class marks) (sym (same-top _ t e))
    ∙ ap (λ x. cleared s x (class_of_function s f.function) marks) (number-of-id f.this)

cleared-none : (s : Setting) (fs : Thread) (marks : Marks) → top_of s fs ≡ None → marks ≡ cleared_by s fs marks
cleared-none s [] marks e = refl
cleared-none s (f ∷ fs) marks e = cc e

pub leaves-top : (m : Machine) (thread : ℕ) (t : Top) (w after : Watched) → top_of m.setting (thread_at m.threads thread) ≡ Some t
    → IsCleared m.setting (option_map number_of t.object) t.class w after → LeavesParts m thread w after
leaves-top m thread t w after e h = record {
  marks = h.marks ∙ cleared-top m.setting (thread_at m.threads thread) t (has w.marks) e;
  all_else = h.all_else;
}

pub leaves-none : (m : Machine) (thread : ℕ) (w : Watched) → top_of m.setting (thread_at m.threads thread) ≡ None → LeavesParts m thread w w
leaves-none m thread w e = record {
  marks = cleared-none m.setting (thread_at m.threads thread) (has w.marks) e;
  all_else = refl;
}

-- ---- a turn

module _ (thread : ℕ) (m : Machine) (w mid left : Watched) (now : Machine) (k : StepKind) (n : (now, k) ≡ next m thread)
    (c : IsCounted thread k w mid) (h : LeavesParts now thread mid left) where
  now-is : now ≡ (next m thread).0
  now-is = ap (λ (x : Next). x.0) n

  kind-is : k ≡ (next m thread).1
  kind-is = ap (λ (x : Next). x.1) n

  setting-is : now.setting ≡ m.setting
  setting-is = ap (λ (x : Machine). x.setting) now-is ∙ stays-change.setting m thread

  mid-marks : has w.marks ≡ has mid.marks
  mid-marks = ap (λ (x : Watched). has x.marks) (sym c.all_else)

  marks-are : cleared_by m.setting (thread_at (next m thread).0.threads thread) (has w.marks) ≡ has left.marks
  marks-are =
      ap (λ (x : Machine). cleared_by m.setting (thread_at x.threads thread) (has w.marks)) (sym now-is)
      ∙ ap (λ s. cleared_by s (thread_at now.threads thread) (has w.marks)) (sym setting-is)
      ∙ ap (cleared_by now.setting (thread_at now.threads thread)) mid-marks
      ∙ sym h.marks

  pub turn-stands : (p : Progress) → StandsAt p m w → StandsAt (with_turn thread p) now left
  turn-stands p s =
      let x : next_of p.total thread ≡ (reading (next m thread).0, (next m thread).1) =
      ap (λ z. next_of z thread) s.total ∙ sym (agree.of_next m thread) in
      let y : (next_of p.total thread).1 ≡ k = ap (λ (z : NextOf). z.1) x ∙ sym kind-is in
      record {
        total = ap (λ (z : NextOf). z.0) x ∙ ap reading (sym now-is);
        marks = subst (λ z. Tells z (with_turn thread p)) marks-are (sets-tell-hits.turn (has w.marks) p m thread s.total s.marks);
        verdict = s.verdict ∙ ap (λ (z : Watched). z.verdict) (sym c.all_else) ∙ ap (λ (z : Watched). z.verdict) (sym h.all_else);
        flips = s.flips ∙ ap (λ (z : Watched). z.flips) (sym c.all_else) ∙ ap (λ (z : Watched). z.flips) (sym h.all_else);
        counts = ap (λ z. counted z p.counts) y ∙ ap (counted k) s.counts ∙ sym c.counts
            ∙ ap (λ (z : Watched). counts_of z.counts) (sym h.all_else);
        erased = ap (λ z. p.erased ++ erased_by z thread) y ∙ ap (λ z. z ++ erased_by k thread) s.erased
            ∙ ap (λ (z : Watched). z.erased) (sym c.all_else) ∙ ap (λ (z : Watched). z.erased) (sym h.all_else);
      }

  pub same-queues : left.queues ≡ w.queues
  same-queues = ap (λ (z : Watched). z.queues) h.all_else ∙ ap (λ (z : Watched). z.queues) c.all_else

-- ---- what the turn wakes

and-first : (a b : Bool) → (a && b) ≡ true → a ≡ true
and-first true b e = refl
and-first false b e = e

and-second : (a b : Bool) → (a && b) ≡ true → b ≡ true
and-second true b e = e
and-second false b e = cc e

this-is : (o : ℕ) (this : Option ℕ) → is_object o this ≡ true → option_map as_object this ≡ Some (record { 0 = o })
this-is o None e = cc e
this-is o (Some p) e = let q : p ≡ o = grind (arith, nat_tests) in ap (λ x. Some (as_object x)) q

module _ (thread : ℕ) (m : Machine) (now : Machine) (left after : Watched) (top : Option Top) (made : ℕ) (is : now ≡ (next m thread).0)
    (top_is : top ≡ top_of m.setting (thread_at m.threads thread)) (made_is : made ≡ length m.world.objects)
    (x : WakesBy now thread top made left after) where
  setting-stays : now.setting ≡ m.setting
  setting-stays = ap (λ (y : Machine). y.setting) is ∙ stays-change.setting m thread

  led-by : (o : ℕ) (class : ClassId) (fs : Thread) → top ≡ top_of m.setting fs → is_top_on m.setting o class fs ≡ true
      → length (thread_at now.threads thread) < length fs → AreLed now x.taken left after o class
  led-by o class [] e h l = cc h
  led-by o class (f ∷ fs) e h l =
      x.led (record { object = option_map as_object f.this; class = class_of_function m.setting f.function; depth = length (f ∷ fs) })
      (record { 0 = o }) class e
      (this-is o f.this (and-first (is_object o f.this) (is_of m.setting (class_of_function m.setting f.function) (Some class)) h)) l
      (ap (λ s. is_of s (class_of_function m.setting f.function) (Some class)) setting-stays
      ∙ and-second (is_object o f.this) (is_of m.setting (class_of_function m.setting f.function) (Some class)) h)

  none-made : length (next m thread).0.world.objects ≡ suc (length m.world.objects)
      → NoLineWaitsFor (length m.world.objects) None after.queues.waiting
  none-made e =
      let l : length now.world.objects ≡ suc (length m.world.objects) = ap (λ (y : Machine). length y.world.objects) is ∙ e in
      subst (λ k. NoLineWaitsFor k None after.queues.waiting) made_is (x.none (omega (arith, l, made_is)))

  takes-from : Takes m thread left.queues after.queues
  takes-from = record {
    taken = x.taken;
    left = x.wakes.left;
    due = x.wakes.due;
    waited = x.wakes.waited;
    gone = x.wakes.gone;
    fewer = x.wakes.fewer;
    rest = x.wakes.rest;
    made = none-made;
    parts = λ o class n f t g e.
        let l : length (thread_at now.threads thread) < length (thread_at m.threads thread) =
        subst (λ (y : Machine). length (thread_at y.threads thread) < length (thread_at m.threads thread)) (sym is) g in
        subst (λ (y : Machine). IsLedBy y x.taken left.queues.waiting o (Some class) f) is
        (led-by o class (thread_at m.threads thread) top_is t l n f e);
  }

pub takes-turn : (thread : ℕ) (m : Machine) (w mid left after : Watched) (now : Machine) (k : StepKind) (top : Option Top) (made : ℕ)
    → (now, k) ≡ next m thread → IsCounted thread k w mid → LeavesParts now thread mid left
    → top ≡ top_of m.setting (thread_at m.threads thread) → made ≡ length m.world.objects → WakesBy now thread top made left after
    → TakesTurn thread m w now after
takes-turn thread m w mid left after now k top made n c h t l x =
    let stays : (p : Progress) → StandsAt p now left → StandsAt p now after = λ p s.
    subst (StandsAt p now) (sym x.wakes.all_else)
    (record { total = s.total; marks = s.marks; verdict = s.verdict; flips = s.flips; counts = s.counts; erased = s.erased }) in
    record {
      machine = ap (λ (y : Next). y.0) n;
      stands = λ p s. stays (with_turn thread p) (turn-stands thread m w mid left now k n c h p s);
      takes = subst (λ q. Takes m thread q after.queues) (same-queues thread m w mid left now k n c h)
          (takes-from thread m now left after top made (ap (λ (y : Next). y.0) n) t l x);
    }

-- ---- how many turns were taken

abbrev turns-of : runs.Counts → ℕ
turns-of n = n.source + n.inserted + n.blocked + n.idle

more-counted : (k : StepKind) (a b : Counts) → counts_of a ≡ counted k (counts_of b) → turns_in a ≡ turns_in b + 1
more-counted kind.Source a b e = let h = ap turns-of e in h ∙ omega arith
more-counted kind.Inserted a b e = let h = ap turns-of e in h ∙ omega arith
more-counted kind.Blocked a b e = let h = ap turns-of e in h ∙ omega arith
more-counted kind.Idle a b e = let h = ap turns-of e in h ∙ omega arith

pub counts-more : (thread : ℕ) (k : StepKind) (m now : Machine) (w mid left after : Watched) (top : Option Top) (made : ℕ)
    → IsCounted thread k w mid → LeavesParts now thread mid left → WakesBy now thread top made left after
    → turns_in after.counts ≡ turns_in w.counts + 1
counts-more thread k m now w mid left after top made c h x =
    ap (λ (z : Watched). turns_in z.counts) x.wakes.all_else ∙ ap (λ (z : Watched). turns_in z.counts) h.all_else
    ∙ more-counted k mid.counts w.counts c.counts
