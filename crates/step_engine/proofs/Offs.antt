-- A thread that has nothing to do.
use Rattle.std.proofs.Common.{◌≡◌, ℕ, List, [], ◌∷◌, Bool, false, Option, Some, None, slice_get, slice_set, refl, ap, sym, ◌∙◌, subst, MatchOption, Result, Ok, Err, IfOk}
use Rattle.std.proofs.lemmas.Option.{get_or_from_slice_get}
use Rattle.std.proofs.lemmas.List.{set-get_or}
use Rattle.step_machine.specs.Frame.{Frame}
use Rattle.step_machine.specs.Item.{Item}
use Rattle.step_frame.specs.declared.work.Work.{Work}
use Rattle.step_frame.specs.Works.{item_of}
use Rattle.step_machine.specs.Turn.{Threads, put_back}
use Rattle.step_frame.specs.Threads.{has_items, are_some}
use Rattle.step_engine.specs.Turning.{Turning}
use Rattle.step_engine.specs.Steps.{acted}
use Rattle.step_engine.specs.Turns.{Took, TookOff, turn_taken}
use Rattle.step_machine.specs.Setting.{Setting}
use Rattle.step_machine.specs.World.{World}
use Rattle.step_machine.specs.Effects as on
use Rattle.step_machine.specs.Effects.{Did}
use Rattle.step_engine.specs.declared.effect.Turn.{Turn}
use Rattle.step_engine.specs.Effects.{turn_of}
use Rattle.step_machine.specs.Inserted.{is_inserted}
use Rattle.step_machine.specs.Machine.{Turned, taken_off, off_at, off_frames, off_items, put_at, turn_off}

off-items : (t : ℕ) (ths : Threads) (f : Frame) (fs : List Frame) (is : List Item) → are_some is ≡ false → off_items t ths f fs is ≡ None
off-items t ths f fs [] p = refl
off-items t ths f fs (i ∷ is) p = absurd (cc)

off-frames : (t : ℕ) (ths : Threads) (fs : List Frame) → has_items fs ≡ false → off_frames t ths fs ≡ None
off-frames t ths [] p = refl
off-frames t ths (f ∷ fs) p = off-items t ths f fs f.items p

pub off-none : (t : ℕ) (ths : Threads) (fs : List Frame) → slice_get ths t ≡ Some fs → has_items fs ≡ false → taken_off t ths ≡ None
off-none t ths fs e p = ap (off_at t ths) e ∙ off-frames t ths fs p

pub set-same : (t : ℕ) (ths : Threads) (fs : List Frame) → slice_get ths t ≡ Some fs → slice_set ths t fs ≡ ths
set-same t ths fs e = ap (slice_set ths t) (sym (get_or_from_slice_get ths t fs fs e)) ∙ set-get_or ths t fs

pub off-some : (t : ℕ) (ths : Threads) (old : List Frame) (i : Item) (f : Frame) (fs : List Frame)
    → slice_get ths t ≡ Some old → old ≡ put_back i f ∷ fs → taken_off t ths ≡ Some (f, i, slice_set ths t fs)
off-some t ths old i f fs e p = ap (off_at t ths) (e ∙ ap Some p)

pub idle : (t : ℕ) (ths : Threads) (old new : List Frame) → slice_get ths t ≡ Some old → (new ≡ old) × (has_items old ≡ false) → (slice_set ths t new ≡ ths) × (taken_off t ths ≡ None)
idle t ths old new e p = (ap (slice_set ths t) p.0 ∙ set-same t ths old e, off-none t ths old e p.1)

pub took-some : (old new : List Frame) (o : Option (Frame × Work)) (r : Frame × Work) → Took old new o → o ≡ Some r → old ≡ put_back (item_of r.1) r.0 ∷ new
took-some old new o r m e = subst (Took old new) e m

pub took-none : (old new : List Frame) (o : Option (Frame × Work)) → Took old new o → o ≡ None → (new ≡ old) × (has_items old ≡ false)
took-none old new o m e = subst (Took old new) e m

-- a turn in which nothing is taken off
pub turn-idle : (s : Setting) (w : World) (t : ℕ) (ths : Threads) → taken_off t ths ≡ None → ◌≡◌ {A = Turned} (ths, on.idle, false) (turn_taken s w t ths)
unfolding turn_taken
turn-idle s w t ths h = sym (ap (turn_off s w t ths) h)

-- what the turn works on
abbrev pub turning : Setting → World → ℕ → Threads → Turning
turning s w t rest = record { setting = s; world = w; threads = rest; thread = t }

-- the turn of a thread whose item was taken off
turned-is : (s : Setting) (w : World) (t : ℕ) (ths rest : Threads) (f : Frame) (i : Item) → taken_off t ths ≡ Some (f, i, rest)
    → put_at t rest (is_inserted s i f) (slice_get rest t) i (acted (turning s w t rest) i f) ≡ turn_taken s w t ths
unfolding acted turn_taken
turned-is s w t ths rest f i h = sym (ap (turn_off s w t ths) h)

took-off : (t : ℕ) (ths rest : Threads) (o : Option (Frame × Work)) (f : Frame) (w : Work) → TookOff t ths rest o → o ≡ Some (f, w) → taken_off t ths ≡ Some (f, item_of w, rest)
took-off t ths rest o f w m e = subst (TookOff t ths rest) e m

-- the turn of a thread whose frames are put back
pub turned-ok : {E : Type 0} (s : Setting) (w : World) (t : ℕ) (ths rest new : Threads) (o : Option (Frame × Work)) (f : Frame) (work : Work) (inserted : Bool) (d : Did) (result : Result (Turn × Bool) E)
    → TookOff t ths rest o → o ≡ Some (f, work) → inserted ≡ is_inserted s (item_of work) f → d ≡ acted (turning s w t rest) (item_of work) f
    → IfOk result (λ r. ◌≡◌ {A = Turned} (new, turn_of r.0, r.1) (put_at t rest inserted (slice_get rest t) (item_of work) d))
    → IfOk result (λ r. ◌≡◌ {A = Turned} (new, turn_of r.0, r.1) (turn_taken s w t ths))
turned-ok s w t ths rest new o f work inserted d (Ok r) m e i h p =
    p ∙ (λ k. put_at t rest (i k) (slice_get rest t) (item_of work) (h k)) ∙ turned-is s w t ths rest f (item_of work) (took-off t ths rest o f work m e)
turned-ok s w t ths rest new o f work inserted d (Err e) m i j h p = tt
