-- A turn on the state as lists is one on the state as functions; which turns change nothing.
use Rattle.std.proofs.Common.{◌≡◌, ℕ, if◌then◌else◌, List, [], ◌∷◌, Bool, true, false, Option, Some, None, slice_get, slice_set, refl, ap, sym, ◌∙◌}
use Rattle.std.proofs.lemmas.List.{length-set}
use Rattle.step_machine.specs.declared.outcome.State.{State}
use Rattle.step_machine.specs.declared.outcome.State.TheVariants as state
use Rattle.step_machine.specs.Item.{Item}
use Rattle.step_machine.specs.Frame.{Frame}
use Rattle.step_machine.specs.Effects as on
use Rattle.step_machine.specs.Effects.{Did, did}
use Rattle.step_machine.specs.Reads.{Reads}
use Rattle.step_machine.specs.Act.{act}
use Rattle.step_machine.specs.Inserted.{is_inserted}
use Rattle.step_machine.specs.Turn.{Thread, Threads, Settled, settled, thread_at, frames_of}
use Rattle.step_machine.specs.Machine.{Machine, Next, reads_of, kind_of, put_at, landed, turn_off, off_items, off_at, next_by}
use Rattle.step_machine.specs.Total.{NextOf, reading, after_of, reads, same, upd, off_thread, off_item, landed_of, turn_of, next_if}
use Rattle.step_machine.specs.Bridge.{ListsAndFunctionsAgree}
use Rattle.step_machine.proofs.Same.{same-self, get-set}
use Rattle.step_machine.proofs.Bridge.{reads-is, after-is, put-is, flip-is}

abbrev told : Next → NextOf
told n = (reading n.0, n.1)

-- ---- the threads after a turn

abbrev with_threads : Machine → Threads → Machine
with_threads m ths = record m { threads = ths }

-- one thread's frames changed
put-told : (m : Machine) (t : ℕ) (fs old : Thread) → slice_get m.threads t ≡ Some old
    → reading (with_threads m (slice_set m.threads t fs)) ≡ record (reading m) { frames = upd (thread_at m.threads) t fs }
put-told m t fs old e = λ i. record (reading m) {
  started = length-set m.threads t fs i;
  frames = λ q. put-is m.threads t q fs old e i;
}

pub there : (ths : Threads) (t : ℕ) (fs old : Thread) → slice_get ths t ≡ Some old → slice_get (slice_set ths t fs) t ≡ Some fs
there ths t fs old e = get-set ths t t fs old e ∙ ap (λ b. if b then Some fs else slice_get ths t) (same-self t)

twice : (b : Bool) (x y z : Thread) → (if b then x else (if b then y else z)) ≡ (if b then x else z)
twice true x y z = refl
twice false x y z = refl

put-twice : (ths : Threads) (t : ℕ) (gs fs old : Thread) → slice_get ths t ≡ Some old
    → (q : ℕ) → thread_at (slice_set (slice_set ths t fs) t gs) q ≡ upd (thread_at ths) t gs q
put-twice ths t gs fs old e q =
    put-is (slice_set ths t fs) t q gs fs (there ths t fs old e)
    ∙ ap (λ x. if same q t then gs else x) (put-is ths t q fs old e)
    ∙ twice (same q t) gs fs (thread_at ths q)

twice-told : (m : Machine) (t : ℕ) (gs fs old : Thread) → slice_get m.threads t ≡ Some old
    → reading (with_threads m (slice_set (slice_set m.threads t fs) t gs)) ≡ record (reading m) { frames = upd (thread_at m.threads) t gs }
twice-told m t gs fs old e = λ i. record (reading m) {
  started = (length-set (slice_set m.threads t fs) t gs ∙ length-set m.threads t fs) i;
  frames = λ q. put-twice m.threads t gs fs old e q i;
}

-- ---- a turn

settled-told : (m : Machine) (t : ℕ) (inserted : Bool) (fs old : Thread) (r : Settled) → slice_get m.threads t ≡ Some old
    → told (landed m t (slice_set (slice_set m.threads t fs) t r.0, r.1, inserted)) ≡ landed_of (reading m) t inserted r
settled-told m t inserted fs old r e =
    ap (λ z. (z, kind_of r.1 inserted))
    (after-is (with_threads m (slice_set (slice_set m.threads t fs) t r.0)) t r.1
    ∙ ap (after_of t r.1) (twice-told m t r.0 fs old e))

reads-told : (m : Machine) (t : ℕ) (fs old : Thread) → slice_get m.threads t ≡ Some old
    → reads_of m.setting m.world t (slice_set m.threads t fs) ≡ reads (record (reading m) { frames = upd (thread_at m.threads) t fs }) t
reads-told m t fs old e =
    sym (reads-is (with_threads m (slice_set m.threads t fs)) t) ∙ ap (λ z. reads z t) (put-told m t fs old e)

abbrev settle : Machine → ℕ → Frame → Item → Thread → Reads → Settled
settle m t f i fs r = let d = did f (act m.setting r t i f) in settled i fs d.0 d.1

off-told : (m : Machine) (t : ℕ) (f : Frame) (i : Item) (fs old : Thread) → slice_get m.threads t ≡ Some old
    → told (landed m t (turn_off m.setting m.world t m.threads (Some (f, i, slice_set m.threads t fs)))) ≡ turn_of (reading m) t (Some (f, i, fs))
off-told m t f i fs old e =
    ap (λ x. told (landed m t (put_at t (slice_set m.threads t fs) (is_inserted m.setting i f) x i (did f (act m.setting (reads_of m.setting m.world t (slice_set m.threads t fs)) t i f)))))
    (there m.threads t fs old e)
    ∙ settled-told m t (is_inserted m.setting i f) fs old (settle m t f i fs (reads_of m.setting m.world t (slice_set m.threads t fs))) e
    ∙ ap (λ r. landed_of (reading m) t (is_inserted m.setting i f) (settle m t f i fs r)) (reads-told m t fs old e)

idle-told : (m : Machine) (t : ℕ) → told (landed m t (m.threads, on.idle, false)) ≡ turn_of (reading m) t None
idle-told m t = refl

turn-told : (m : Machine) (t : ℕ) (x : Option Thread) → slice_get m.threads t ≡ x
    → told (landed m t (turn_off m.setting m.world t m.threads (off_at t m.threads x))) ≡ turn_of (reading m) t (off_thread (frames_of x))
turn-told m t None e = idle-told m t
turn-told m t (Some []) e = idle-told m t
turn-told m t (Some (f ∷ fs)) e = go f.items
  where
    go : (is : List Item) → told (landed m t (turn_off m.setting m.world t m.threads (off_items t m.threads f fs is))) ≡ turn_of (reading m) t (off_item f fs is)
    go [] = idle-told m t
    go (i ∷ is) = off-told m t (record f { items = is }) i fs (f ∷ fs) e

next-told : (now : State) (m : Machine) (t : ℕ) → told (next_by now m t) ≡ next_if now (reading m) t
next-told state.Running m t = turn-told m t (slice_get m.threads t) refl
next-told (state.Ended v) m t = refl
next-told (state.Stopped cause at) m t = refl
next-told (state.Halted o class) m t = refl
next-told state.Lost m t = refl

pub agree : ListsAndFunctionsAgree
agree = record { of_reads = reads-is; of_after = after-is; of_next = λ m t. next-told m.state m t; of_flip = flip-is }
