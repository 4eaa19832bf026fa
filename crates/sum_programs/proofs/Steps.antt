-- What single items do in the frame of `main`, for whatever follows them.
use Rattle.std.proofs.Common.{◌≡◌, ℕ, ◌+◌, ◌<◌, ◌≤◌, ◌^◌, Bool, false, List, [], ◌∷◌, ◌++◌, length, Some, None, refl, ap, ◌∙◌}
use Rattle.std.specs.Prelude.{if◌then◌else◌}
use Rattle.std.specs.List.{list_any}
use Rattle.std.specs.Fmt.{decimal}
use Rattle.agxx_base.specs.declared.kind.NumKind.TheVariants as num
use Rattle.agxx_base.specs.declared.place.Place.{Place}
use Rattle.cxx_tree.specs.declared.operator.BinOp.TheVariants.{Add}
use Rattle.cxx_arith.specs.declared.value.Value.{Value}
use Rattle.cxx_names.specs.declared.types.ValueType.{ValueType}
use Rattle.cxx_core.specs.CoreExpr as c
use Rattle.cxx_core.specs.CoreExpr.{CoreExpr}
use Rattle.cxx_core.specs.CoreStmt as cs
use Rattle.cxx_core.specs.CoreStmt.{CorePrinted}
use Rattle.step_machine.specs.declared.datum.Datum.{Datum}
use Rattle.step_machine.specs.declared.datum.Datum.TheVariants as datum
use Rattle.step_machine.specs.declared.outcome.State.TheVariants as state
use Rattle.step_machine.specs.Setting.{Setting}
use Rattle.step_machine.specs.Item as it
use Rattle.step_machine.specs.Item.{Item, printed_on}
use Rattle.step_machine.specs.Frame.{Frame}
use Rattle.step_machine.specs.Inserted.{is_body_level_call}
use Rattle.step_machine.specs.ActValues.{given, resulting}
use Rattle.step_machine.specs.ActMembers.{output_limit, shows}
use Rattle.step_machine.specs.Effects as on
use Rattle.step_machine.specs.Effects.{Act, did, goes, stops}
use Rattle.step_machine.specs.Inserted.{is_inserted}
use Rattle.step_machine.specs.declared.outcome.Stop.TheVariants as stop
use Rattle.step_machine.specs.Machine.{Machine, Next, next, step_kind, landed, put_at}
use Rattle.sum_programs.proofs.Int32.{added, decimal-is, nat_le-true}
use Rattle.sum_programs.proofs.Turns.{IsAlone, Goes, step, there}

-- the frame of `main` with these values and items, above these frames
abbrev pub frame : List Datum → List Item → Frame
frame values items = record {
  function = Some 0;
  is_generated = false;
  this = None;
  locals = [];
  threads = [];
  values = values;
  kept = None;
  items = items;
}

-- thread 0 alone runs `main`, above these frames, with these values, items and output
abbrev pub in_main : Setting → List Frame → List Datum → List Item → List ℕ → Machine
in_main s below values items output = record {
  setting = s;
  threads = (frame values items ∷ below) ∷ [];
  world = record { objects = []; variables = []; holders = []; output = output };
  state = state.Running;
}

abbrev pub int32 : ℕ → Datum
int32 n = datum.Number (record { kind = num.I32; bits = n })

-- no item calls what advice made
abbrev pub IsPlain : Setting → List Item → Type 0
IsPlain s items = list_any (is_body_level_call s) items ≡ false

-- a step is one of the program as it was written where what follows is plain
pub one : (a b : Machine) (is_inserted : Bool) → IsAlone a → is_inserted ≡ false → next a 0 ≡ (b, step_kind is_inserted) → Goes a 1 b
one a b is_inserted alone h e = step alone (e ∙ ap (λ x. (b, step_kind x)) h) there

abbrev shows_if : Bool → Place → List ℕ → Frame → Act
shows_if fits at text f = if fits then goes f (on.change (on.print text)) else stops stop.Output at

-- the turn of an item that was taken off a frame, where it acts so
abbrev pub acting : Machine → Frame → Item → List Frame → Act → Next
acting m f i below a = landed m 0 (put_at 0 (below ∷ []) (is_inserted m.setting i f) (Some below) i (did f a))

module _ (s : Setting) (below : List Frame) where
  alone : (values : List Datum) (items : List Item) (output : List ℕ) → IsAlone (in_main s below values items output)
  alone values items output = record { running = refl; lone = λ t. refl }

  module _ (items : List Item) (output : List ℕ) (h : IsPlain s items) where
    -- an item is next
    abbrev doing : List Datum → Item → Machine
    doing values i = in_main s below values (i ∷ items) output

    -- it is done, and this was printed
    abbrev done : List Datum → List ℕ → Machine
    done values text = in_main s below values items (output ++ text)

    -- the turn where it acts so
    abbrev acts : List Datum → Item → Act → Next
    acts values i a = acting (doing values i) (frame values items) i below a

    -- its turn is a step of the program as it was written
    takes : (values : List Datum) (i : Item) (b : Machine) → next (doing values i) 0 ≡ (b, step_kind (list_any (is_body_level_call s) items)) → Goes (doing values i) 1 b
    takes values i b e = one (doing values i) b (list_any (is_body_level_call s) items) (alone values (i ∷ items) output) h e

    pub literal : (v : Value) (values : List Datum) → Goes (doing values (it.expr (c.number v))) 1 (in_main s below (datum.Number v ∷ values) items output)
    literal v values = takes values (it.expr (c.number v)) _ refl

    pub operands : (at : Place) (t u : ValueType) (a b : CoreExpr) (values : List Datum)
        → Goes (doing values (it.expr (c.binary at Add t u a b))) 1 (in_main s below values (it.expr a ∷ it.expr b ∷ it.op_two at Add ∷ items) output)
    operands at t u a b values = takes values (it.expr (c.binary at Add t u a b)) _ refl

    pub addition : (at : Place) (a b : ℕ) (values : List Datum) → a + b < 2 ^ 31
        → Goes (doing (int32 b ∷ int32 a ∷ values) (it.op_two at Add)) 1 (in_main s below (int32 (a + b) ∷ values) items output)
    addition at a b values l =
        let both = int32 b ∷ int32 a ∷ values in
        takes both (it.op_two at Add) _
        (ap (λ r. acts both (it.op_two at Add) (resulting (given r) at (frame both items) (frame values items))) (added a b l))

    pub shown : (at : Place) (text : List ℕ) (values : List Datum) → length output + length text ≤ output_limit
        → Goes (doing values (it.show at text)) 1 (done values text)
    shown at text values l =
        takes values (it.show at text) _
        (ap (λ b. acts values (it.show at text) (shows_if b at text (frame values items))) (nat_le-true _ _ l))

    pub printed : (at : Place) (n : ℕ) (values : List Datum) → n < 2 ^ 31 → length output + length (decimal n) ≤ output_limit
        → Goes (doing (int32 n ∷ values) (it.print at)) 1 (done values (decimal n))
    printed at n values k l =
        let all = int32 n ∷ values in
        takes all (it.print at) _
        (ap (λ text. acts all (it.print at) (shows (length output) at text (frame values items))) (decimal-is n k)
        ∙ ap (λ b. acts all (it.print at) (shows_if b at (decimal n) (frame values items))) (nat_le-true _ _ l))

    pub print_begun : (qs : List CorePrinted) (values : List Datum) → Goes (doing values (it.stmt (cs.print qs))) 1 (in_main s below values (printed_on qs items) output)
    print_begun qs values = takes values (it.stmt (cs.print qs)) _ refl
