-- What holds of every run by a plan.
use Rattle.std.specs.Prelude.{◌≡◌, ◌≤◌, ℕ, ◌+◌, ◌^◌, min, nat_eq, Bool, true, false, List, [], ◌∷◌, ◌++◌, length}
use Rattle.std.specs.List.{list_any}
use Rattle.agxx_base.specs.declared.ids.ClassId.{ClassId}
use Rattle.step_machine.specs.Machine.{Machine}
use Rattle.step_machine.specs.Total.{Total, reading}
use Rattle.fault_model.specs.declared.verdict.Verdict.TheVariants.{Admissible, First}
use Rattle.fault_model.specs.Inside.{is_inside, is_thread_inside}
use Rattle.fault_model.specs.PlanLines.{FaultPlan}
use Rattle.fault_model.specs.Parts.{is_single}
use Rattle.fault_model.specs.Admissible.{Hit, goes_with}
use Rattle.fault_model.specs.Progress.{Progress, before_first, after_flips, planned_of}
use Rattle.fault_model.specs.Comings.{Coming, comings, comings_in, verdict_of}
use Rattle.fault_model.specs.Cost.{check_words}

-- ---- the verdict

-- no coming of the list is inadmissible
abbrev pub AreAdmissible : List Coming → Type 0
AreAdmissible [] = Unit {0}
AreAdmissible (c ∷ cs) = (c.is_admissible ≡ true) × AreAdmissible cs

-- The first in time that isn't admissible has this number.
pub record IsFirst (cs : List Coming) (number : ℕ) : Type 0 where
  pub before : List Coming
  pub first : Coming
  pub after : List Coming
  pub split : cs ≡ before ++ first ∷ after
  pub admissible : AreAdmissible before
  pub inadmissible : first.is_admissible ≡ false
  pub has_number : first.number ≡ number

pub record VerdictLooksBack : Type 0 where
  -- after each number of turns it is that of the flips that came
  pub of_run : (plan : FaultPlan) (m : Total) (n : ℕ)
      → (planned_of plan m n).verdict ≡ verdict_of (comings_in plan (before_first plan m) (min n plan.limit))
  pub if_all : (cs : List Coming) → AreAdmissible cs → verdict_of cs ≡ Admissible
  pub only_all : (cs : List Coming) → verdict_of cs ≡ Admissible → AreAdmissible cs
  pub if_first : (cs : List Coming) (number : ℕ) → IsFirst cs number → verdict_of cs ≡ First number
  pub only_first : (cs : List Coming) (number : ℕ) → verdict_of cs ≡ First number → IsFirst cs number
  -- a plan without flips
  pub without : (plan : FaultPlan) (m : Total) (n : ℕ) → plan.lines ≡ [] → (planned_of plan m n).verdict ≡ Admissible

-- ---- what falls

-- it depends on the machine's state, the lines that haven't fallen and the hits alone, and so does what it leaves of them
pub record FallsByState (i : ℕ) (p q : Progress) : Type 0 where
  pub comings : comings i p.ahead p ≡ comings i q.ahead q
  pub total : (after_flips i p).total ≡ (after_flips i q).total
  pub hits : (after_flips i p).hits ≡ (after_flips i q).hits
  pub ahead : (after_flips i p).ahead ≡ (after_flips i q).ahead

abbrev pub StateTellsFlips : Type 0
StateTellsFlips =
    (i : ℕ) (p q : Progress) → p.total ≡ q.total → p.hits ≡ q.hits → p.ahead ≡ q.ahead → FallsByState i p q

-- ---- inside

pub record InsideIsEmptied : Type 0 where
  -- while somebody is inside a part, it has no hits
  pub of_run : (plan : FaultPlan) (m : Total) (n o : ℕ) (class : ClassId)
      → is_inside (planned_of plan m n).total o class ≡ true → (planned_of plan m n).hits o class ≡ []
  -- on the state as lists
  pub of_lists : (m : Machine) (o : ℕ) (class : ClassId)
      → is_inside (reading m) o class ≡ list_any (is_thread_inside m.setting o class) m.threads

-- ---- hits that were admissible

-- of hits, the last first, each goes with those before it
abbrev pub GoTogether : Bool → List Hit → Type 0
GoTogether single [] = Unit {0}
GoTogether single (hit ∷ hits) = (goes_with single hits hit.bit ≡ true) × GoTogether single hits

pub record AdmissibleHits : Type 0 where
  -- where the flips so far were admissible, those of a part since somebody was last inside go together
  pub of_run : (plan : FaultPlan) (m : Total) (n o : ℕ) (class : ClassId)
      → (planned_of plan m n).verdict ≡ Admissible → GoTogether (is_single m.setting class) ((planned_of plan m n).hits o class)
  -- of a single part that is at most one
  pub of_single : (hits : List Hit) → GoTogether true hits → length hits ≤ 1
  -- of another at most one at each bit place
  pub of_others : (hit : Hit) (hits : List Hit) → GoTogether false (hit ∷ hits) → list_any (λ (h : Hit). nat_eq h.bit hit.bit) hits ≡ false

-- ---- counts

pub record ErasesSource : Type 0 where
  pub of_run : (plan : FaultPlan) (m : Total) (n : ℕ)
      → length (planned_of plan m n).erased ≡ (planned_of plan m n).counts.source

-- ---- check words

-- the least number of them that is large enough for k members
pub record IsCheckCount (k r : ℕ) : Type 0 where
  pub enough : k + r + 1 ≤ 2 ^ r
  pub least : (j : ℕ) → k + j + 1 ≤ 2 ^ j → r ≤ j

abbrev pub CheckWordsAreLeast : Type 0
CheckWordsAreLeast = (k : ℕ) → IsCheckCount k (check_words k)
