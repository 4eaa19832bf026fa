-- A line that is gone through leads from where a run stands to where it stands then.
use Rattle.std.proofs.Common.{◌≡◌, ℕ, nat_lt, if◌then◌else◌, List, [], ◌∷◌, ◌++◌, map, Bool, true, false, not, ◌&&◌, Option, Some, None, option_map, refl, ap, sym, subst, ◌∙◌, arith}
use Rattle.agxx_base.specs.declared.ids.ClassId.{ClassId}
use Rattle.cxx_arith.specs.Kinds.{width}
use Rattle.flip_plan.specs.declared.flip.PlannedFlip.{PlannedFlip}
use Rattle.step_machine.specs.Machine.{Machine}
use Rattle.step_machine.specs.Total.{Total, reading}
use Rattle.step_machine.specs.Flips.{FlippedOf, flipped, flipped_of}
use Rattle.step_machine.proofs.Turns.{agree}
use Rattle.step_engine.specs.TurnRuns.{counts_of}
use Rattle.fault_model.specs.Parts as parts
use Rattle.fault_model.specs.Inside.{is_inside}
use Rattle.fault_model.specs.PlanLines.{line_of}
use Rattle.fault_model.specs.Admissible.{is_admissible, part_word_of}
use Rattle.fault_model.specs.Progress.{Progress, with_flip, judged, one_more}
use Rattle.fault_lines.specs.Lines.{through, none_ahead}
use Rattle.fault_lines.specs.Marks.{Marks, Tells, with_mark, marked, marked_by, is_open, is_open_by}
use Rattle.fault_lines.specs.Keeping.{Queues, with_due, with_due_line, FilesEach, GoesThrough}
use Rattle.fault_lines.specs.Due.{with_all}
use Rattle.fault_lines.specs.Moments.{first_of}
use Rattle.fault_lines.proofs.Marks.{sets-tell-hits}
use Rattle.fault_watch.specs.MarkSets.{has}
use Rattle.fault_watch.specs.PartWords.{shown}
use Rattle.plan_runs.specs.Watches.{Watched, StandsAt, no_target, target_by, target_of, with_part, with_target, FallsOn, IsKept, Falls, GoesBy, Goes, LeadsTo, with_due_lines, gathered, without_due, FilesLines, TakesFlips}

-- ---- what a flip hits

and-false : (b : Bool) → (b && false) ≡ false
and-false true = refl
and-false false = refl

open-by : (m : Total) (f : PlannedFlip) (marks : Marks) (x : Option parts.PartWord)
    → is_open_by m f x marks ≡ (target_by m f marks (option_map shown x)).is_admissible
open-by m f marks None = refl
open-by m f marks (Some w) = go (is_inside m f.object.0 w.class)
  where
    go : (b : Bool) → (nat_lt f.bit (width w.word.kind) && (not b && not (marks f.object.0 w.class)))
        ≡ (if b then no_target
        else record { part = Some w.class; is_admissible = nat_lt f.bit (width w.word.kind) && not (marks f.object.0 w.class) }).is_admissible
    go true = and-false (nat_lt f.bit (width w.word.kind))
    go false = refl

part-by : (m : Total) (f : PlannedFlip) (marks : Marks) (x : Option parts.PartWord)
    → with_part f.object.0 (target_by m f marks (option_map shown x)).part marks ≡ marked_by m f x marks
part-by m f marks None = refl
part-by m f marks (Some w) = go (is_inside m f.object.0 w.class)
  where
    go : (b : Bool) → with_part f.object.0 (if b then no_target
        else record { part = Some w.class; is_admissible = nat_lt f.bit (width w.word.kind) && not (marks f.object.0 w.class) }).part marks
        ≡ (if b then marks else with_mark f.object.0 w.class marks)
    go true = refl
    go false = refl

target-marks : (b : Bool) (m : Total) (f : PlannedFlip) (marks : Marks)
    → with_target b f.object.0 (target_of m f marks).part marks ≡ marked b m f marks
target-marks true m f marks = part-by m f marks (part_word_of m f)
target-marks false m f marks = refl

-- whether a flip is admissible, by what it hits
pub target-tells : (p : Progress) (m : Machine) (w : Watched) (f : PlannedFlip) → StandsAt p m w
    → is_admissible p.total p.hits f ≡ (target_of (reading m) f (has w.marks)).is_admissible
target-tells p m w f s =
    sets-tell-hits.admissible (has w.marks) p f s.marks
    ∙ ap (λ x. is_open x f (has w.marks)) s.total
    ∙ open-by (reading m) f (has w.marks) (part_word_of (reading m) f)

-- ---- a flip falls

module _ (f : PlannedFlip) (p : Progress) (m : Machine) (w : Watched) (now : Machine) (after : Watched) (s : StandsAt p m w)
    (h : FallsOn f (target_of (reading m) f (has w.marks)) m w now after) where
  falls-to : flipped_of f.object.0 f.word f.bit p.total ≡ (reading (flipped f.object.0 f.word f.bit m).0, (flipped f.object.0 f.word f.bit m).1)
  falls-to = ap (flipped_of f.object.0 f.word f.bit) s.total ∙ sym (agree.of_flip m f.object.0 f.word f.bit)

  changes-to : (flipped_of f.object.0 f.word f.bit p.total).1 ≡ (flipped f.object.0 f.word f.bit m).1
  changes-to = ap (λ (x : FlippedOf). x.1) falls-to

  marks-to : marked (flipped_of f.object.0 f.word f.bit p.total).1 p.total f (has w.marks) ≡ has after.marks
  marks-to =
      ap (λ b. marked b p.total f (has w.marks)) changes-to
      ∙ ap (λ x. marked (flipped f.object.0 f.word f.bit m).1 x f (has w.marks)) s.total
      ∙ sym (target-marks (flipped f.object.0 f.word f.bit m).1 (reading m) f (has w.marks))
      ∙ sym h.marks

  pub falls-stand : StandsAt (with_flip f p) now after
  falls-stand = record {
    total = ap (λ (x : FlippedOf). x.0) falls-to ∙ sym (ap reading h.machine);
    marks = subst (λ x. Tells x (with_flip f p)) marks-to (sets-tell-hits.flip (has w.marks) p f s.marks);
    verdict = ap (λ b. judged b f.number p.verdict) (target-tells p m w f s)
        ∙ ap (judged (target_of (reading m) f (has w.marks)).is_admissible f.number) s.verdict
        ∙ sym h.verdict;
    flips = ap (λ b. one_more b p.flips) changes-to ∙ ap (one_more (flipped f.object.0 f.word f.bit m).1) s.flips ∙ sym h.flips;
    counts = s.counts ∙ ap (λ c. counts_of c) (sym h.counts);
    erased = s.erased ∙ sym h.erased;
  }

-- ---- a line

-- Where a line was gone through.
pub record GoneTo (f : PlannedFlip) (p : Progress) (w : Watched) (now : Machine) (after : Watched) (more : List PlannedFlip) : Type 0 where
  pub stands : StandsAt (with_due_line f p) now after
  pub ahead : (with_due_line f p).ahead ≡ map line_of more
  pub queues : after.queues ≡ w.queues

map-one-more : (kept : List PlannedFlip) (f : PlannedFlip) → map line_of (kept ++ f ∷ []) ≡ map line_of kept ++ line_of f ∷ []
map-one-more [] f = refl
map-one-more (g ∷ gs) f = ap (λ x. line_of g ∷ x) (map-one-more gs f)

module _ (f : PlannedFlip) (p : Progress) (m : Machine) (w : Watched) (kept : List PlannedFlip) (now : Machine) (after : Watched)
    (more : List PlannedFlip) (s : StandsAt p m w) (a : p.ahead ≡ map line_of kept) where
  abbrev Through : Bool → Type 0
  Through b =
      StandsAt (through b f p) now after × (((through b f p).ahead ≡ map line_of more) × (after.queues ≡ w.queues))

  still : Tells (has w.marks) (through false f p)
  still = record { hits = s.marks.hits; out = s.marks.out }

  kept-through : IsKept f m w kept now after more → Through false
  kept-through h = (
    record {
      total = s.total ∙ ap reading (sym h.0);
      marks = subst (λ (x : Watched). Tells (has x.marks) (through false f p)) (sym h.1.0) still;
      verdict = s.verdict ∙ ap (λ (x : Watched). x.verdict) (sym h.1.0);
      flips = s.flips ∙ ap (λ (x : Watched). x.flips) (sym h.1.0);
      counts = s.counts ∙ ap (λ (x : Watched). counts_of x.counts) (sym h.1.0);
      erased = s.erased ∙ ap (λ (x : Watched). x.erased) (sym h.1.0);
    },
    (
      ap (λ x. x ++ line_of f ∷ []) a ∙ sym (map-one-more kept f) ∙ ap (map line_of) (sym h.1.1),
      ap (λ (x : Watched). x.queues) h.1.0,
    ),
  )

  falls-through : Falls f m w kept now after more → Through true
  falls-through h = (falls-stand f p m w now after s h.0, (a ∙ ap (map line_of) (sym h.1), h.0.queues))

  by-both : (waits free : Bool) → GoesBy (waits && not free) f m w kept now after more → Through (if waits then free else true)
  by-both true true h = falls-through h
  by-both true false h = kept-through h
  by-both false true h = falls-through h
  by-both false false h = falls-through h

  pub goes-on : Goes f m w kept now after more → GoneTo f p w now after more
  goes-on h =
      let x = by-both f.waits (target_of (reading m) f (has w.marks)).is_admissible h in
      let y = subst (λ b. Through (if f.waits then b else true)) (sym (target-tells p m w f s)) x in
      record { stands = y.0; ahead = y.1.0; queues = y.1.1 }

-- ---- lines that are due

due-stands : (p : Progress) (m : Machine) (w after : Watched) → after ≡ with_due_lines after.queues.due w → StandsAt p m w → StandsAt p m after
due-stands p m w after e s =
    subst (StandsAt p m) (sym e)
    (record { total = s.total; marks = s.marks; verdict = s.verdict; flips = s.flips; counts = s.counts; erased = s.erased })

pub leads-on : (m0 : Machine) (w0 : Watched) (m : Machine) (w mid : Watched) (kept : List PlannedFlip) (f : PlannedFlip)
    (now : Machine) (after : Watched) (more : List PlannedFlip) → LeadsTo m0 w0 m w kept → w.queues.due ≡ f ∷ mid.queues.due
    → mid ≡ with_due_lines mid.queues.due w → Goes f m mid kept now after more → LeadsTo m0 w0 now after more
leads-on m0 w0 m w mid kept f now after more l d e g p s a =
    let q = l p s a in
    let x = goes-on f q.0 m mid kept now after more (due-stands q.0 m w mid e q.1.1.0) q.1.1.1 g in (
      with_due_line f q.0,
      (q.1.0 ∙ ap (λ fs. with_due fs q.0) d ∙ ap (λ (z : Queues). with_due z.due (with_due_line f q.0)) (sym x.queues), (x.stands, x.ahead)),
    )

pub leads-nowhere : (m : Machine) (w : Watched) → LeadsTo m w m w []
leads-nowhere m w p s a = (p, (refl, (s, a)))

-- ---- where the lines are kept

goes-queues : (f : PlannedFlip) (m : Machine) (w : Watched) (kept : List PlannedFlip) (now : Machine) (after : Watched) (more : List PlannedFlip)
    → Goes f m w kept now after more → after.queues ≡ w.queues
goes-queues f m w kept now after more h = go (f.waits && not (target_of (reading m) f (has w.marks)).is_admissible) h
  where
    go : (b : Bool) → GoesBy b f m w kept now after more → after.queues ≡ w.queues
    go true k = ap (λ (x : Watched). x.queues) k.1.0
    go false k = k.0.queues

pub due-alone : (q : Queues) (m : Machine) (w mid : Watched) (kept : List PlannedFlip) (f : PlannedFlip) (now : Machine) (after : Watched)
    (more : List PlannedFlip) → w.queues ≡ record q { due = w.queues.due } → mid ≡ with_due_lines mid.queues.due w
    → Goes f m mid kept now after more → after.queues ≡ record q { due = after.queues.due }
due-alone q m w mid kept f now after more e d g =
    let a = goes-queues f m mid kept now after more g in
    a ∙ ap (λ (x : Watched). x.queues) d ∙ ap (λ (x : Queues). record x { due = mid.queues.due }) e
    ∙ ap (λ (x : Queues). record q { due = x.due }) (sym a)

goes-counts : (f : PlannedFlip) (m : Machine) (w : Watched) (kept : List PlannedFlip) (now : Machine) (after : Watched) (more : List PlannedFlip)
    → Goes f m w kept now after more → after.counts ≡ w.counts
goes-counts f m w kept now after more h = go (f.waits && not (target_of (reading m) f (has w.marks)).is_admissible) h
  where
    go : (b : Bool) → GoesBy b f m w kept now after more → after.counts ≡ w.counts
    go true k = ap (λ (x : Watched). x.counts) k.1.0
    go false k = k.0.counts

pub counts-stay : (first : Watched) (m : Machine) (w mid : Watched) (kept : List PlannedFlip) (f : PlannedFlip) (now : Machine)
    (after : Watched) (more : List PlannedFlip) → w.counts ≡ first.counts → mid ≡ with_due_lines mid.queues.due w
    → Goes f m mid kept now after more → after.counts ≡ first.counts
counts-stay first m w mid kept f now after more e d g =
    goes-counts f m mid kept now after more g ∙ ap (λ (x : Watched). x.counts) d ∙ e

-- ---- the flips before a turn

module _ (turn : ℕ) (m : Machine) (w : Watched) (now : Machine) (mid after : Watched) (kept : List PlannedFlip)
    (l : LeadsTo m (gathered turn w) now mid kept) (e : mid.queues ≡ without_due (gathered turn w).queues)
    (h : FilesLines (reading now) kept mid after) (p : Progress) (s : StandsAt p m w) where
  abbrev due : List PlannedFlip
  due = with_all (first_of turn w.queues.left) w.queues.due

  begins : StandsAt (none_ahead p) m (gathered turn w)
  begins = record {
    total = s.total;
    marks = record { hits = s.marks.hits; out = s.marks.out };
    verdict = s.verdict;
    flips = s.flips;
    counts = s.counts;
    erased = s.erased;
  }

  abbrev Leads : Progress → Type 0
  Leads q = StandsAt q now after × ((q.ahead ≡ map line_of kept) × (q.total ≡ reading now))

  stands-filed : (q : Progress) → StandsAt q now mid → StandsAt q now after
  stands-filed q k =
      subst (StandsAt q now) (sym h.all_else)
      (record { total = k.total; marks = k.marks; verdict = k.verdict; flips = k.flips; counts = k.counts; erased = k.erased })

  leads : Leads (with_due due (none_ahead p))
  leads =
      let x = l (none_ahead p) begins refl in
      let d : with_due due (none_ahead p) ≡ x.0 = x.1.0 ∙ ap (λ (v : Queues). with_due v.due x.0) e in
      subst Leads (sym d) (stands-filed x.0 x.1.1.0, (x.1.1.1, x.1.1.0.total))

  filed : after.queues ≡ record (mid.queues) { waiting = after.queues.waiting }
  filed = ap (λ (x : Watched). x.queues) h.all_else

  abbrev Takes : Type 0
  Takes = StandsAt (with_due due (none_ahead p)) now after × GoesThrough turn p w.queues after.queues

  takes : Takes
  takes = (
    leads.0,
    record {
      kept = kept;
      kept_is = leads.1.0;
      files = subst (λ x. FilesEach x kept w.queues.waiting after.queues.waiting) (sym leads.1.1)
          (subst (λ (v : Queues). FilesEach (reading now) kept v.waiting after.queues.waiting) e h.files);
      left = ap (λ (v : Queues). v.left) filed ∙ ap (λ (v : Queues). v.left) e;
      due = ap (λ (v : Queues). v.due) filed ∙ ap (λ (v : Queues). v.due) e;
    },
  )

pub takes-flips : (turn : ℕ) (m : Machine) (w gone : Watched) (now : Machine) (mid after : Watched) (kept : List PlannedFlip)
    → gone ≡ gathered turn w → LeadsTo m gone now mid kept → mid.queues ≡ without_due gone.queues → FilesLines (reading now) kept mid after
    → TakesFlips turn m w now after
takes-flips turn m w gone now mid after kept g l e h p s =
    takes turn m w now mid after kept (subst (λ x. LeadsTo m x now mid kept) g l)
    (e ∙ ap (λ (x : Watched). without_due x.queues) g) h p s

pub counts-stay-filed : (turn : ℕ) (m : Total) (w gone mid after : Watched) (kept : List PlannedFlip) → gone ≡ gathered turn w
    → mid.counts ≡ gone.counts → FilesLines m kept mid after → after.counts ≡ w.counts
counts-stay-filed turn m w gone mid after kept g e h =
    ap (λ (x : Watched). x.counts) h.all_else ∙ e ∙ ap (λ (x : Watched). x.counts) g
