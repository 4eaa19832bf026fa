-- To go through some lines is to go through all, where the others don't fall.
use Rattle.std.proofs.Common.{◌≡◌, ◌≤◌, inl, inr, ℕ, nat_eq, List, [], ◌∷◌, map, Bool, true, false, refl, ap, sym, subst, ◌∙◌}
use Rattle.flip_plan.specs.declared.flip.PlannedFlip.{PlannedFlip}
use Rattle.step_machine.specs.Total.{Total}
use Rattle.fault_model.specs.PlanLines.{PlanLine, line_of, line_by}
use Rattle.fault_model.specs.Admissible.{is_admissible}
use Rattle.fault_model.specs.Progress.{Progress, with_flip, falls, with_line, still_ahead, after_lines}
use Rattle.fault_lines.specs.Lists.{IsIn, AreInOrder}
use Rattle.fault_lines.specs.Lines.{AreEnough, Stay, GoAlike, MovesNobody, SomeLinesAreEnough, through, with_one, with_each, none_ahead}
use Rattle.fault_lines.proofs.Flips.{rest, rest-flip}
use Rattle.fault_lines.proofs.Ways.{each-is}
use Rattle.fault_lines.proofs.Covered.{falls-in-force}
use Rattle.fault_lines.proofs.Enough.{IsBefore, blocked-line, enough-on, enough-off, before-all, stays-off, stay-none, stay-fell, stay-kept, stay-off}

-- ---- flips move nobody

still-by : (p q : Progress) → rest q.total ≡ rest p.total → MovesNobody p q
still-by p q e = record {
  setting = ap (λ (m : Total). m.setting) e;
  class = ap (λ (m : Total). m.class) e;
  frames = ap (λ (m : Total). m.frames) e;
  started = ap (λ (m : Total). m.started) e;
  made = ap (λ (m : Total). m.made) e;
  state = ap (λ (m : Total). m.state) e;
}

rest-through : (b : Bool) (f : PlannedFlip) (p : Progress) → rest (through b f p).total ≡ rest p.total
rest-through true f p = rest-flip f p
rest-through false f p = refl

rest-each : (i : ℕ) (on : List PlannedFlip) (p : Progress) → rest (with_each i on p).total ≡ rest p.total
rest-each i [] p = refl
rest-each i (f ∷ fs) p = rest-each i fs (with_one i f p) ∙ rest-through (falls i p (line_of f)) f p

-- ---- what isn't admissible stays so

blocked-still : (b : Bool) (line : PlanLine) (x : Progress) (f : PlannedFlip) → is_admissible x.total x.hits f ≡ false
    → is_admissible (still_ahead b line x).total (still_ahead b line x).hits f ≡ false
blocked-still true line x f e = e
blocked-still false line x f e = e

blocked-lines : (i : ℕ) (lines : List PlanLine) (p : Progress) (f : PlannedFlip) → is_admissible p.total p.hits f ≡ false
    → is_admissible (after_lines i lines p).total (after_lines i lines p).hits f ≡ false
blocked-lines i [] p f e = e
blocked-lines i (line ∷ lines) p f e =
    blocked-still (falls i p line) line (after_lines i lines (with_line (falls i p line) line p)) f
    (blocked-lines i lines (with_line (falls i p line) line p) f (blocked-line (falls i p line) line p f e))

-- a line that stays: it isn't admissible, or its moment is another one
record Remains (i : ℕ) (x : Progress) (f : PlannedFlip) : Type 0 where
  blocked : f.waits ≡ true → f.moment ≤ i → is_admissible x.total x.hits f ≡ false
  fell : f.waits ≡ false → nat_eq f.moment i ≡ false

remains : (i : ℕ) (lines : List PlanLine) (p : Progress) (f : PlannedFlip) → falls i p (line_of f) ≡ false → Remains i (after_lines i lines p) f
remains i lines p f q = record {
  blocked = λ w t. blocked-lines i lines p f (sym (falls-in-force i p f w t) ∙ q);
  fell = λ w. sym (ap (λ b. falls i p (line_by b f)) w) ∙ q;
}

-- ---- all lines, and some

record Alike (i : ℕ) (ahead on : List PlannedFlip) (x y : Progress) : Type 0 where
  all_else : none_ahead x ≡ none_ahead y
  left : List PlannedFlip
  kept : List PlannedFlip
  left_is : x.ahead ≡ map line_of left
  kept_is : y.ahead ≡ map line_of kept
  stay : Stay ahead on left kept
  remain : (f : PlannedFlip) → IsIn left f → Remains i x f

alike-none : (i : ℕ) (p : Progress) → Alike i [] [] (after_lines i [] p) (after_lines i [] p)
alike-none i p = record {
  all_else = refl;
  left = [];
  kept = [];
  left_is = refl;
  kept_is = refl;
  stay = stay-none;
  remain = λ f k. absurd k;
}

alike-fell : (i : ℕ) (h : PlannedFlip) (hs gs : List PlannedFlip) (x y : Progress) → AreInOrder (h ∷ hs) → AreInOrder (h ∷ gs)
    → Alike i hs gs x y → Alike i (h ∷ hs) (h ∷ gs) x y
alike-fell i h hs gs x y a o s = record {
  all_else = s.all_else;
  left = s.left;
  kept = s.kept;
  left_is = s.left_is;
  kept_is = s.kept_is;
  stay = stay-fell h hs gs s.left s.kept a o s.stay;
  remain = s.remain;
}

more-remain : (i : ℕ) (h : PlannedFlip) (left : List PlannedFlip) (x : Progress) → Remains i x h → ((f : PlannedFlip) → IsIn left f → Remains i x f)
    → (f : PlannedFlip) → IsIn (h ∷ left) f → Remains i (still_ahead false (line_of h) x) f
more-remain i h left x r s f (inl e) = subst (λ g. Remains i (still_ahead false (line_of h) x) g) e (record { blocked = r.blocked; fell = r.fell })
more-remain i h left x r s f (inr k) = let t = s f k in record { blocked = t.blocked; fell = t.fell }

alike-kept : (i : ℕ) (h : PlannedFlip) (hs gs : List PlannedFlip) (x y : Progress) → AreInOrder (h ∷ hs) → Remains i x h
    → Alike i hs gs x y → Alike i (h ∷ hs) (h ∷ gs) (still_ahead false (line_of h) x) (still_ahead false (line_of h) y)
alike-kept i h hs gs x y a r s = record {
  all_else = s.all_else;
  left = h ∷ s.left;
  kept = h ∷ s.kept;
  left_is = ap (λ l. line_of h ∷ l) s.left_is;
  kept_is = ap (λ l. line_of h ∷ l) s.kept_is;
  stay = stay-kept h hs gs s.left s.kept a s.stay;
  remain = more-remain i h s.left x r s.remain;
}

alike-off : (i : ℕ) (h : PlannedFlip) (hs on : List PlannedFlip) (x y : Progress) → AreInOrder (h ∷ hs) → IsBefore h on → Remains i x h
    → Alike i hs on x y → Alike i (h ∷ hs) on (still_ahead false (line_of h) x) y
alike-off i h hs on x y a l r s = record {
  all_else = s.all_else;
  left = h ∷ s.left;
  kept = s.kept;
  left_is = ap (λ l. line_of h ∷ l) s.left_is;
  kept_is = s.kept_is;
  stay = stay-off h hs on s.left s.kept a l s.stay;
  remain = more-remain i h s.left x r s.remain;
}

-- ---- by the first line

abbrev Goes : ℕ → List PlannedFlip → List PlannedFlip → Progress → Type 0
Goes i ahead on p = Alike i ahead on (after_lines i (map line_of ahead) p) (after_lines i (map line_of on) p)

abbrev GoesBehind : ℕ → List PlannedFlip → Type 0
GoesBehind i hs = (on : List PlannedFlip) (p : Progress) → AreEnough i p hs on → Goes i hs on p

goes-on : (i : ℕ) (h : PlannedFlip) (hs gs : List PlannedFlip) (p : Progress) → GoesBehind i hs → AreEnough i p (h ∷ hs) (h ∷ gs)
    → Goes i (h ∷ hs) (h ∷ gs) p
goes-on i h hs gs p more e = go (falls i p (line_of h)) refl
  where
    go : (b : Bool) → falls i p (line_of h) ≡ b
        → Alike i (h ∷ hs) (h ∷ gs) (still_ahead b (line_of h) (after_lines i (map line_of hs) (with_line b (line_of h) p)))
        (still_ahead b (line_of h) (after_lines i (map line_of gs) (with_line b (line_of h) p)))
    go true q =
        alike-fell i h hs gs (after_lines i (map line_of hs) (with_line true (line_of h) p)) (after_lines i (map line_of gs) (with_line true (line_of h) p))
        e.ahead_order e.on_order (more gs (with_line true (line_of h) p) (enough-on true i p h hs gs q e))
    go false q =
        alike-kept i h hs gs (after_lines i (map line_of hs) p) (after_lines i (map line_of gs) p)
        e.ahead_order (remains i (map line_of hs) p h q) (more gs p (enough-on false i p h hs gs q e))

goes-off : (i : ℕ) (h : PlannedFlip) (hs on : List PlannedFlip) (p : Progress) → GoesBehind i hs → IsBefore h on → AreEnough i p (h ∷ hs) on
    → Goes i (h ∷ hs) on p
goes-off i h hs on p more l e =
    let q : falls i p (line_of h) ≡ false = stays-off i p h hs on l e in
    subst (λ b. Alike i (h ∷ hs) on (still_ahead b (line_of h) (after_lines i (map line_of hs) (with_line b (line_of h) p))) (after_lines i (map line_of on) p)) (sym q)
    (alike-off i h hs on (after_lines i (map line_of hs) p) (after_lines i (map line_of on) p) e.ahead_order l
    (remains i (map line_of hs) p h q) (more on p (enough-off i p h hs on l e)))

goes-first : (i : ℕ) (h g : PlannedFlip) (hs gs : List PlannedFlip) (p : Progress) → GoesBehind i hs → AreEnough i p (h ∷ hs) (g ∷ gs) → IsIn (h ∷ hs) g
    → Goes i (h ∷ hs) (g ∷ gs) p
goes-first i h g hs gs p more e (inl s) =
    subst (λ x. AreEnough i p (h ∷ hs) (x ∷ gs) → Goes i (h ∷ hs) (x ∷ gs) p) s (λ d. goes-on i h hs gs p more d) e
goes-first i h g hs gs p more e (inr s) =
    goes-off i h hs (g ∷ gs) p more (before-all h g hs gs e.ahead_order e.on_order s) e

goes : (i : ℕ) (ahead : List PlannedFlip) → GoesBehind i ahead
goes i [] [] p e = alike-none i p
goes i [] (g ∷ gs) p e = absurd (e.on_ahead g (inl refl))
goes i (h ∷ hs) [] p e = goes-off i h hs [] p (goes i hs) (λ f k. absurd k) e
goes i (h ∷ hs) (g ∷ gs) p e = goes-first i h g hs gs p (goes i hs) e (e.on_ahead g (inl refl))

-- ---- the law

go-alike : (i : ℕ) (p : Progress) (ahead on : List PlannedFlip) → AreEnough i p ahead on → GoAlike i p ahead on
go-alike i p ahead on e =
    let s : Goes i ahead on p = goes i ahead on p e in
    record {
      all_else = s.all_else ∙ ap none_ahead (sym (each-is i on p));
      left = s.left;
      kept = s.kept;
      left_is = s.left_is;
      kept_is = ap (λ (q : Progress). q.ahead) (each-is i on p) ∙ s.kept_is;
      stay = s.stay;
      blocked = λ f k. (s.remain f k).blocked;
      fell = λ f k. (s.remain f k).fell;
    }

pub some-lines-are-enough : SomeLinesAreEnough
some-lines-are-enough = record {
  alike = go-alike;
  still = λ i on p. still-by p (with_each i on p) (rest-each i on p);
  flip_still = λ f p. still-by p (with_flip f p) (rest-flip f p);
}
