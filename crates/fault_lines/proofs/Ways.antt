-- To go through some lines one after the other, each that stays behind those that do, is to go through them as ahead.
use Rattle.std.proofs.Common.{◌≡◌, ℕ, List, [], ◌∷◌, ◌++◌, map, Bool, true, false, refl, ap, sym, ◌∙◌, append_assoc, append-nil}
use Rattle.flip_plan.specs.declared.flip.PlannedFlip.{PlannedFlip}
use Rattle.fault_model.specs.PlanLines.{PlanLine, flip, free, flip_of, line_of, line_by}
use Rattle.fault_model.specs.Progress.{Progress, with_flip, falls, with_line, still_ahead, after_lines}
use Rattle.fault_lines.specs.Lines.{through, with_each, none_ahead}

abbrev ahead-are : List PlanLine → Progress → Progress
ahead-are ls p = record p { ahead = ls }

-- ---- lines ahead

falls-so : (i : ℕ) (ls : List PlanLine) (line : PlanLine) (p : Progress) → falls i (ahead-are ls p) line ≡ falls i p line
falls-so i ls (flip f) p = refl
falls-so i ls (free f) p = refl

-- the lines that stood ahead don't matter
lines-so : (i : ℕ) (lines ls : List PlanLine) (p : Progress) → after_lines i lines (ahead-are ls p) ≡ after_lines i lines p
lines-so i [] ls p = refl
lines-so i (line ∷ lines) ls p =
    ap (λ b. still_ahead b line (after_lines i lines (with_line b line (ahead-are ls p)))) (falls-so i ls line p)
    ∙ go (lines-so i lines ls) (falls i p line)
  where
    go : ((q : Progress) → after_lines i lines (ahead-are ls q) ≡ after_lines i lines q) → (b : Bool)
        → still_ahead b line (after_lines i lines (with_line b line (ahead-are ls p))) ≡ still_ahead b line (after_lines i lines (with_line b line p))
    go more true = more (with_flip (flip_of line) p)
    go more false = ap (still_ahead false line) (more p)

pub flip-line-by : (b : Bool) (f : PlannedFlip) → flip_of (line_by b f) ≡ f
flip-line-by true f = refl
flip-line-by false f = refl

pub flip-line : (f : PlannedFlip) → flip_of (line_of f) ≡ f
flip-line f = flip-line-by f.waits f

-- ---- one after the other

-- those that stay, behind lines that did
abbrev behind : List PlanLine → Progress → Progress
behind ls p = record p { ahead = ls ++ p.ahead }

each-behind : (i : ℕ) (fs : List PlannedFlip) (p : Progress) → with_each i fs p ≡ behind p.ahead (after_lines i (map line_of fs) p)
each-behind i [] p = ap (λ ls. record p { ahead = ls }) (sym (append-nil p.ahead))
each-behind i (f ∷ fs) p = go (each-behind i fs) (falls i p (line_of f))
  where
    go : ((q : Progress) → with_each i fs q ≡ behind q.ahead (after_lines i (map line_of fs) q)) → (b : Bool) → with_each i fs (through b f p)
        ≡ behind p.ahead (still_ahead b (line_of f) (after_lines i (map line_of fs) (with_line b (line_of f) p)))
    go more true =
        more (with_flip f p)
        ∙ ap (λ g. behind p.ahead (after_lines i (map line_of fs) (with_flip g p))) (sym (flip-line f))
    go more false =
        more (record p { ahead = p.ahead ++ line_of f ∷ [] })
        ∙ ap (behind (p.ahead ++ line_of f ∷ [])) (lines-so i (map line_of fs) (p.ahead ++ line_of f ∷ []) p)
        ∙ ap (λ ls. record (after_lines i (map line_of fs) p) { ahead = ls })
        (append_assoc p.ahead (line_of f ∷ []) (after_lines i (map line_of fs) p).ahead)

pub each-is : (i : ℕ) (fs : List PlannedFlip) (p : Progress) → with_each i fs (none_ahead p) ≡ after_lines i (map line_of fs) p
each-is i fs p = each-behind i fs (none_ahead p) ∙ lines-so i (map line_of fs) [] p
