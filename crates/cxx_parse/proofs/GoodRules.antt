-- More ways in which rules that are put together of right ones are right.
use Rattle.std.proofs.Common.{◌≡◌, ℕ, ◌≤◌, List, [], ◌∷◌, ◌++◌, subst, arith}
use Rattle.agxx_base.specs.declared.vocabulary.Sign.{Sign}
use Rattle.cxx_tree.specs.Words as w
use Rattle.cxx_tree.specs.Words.{Word}
use Rattle.cxx_expr.specs.Tokens.{Tokens}
use Rattle.cxx_expr.specs.Outcome.{Parse, and_then}
use Rattle.cxx_expr.proofs.Good.{good_as}
use Rattle.cxx_expr.proofs.States.{tokens}
use Rattle.cxx_stmt.specs.Parts.{ended_by}
use Rattle.cxx_stmt.proofs.Sorts.{Kind, sort}
use Rattle.cxx_stmt.proofs.GoodParts.{Behind, behind_part, behind_ended}

-- what was read before, spelled otherwise
pub behind_text : {A : Type 0} {pre other : List Word} {K : Kind A} {most depth : ℕ} {p p' : Parse Tokens A} → pre ≡ other → Behind pre K most depth p p' → Behind other K most depth p p'
behind_text {K = K} {most = most} {depth = depth} {p = p} {p' = p'} e G = subst (λ q. Behind q K most depth p p') e G

-- Values of another kind, whose spelling has what was read before and which may have to nest deeper.
pub behind_as : {A : Type 0} (KA : Kind A) {pre : List Word} {KB : Kind A} {most depth : ℕ} {p p' : Parse Tokens A} (raise : ℕ → ℕ)
    → ((m n : ℕ) (a : A) → KA.Fits m n a → KB.Fits m (raise n) a) → ((m n : ℕ) (a : A) → KA.Fits m n a → KB.spelled a ≡ pre ++ KA.spelled a)
    → Behind [] KA most depth p p' → Behind pre KB most (raise depth) p p'
behind_as KA {pre = pre} {KB = KB} {most = most} {depth = depth} {p = p} {p' = p'} raise fits text G ts = record {
  good = good_as tokens pre (sort KA most depth) (sort KB most (raise depth)) (λ q r. p' q ≡ r) KA.least KA.is_least (fits most depth) (λ a v. (v.0, raise v.1, fits v.0 v.1 a v.2)) (λ a v. text v.0 v.1 a v.2) ts (p ts) (G ts).good;
}

-- a part, and a sign behind it
pub behind_part_ended : {A B : Type 0} (KA : Kind A) {pre : List Word} {KB : Kind B} {most depth : ℕ} {p p' : Parse Tokens A} (s : Sign) (h : A → B)
    → ((m n : ℕ) → most ≤ m → depth ≤ n → (a : A) → KA.Fits m n a → KB.Fits m n (h a)) → ((a : A) → KB.spelled (h a) ≡ (pre ++ KA.spelled a) ++ w.sign s ∷ [])
    → Behind [] KA most depth p p' → Behind pre KB most depth (λ ts. and_then (p ts) (λ a. ended_by s (h a))) (λ ts. and_then (p' ts) (λ a. ended_by s (h a)))
behind_part_ended KA {most = most} {depth = depth} s h fits text G =
    behind_part KA (λ m n le le' a v. (h a, w.sign s ∷ [], (m, n, fits m n le le' a v), text a)) G
    (λ a v. behind_ended s (h a) (fits most depth (omega arith) (omega arith) a v) (text a))
