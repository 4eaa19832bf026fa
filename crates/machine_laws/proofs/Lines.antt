-- The line of classes above one, where each base stands before its class: a class, and then the line of its base.
use Rattle.std.proofs.Common.{◌≡◌, ℕ, zero, suc, ◌+◌, ◌<◌, List, [], ◌∷◌, length, Option, Some, None, slice_get, sum_by, refl, sym, ap, ◌∙◌, arith}
use Rattle.std.proofs.lemmas.List.Sums.{sum_by-cons}
use Rattle.std.proofs.lemmas.Option.{slice_get_within}
use Rattle.agxx_base.specs.declared.ids.ClassId.{ClassId}
use Rattle.cxx_core.specs.CoreProgram.{CoreClass}
use Rattle.step_machine.specs.Setting.{Setting, class_at, chain, linked, line_in, linked_ids, line}
use Rattle.machine_laws.specs.Locate.{own_by, own_count, count}
use Rattle.machine_laws.specs.Locates.{HasBasesBefore}

-- ---- what is counted along both is one

module _ (of : CoreClass → ℕ) (classes : List CoreClass) where
  abbrev own_in : ClassId → ℕ
  own_in c = own_by of (slice_get classes c.0)

  sum-linked : (n : ℕ) (c : ClassId) (x : Option CoreClass) → slice_get classes c.0 ≡ x
      → ((b : Option ClassId) → sum_by of (chain classes n b) ≡ sum_by own_in (line_in classes n b))
      → sum_by of (linked (λ b. chain classes n b) x) ≡ sum_by own_in (linked_ids (λ b. line_in classes n b) c x)
  sum-linked n c None e ih = refl
  sum-linked n c (Some x) e ih =
      sum_by-cons of x (chain classes n x.base) ∙ ap (λ m. of x + m) (ih x.base)
      ∙ ap (λ o. own_by of o + sum_by own_in (line_in classes n x.base)) (sym e)
      ∙ sym (sum_by-cons own_in c (line_in classes n x.base))

  pub sum-chain : (n : ℕ) (c : Option ClassId) → sum_by of (chain classes n c) ≡ sum_by own_in (line_in classes n c)
  sum-chain zero c = refl
  sum-chain (suc n) None = refl
  sum-chain (suc n) (Some c) = sum-linked n c (slice_get classes c.0) refl (λ b. sum-chain n b)

pub count-line : (of : CoreClass → ℕ) (s : Setting) (c : Option ClassId) → count of s c ≡ sum_by (own_count of s) (line s c)
count-line of s c = sum-chain of s.program.classes (length s.program.classes) c

-- ---- how far it may go doesn't matter

pub none-line : (classes : List CoreClass) (n : ℕ) → line_in classes n None ≡ []
none-line classes zero = refl
none-line classes (suc n) = refl

pub none-chain : (classes : List CoreClass) (n : ℕ) → chain classes n None ≡ []
none-chain classes zero = refl
none-chain classes (suc n) = refl

pub missing-line : (classes : List CoreClass) (n : ℕ) (c : ClassId) → slice_get classes c.0 ≡ None → line_in classes n (Some c) ≡ []
missing-line classes zero c e = refl
missing-line classes (suc n) c e = ap (linked_ids (λ b. line_in classes n b) c) e

module _ (s : Setting) (bases : HasBasesBefore s.program) where
  abbrev classes : List CoreClass
  classes = s.program.classes

  same-linked : (n m : ℕ) (c : ClassId) → ((b : ClassId) → b.0 < c.0 → line_in classes n (Some b) ≡ line_in classes m (Some b))
      → (x : Option CoreClass) → slice_get classes c.0 ≡ x → linked_ids (λ b. line_in classes n b) c x ≡ linked_ids (λ b. line_in classes m b) c x
  same-linked n m c ih None e = refl
  same-linked n m c ih (Some x) e = ap (λ l. c ∷ l) (by x.base refl)
    where
      by : (b : Option ClassId) → x.base ≡ b → line_in classes n b ≡ line_in classes m b
      by None f = none-line classes n ∙ sym (none-line classes m)
      by (Some b) f = ih b (bases.before c b x e f)

  enough : (n m : ℕ) (c : ClassId) → c.0 < n → c.0 < m → line_in classes n (Some c) ≡ line_in classes m (Some c)
  enough zero m c h k = absurd (omega arith)
  enough (suc n) zero c h k = absurd (omega arith)
  enough (suc n) (suc m) c h k = same-linked n m c (λ b l. enough n m b (omega arith) (omega arith)) (slice_get classes c.0) refl

  base-line : (n m : ℕ) (c : ClassId) (x : CoreClass) → slice_get classes c.0 ≡ Some x → c.0 < suc n → c.0 < m → (b : Option ClassId) → x.base ≡ b
      → line_in classes n b ≡ line_in classes m b
  base-line n m c x e h k None f = none-line classes n ∙ sym (none-line classes m)
  base-line n m c x e h k (Some b) f = let l = bases.before c b x e f in enough n m b (omega arith) (omega arith)

  more-line : (n : ℕ) (c : ClassId) (x : CoreClass) → slice_get classes c.0 ≡ Some x → c.0 < n → line_in classes n (Some c) ≡ c ∷ line_in classes n x.base
  more-line zero c x e h = absurd (omega arith)
  more-line (suc n) c x e h = ap (linked_ids (λ b. line_in classes n b) c) e ∙ ap (λ l. c ∷ l) (base-line n (suc n) c x e h h x.base refl)

  -- a class, and then the line of its base
  pub line-of : (c : ClassId) (x : CoreClass) → class_at s c ≡ Some x → line s (Some c) ≡ c ∷ line s x.base
  line-of c x e = more-line (length classes) c x e (slice_get_within classes c.0 x e)

  -- ---- what holds of each class by that of its base

  module _ (P : Option ClassId → Type 0) (none : P None) (missing : (c : ClassId) → class_at s c ≡ None → P (Some c))
      (more : (c : ClassId) (x : CoreClass) → class_at s c ≡ Some x → P x.base → P (Some c)) where
    step : (c : ClassId) → ((b : ClassId) → b.0 < c.0 → P (Some b)) → (x : Option CoreClass) → class_at s c ≡ x → P (Some c)
    step c below None e = missing c e
    step c below (Some x) e = more c x e (by x.base refl)
      where
        by : (b : Option ClassId) → x.base ≡ b → P b
        by None f = none
        by (Some b) f = below b (bases.before c b x e f)

    below : (n : ℕ) (c : ClassId) → c.0 < n → P (Some c)
    below zero c h = absurd (omega arith)
    below (suc n) c h = step c (λ b l. below n b (omega arith)) (class_at s c) refl

    pub by-bases : (c : Option ClassId) → P c
    by-bases None = none
    by-bases (Some c) = below (suc c.0) c (omega arith)
