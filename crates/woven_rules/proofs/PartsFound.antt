-- The parts of objects are those of the classes in a lineage that are guarded and have a member.
use Rattle.std.proofs.Common.{◌≡◌, ◌⊎◌, inl, inr, refl, sym, ap, ◌∙◌, subst, ℕ, zero, suc, ◌+◌, arith, List, [], ◌∷◌, ◌++◌, length, Option, Some, None, slice_get, length-append}
use Rattle.std.proofs.lemmas.List.{append_assoc}
use Rattle.agxx_base.specs.declared.ids.ClassId.{ClassId}
use Rattle.agxx_base.specs.declared.ids.NameId.{NameId}
use Rattle.cxx_tree.specs.Limits.{Every}
use Rattle.cxx_names.specs.declared.declarations.ClassInfo.{ClassInfo}
use Rattle.cxx_names.specs.declared.declarations.MemberInfo.{MemberInfo}
use Rattle.cxx_names.specs.declared.declarations.Declared.{Declared}
use Rattle.cxx_names.specs.Declarations as d
use Rattle.cxx_names.specs.LookUp as look
use Rattle.cxx_layout.specs.Layouts.{inherited, list_by}
use Rattle.guards.specs.declared.guard.Guard.{Guard}
use Rattle.guards.specs.declared.guard.GuardKind.{GuardKind}
use Rattle.guards.specs.Guarding.{kind_of}
use Rattle.protect.specs.GuardedParts as g
use Rattle.woven_rules.proofs.Lineages.{at-seam, IsBuilt, base_lineage, lineage-is}
use Rattle.protect_laws.proofs.Known.{every-by}

-- something holds of one of them
abbrev pub Any : {A : Type 0} → (A → Type 0) → List A → Type 0
Any Holds [] = ⊥
Any Holds (x ∷ xs) = Holds x ⊎ Any Holds xs

pub any-by : {A : Type 0} (P Q : A → Type 0) → ((x : A) → P x → Q x) → (xs : List A) → Any P xs → Any Q xs
any-by P Q one [] some = absurd some
any-by P Q one (x ∷ xs) (inl here) = inl (one x here)
any-by P Q one (x ∷ xs) (inr later) = inr (any-by P Q one xs later)

-- something holds of each list, which is the one with this number
abbrev AllFrom : (ℕ → List NameId → Type 0) → ℕ → List (List NameId) → Type 0
AllFrom Holds k [] = Unit {0}
AllFrom Holds k (x ∷ xs) = Holds k x × AllFrom Holds (suc k) xs

all-more : (Holds : ℕ → List NameId → Type 0) (k : ℕ) (xs : List (List NameId)) (x : List NameId) → AllFrom Holds k xs
    → Holds (k + length xs) x → AllFrom Holds k (xs ++ x ∷ [])
all-more Holds k [] x all last = (subst (λ i. Holds i x) (omega arith) last, tt)
all-more Holds k (y ∷ ys) x all last =
    (all.0, all-more Holds (suc k) ys x all.1 (subst (λ i. Holds i x) (one-on k (length ys)) last))
  where
    one-on : (i j : ℕ) → i + suc j ≡ suc i + j
    one-on i j = omega arith

all-at : (Holds : ℕ → List NameId → Type 0) → ((k : ℕ) → Holds k []) → (k : ℕ) (xs : List (List NameId))
    → AllFrom Holds k xs → (i : ℕ) → Holds (k + i) (list_by (slice_get xs i))
all-at Holds none k [] all i = none (k + i)
all-at Holds none k (x ∷ xs) all zero = subst (λ j. Holds j x) (omega arith) all.0
all-at Holds none k (x ∷ xs) all (suc i) =
    subst (λ j. Holds j (list_by (slice_get xs i))) (one-on k i) (all-at Holds none (suc k) xs all.1 i)
  where
    one-on : (i j : ℕ) → suc i + j ≡ i + suc j
    one-on i j = omega arith

module _ (guards : List Guard) (x : Declared) (built : IsBuilt x) where
  -- a class of this name is guarded and has a member
  pub record HasPart (name : NameId) (b : ClassId) : Type 0 where
    pub info : ClassInfo
    pub is : d.class_at x b ≡ Some info
    pub name_is : info.name.item ≡ name
    pub kind : GuardKind
    pub guarded : kind_of guards name ≡ Some kind
    pub first : ℕ × MemberInfo
    pub others : List (ℕ × MemberInfo)
    pub members : info.members ≡ first ∷ others

  -- it is one of a lineage
  abbrev pub InLineage : ClassId → NameId → Type 0
  InLineage c name = Any (HasPart name) (look.lineage x c)

  abbrev AllIn : ℕ → List NameId → Type 0
  AllIn k names = Every (InLineage (record { 0 = k })) names

  none-in : (k : ℕ) → AllIn k []
  none-in k = tt

  both-in : (k : ℕ) (xs ys : List NameId) → AllIn k xs → AllIn k ys → AllIn k (xs ++ ys)
  both-in k [] ys first rest = rest
  both-in k (n ∷ xs) ys first rest = (first.0, both-in k xs ys first.1 rest)

  module _ (c : ClassId) (info : ClassInfo) (is : d.class_at x c ≡ Some info) where
    own-by : (ms : List (ℕ × MemberInfo)) (kind : Option GuardKind) → info.members ≡ ms
        → kind_of guards info.name.item ≡ kind → AllIn c.0 (g.if_any ms (g.if_guarded kind info.name.item))
    own-by [] kind members guarded = tt
    own-by (m ∷ ms) None members guarded = tt
    own-by (m ∷ ms) (Some kind) members guarded = (
      subst (Any (HasPart info.name.item)) (sym (lineage-is x built c info is))
          (inl (record {
            info = info;
            is = is;
            name_is = refl;
            kind = kind;
            guarded = guarded;
            first = m;
            others = ms;
            members = members;
          })),
      tt,
    )

    -- the lineage of a base is a part of that of the class
    inherited-in : (done : List (List NameId)) → AllFrom AllIn 0 done → (o : Option ClassId) → info.base ≡ o
        → AllIn c.0 (inherited done o)
    inherited-in done all None same = tt
    inherited-in done all (Some b) same =
        every-by (InLineage b) (InLineage c)
        (λ name some. subst (Any (HasPart name))
        (sym (lineage-is x built c info is ∙ ap (λ o. c ∷ base_lineage x built o) same)) (inr some))
        (list_by (slice_get done b.0))
        (subst (λ k. AllIn k (list_by (slice_get done b.0))) (omega arith) (all-at AllIn none-in 0 done all b.0))

    with-in : (done : List (List NameId)) → length done ≡ c.0 → AllFrom AllIn 0 done
        → AllFrom AllIn 0 (g.with_parts guards done info)
    with-in done many all =
        all-more AllIn 0 done (inherited done info.base ++ g.own_part guards info) all
        (subst (λ k. AllIn k (inherited done info.base ++ g.own_part guards info)) (omega arith)
        (both-in c.0 (inherited done info.base) (g.own_part guards info) (inherited-in done all info.base refl)
        (own-by info.members (kind_of guards info.name.item) refl refl)))

  after-in : (front infos : List ClassInfo) (done : List (List NameId)) → x.classes ≡ front ++ infos
      → length done ≡ length front → AllFrom AllIn 0 done → AllFrom AllIn 0 (g.parts_after guards done infos)
  after-in front [] done all many so = so
  after-in front (info ∷ infos) done all many so =
      let c : ClassId = record { 0 = length front } in
      let is : d.class_at x c ≡ Some info = ap (λ l. slice_get l (length front)) all ∙ at-seam front info infos in
      after-in (front ++ info ∷ []) infos (g.with_parts guards done info)
      (all ∙ sym (append_assoc front (info ∷ []) infos))
      (length-append done _ ∙ (ap (λ k. k + 1) many ∙ sym (length-append front (info ∷ []))))
      (with-in c info is done many so)

  -- the parts of the objects of a class
  pub parts-in : (c : ClassId) → Every (InLineage c) (g.parts_by (g.guarded_parts guards x) (Some c))
  parts-in c =
      subst (λ k. AllIn k (list_by (slice_get (g.guarded_parts guards x) c.0))) (omega arith)
      (all-at AllIn none-in 0 (g.guarded_parts guards x) (after-in [] x.classes [] refl refl tt) c.0)
