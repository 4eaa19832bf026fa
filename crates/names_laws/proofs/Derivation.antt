-- Derivation is an order along declarations.
use Rattle.std.proofs.Common.{◌≡◌, ℕ, zero, suc, ◌+◌, ◌<◌, ◌⊎◌, inl, inr, Bool, true, false, ◌||◌, List, [], ◌∷◌, ◌++◌, length, Option, Some, None, slice_get, refl, sym, ap, subst, ◌∙◌, arith, length-append, true≢false}
use Rattle.std.specs.List.{list_any}
use Rattle.std.proofs.lemmas.Option.{none-some, same_Some, slice_get_within}
use Rattle.agxx_base.specs.declared.ids.ClassId.{ClassId}
use Rattle.agxx_base.specs.declared.ids.NameId.{NameId}
use Rattle.cxx_tree.specs.declared.node.Placed.{Placed}
use Rattle.cxx_tree.specs.declared.program.Access.{Access}
use Rattle.cxx_tree.specs.ProgramTree as p
use Rattle.cxx_names.specs.declared.declarations.ClassInfo.{ClassInfo}
use Rattle.cxx_names.specs.declared.declarations.Declared.{Declared}
use Rattle.cxx_names.specs.Tables.{named, with_name}
use Rattle.cxx_names.specs.Declarations.{with_items, with_member, with_method, with_ctor, with_dtor, default_access, class_begun, class_items, base_named, class_at, one_above, ancestors_below, next_class, empty, with_decl, with_decls, with_class, declared}
use Rattle.cxx_names.specs.LookUp.{base_by, ancestors_by, same_class, upwards, above, lineage, derives}
use Rattle.names_laws.specs.Derivation as spec
use Rattle.names_laws.specs.Derivation.{base_of, IsDerived, line_of, IsOrdered, DerivationIsOrder}
use Rattle.names_laws.proofs.Lists.{same-number, number-itself, get-low, at-one-more, named-with}

-- ---- the items of a class leave its base

record AsBegun (info begun : ClassInfo) : Type 0 where
  base : info.base ≡ begun.base
  ancestors : info.ancestors ≡ begun.ancestors

as-begun : (info : ClassInfo) (shown : Access) (count n : ℕ) (is : List p.ItemTree) → AsBegun (with_items (record { info = info; shown = shown; count = count; numbered = n }) is).info info
as-begun info shown count n [] = record { base = refl; ancestors = refl }
as-begun info shown count n (p.label at access ∷ is) = as-begun info access (suc count) n is
as-begun info shown count n (p.member m ∷ is) =
    let s = with_member (record { info = info; shown = shown; count = count; numbered = n }) m in
    let h = as-begun s.info shown (suc count) n is in
    record { base = h.base; ancestors = h.ancestors }
as-begun info shown count n (p.function f ∷ is) =
    let s = with_method (record { info = info; shown = shown; count = count; numbered = n }) f in
    let h = as-begun s.info shown (suc count) (suc n) is in
    record { base = h.base; ancestors = h.ancestors }
as-begun info shown count n (p.ctor f ∷ is) =
    let s = with_ctor (record { info = info; shown = shown; count = count; numbered = n }) f.params in
    let h = as-begun s.info shown (suc count) (suc n) is in
    record { base = h.base; ancestors = h.ancestors }
as-begun info shown count n (p.dtor f ∷ is) =
    let s = with_dtor (record { info = info; shown = shown; count = count; numbered = n }) in
    let h = as-begun s.info shown (suc count) (suc n) is in
    record { base = h.base; ancestors = h.ancestors }

-- ---- what is declared

record AreBehind (d : Declared) : Type 0 where
  -- a class's name means a class that is there
  names : (name : ℕ) (c : ClassId) → named d.class_names name ≡ Some c → c.0 < length d.classes
  -- a base stands before its class, and has one class less above it
  bases : (i : ℕ) (info : ClassInfo) (b : ClassId) → slice_get d.classes i ≡ Some info → info.base ≡ Some b → b.0 < i
  ancestors : (i : ℕ) (info : ClassInfo) → slice_get d.classes i ≡ Some info → info.ancestors ≡ ancestors_below d info.base

module _ (d : Declared) (behind : AreBehind d) (c : p.ClassTree) where
  abbrev begun : ClassInfo
  begun = class_begun d c

  abbrev info : ClassInfo
  info = (class_items d c).info

  like-begun : AsBegun info begun
  like-begun = as-begun begun (default_access c.word) 0 d.numbered c.items

  longer : length (d.classes ++ info ∷ []) ≡ suc (length d.classes)
  longer = length-append d.classes (info ∷ []) ∙ omega arith

  class-name : (name : ℕ) (k : ClassId) → named (with_name d.class_names c.name.item.0 (next_class d)) name ≡ Some k → k.0 < length (d.classes ++ info ∷ [])
  class-name name k e = by (named-with d.class_names c.name.item.0 (next_class d) name k e)
    where
      by : (named d.class_names name ≡ Some k) ⊎ (next_class d ≡ k) → k.0 < length (d.classes ++ info ∷ [])
      by (inl old) = let h = behind.names name k old in let more = longer in omega arith
      by (inr new) = let same : length d.classes ≡ k.0 = ap (λ (r : ClassId). r.0) new in let more = longer in omega arith

  base-there : (base : Option (Placed NameId)) (b : ClassId) → base_named d base ≡ Some b → b.0 < length d.classes
  base-there None b e = absurd (none-some b e)
  base-there (Some name) b e = behind.names name.item.0 b e

  class-base : (i : ℕ) (x : ClassInfo) (b : ClassId) → slice_get (d.classes ++ info ∷ []) i ≡ Some x → x.base ≡ Some b → b.0 < i
  class-base i x b e f = by (at-one-more d.classes info i x e)
    where
      by : (slice_get d.classes i ≡ Some x) ⊎ ((length d.classes ≡ i) × (info ≡ x)) → b.0 < i
      by (inl old) = behind.bases i x b old f
      by (inr last) =
          let h = base-there c.base b (sym like-begun.base ∙ ap (λ (y : ClassInfo). y.base) last.1 ∙ f) in
          let at = last.0 in
          omega arith

  -- what stands above a class that was there stays
  same-above : (base : Option ClassId) → ((b : ClassId) → base ≡ Some b → b.0 < length d.classes) → ancestors_below d base ≡ ancestors_below (with_class d c) base
  same-above None there = refl
  same-above (Some b) there = ap one_above (sym (get-low d.classes (info ∷ []) b.0 (there b refl)))

  old-there : (i : ℕ) (x : ClassInfo) (b : ClassId) → slice_get d.classes i ≡ Some x → x.base ≡ Some b → b.0 < length d.classes
  old-there i x b e f = let h = behind.bases i x b e f in let l = slice_get_within d.classes i x e in omega arith

  class-ancestors : (i : ℕ) (x : ClassInfo) → slice_get (d.classes ++ info ∷ []) i ≡ Some x → x.ancestors ≡ ancestors_below (with_class d c) x.base
  class-ancestors i x e = by (at-one-more d.classes info i x e)
    where
      by : (slice_get d.classes i ≡ Some x) ⊎ ((length d.classes ≡ i) × (info ≡ x)) → x.ancestors ≡ ancestors_below (with_class d c) x.base
      by (inl old) = behind.ancestors i x old ∙ same-above x.base (λ b f. old-there i x b old f)
      by (inr last) =
          subst (λ (y : ClassInfo). y.ancestors ≡ ancestors_below (with_class d c) y.base) last.1
          (like-begun.ancestors ∙ same-above begun.base (base-there c.base) ∙ ap (ancestors_below (with_class d c)) (sym like-begun.base))

  class-behind : AreBehind (with_class d c)
  class-behind = record { names = class-name; bases = class-base; ancestors = class-ancestors }

decls-behind : (names : List (List ℕ)) (xs : List p.DeclTree) (d : Declared) → AreBehind d → AreBehind (with_decls names d xs)
decls-behind names [] d h = h
decls-behind names (p.class c ∷ xs) d h = decls-behind names xs (with_class d c) (class-behind d h c)
decls-behind names (p.class_name c ∷ xs) d h =
    decls-behind names xs (with_decl names d (p.class_name c)) (record { names = h.names; bases = h.bases; ancestors = h.ancestors })
decls-behind names (p.free_function f ∷ xs) d h =
    decls-behind names xs (with_decl names d (p.free_function f)) (record { names = h.names; bases = h.bases; ancestors = h.ancestors })
decls-behind names (p.proto f ∷ xs) d h =
    decls-behind names xs (with_decl names d (p.proto f)) (record { names = h.names; bases = h.bases; ancestors = h.ancestors })
decls-behind names (p.global g ∷ xs) d h =
    decls-behind names xs (with_decl names d (p.global g)) (record { names = h.names; bases = h.bases; ancestors = h.ancestors })

declared-behind : (names : List (List ℕ)) (q : p.ProgramTree) → AreBehind (declared names q)
declared-behind names q =
    decls-behind names q.decls empty
    (record { names = λ name c e. absurd (none-some c e); bases = λ i x b e f. absurd (none-some x e); ancestors = λ i x e. absurd (none-some x e) })

-- ---- numbers of classes

abbrev class-of : ℕ → ClassId
class-of n = record { 0 = n }

same-class : (a b : ClassId) → same_class a b ≡ true → a ≡ b
same-class a b e = ap class-of (same-number a.0 b.0 e)

or-right : (b : Bool) → (b || true) ≡ true
or-right true = refl
or-right false = refl

-- ---- the order

module _ (d : Declared) (behind : AreBehind d) where
  one-more-above : (o : Option ClassInfo) → one_above o ≡ suc (ancestors_by o)
  one-more-above None = refl
  one-more-above (Some info) = refl

  line-above : (class : ClassId) (info : ClassInfo) → class_at d class ≡ Some info → (base : Option ClassId) → info.base ≡ base
      → above d.classes info.ancestors class ≡ line_of d base
  line-above class info e None f =
      ap (λ n. above d.classes n class) (behind.ancestors class.0 info e ∙ ap (ancestors_below d) f)
  line-above class info e (Some b) f =
      ap (λ n. above d.classes n class) (behind.ancestors class.0 info e ∙ ap (ancestors_below d) f ∙ one-more-above (class_at d b))
      ∙ ap (λ o. upwards (λ k. above d.classes (ancestors_by (class_at d b)) k) (base_by o)) e
      ∙ ap (upwards (λ k. above d.classes (ancestors_by (class_at d b)) k)) f

  line-by : (class : ClassId) (o : Option ClassInfo) → class_at d class ≡ o → lineage d class ≡ class ∷ line_of d (base_by o)
  line-by class None e = ap (λ o. class ∷ above d.classes (ancestors_by o) class) e
  line-by class (Some info) e =
      ap (λ o. class ∷ above d.classes (ancestors_by o) class) e ∙ ap (λ l. class ∷ l) (line-above class info e info.base refl)

  line : (class : ClassId) → lineage d class ≡ class ∷ line_of d (base_of d class)
  line class = line-by class (class_at d class) refl

  base-before : (class base : ClassId) → base_of d class ≡ Some base → base.0 < class.0
  base-before class base e = by (class_at d class) refl e
    where
      by : (o : Option ClassInfo) → class_at d class ≡ o → base_by o ≡ Some base → base.0 < class.0
      by None at f = absurd (none-some base f)
      by (Some info) at f = behind.bases class.0 info base at f

  -- ---- what is told is what there is

  told-below : (n : ℕ) (class from : ClassId) → class.0 < n → list_any (same_class from) (lineage d class) ≡ true → IsDerived d class from
  told-below zero class from h e = absurd (omega arith)
  told-below (suc n) class from h e =
      by (same_class from class) refl (ap (list_any (same_class from)) (sym (line class)) ∙ e) (λ base f. told-below n base from (let l = base-before class base f in omega arith))
    where
      at-base : (o : Option ClassId) → base_of d class ≡ o → list_any (same_class from) (line_of d o) ≡ true
          → ((base : ClassId) → base_of d class ≡ Some base → list_any (same_class from) (lineage d base) ≡ true → IsDerived d base from) → IsDerived d class from
      at-base None f g later = absurd (true≢false (sym g))
      at-base (Some base) f g later = spec.above class base from f (later base f g)

      by : (b : Bool) → same_class from class ≡ b → list_any (same_class from) (class ∷ line_of d (base_of d class)) ≡ true
          → ((base : ClassId) → base_of d class ≡ Some base → list_any (same_class from) (lineage d base) ≡ true → IsDerived d base from) → IsDerived d class from
      by true same g later = subst (λ k. IsDerived d k from) (same-class from class same) (spec.itself from)
      by false other g later =
          at-base (base_of d class) refl (ap (λ b. b || list_any (same_class from) (line_of d (base_of d class))) (sym other) ∙ g) later

  told : (class from : ClassId) → derives d class from ≡ true → IsDerived d class from
  told class from e = told-below (suc class.0) class from (omega arith) e

  reflexive : (class : ClassId) → derives d class class ≡ true
  reflexive class = ap (λ b. b || list_any (same_class class) (above d.classes (ancestors_by (class_at d class)) class)) (number-itself class.0)

  no-other : (class from : ClassId) → IsDerived d class from → derives d class from ≡ true
  no-other class from (spec.itself k) = reflexive k
  no-other class from (spec.above k base to e h) =
      ap (list_any (same_class to)) (line k ∙ ap (λ o. k ∷ line_of d o) e)
      ∙ ap (λ b. same_class to k || b) (no-other base to h) ∙ or-right (same_class to k)

  -- ---- laws of what there is

  joined : (a b c : ClassId) → IsDerived d a b → IsDerived d b c → IsDerived d a c
  joined a b c (spec.itself k) g = g
  joined a b c (spec.above k base to e h) g = spec.above k base c e (joined base to c h g)

  before : (a b : ClassId) → IsDerived d a b → (b.0 < a.0) ⊎ (a ≡ b)
  before a b (spec.itself k) = inr refl
  before a b (spec.above k base to e h) = by (before base to h)
    where
      by : (to.0 < base.0) ⊎ (base ≡ to) → (to.0 < k.0) ⊎ (k ≡ to)
      by (inl l) = let m = base-before k base e in inl (omega arith)
      by (inr same) = inl (subst (λ x. x.0 < k.0) same (base-before k base e))

  antisymmetric : (a b : ClassId) → IsDerived d a b → IsDerived d b a → a ≡ b
  antisymmetric a b h g = by (before a b h) (before b a g)
    where
      by : (b.0 < a.0) ⊎ (a ≡ b) → (a.0 < b.0) ⊎ (b ≡ a) → a ≡ b
      by (inr same) other = same
      by (inl l) (inr same) = sym same
      by (inl l) (inl m) = absurd (omega arith)

  from-here : (class from : ClassId) → IsDerived d class from → (class ≡ from) ⊎ ((base : ClassId) × (base_of d class ≡ Some base) × IsDerived d base from)
  from-here class from (spec.itself k) = inl refl
  from-here class from (spec.above k base to e h) = inr (base, e, h)

  in-a-line : (a b c : ClassId) → IsDerived d a b → IsDerived d a c → IsDerived d b c ⊎ IsDerived d c b
  in-a-line a b c (spec.itself k) g = inl g
  in-a-line a b c (spec.above k base to e h) g = by (from-here k c g) (λ m. in-a-line base to c h m)
    where
      by : (k ≡ c) ⊎ ((other : ClassId) × (base_of d k ≡ Some other) × IsDerived d other c) → (IsDerived d base c → IsDerived d to c ⊎ IsDerived d c to)
          → IsDerived d to c ⊎ IsDerived d c to
      by (inl same) later = inr (subst (λ x. IsDerived d x to) same (spec.above k base to e h))
      by (inr o) later = later (subst (λ x. IsDerived d x c) (same_Some o.0 base (sym o.1 ∙ e)) o.2)

  told-in-a-line : (b c : ClassId) → IsDerived d b c ⊎ IsDerived d c b → (derives d b c ≡ true) ⊎ (derives d c b ≡ true)
  told-in-a-line b c (inl h) = inl (no-other b c h)
  told-in-a-line b c (inr h) = inr (no-other c b h)

  is-ordered : IsOrdered d
  is-ordered = record {
    line = line;
    told = told;
    no_other = no-other;
    reflexive = reflexive;
    transitive = λ a b c h g. no-other a c (joined a b c (told a b h) (told b c g));
    antisymmetric = λ a b h g. antisymmetric a b (told a b h) (told b a g);
    before = λ a b h. before a b (told a b h);
    in_a_line = λ a b c h g. told-in-a-line b c (in-a-line a b c (told a b h) (told a c g));
  }

pub derivation-is-order : DerivationIsOrder
derivation-is-order names q = is-ordered (declared names q) (declared-behind names q)
