-- The bases of the classes of every program stand before them.
use Rattle.std.proofs.Common.{◌≡◌, ℕ, zero, suc, ◌+◌, ◌<◌, ◌⊎◌, inl, inr, List, [], ◌∷◌, ◌++◌, length, Option, Some, None, slice_get, refl, sym, ap, ◌∙◌, arith, length-append}
use Rattle.std.proofs.lemmas.Option.{none-some, same_Some}
use Rattle.agxx_base.specs.declared.ids.ClassId.{ClassId}
use Rattle.agxx_base.specs.declared.ids.NameId.{NameId}
use Rattle.cxx_tree.specs.declared.node.Placed.{Placed}
use Rattle.cxx_tree.specs.declared.program.Access.{Access}
use Rattle.cxx_tree.specs.ProgramTree as p
use Rattle.cxx_names.specs.declared.declarations.ClassInfo.{ClassInfo}
use Rattle.cxx_names.specs.declared.declarations.Declared.{Declared}
use Rattle.cxx_names.specs.Tables.{named, with_name}
use Rattle.cxx_names.specs.Declarations.{with_items, with_member, with_method, with_ctor, with_dtor, default_access, class_begun, class_items, base_named, next_class, empty, with_decl, with_decls, with_class, declared}
use Rattle.cxx_names.specs.LookUp.{base_by}
use Rattle.cxx_core.specs.CoreProgram.{CoreClass}
use Rattle.cxx_core.specs.ElaboratedProgram.{core_class, decls_classes, core_program}
use Rattle.machine_laws.specs.Locates.{HasBasesBefore}
use Rattle.machine_laws.proofs.Lists.{at-one-more, named-with}

-- ---- what is declared

pub record AreBelow (d : Declared) : Type 0 where
  pub of_name : (name : ℕ) (c : ClassId) → named d.class_names name ≡ Some c → c.0 < length d.classes
  pub of_base : (i : ℕ) (info : ClassInfo) (b : ClassId) → slice_get d.classes i ≡ Some info → info.base ≡ Some b → b.0 < i

pub kept-base : (info : ClassInfo) (shown : Access) (count n : ℕ) (is : List p.ItemTree) → (with_items (record { info = info; shown = shown; count = count; numbered = n }) is).info.base ≡ info.base
kept-base info shown count n [] = refl
kept-base info shown count n (p.label at access ∷ is) = kept-base info access (suc count) n is
kept-base info shown count n (p.member m ∷ is) =
    kept-base (with_member (record { info = info; shown = shown; count = count; numbered = n }) m).info shown (suc count) n is
kept-base info shown count n (p.function f ∷ is) =
    kept-base (with_method (record { info = info; shown = shown; count = count; numbered = n }) f).info shown (suc count) (suc n) is
kept-base info shown count n (p.ctor f ∷ is) =
    kept-base (with_ctor (record { info = info; shown = shown; count = count; numbered = n }) f.params).info shown (suc count) (suc n) is
kept-base info shown count n (p.dtor f ∷ is) =
    kept-base (with_dtor (record { info = info; shown = shown; count = count; numbered = n })).info shown (suc count) (suc n) is

module _ (d : Declared) (below : AreBelow d) (c : p.ClassTree) where
  abbrev info : ClassInfo
  info = (class_items d c).info

  longer : length (d.classes ++ info ∷ []) ≡ suc (length d.classes)
  longer = length-append d.classes (info ∷ []) ∙ omega arith

  class-name : (name : ℕ) (k : ClassId) → named (with_name d.class_names c.name.item.0 (next_class d)) name ≡ Some k → k.0 < length (d.classes ++ info ∷ [])
  class-name name k e = by (named-with d.class_names c.name.item.0 (next_class d) name k e)
    where
      by : (named d.class_names name ≡ Some k) ⊎ (next_class d ≡ k) → k.0 < length (d.classes ++ info ∷ [])
      by (inl old) = let h = below.of_name name k old in let more = longer in omega arith
      by (inr new) = let same : length d.classes ≡ k.0 = ap (λ r. r.0) new in let more = longer in omega arith

  base-below : (base : Option (Placed NameId)) (b : ClassId) → base_named d base ≡ Some b → b.0 < length d.classes
  base-below None b e = absurd (none-some b e)
  base-below (Some name) b e = below.of_name name.item.0 b e

  class-base : (i : ℕ) (x : ClassInfo) (b : ClassId) → slice_get (d.classes ++ info ∷ []) i ≡ Some x → x.base ≡ Some b → b.0 < i
  class-base i x b e f = by (at-one-more d.classes info i x e)
    where
      by : (slice_get d.classes i ≡ Some x) ⊎ ((length d.classes ≡ i) × (info ≡ x)) → b.0 < i
      by (inl old) = below.of_base i x b old f
      by (inr last) =
          let found : base_named d c.base ≡ Some b = sym (kept-base (class_begun d c) (default_access c.word) 0 d.numbered c.items) ∙ ap (λ y. y.base) last.1 ∙ f in
          let h = base-below c.base b found in
          let at = last.0 in
          omega arith

  class-below : AreBelow (with_class d c)
  class-below = record { of_name = class-name; of_base = class-base }

decls-below : (names : List (List ℕ)) (xs : List p.DeclTree) (d : Declared) → AreBelow d → AreBelow (with_decls names d xs)
decls-below names [] d below = below
decls-below names (p.class c ∷ xs) d below = decls-below names xs (with_class d c) (class-below d below c)
decls-below names (p.class_name c ∷ xs) d below = decls-below names xs (with_decl names d (p.class_name c)) (record { of_name = below.of_name; of_base = below.of_base })
decls-below names (p.free_function f ∷ xs) d below = decls-below names xs (with_decl names d (p.free_function f)) (record { of_name = below.of_name; of_base = below.of_base })
decls-below names (p.proto f ∷ xs) d below = decls-below names xs (with_decl names d (p.proto f)) (record { of_name = below.of_name; of_base = below.of_base })
decls-below names (p.global g ∷ xs) d below = decls-below names xs (with_decl names d (p.global g)) (record { of_name = below.of_name; of_base = below.of_base })

pub declared-below : (names : List (List ℕ)) (q : p.ProgramTree) → AreBelow (declared names q)
declared-below names q =
    decls-below names q.decls empty (record { of_name = λ name c e. absurd (none-some c e); of_base = λ i x b e f. absurd (none-some x e) })

-- ---- the core form

pub base-at : (d : Declared) (xs : List p.DeclTree) (k i : ℕ) (x : CoreClass) → slice_get (decls_classes d k xs) i ≡ Some x → x.base ≡ base_by (slice_get d.classes (k + i))
base-at d [] k i x e = absurd (none-some x e)
base-at d (p.class c ∷ xs) k zero x e =
    let at : k ≡ k + 0 = omega arith in
    ap (λ y. y.base) (sym (same_Some (core_class d (record { 0 = k }) c) x e)) ∙ ap (λ n. base_by (slice_get d.classes n)) at
base-at d (p.class c ∷ xs) k (suc i) x e =
    let at : suc k + i ≡ k + suc i = omega arith in
    base-at d xs (suc k) i x e ∙ ap (λ n. base_by (slice_get d.classes n)) at
base-at d (p.class_name c ∷ xs) k i x e = base-at d xs k i x e
base-at d (p.free_function f ∷ xs) k i x e = base-at d xs k i x e
base-at d (p.proto f ∷ xs) k i x e = base-at d xs k i x e
base-at d (p.global g ∷ xs) k i x e = base-at d xs k i x e

base-before : (classes : List ClassInfo) (i : ℕ) (b : ClassId) → ((info : ClassInfo) → slice_get classes i ≡ Some info → info.base ≡ Some b → b.0 < i)
    → (o : Option ClassInfo) → slice_get classes i ≡ o → base_by o ≡ Some b → b.0 < i
base-before classes i b below None e f = absurd (none-some b f)
base-before classes i b below (Some info) e f = below info e f

pub has-bases : (names : List (List ℕ)) (q : p.ProgramTree) → HasBasesBefore (core_program names q)
has-bases names q = record {
  before = λ c b x e f.
      let d = declared names q in
      base-before d.classes c.0 b (λ info g h. (declared-below names q).of_base c.0 info b g h) (slice_get d.classes c.0) refl
      (sym (base-at d q.decls 0 c.0 x e ∙ ap (λ n. base_by (slice_get d.classes n)) (let z : 0 + c.0 ≡ c.0 = omega arith in z)) ∙ f);
}
