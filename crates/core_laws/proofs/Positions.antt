-- The functions of a core form stand at the numbers that the declarations give them.
use Rattle.std.proofs.Common.{◌≡◌, ◌∙◌, ℕ, zero, suc, ◌+◌, refl, sym, ap, subst, subst₂, arith, Bool, true, false, cond, nat_eq, if◌then◌else◌, List, [], ◌∷◌, ◌++◌, length, drop, map, Option, Some, None, slice_get, is_some, codes, inl, inr, ◌⊎◌}
use Rattle.std.proofs.lemmas.Option.{none-some, same_Some}
use Rattle.std.proofs.lemmas.Bool.{eqb-true}
use Rattle.agxx_base.specs.declared.ids.ClassId.{ClassId}
use Rattle.cxx_tree.specs.declared.program.Access.{Access}
use Rattle.cxx_tree.specs.declared.program.Access.TheVariants.{Public}
use Rattle.cxx_tree.specs.declared.program.TypeName.TheVariants.{Void}
use Rattle.cxx_tree.specs.declared.node.Placed.{Placed}
use Rattle.agxx_base.specs.declared.ids.NameId.{NameId}
use Rattle.cxx_tree.specs.ProgramTree as p
use Rattle.cxx_names.specs.declared.declarations.Declared.{Declared}
use Rattle.cxx_names.specs.declared.declarations.ClassInfo.{ClassInfo}
use Rattle.cxx_names.specs.declared.declarations.Signature.{Signature}
use Rattle.cxx_names.specs.Tables.{named, with_name}
use Rattle.cxx_names.specs.LookUp.{or_next}
use Rattle.cxx_names.specs.Declarations as d
use Rattle.cxx_core.specs.CoreProgram.{FunctionKind, plain, constructor, destructor, CoreFunction}
use Rattle.cxx_core.specs.Meanings.{Within, type_named}
use Rattle.cxx_core.specs.ElaboratedProgram as k
use Rattle.core_laws.specs.FunctionNumbers.{Any}

-- ---- lists

at-drop : {A : Type 0} (n : ℕ) (all : List A) (x : A) (xs : List A) → drop n all ≡ x ∷ xs → (slice_get all n ≡ Some x) × (drop (suc n) all ≡ xs)
at-drop zero all x xs e = (ap (λ l. slice_get l 0) e, ap (drop 1) e)
at-drop (suc n) [] x xs e = (ap (λ l. slice_get l 0) e, ap (drop 1) e)
at-drop (suc n) (y ∷ ys) x xs e = at-drop n ys x xs e

length-one-more : {A : Type 0} (xs : List A) (y : A) → length (xs ++ y ∷ []) ≡ suc (length xs)
length-one-more [] y = refl
length-one-more (x ∷ xs) y = ap suc (length-one-more xs y)

at-one-more : {A : Type 0} (xs : List A) (y : A) (i : ℕ) (z : A) → slice_get (xs ++ y ∷ []) i ≡ Some z → (slice_get xs i ≡ Some z) ⊎ ((length xs ≡ i) × (y ≡ z))
at-one-more [] y zero z e = inr (refl, same_Some y z e)
at-one-more [] y (suc i) z e = absurd (none-some z e)
at-one-more (x ∷ xs) y zero z e = inl e
at-one-more (x ∷ xs) y (suc i) z e = next (at-one-more xs y i z e)
  where
    next : (slice_get xs i ≡ Some z) ⊎ ((length xs ≡ i) × (y ≡ z)) → (slice_get xs i ≡ Some z) ⊎ ((suc (length xs) ≡ suc i) × (y ≡ z))
    next (inl at) = inl at
    next (inr last) = inr (ap suc last.0, last.1)

pub at-numbered : (first : ℕ) (fs : List CoreFunction) (n m : ℕ) (f : CoreFunction) → m ≡ first + n → slice_get fs n ≡ Some f → slice_get (k.numbered_from first fs) n ≡ Some (record f { number = m })
at-numbered first [] n m f sum e = absurd (none-some f e)
at-numbered first (x ∷ xs) zero m f sum e =
    let start : first ≡ m = omega (arith, sum) in
    λ i. Some (record (same_Some x f e i) { number = start i })
at-numbered first (x ∷ xs) (suc n) m f sum e =
    let start : m ≡ suc first + n = omega (arith, sum) in at-numbered (suc first) xs n m f start e

-- ---- tables of signatures

abbrev Meant : (ℕ → Signature → Type 0) → List (ℕ × Signature) → Type 0
Meant P es = (name : ℕ) (s : Signature) → named es name ≡ Some s → P name s

named-one-more : (es : List (ℕ × Signature)) (n : ℕ) (t : Signature) (name : ℕ) → named (es ++ (n, t) ∷ []) name ≡ or_next (named es name) (if nat_eq name n then Some t else None)
named-one-more [] n t name = refl
named-one-more (e ∷ es) n t name = by (nat_eq name e.0) (named-one-more es n t name)
  where
    by : (b : Bool) → named (es ++ (n, t) ∷ []) name ≡ or_next (named es name) (if nat_eq name n then Some t else None) → cond b (Some e.1) (named (es ++ (n, t) ∷ []) name) ≡ or_next (cond b (Some e.1) (named es name)) (if nat_eq name n then Some t else None)
    by true later = refl
    by false later = later

module _ (P : ℕ → Signature → Type 0) where
  old-or-new : (o : Option Signature) (n : ℕ) (t : Signature) (name : ℕ) (s : Signature) → (o ≡ Some s → P name s) → P n t → or_next o (if nat_eq name n then Some t else None) ≡ Some s → P name s
  old-or-new (Some v) n t name s old new e = old e
  old-or-new None n t name s old new e = by (nat_eq name n) refl e
    where
      by : (b : Bool) → nat_eq name n ≡ b → (if b then Some t else None) ≡ Some s → P name s
      by true same found = subst₂ P (sym (eqb-true name n same)) (same_Some t s found) new
      by false other found = absurd (none-some s found)

  meant-with : (es : List (ℕ × Signature)) (n : ℕ) (t : Signature) → Meant P es → P n t → Meant P (with_name es n t)
  meant-with es n t old new = by (is_some (named es n))
    where
      by : (b : Bool) → Meant P (if b then es else es ++ (n, t) ∷ [])
      by true = old
      by false = λ name s e. old-or-new (named es name) n t name s (old name s) new (sym (named-one-more es n t name) ∙ e)

first-with : (P : Signature → Type 0) (o : Option Signature) (t : Signature) → ((s : Signature) → o ≡ Some s → P s) → P t → (s : Signature) → d.or_first o t ≡ Some s → P s
first-with P None t old new s e = subst P (same_Some t s e) new
first-with P (Some v) t old new s e = old s e

-- ---- what stands at the number of a signature

module _ (known : Declared) (all : List CoreFunction) where
  abbrev pub Held : FunctionKind → Option ClassId → (ℕ → Type 0) → Signature → Type 0
  Held kind class IsName s =
      (f : CoreFunction) × (slice_get all s.id.0 ≡ Some f) × IsName f.name.item.0 × (f.kind ≡ kind) × (f.class ≡ class)
      × (f.params ≡ map (k.core_param known) s.params) × (f.result ≡ type_named known s.result)

  pub record IsGood (class : ClassId) (info : ClassInfo) : Type 0 where
    pub methods : Meant (λ name s. Held plain (Some class) (λ n. n ≡ name) s) info.methods
    pub ctor : (s : Signature) → info.ctor ≡ Some s → Held constructor (Some class) Any s
    pub dtor : (s : Signature) → info.dtor ≡ Some s → Held destructor (Some class) Any s

  pub record AreGood (found : Declared) : Type 0 where
    pub functions : Meant (λ name s. Held plain None (λ n. n ≡ name) s) found.functions
    pub classes : (class : ClassId) (info : ClassInfo) → d.class_at found class ≡ Some info → IsGood class info

-- ---- classes

abbrev info_after : ClassInfo → Access → ℕ → ℕ → List p.ItemTree → ClassInfo
info_after info shown count n xs = (d.with_items (record { info = info; shown = shown; count = count; numbered = n }) xs).info

abbrev number_after : ClassInfo → Access → ℕ → ℕ → List p.ItemTree → ℕ
number_after info shown count n xs = (d.with_items (record { info = info; shown = shown; count = count; numbered = n }) xs).numbered

module _ (names : List (List ℕ)) (known : Declared) (all : List CoreFunction) where
  module _ (number : ℕ) (base : Option (Placed NameId)) (rest : List CoreFunction) where
    abbrev inside : Within
    inside = k.in_class (k.outside names known) number

    abbrev Class : ClassInfo → Type 0
    Class = IsGood known all (record { 0 = number })

    items-good : (xs : List p.ItemTree) (info : ClassInfo) (shown : Access) (count n : ℕ) → Class info → drop n all ≡ k.items_functions inside base xs rest → Class (info_after info shown count n xs) × (drop (number_after info shown count n xs) all ≡ rest)
    items-good [] info shown count n good e = (good, e)
    items-good (p.label at access ∷ xs) info shown count n good e = items-good xs info access (suc count) n good e
    items-good (p.member m ∷ xs) info shown count n good e =
        let s = d.with_member (record { info = info; shown = shown; count = count; numbered = n }) m in
        items-good xs s.info shown (suc count) n (record { methods = good.methods; ctor = good.ctor; dtor = good.dtor }) e
    items-good (p.function f ∷ xs) info shown count n good e =
        let s = d.with_method (record { info = info; shown = shown; count = count; numbered = n }) f in
        let at = at-drop n all (k.core_function inside f) (k.items_functions inside base xs rest) e in
        items-good xs s.info shown (suc count) (suc n)
        (record {
          methods = meant-with (λ name t. Held known all plain inside.class (λ m. m ≡ name) t) info.methods f.name.item.0
              (d.signature n f.result.item f.params shown false) good.methods (k.core_function inside f, at.0, refl, refl, refl, refl, refl);
          ctor = good.ctor;
          dtor = good.dtor;
        })
        at.1
    items-good (p.ctor f ∷ xs) info shown count n good e =
        let s = d.with_ctor (record { info = info; shown = shown; count = count; numbered = n }) f.params in
        let at = at-drop n all (k.core_ctor inside base f) (k.items_functions inside base xs rest) e in
        items-good xs s.info shown (suc count) (suc n)
        (record {
          methods = good.methods;
          ctor = first-with (Held known all constructor inside.class Any) info.ctor
              (d.signature n Void f.params shown false) good.ctor (k.core_ctor inside base f, at.0, tt, refl, refl, refl, refl);
          dtor = good.dtor;
        })
        at.1
    items-good (p.dtor f ∷ xs) info shown count n good e =
        let s = d.with_dtor (record { info = info; shown = shown; count = count; numbered = n }) in
        let at = at-drop n all (k.core_dtor inside f) (k.items_functions inside base xs rest) e in
        items-good xs s.info shown (suc count) (suc n)
        (record {
          methods = good.methods;
          ctor = good.ctor;
          dtor = first-with (Held known all destructor inside.class Any) info.dtor
              (d.signature n Void [] shown false) good.dtor (k.core_dtor inside f, at.0, tt, refl, refl, refl, refl);
        })
        at.1

  begun-good : (number : ℕ) (found : Declared) (c : p.ClassTree) → IsGood known all (record { 0 = number }) (d.class_begun found c)
  begun-good number found c =
      record {
        methods = λ name s e. absurd (none-some s e);
        ctor = λ s e. absurd (none-some s e);
        dtor = λ s e. absurd (none-some s e);
      }

  -- ---- declarations

  class-good : (found : Declared) (c : p.ClassTree) → AreGood known all found → IsGood known all (d.next_class found) (d.class_items found c).info → AreGood known all (d.with_class found c)
  class-good found c good new = record { functions = good.functions; classes = λ class info e. by class info (at-one-more found.classes (d.class_items found c).info class.0 info e) }
    where
      by : (class : ClassId) (info : ClassInfo) → (slice_get found.classes class.0 ≡ Some info) ⊎ ((length found.classes ≡ class.0) × ((d.class_items found c).info ≡ info)) → IsGood known all class info
      by class info (inl old) = good.classes class info old
      by class info (inr last) = subst₂ (IsGood known all) (λ i. record { 0 = last.0 i }) last.1 new

  pub decls-good : (xs : List p.DeclTree) (found : Declared) → AreGood known all found → drop found.numbered all ≡ k.decls_functions (k.outside names known) (length found.classes) xs → AreGood known all (d.with_decls names found xs)
  decls-good [] found good e = good
  decls-good (p.class c ∷ xs) found good e =
      let number = length found.classes in
      let rest = k.decls_functions (k.outside names known) (suc number) xs in
      let done = items-good number c.base rest c.items (d.class_begun found c) (d.default_access c.word) 0 found.numbered (begun-good number found c) e in
      decls-good xs (d.with_class found c) (class-good found c good done.0)
      (done.1 ∙ ap (λ n. k.decls_functions (k.outside names known) n xs) (sym (length-one-more found.classes (d.class_items found c).info)))
  decls-good (p.class_name c ∷ xs) found good e =
      decls-good xs (d.passed_over found) (record { functions = good.functions; classes = good.classes }) e
  decls-good (p.free_function f ∷ xs) found good e =
      let outside = k.outside names known in
      let at = at-drop found.numbered all (k.core_function outside f) (k.decls_functions outside (length found.classes) xs) e in
      decls-good xs (d.with_function names found f)
      (record {
        functions = meant-with (λ name t. Held known all plain None (λ m. m ≡ name) t) found.functions f.name.item.0
            (d.signature found.numbered f.result.item f.params Public (d.is_text names f.name.item.0 (codes "main"))) good.functions (k.core_function outside f, at.0, refl, refl, refl, refl, refl);
        classes = good.classes;
      })
      at.1
  decls-good (p.proto f ∷ xs) found good e =
      decls-good xs (d.passed_over found) (record { functions = good.functions; classes = good.classes }) e
  decls-good (p.global g ∷ xs) found good e =
      decls-good xs (d.with_global found g) (record { functions = good.functions; classes = good.classes }) e

  pub none-good : AreGood known all d.empty
  none-good = record { functions = λ name s e. absurd (none-some s e); classes = λ class info e. absurd (none-some info e) }
