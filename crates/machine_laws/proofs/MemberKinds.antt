-- The member that a name means is declared, with its kind, in the core form's class.
use Rattle.std.proofs.Common.{◌≡◌, ℕ, suc, Bool, true, false, cond, if◌then◌else◌, nat_eq, List, [], ◌∷◌, ◌++◌, Option, Some, None, option_map, is_some, refl, sym, ap, subst, ◌∙◌}
use Rattle.std.specs.List.{find}
use Rattle.std.proofs.lemmas.Option.{none-some, same_Some}
use Rattle.std.proofs.lemmas.Bool.{eqb-true, eq-eqb, cond-true}
use Rattle.agxx_base.specs.declared.ids.ClassId.{ClassId}
use Rattle.agxx_base.specs.declared.kind.NumKind.{NumKind}
use Rattle.cxx_tree.specs.declared.program.Access.{Access}
use Rattle.cxx_tree.specs.declared.program.Member.{Member}
use Rattle.cxx_tree.specs.ProgramTree as p
use Rattle.cxx_names.specs.declared.declarations.MemberInfo.{MemberInfo}
use Rattle.cxx_names.specs.declared.declarations.ClassInfo.{ClassInfo}
use Rattle.cxx_names.specs.declared.declarations.Declared.{Declared}
use Rattle.cxx_names.specs.Tables.{named, with_name}
use Rattle.cxx_names.specs.LookUp.{or_next, found_in, topmost, member_by, member_named, lineage}
use Rattle.cxx_names.specs.Declarations as d
use Rattle.cxx_names.specs.Declarations.{with_items, with_member, with_method, with_ctor, with_dtor, default_access, class_begun, class_items, declared}
use Rattle.cxx_core.specs.CoreProgram.{CoreWord}
use Rattle.cxx_core.specs.Meanings.{kind_named}
use Rattle.cxx_core.specs.ElaboratedProgram as k
use Rattle.cxx_core.specs.ElaboratedProgram.{core_program, core_class}
use Rattle.machine_laws.specs.Widths.{kind_in, IsDeclared}
use Rattle.machine_laws.proofs.Lists.{none-one-more}
use Rattle.machine_laws.proofs.Layouts as layouts

-- ---- what a look-up along a lineage finds

module _ {A : Type 0} (find_in : ClassId → Option A) where
  one-found : (c : ClassId) (x : Option A) (found : Option (ClassId × A)) → find_in c ≡ x → ((q : ClassId × A) → found ≡ Some q → find_in q.0 ≡ Some q.1)
      → (q : ClassId × A) → or_next (found_in c x) found ≡ Some q → find_in q.0 ≡ Some q.1
  one-found c None found z h q f = h q f
  one-found c (Some y) found z h q f = subst (λ (r : ClassId × A). find_in r.0 ≡ Some r.1) (same_Some (c, y) q f) z

  topmost-found : (cs : List ClassId) (found : Option (ClassId × A)) → ((q : ClassId × A) → found ≡ Some q → find_in q.0 ≡ Some q.1)
      → (q : ClassId × A) → topmost find_in found cs ≡ Some q → find_in q.0 ≡ Some q.1
  topmost-found [] found h q e = h q e
  topmost-found (c ∷ cs) found h q e =
      topmost-found cs (or_next (found_in c (find_in c)) found) (one-found c (find_in c) found refl h) q e

-- ---- names that stand for something go on doing so

module _ {V : Type 0} where
  some-old : (b : Bool) (first v : V) (before after : Option V) → (before ≡ Some v → after ≡ Some v) → cond b (Some first) before ≡ Some v → cond b (Some first) after ≡ Some v
  some-old true first v before after later e = e
  some-old false first v before after later e = later e

  some-one-more : (es : List (ℕ × V)) (n : ℕ) (t : V) (name : ℕ) (v : V) → named es name ≡ Some v → named (es ++ (n, t) ∷ []) name ≡ Some v
  some-one-more [] n t name v e = absurd (none-some v e)
  some-one-more (x ∷ es) n t name v e =
      some-old (nat_eq name x.0) x.1 v (named es name) (named (es ++ (n, t) ∷ []) name) (λ f. some-one-more es n t name v f) e

  pub some-with : (es : List (ℕ × V)) (n : ℕ) (t : V) (name : ℕ) (v : V) → named es name ≡ Some v → named (with_name es n t) name ≡ Some v
  some-with es n t name v e = by (is_some (named es n))
    where
      by : (b : Bool) → named (if b then es else es ++ (n, t) ∷ []) name ≡ Some v
      by true = e
      by false = some-one-more es n t name v e

  none-with : (es : List (ℕ × V)) (n : ℕ) (t : V) (name : ℕ) → named es name ≡ None → nat_eq name n ≡ false → named (with_name es n t) name ≡ None
  none-with es n t name e other = by (is_some (named es n))
    where
      by : (b : Bool) → named (if b then es else es ++ (n, t) ∷ []) name ≡ None
      by true = e
      by false = none-one-more es n t name e other

  new-one-more : (es : List (ℕ × V)) (n : ℕ) (t : V) → named es n ≡ None → named (es ++ (n, t) ∷ []) n ≡ Some t
  new-one-more [] n t e = cond-true (nat_eq n n) _ _ (eq-eqb n n refl)
  new-one-more (x ∷ es) n t e = by (nat_eq n x.0) e (new-one-more es n t)
    where
      by : (b : Bool) → cond b (Some x.1) (named es n) ≡ None → (named es n ≡ None → named (es ++ (n, t) ∷ []) n ≡ Some t) → cond b (Some x.1) (named (es ++ (n, t) ∷ []) n) ≡ Some t
      by true f later = absurd (none-some x.1 (sym f))
      by false f later = later f

  pub new-with : (es : List (ℕ × V)) (n : ℕ) (t : V) → named es n ≡ None → named (with_name es n t) n ≡ Some t
  new-with es n t e = ap (λ (o : Option V). named (if is_some o then es else es ++ (n, t) ∷ []) n) e ∙ new-one-more es n t e

-- ---- the first member of a name is the first word of it, if it is a word

module _ (known : Declared) (name : ℕ) where
  abbrev Members : ClassInfo → Access → ℕ → ℕ → List p.ItemTree → Option MemberInfo
  Members info shown count n is = named (with_items (record { info = info; shown = shown; count = count; numbered = n }) is).info.members name

  abbrev IsNamed : CoreWord → Bool
  IsNamed w = nat_eq w.name name

  abbrev kind_found : List CoreWord → Option NumKind
  kind_found ws = option_map (λ (w : CoreWord). w.kind) (find IsNamed ws)

  stays-named : (is : List p.ItemTree) (info : ClassInfo) (shown : Access) (count n : ℕ) (m : MemberInfo) → named info.members name ≡ Some m → Members info shown count n is ≡ Some m
  stays-named [] info shown count n m e = e
  stays-named (p.label at access ∷ is) info shown count n m e = stays-named is info access (suc count) n m e
  stays-named (p.function f ∷ is) info shown count n m e =
      stays-named is (with_method (record { info = info; shown = shown; count = count; numbered = n }) f).info shown (suc count) (suc n) m e
  stays-named (p.ctor f ∷ is) info shown count n m e =
      stays-named is (with_ctor (record { info = info; shown = shown; count = count; numbered = n }) f.params).info shown (suc count) (suc n) m e
  stays-named (p.dtor f ∷ is) info shown count n m e =
      stays-named is (with_dtor (record { info = info; shown = shown; count = count; numbered = n })).info shown (suc count) (suc n) m e
  stays-named (p.member x ∷ is) info shown count n m e =
      stays-named is (with_member (record { info = info; shown = shown; count = count; numbered = n }) x).info shown (suc count) n m
      (some-with info.members x.name.item.0 (record { type_name = x.type_name.item; access = shown }) name m e)

  word-here : (first : ℕ) (kind : NumKind) (rest : List CoreWord) → nat_eq first name ≡ true → (o : Option NumKind) → o ≡ Some kind → kind_found (k.word_by first o rest) ≡ Some kind
  word-here first kind rest t None e = absurd (none-some kind e)
  word-here first kind rest t (Some j) e = ap (λ b. option_map (λ (w : CoreWord). w.kind) (cond b (Some (record { name = first; kind = j })) (find IsNamed rest))) t ∙ e

  word-later : (first : ℕ) (o : Option NumKind) (rest : List CoreWord) → nat_eq first name ≡ false → kind_found (k.word_by first o rest) ≡ kind_found rest
  word-later first None rest t = refl
  word-later first (Some j) rest t = ap (λ b. option_map (λ (w : CoreWord). w.kind) (cond b (Some (record { name = first; kind = j })) (find IsNamed rest))) t

  other-way : (a b : ℕ) (x : Bool) → nat_eq a b ≡ x → nat_eq b a ≡ x
  other-way a b true e = eq-eqb b a (sym (eqb-true a b e))
  other-way a b false e = by (nat_eq b a) refl
    where
      by : (y : Bool) → nat_eq b a ≡ y → nat_eq b a ≡ false
      by false f = f
      by true f = let t : nat_eq a b ≡ true = eq-eqb a b (sym (eqb-true b a f)) in let z : true ≡ false = sym t ∙ e in absurd (cc)

  module _ (x : Member) (is : List p.ItemTree) (info : ClassInfo) (shown : Access) (count n : ℕ) (m : MemberInfo) (kind : NumKind) (new : named info.members name ≡ None)
      (q : kind_named known m.type_name ≡ Some kind) where
    abbrev entry : MemberInfo
    entry = record { type_name = x.type_name.item; access = shown }

    abbrev after : ClassInfo
    after = (with_member (record { info = info; shown = shown; count = count; numbered = n }) x).info

    abbrev Later : Type 0
    Later = named after.members name ≡ None → kind_found (k.words known is) ≡ Some kind

    of-member : (b : Bool) → nat_eq x.name.item.0 name ≡ b → Members after shown (suc count) n is ≡ Some m → Later
        → kind_found (k.word_by x.name.item.0 (kind_named known x.type_name.item) (k.words known is)) ≡ Some kind
    of-member true t e later =
        let same : x.name.item.0 ≡ name = eqb-true x.name.item.0 name t in
        let here : named (with_name info.members x.name.item.0 entry) name ≡ Some entry =
        subst (λ z. named (with_name info.members x.name.item.0 entry) z ≡ Some entry) same
        (new-with info.members x.name.item.0 entry (ap (named info.members) same ∙ new)) in
        let found : entry ≡ m = same_Some entry m (sym (stays-named is after shown (suc count) n entry here) ∙ e) in
        word-here x.name.item.0 kind (k.words known is) t (kind_named known x.type_name.item) (ap (λ (y : MemberInfo). kind_named known y.type_name) found ∙ q)
    of-member false t e later =
        word-later x.name.item.0 (kind_named known x.type_name.item) (k.words known is) t
        ∙ later (none-with info.members x.name.item.0 entry name new (other-way x.name.item.0 name false t))

  first-word : (is : List p.ItemTree) (info : ClassInfo) (shown : Access) (count n : ℕ) (m : MemberInfo) (kind : NumKind) → named info.members name ≡ None
      → Members info shown count n is ≡ Some m → kind_named known m.type_name ≡ Some kind → kind_found (k.words known is) ≡ Some kind
  first-word [] info shown count n m kind new e q = absurd (none-some m (sym new ∙ e))
  first-word (p.label at access ∷ is) info shown count n m kind new e q = first-word is info access (suc count) n m kind new e q
  first-word (p.function f ∷ is) info shown count n m kind new e q =
      first-word is (with_method (record { info = info; shown = shown; count = count; numbered = n }) f).info shown (suc count) (suc n) m kind new e q
  first-word (p.ctor f ∷ is) info shown count n m kind new e q =
      first-word is (with_ctor (record { info = info; shown = shown; count = count; numbered = n }) f.params).info shown (suc count) (suc n) m kind new e q
  first-word (p.dtor f ∷ is) info shown count n m kind new e q =
      first-word is (with_dtor (record { info = info; shown = shown; count = count; numbered = n })).info shown (suc count) (suc n) m kind new e q
  first-word (p.member x ∷ is) info shown count n m kind new e q =
      of-member x is info shown count n m kind new q (nat_eq x.name.item.0 name) refl e
      (λ later. first-word is (with_member (record { info = info; shown = shown; count = count; numbered = n }) x).info shown (suc count) n m kind later e q)

-- ---- the member that is meant

module _ (names : List (List ℕ)) (q : p.ProgramTree) where
  abbrev known : Declared
  known = declared names q

  class-kind : (c : ClassId) (name : ℕ) (m : MemberInfo) (kind : NumKind) (info : ClassInfo) → d.class_at known c ≡ Some info → named info.members name ≡ Some m → kind_named known m.type_name ≡ Some kind
      → IsDeclared (core_program names q) c name kind
  class-kind c name m kind info e f w =
      let r = layouts.pair names q c.0 info e in
      ap (kind_in name) (layouts.at-class names q c.0 info e)
      ∙ first-word known name r.0.items (class_begun r.1 r.0) (default_access r.0.word) 0 r.1.numbered m kind refl
      (ap (λ (y : ClassInfo). named y.members name) (sym r.4) ∙ f) w

  member-kind : (c : ClassId) (name : ℕ) (m : MemberInfo) (kind : NumKind) (o : Option ClassInfo) → d.class_at known c ≡ o → member_by name o ≡ Some m → kind_named known m.type_name ≡ Some kind
      → IsDeclared (core_program names q) c name kind
  member-kind c name m kind None e f w = absurd (none-some m f)
  member-kind c name m kind (Some info) e f w = class-kind c name m kind info e f w

  pub member-declared : (class : ClassId) (name : ℕ) (found : ClassId × MemberInfo) (kind : NumKind) → member_named known class name ≡ Some found → kind_named known found.1.type_name ≡ Some kind
      → IsDeclared (core_program names q) found.0 name kind
  member-declared class name found kind e w =
      let at = topmost-found (λ c. member_by name (d.class_at known c)) (lineage known class) None (λ r f. absurd (none-some r f)) found e in
      member-kind found.0 name found.1 kind (d.class_at known found.0) refl at w
