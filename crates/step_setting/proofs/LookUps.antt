-- What the tables hold is what the definitions say.
use Rattle.std.proofs.Common.{◌≡◌, ℕ, suc, ◌+◌, ◌-◌, Bool, true, false, cond, not, nat_eq, List, [], ◌∷◌, ◌++◌, length, Option, Some, None, slice_get, option_map, is_some, refl, sym, ◌∙◌, ap, add-zero, arith}
use Rattle.std.specs.List.{position_or_len, fold}
use Rattle.std.proofs.lemmas.Option.{slice_get-map}
use Rattle.std.proofs.lemmas.Bool.{eqb-true}
use Rattle.agxx_base.specs.declared.ids.ClassId.{ClassId}
use Rattle.cxx_names.specs.Tables.{named, with_name}
use Rattle.cxx_core.specs.CoreProgram as cp
use Rattle.cxx_core.specs.CoreProgram.{CoreWord, CoreClass, CoreGlobal}
use Rattle.step_machine.specs.Setting as m
use Rattle.step_machine.specs.Setting.{Setting, chain, linked, object_among}
use Rattle.step_setting.specs.declared.places.Places.{Places}
use Rattle.step_setting.specs.declared.tables.Sizes.{Sizes}
use Rattle.step_setting.specs.declared.tables.ClassTable.{ClassTable}
use Rattle.step_setting.specs.Places.{number_or, number_in, no_places, with_place, with_places, places}
use Rattle.step_setting.specs.Tables as t
use Rattle.step_setting.specs.Tables.{Agrees}

-- ---- one more name

-- what is found of a name where a pair stands after the rest
abbrev then_found : Option ℕ → Bool → ℕ → Option ℕ
then_found (Some found) same e = Some found
then_found None true e = Some e
then_found None false e = None

found_after : (es : List (ℕ × ℕ)) (x e name : ℕ) → named (es ++ (x, e) ∷ []) name ≡ then_found (named es name) (nat_eq name x) e
found_after [] x e name = elim (nat_eq name x) as (λ b. cond b (Some e) None ≡ then_found None b e) [ true ↦ refl | false ↦ refl ]
found_after (y ∷ es) x e name =
    elim (nat_eq name y.0) as (λ b. cond b (Some y.1) (named (es ++ (x, e) ∷ []) name) ≡ then_found (cond b (Some y.1) (named es name)) (nat_eq name x) e)
    [ true ↦ refl | false ↦ found_after es x e name ]

-- what is found of a name where another stands for a number, if it stood for none
abbrev once_found : Option ℕ → Option ℕ → Bool → ℕ → Option ℕ
once_found (Some other) found same e = found
once_found None found same e = then_found found same e

found_with : (es : List (ℕ × ℕ)) (x e name : ℕ) → named (with_name es x e) name ≡ once_found (named es x) (named es name) (nat_eq name x) e
found_with es x e name =
    elim (named es x) as (λ o. named (cond (is_some o) es (es ++ (x, e) ∷ [])) name ≡ once_found o (named es name) (nat_eq name x) e)
    [ Some v ↦ refl | None ↦ found_after es x e name ]

number_once : (other found : Option ℕ) (same : Bool) (e end : ℕ) → (same ≡ true → found ≡ other) → number_or (once_found other found same e) end ≡ number_or found (cond same e end)
number_once None None true e end h = refl
number_once None None false e end h = refl
number_once None (Some v) same e end h = refl
number_once (Some u) None true e end h = let wrong : None ≡ Some u = h refl in cc
number_once (Some u) None false e end h = refl
number_once (Some u) (Some v) same e end h = refl

number_with : (es : List (ℕ × ℕ)) (x e name end : ℕ) → number_or (named (with_name es x e) name) end ≡ number_or (named es name) (cond (nat_eq name x) e end)
number_with es x e name end =
    rw (found_with es x e name) (number_once (named es x) (named es name) (nat_eq name x) e end (λ h. ap (λ k. named es k) (eqb-true name x h)))

-- ---- names of a list

position_with : (same : Bool) (e n : ℕ) → cond same e (suc e + n) ≡ e + cond (not same) (1 + n) 0
position_with true e n = sym (add-zero e)
position_with false e n = omega arith

number_in-with_places : (p : Places) (names : List ℕ) (name : ℕ) → number_in (with_places p names) name ≡ number_or (named p.found name) (p.end + position_or_len (nat_eq name) names)
number_in-with_places p [] name = ap (λ end. number_or (named p.found name) end) (sym (add-zero p.end))
number_in-with_places p (x ∷ xs) name =
    number_in-with_places (with_place p x) xs name ∙
    (number_with p.found x p.end name (suc p.end + position_or_len (nat_eq name) xs) ∙
    ap (λ end. number_or (named p.found name) end) (position_with (nat_eq name x) p.end (position_or_len (nat_eq name) xs)))

number_in-places : (start : ℕ) (names : List ℕ) (name : ℕ) → number_in (places start names) name ≡ start + position_or_len (nat_eq name) names
number_in-places start names name = number_in-with_places (no_places start) names name

eqb_turned : (a b : ℕ) → nat_eq a b ≡ nat_eq b a
eqb_turned a b = grind arith

position-word_names : (words : List CoreWord) (name : ℕ) → position_or_len (nat_eq name) (t.word_names words) ≡ position_or_len (λ w. nat_eq w.name name) words
position-word_names [] name = refl
position-word_names (w ∷ ws) name =
    rw (eqb_turned name w.name) (ap (λ n. cond (not (nat_eq w.name name)) (1 + n) 0) (position-word_names ws name))

-- ---- classes

with_classes-words : (n : Sizes) (cs : List CoreClass) → (t.with_classes n cs).words ≡ fold (λ a c. a + length c.words) n.words cs
with_classes-words n [] = refl
with_classes-words n (c ∷ cs) = with_classes-words (t.with_class n c) cs

with_classes-mutexes : (n : Sizes) (cs : List CoreClass) → (t.with_classes n cs).mutexes ≡ fold (λ a c. a + length c.mutexes) n.mutexes cs
with_classes-mutexes n [] = refl
with_classes-mutexes n (c ∷ cs) = with_classes-mutexes (t.with_class n c) cs

abbrev sizes_of : List CoreClass → ℕ → CoreClass → Sizes
sizes_of classes n c = t.with_classes (t.with_class t.no_sizes c) (chain classes n c.base)

linked_sizes : (classes : List CoreClass) (n : ℕ) (found : Option CoreClass) → length classes - 1 ≡ n →
    t.sizes_by (option_map (t.class_table classes) found) ≡ t.with_classes t.no_sizes (linked (λ c. chain classes n c) found)
linked_sizes classes n None e = refl
linked_sizes classes n (Some c) e = ap (λ k. sizes_of classes k c) e

sizes_is : (classes : List CoreClass) (class : ClassId) →
    t.sizes_by (slice_get (t.class_tables classes) class.0) ≡ t.with_classes t.no_sizes (chain classes (length classes) (Some class))
sizes_is [] class = refl
sizes_is (c ∷ cs) class =
    ap t.sizes_by (slice_get-map (t.class_table (c ∷ cs)) (c ∷ cs) class.0) ∙
    linked_sizes (c ∷ cs) (length cs) (slice_get (c ∷ cs) class.0) (omega arith)

pub word_count_is : {s : Setting} {tables : List ClassTable} {objects : Places} → Agrees s tables objects → (class : ClassId) →
    (t.sizes_by (slice_get tables class.0)).words ≡ m.word_count s (Some class)
word_count_is {s} h class = rw h.of_classes (
    ap (λ (n : Sizes). n.words) (sizes_is s.program.classes class) ∙
    with_classes-words t.no_sizes (chain s.program.classes (length s.program.classes) (Some class)))

pub mutex_count_is : {s : Setting} {tables : List ClassTable} {objects : Places} → Agrees s tables objects → (class : ClassId) →
    (t.sizes_by (slice_get tables class.0)).mutexes ≡ m.mutex_count s (Some class)
mutex_count_is {s} h class = rw h.of_classes (
    ap (λ (n : Sizes). n.mutexes) (sizes_is s.program.classes class) ∙
    with_classes-mutexes t.no_sizes (chain s.program.classes (length s.program.classes) (Some class)))

word_by_is : (s : Setting) (found : Option CoreClass) (name : ℕ) →
    t.word_by (option_map (t.class_table s.program.classes) found) name ≡ m.word_in s name found
word_by_is s None name = refl
word_by_is s (Some c) name =
    number_in-places (t.sizes_above s.program.classes c).words (t.word_names c.words) name ∙
    rw (position-word_names c.words name, with_classes-words t.no_sizes (chain s.program.classes (length s.program.classes) c.base))

pub word_number_is : {s : Setting} {tables : List ClassTable} {objects : Places} → Agrees s tables objects → (class : ClassId) (name : ℕ) →
    t.word_by (slice_get tables class.0) name ≡ m.word_number s class name
word_number_is {s} h class name = rw h.of_classes (
    ap (λ found. t.word_by found name) (slice_get-map (t.class_table s.program.classes) s.program.classes class.0) ∙
    word_by_is s (slice_get s.program.classes class.0) name)

mutex_by_is : (s : Setting) (found : Option CoreClass) (name : ℕ) →
    t.mutex_by (option_map (t.class_table s.program.classes) found) name ≡ m.mutex_in s name found
mutex_by_is s None name = refl
mutex_by_is s (Some c) name =
    number_in-places (t.sizes_above s.program.classes c).mutexes c.mutexes name ∙
    rw (with_classes-mutexes t.no_sizes (chain s.program.classes (length s.program.classes) c.base))

pub mutex_number_is : {s : Setting} {tables : List ClassTable} {objects : Places} → Agrees s tables objects → (class : ClassId) (name : ℕ) →
    t.mutex_by (slice_get tables class.0) name ≡ m.mutex_number s class name
mutex_number_is {s} h class name = rw h.of_classes (
    ap (λ found. t.mutex_by found name) (slice_get-map (t.class_table s.program.classes) s.program.classes class.0) ∙
    mutex_by_is s (slice_get s.program.classes class.0) name)

-- ---- global objects

objects-with_globals : (p : Places) (gs : List CoreGlobal) (name : ℕ) →
    number_in (t.with_globals p gs) name ≡ number_or (named p.found name) (object_among p.end gs name)
objects-with_globals p [] name = refl
objects-with_globals p (cp.object at x class arguments ∷ gs) name =
    objects-with_globals (with_place p x) gs name ∙ number_with p.found x p.end name (object_among (suc p.end) gs name)
objects-with_globals p (cp.number x v ∷ gs) name = objects-with_globals p gs name
objects-with_globals p (cp.pointer x class ∷ gs) name = objects-with_globals p gs name
objects-with_globals p (cp.mutex x ∷ gs) name = objects-with_globals p gs name
objects-with_globals p (cp.wrong at ∷ gs) name = objects-with_globals p gs name

pub global_object_is : {s : Setting} {tables : List ClassTable} {objects : Places} → Agrees s tables objects → (name : ℕ) →
    number_in objects name ≡ m.global_object s name
global_object_is {s} h name = rw h.of_objects (objects-with_globals (no_places 0) s.program.globals name)
