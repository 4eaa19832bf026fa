-- Declarations to which others are added: what is looked up by a program's own names is found as before, but for the
-- numbers of functions.
use Rattle.std.proofs.Common.{◌≡◌, refl, sym, ap, ◌∙◌, ℕ, zero, suc, Bool, true, false, if◌then◌else◌, List, [], ◌∷◌, Option, Some, None, option_map, is_some}
use Rattle.std.proofs.Math.Path.{fun_ext}
use Rattle.std.specs.List.{list_any}
use Rattle.agxx_base.specs.declared.ids.ClassId.{ClassId}
use Rattle.cxx_tree.specs.declared.program.TypeName.{TypeName}
use Rattle.cxx_tree.specs.declared.program.TypeName.TheVariants as type_name
use Rattle.cxx_tree.specs.declared.expr.Ref.{Ref}
use Rattle.cxx_names.specs.declared.declarations.Signature.{Signature}
use Rattle.cxx_names.specs.declared.declarations.ClassInfo.{ClassInfo}
use Rattle.cxx_names.specs.declared.declarations.GlobalInfo.{GlobalInfo}
use Rattle.cxx_names.specs.declared.declarations.GlobalInfo.TheVariants as info
use Rattle.cxx_names.specs.declared.declarations.Declared.{Declared}
use Rattle.cxx_names.specs.declared.types.Thing.{Thing}
use Rattle.cxx_names.specs.declared.types.Thing.TheVariants as thing
use Rattle.cxx_names.specs.declared.types.Variable.TheVariants as variable_of
use Rattle.cxx_names.specs.Declarations.{class_named, class_at}
use Rattle.cxx_names.specs.LookUp as look
use Rattle.cxx_names.specs.Tables.{named}

-- ---- functions but for their numbers

abbrev pub plain : Signature → Signature
plain f = record f { id = record { 0 = 0 } }

abbrev pub plain_found : {A : Type 0} → A × Signature → A × Signature
plain_found f = (f.0, plain f.1)

-- ---- the relation

module _ (Own : ℕ → Type 0) where
  pub record IsWiderClass (before after : ClassInfo) : Type 0 where
    pub name : after.name ≡ before.name
    pub index : after.index ≡ before.index
    pub base : after.base ≡ before.base
    pub ancestors : after.ancestors ≡ before.ancestors
    pub members : (k : ℕ) → Own k → named after.members k ≡ named before.members k
    pub methods : (k : ℕ) → Own k → option_map plain (named after.methods k) ≡ option_map plain
        (named before.methods k)
    pub items : (k : ℕ) → Own k → named after.items k ≡ named before.items k
    pub ctor : option_map plain after.ctor ≡ option_map plain before.ctor
    pub dtor : option_map plain after.dtor ≡ option_map plain before.dtor

  abbrev pub IsWiderAt : Option ClassInfo → Option ClassInfo → Type 0
  IsWiderAt None None = Unit {0}
  IsWiderAt None (Some after) = ⊥
  IsWiderAt (Some before) None = ⊥
  IsWiderAt (Some before) (Some after) = IsWiderClass before after

  pub record IsWider (d e : Declared) : Type 0 where
    pub class_names : e.class_names ≡ d.class_names
    pub first : e.first ≡ d.first
    pub globals : e.globals ≡ d.globals
    pub functions : (k : ℕ) → option_map plain (named e.functions k) ≡ option_map plain (named d.functions k)
    pub classes : (c : ClassId) → IsWiderAt (class_at d c) (class_at e c)

-- ---- what is found farthest up

module _ (find : ClassId → Option Signature) where
  next-plain : (c : ClassId) (o : Option Signature) (found : Option (ClassId × Signature))
      → option_map plain_found (look.or_next (look.found_in c o) found) ≡ look.or_next
      (look.found_in c (option_map plain o)) (option_map plain_found found)
  next-plain c None found = refl
  next-plain c (Some f) found = refl

  topmost-plain : (found : Option (ClassId × Signature)) (cs : List ClassId)
      → option_map plain_found (look.topmost find found cs) ≡ look.topmost (λ c. option_map plain (find c))
      (option_map plain_found found) cs
  topmost-plain found [] = refl
  topmost-plain found (c ∷ cs) =
      topmost-plain (look.or_next (look.found_in c (find c)) found) cs
      ∙ ap (λ o. look.topmost (λ c. option_map plain (find c)) o cs) (next-plain c (find c) found)

-- ---- look-ups

module _ (Own : ℕ → Type 0) (d e : Declared) (w : IsWider Own d e) where
  pub class-same : (k : ℕ) → class_named e k ≡ class_named d k
  class-same k = ap (λ t. named t k) w.class_names

  pub thing-same : (t : TypeName) → look.thing_of e t ≡ look.thing_of d t
  thing-same (type_name.Num kind) = refl
  thing-same type_name.Int = refl
  thing-same type_name.Unsigned = refl
  thing-same type_name.Void = refl
  thing-same (type_name.Pointer class) = ap look.pointer_by (class-same class.0)
  thing-same type_name.Mutex = refl

  base-by : (x y : Option ClassInfo) → IsWiderAt Own x y → look.base_by y ≡ look.base_by x
  base-by None None h = refl
  base-by None (Some after) h = absurd h
  base-by (Some before) None h = absurd h
  base-by (Some before) (Some after) h = h.base

  ancestors-by : (x y : Option ClassInfo) → IsWiderAt Own x y → look.ancestors_by y ≡ look.ancestors_by x
  ancestors-by None None h = refl
  ancestors-by None (Some after) h = absurd h
  ancestors-by (Some before) None h = absurd h
  ancestors-by (Some before) (Some after) h = h.ancestors

  member-by : (k : ℕ) → Own k → (x y : Option ClassInfo) → IsWiderAt Own x y → look.member_by k y ≡ look.member_by k x
  member-by k own None None h = refl
  member-by k own None (Some after) h = absurd h
  member-by k own (Some before) None h = absurd h
  member-by k own (Some before) (Some after) h = h.members k own

  method-by : (k : ℕ) → Own k → (x y : Option ClassInfo) → IsWiderAt Own x y
      → option_map plain (look.method_by k y) ≡ option_map plain (look.method_by k x)
  method-by k own None None h = refl
  method-by k own None (Some after) h = absurd h
  method-by k own (Some before) None h = absurd h
  method-by k own (Some before) (Some after) h = h.methods k own

  item-by : (k : ℕ) → Own k → (x y : Option ClassInfo) → IsWiderAt Own x y
      → look.has_item_by k y ≡ look.has_item_by k x
  item-by k own None None h = refl
  item-by k own None (Some after) h = absurd h
  item-by k own (Some before) None h = absurd h
  item-by k own (Some before) (Some after) h = ap is_some (h.items k own)

  above-same : (n : ℕ) (c : ClassId) → look.above e.classes n c ≡ look.above d.classes n c
  above-same zero c = refl
  above-same (suc n) c =
      ap (look.upwards (λ b. look.above e.classes n b)) (base-by (class_at d c) (class_at e c) (w.classes c))
      ∙ ap (λ above. look.upwards above (look.base_by (class_at d c))) (fun_ext (λ b. above-same n b))

  pub lineage-same : (c : ClassId) → look.lineage e c ≡ look.lineage d c
  lineage-same c =
      ap (λ n. c ∷ look.above e.classes n c) (ancestors-by (class_at d c) (class_at e c) (w.classes c))
      ∙ ap (λ cs. c ∷ cs) (above-same (look.ancestors_by (class_at d c)) c)

  pub derives-same : (c from : ClassId) → look.derives e c from ≡ look.derives d c from
  derives-same c from = ap (list_any (look.same_class from)) (lineage-same c)

  module _ (k : ℕ) (own : Own k) where
    pub member-same : (c : ClassId) → look.member_named e c k ≡ look.member_named d c k
    member-same c =
        ap (λ find. look.topmost find None (look.lineage e c))
        (fun_ext (λ b. member-by k own (class_at d b) (class_at e b) (w.classes b)))
        ∙ ap (look.topmost (λ b. look.member_by k (class_at d b)) None) (lineage-same c)

    pub method-same : (c : ClassId)
        → option_map plain_found (look.method_named e c k) ≡ option_map plain_found (look.method_named d c k)
    method-same c =
        topmost-plain (λ b. look.method_by k (class_at e b)) None (look.lineage e c)
        ∙ (ap (λ find. look.topmost find None (look.lineage e c))
        (fun_ext (λ b. method-by k own (class_at d b) (class_at e b) (w.classes b)))
        ∙ (ap (look.topmost (λ b. option_map plain (look.method_by k (class_at d b))) None) (lineage-same c)
        ∙ sym (topmost-plain (λ b. look.method_by k (class_at d b)) None (look.lineage d c))))

    pub item-same : (c : ClassId) → look.has_item e c k ≡ look.has_item d c k
    item-same c =
        ap (λ has. list_any has (look.lineage e c))
        (fun_ext (λ b. item-by k own (class_at d b) (class_at e b) (w.classes b)))
        ∙ ap (list_any (λ b. look.has_item_by k (class_at d b))) (lineage-same c)

    member-variable-same : (class : Option ClassId) → look.member_variable e class k ≡ look.member_variable d class k
    member-variable-same None = refl
    member-variable-same (Some c) =
        ap (option_map (look.member_as e)) (member-same c)
        ∙ ap (λ view. option_map view (look.member_named d c k))
        (fun_ext (λ m. ap (variable_of.Member m.0 m.1.access) (thing-same m.1.type_name)))

    own-function-same : (class : Option ClassId)
        → option_map plain_found (look.own_function e class k) ≡ option_map plain_found (look.own_function d class k)
    own-function-same None = refl
    own-function-same (Some c) = method-same c

  global-thing-same : (g : GlobalInfo) → look.global_thing e g ≡ look.global_thing d g
  global-thing-same (info.Variable t) = thing-same t
  global-thing-same (info.Object class) = ap thing.Object (class-same class.0)
  global-thing-same info.Mutex = refl

  global-same : (k : ℕ) → look.global_variable e k ≡ look.global_variable d k
  global-same k =
      ap (λ t. option_map (λ g. variable_of.Global (look.global_thing e g)) (named t k)) w.globals
      ∙ ap (λ of. option_map of (named d.globals k)) (fun_ext (λ g. ap variable_of.Global (global-thing-same g)))

  -- a variable's name means the same, where the locals of this name are the same
  pub variable-same : (s t : List (ℕ × Thing)) (class : Option ClassId) (r : Ref) → Own r.name.item.0
      → named t r.name.item.0 ≡ named s r.name.item.0
      → look.variable e t class r ≡ look.variable d s class r
  variable-same s t class r own same =
      let k = r.name.item.0 in
      ap (λ g. if r.global then g else look.or_next (look.local_variable t k)
      (look.or_next (look.member_variable e class k) g)) (global-same k)
      ∙ (ap (λ o. if r.global then look.global_variable d k else look.or_next (option_map variable_of.Local o)
      (look.or_next (look.member_variable e class k) (look.global_variable d k))) same
      ∙ ap (λ m. if r.global then look.global_variable d k else look.or_next (look.local_variable s k)
      (look.or_next m (look.global_variable d k))) (member-variable-same k own class))

  pub free-signature-same : (k : ℕ)
      → option_map plain (look.free_signature e k) ≡ option_map plain (look.free_signature d k)
  free-signature-same k = w.functions k

  abbrev free : Signature → Option ClassId × Signature
  free f = (None, f)

  free-plain-by : (o : Option Signature)
      → option_map (plain_found {A = Option ClassId}) (option_map free o) ≡ option_map free (option_map plain o)
  free-plain-by None = refl
  free-plain-by (Some f) = refl

  free-same : (k : ℕ) → option_map plain_found (look.free_function e k) ≡ option_map plain_found
      (look.free_function d k)
  free-same k =
      free-plain-by (named e.functions k)
      ∙ (ap (option_map free) (w.functions k) ∙ sym (free-plain-by (named d.functions k)))

  by-plain : (m : Option (ClassId × Signature)) (f : Option (Option ClassId × Signature))
      → option_map plain_found (look.function_by m f) ≡ look.function_by (option_map plain_found m)
      (option_map plain_found f)
  by-plain None f = refl
  by-plain (Some m) f = refl

  chosen-plain : (b : Bool) (x y : Option (Option ClassId × Signature))
      → option_map plain_found (if b then x else y) ≡
      (if b then option_map plain_found x else option_map plain_found y)
  chosen-plain true x y = refl
  chosen-plain false x y = refl

  -- a function's name means the same function
  pub function-same : (class : Option ClassId) (r : Ref) → Own r.name.item.0
      → option_map plain_found (look.function e class r) ≡ option_map plain_found (look.function d class r)
  function-same class r own =
      let k = r.name.item.0 in
      chosen-plain r.global (look.free_function e k)
      (look.function_by (look.own_function e class k) (look.free_function e k))
      ∙ (ap (λ x. if r.global then option_map plain_found (look.free_function e k) else x)
      (by-plain (look.own_function e class k) (look.free_function e k))
      ∙ (ap (λ f. if r.global then f else look.function_by (option_map plain_found (look.own_function e class k)) f)
      (free-same k)
      ∙ (ap (λ m. if r.global then option_map plain_found (look.free_function d k) else look.function_by m
      (option_map plain_found (look.free_function d k))) (own-function-same k own class)
      ∙ (ap (λ x. if r.global then option_map plain_found (look.free_function d k) else x)
      (sym (by-plain (look.own_function d class k) (look.free_function d k)))
      ∙ sym (chosen-plain r.global (look.free_function d k)
      (look.function_by (look.own_function d class k) (look.free_function d k)))))))
