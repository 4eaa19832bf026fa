-- Where forms of a program delete `this`, going through its classes finds it.
use Rattle.std.proofs.Common.{◌≡◌, ◌||◌, refl, sym, ap, ◌∙◌, ℕ, suc, Bool, true, false, List, [], ◌∷◌, Option, Some, None, if◌then◌else◌}
use Rattle.std.proofs.lemmas.List.{append-nil}
use Rattle.std.specs.List.{list_any}
use Rattle.agxx_base.specs.declared.ids.ClassId.{ClassId}
use Rattle.agxx_base.specs.declared.ids.NameId.{NameId}
use Rattle.cxx_tree.specs.declared.node.Placed.{Placed}
use Rattle.cxx_tree.specs.declared.program.Const.{Const}
use Rattle.cxx_tree.specs.declared.program.Param.{Param}
use Rattle.cxx_tree.specs.ExprTree as e
use Rattle.cxx_tree.specs.ExprTree.{ExprTrees}
use Rattle.cxx_tree.specs.ProgramTree as p
use Rattle.cxx_tree.specs.ProgramTree.{FunctionTree, InitTree, CtorTree, ItemTree, ClassTree, GlobalTree, DeclTree, ProgramTree}
use Rattle.cxx_names.specs.declared.declarations.ClassInfo.{ClassInfo}
use Rattle.cxx_names.specs.declared.declarations.MemberInfo.{MemberInfo}
use Rattle.cxx_names.specs.declared.declarations.Declared.{Declared}
use Rattle.cxx_names.specs.Declarations.{declared, class_at}
use Rattle.cxx_names.specs.LookUp.{above, ancestors_by}
use Rattle.cxx_names.specs.Tables.{named, with_name}
use Rattle.cxx_types.specs.declared.classes.ItemsSeen.{ItemsSeen}
use Rattle.cxx_types.specs.declared.programs.DeclsSeen.{DeclsSeen}
use Rattle.cxx_types.specs.Expressions.{count}
use Rattle.cxx_types.specs.Classes as c
use Rattle.cxx_types.specs.Classes.{base_params, base_ctor_in, names_base, initialises_base}
use Rattle.cxx_types.specs.Programs as d
use Rattle.cxx_rules.specs.Sites.{Site}
use Rattle.cxx_rules.specs.Types.{creatable}
use Rattle.cxx_rules.specs.Forms as form
use Rattle.cxx_rules.specs.Forms.{forms_of}
use Rattle.cxx_rules.specs.StmtForms.{forms_of_optional}
use Rattle.cxx_rules.specs.ProgramForms as f
use Rattle.guards.specs.declared.guard.Guard.{Guard}
use Rattle.guard_rules.specs.Parts.{has_part, info_has_part, holds_part, numbered, in_each}
use Rattle.guard_rules.specs.DeletesItself.{own_holds_part, deletes_itself_at, deletes_itself}
use Rattle.guard_rules.proofs.DeletedThis.{deletes_in_block, deletes_in_item, deletes_in_decls}
use Rattle.guard_rules.proofs.PlacesIn.{joined, if_none}
use Rattle.guard_rules.proofs.Deletes.{found, both_none, behind_none, expr_none, arguments_none, holds, kept, both_kept, body_kept}

module _ (guards : List Guard) where
  params-none : (w : Site) (i : ℕ) (ps : List Param) → found guards (f.forms_of_params w i ps) ≡ []
  params-none w i [] = refl
  params-none w i (x ∷ xs) = params-none (f.with_param w x) (suc i) xs

  function-kept : (w : Site) (x : FunctionTree) → found guards (f.forms_of_function w x) ≡ kept guards w (deletes_in_block x.body)
  function-kept w x = behind_none guards (f.forms_of_params w 0 x.params) _ _ (params-none w 0 x.params) (body_kept guards (f.with_params w x.params) x.body)

  base-none : (w : Site) (xs : ExprTrees) → found guards (f.forms_of_base_arguments w xs) ≡ []
  base-none w e.no_exprs = refl
  base-none w (e.more_exprs first rest) = base-none w rest

  values-none : (w : Site) (name : Placed NameId) (m : Option MemberInfo) (xs : ExprTrees) → found guards (f.forms_of_values w name m xs) ≡ []
  values-none w name None xs = arguments_none guards w [] xs
  values-none w name (Some m) e.no_exprs = refl
  values-none w name (Some m) (e.more_exprs first rest) = both_none guards (forms_of w first) _ (expr_none guards w first) (arguments_none guards w [] rest)

  init-none : (w : Site) (class : ClassInfo) (i : InitTree) (of_base : Bool) → found guards (f.forms_of_init w class i of_base) ≡ []
  init-none w class i true =
      both_none guards (f.forms_of_base_arguments w i.arguments) _ (base-none w i.arguments) (arguments_none guards w (base_params (base_ctor_in w.declared class)) i.arguments)
  init-none w class i false = values-none w i.name (named class.members i.name.item.0) i.arguments

  inits-none : (w : Site) (base : Option (Placed NameId)) (class : ClassInfo) (before : List (ℕ × ℕ)) (xs : List InitTree) → found guards (f.forms_of_inits w base class before xs) ≡ []
  inits-none w base class before [] = refl
  inits-none w base class before (i ∷ is) =
      both_none guards (f.forms_of_init w class i (names_base base class i.name)) _ (init-none w class i (names_base base class i.name)) (inits-none w base class (with_name before i.name.item.0 0) is)

  without-none : (w : Site) (class : ClassInfo) (name : Placed NameId) (is_there : Bool) → found guards (f.forms_without w class name is_there) ≡ []
  without-none w class name true = refl
  without-none w class name false = refl

  ctor-kept : (w : Site) (base : Option (Placed NameId)) (class : ClassInfo) (is_second : Bool) (k : CtorTree) → found guards (f.forms_of_ctor w base class is_second k) ≡ kept guards w (deletes_in_block k.body)
  ctor-kept w base class is_second k =
      let v = f.with_params w k.params in
      behind_none guards (f.forms_of_params w 0 k.params) _ _ (params-none w 0 k.params)
      (behind_none guards (f.forms_without v class k.name (initialises_base base class k.inits)) _ _ (without-none v class k.name (initialises_base base class k.inits))
      (behind_none guards (f.forms_of_inits v base class [] k.inits) _ _ (inits-none v base class [] k.inits) (body_kept guards v k.body)))

  item-kept : (w : Site) (base : Option (Placed NameId)) (class : ClassInfo) (seen : ItemsSeen) (x : ItemTree) → found guards (f.forms_of_item w base class seen x) ≡ kept guards w (deletes_in_item x)
  item-kept w base class seen (p.label at a) = if_none (holds guards w)
  item-kept w base class seen (p.member m) = if_none (holds guards w)
  item-kept w base class seen (p.function x) = function-kept (f.in_function w x.result.item) x
  item-kept w base class seen (p.ctor k) = ctor-kept (f.in_lifecycle w) base class seen.has_ctor k
  item-kept w base class seen (p.dtor k) = body_kept guards (f.in_lifecycle w) k.body

  items-kept : (w : Site) (base : Option (Placed NameId)) (class : ClassInfo) (seen : ItemsSeen) (xs : List ItemTree) → found guards (f.forms_of_items w base class seen xs) ≡ kept guards w (in_each deletes_in_item xs)
  items-kept w base class seen [] = if_none (holds guards w)
  items-kept w base class seen (i ∷ is) =
      both_kept guards w (f.forms_of_item w base class seen i) (f.forms_of_items w base class (c.next_seen i seen) is) _ _ (item-kept w base class seen i) (items-kept w base class (c.next_seen i seen) is)

  -- ---- classes

  -- a class of which nothing is known has no part, nor has one above it
  unknown-holds : (known : Declared) (class : ClassId) → class_at known class ≡ None → holds_part guards known class ≡ false
  unknown-holds known class unknown =
      ap (λ o. info_has_part guards o || list_any (has_part guards known) (above known.classes (ancestors_by o) class)) unknown

  class-kept : (w : Site) (class : ClassId) (k : ClassTree) (o : Option ClassInfo) → w.context.class ≡ Some class → class_at w.declared class ≡ o
      → found guards (f.forms_of_class w k o) ≡ (if holds_part guards w.declared class then in_each deletes_in_item k.items else [])
  class-kept w class k None own unknown = sym (ap (λ b. if b then in_each deletes_in_item k.items else []) (unknown-holds w.declared class unknown))
  class-kept w class k (Some info) own known =
      items-kept w k.base info c.none_seen k.items
      ∙ ap (λ o. if own_holds_part guards w.declared o then in_each deletes_in_item k.items else []) own

  -- ---- declarations

  constant-none : (w : Site) (x : GlobalTree) → found guards (f.forms_of_global w x) ≡ []
  constant-none w (p.variable v) = optional v.initial
    where
      optional : (o : Option (Placed Const)) → found guards (forms_of_optional (f.forms_of_constant w v.type_name.item) o) ≡ []
      optional None = refl
      optional (Some k) = refl
  constant-none w (p.object o) = arguments_none guards w (creatable w o.class (count o.arguments)).params o.arguments
  constant-none w (p.mutex at name) = refl

  decls-kept : (w : Site) (seen : DeclsSeen) (xs : List DeclTree) → found guards (f.forms_of_decls w seen xs) ≡ deletes_in_decls guards w.declared seen.classes xs
  decls-kept w seen [] = refl
  decls-kept w seen (p.class k ∷ xs) =
      joined (deletes_itself_at guards) (f.forms_of_decl w seen (p.class k)) _ _ _
      (class-kept (f.in_class w seen) (numbered seen.classes) k (class_at w.declared (numbered seen.classes)) refl refl)
      (decls-kept w (d.next_seen (p.class k) seen) xs)
  decls-kept w seen (p.class_name k ∷ xs) = decls-kept w (d.next_seen (p.class_name k) seen) xs
  decls-kept w seen (p.free_function x ∷ xs) =
      behind_none guards (f.forms_of_decl w seen (p.free_function x)) _ _ (function-kept (f.in_function (f.in_decl w seen.index) x.result.item) x) (decls-kept w (d.next_seen (p.free_function x) seen) xs)
  decls-kept w seen (p.proto x ∷ xs) = decls-kept w (d.next_seen (p.proto x) seen) xs
  decls-kept w seen (p.global g ∷ xs) =
      behind_none guards (f.forms_of_decl w seen (p.global g)) _ _ (constant-none (f.in_decl w seen.index) g) (decls-kept w (d.next_seen (p.global g) seen) xs)

  pub deletes_found : (names : List (List ℕ)) (q : ProgramTree) → deletes_itself names guards q ≡ deletes_in_decls guards (declared names q) 0 q.decls
  deletes_found names q =
      joined (deletes_itself_at guards) (f.forms_of_decls (f.top names q) d.none_seen q.decls) (form.names q ∷ []) _ [] (decls-kept (f.top names q) d.none_seen q.decls) refl ∙ append-nil _
