-- What stands in functions, classes and programs of which rules speak, in text order.
use Rattle.std.specs.Prelude.{ℕ, suc, Bool, true, false, List, [], ◌∷◌, ◌++◌, Option, Some, None}
use Rattle.agxx_base.specs.declared.ids.NameId.{NameId}
use Rattle.cxx_tree.specs.declared.node.Placed.{Placed}
use Rattle.cxx_tree.specs.declared.program.Const.{Const}
use Rattle.cxx_tree.specs.declared.program.Member.{Member}
use Rattle.cxx_tree.specs.declared.program.Param.{Param}
use Rattle.cxx_tree.specs.declared.program.TypeName.{TypeName}
use Rattle.cxx_tree.specs.ExprTree as e
use Rattle.cxx_tree.specs.ExprTree.{ExprTrees}
use Rattle.cxx_tree.specs.ProgramTree as p
use Rattle.cxx_tree.specs.ProgramTree.{FunctionTree, InitTree, CtorTree, DtorTree, ItemTree, ClassTree, GlobalTree, DeclTree, ProgramTree}
use Rattle.cxx_names.specs.declared.declarations.ClassInfo.{ClassInfo}
use Rattle.cxx_names.specs.declared.declarations.MemberInfo.{MemberInfo}
use Rattle.cxx_names.specs.declared.declarations.Declared.{Declared}
use Rattle.cxx_names.specs.declared.types.Thing.{Thing}
use Rattle.cxx_names.specs.Declarations.{declared, class_at}
use Rattle.cxx_names.specs.LookUp.{thing_of}
use Rattle.cxx_names.specs.Tables.{named, with_name}
use Rattle.cxx_types.specs.declared.classes.ItemsSeen.{ItemsSeen}
use Rattle.cxx_types.specs.declared.context.Owner.TheVariants as owner
use Rattle.cxx_types.specs.declared.programs.DeclsSeen.{DeclsSeen}
use Rattle.cxx_types.specs.Expressions.{count}
use Rattle.cxx_types.specs.Classes as c
use Rattle.cxx_types.specs.Classes.{base_params, base_ctor_in, names_base, initialises_base}
use Rattle.cxx_types.specs.Programs as d
use Rattle.cxx_types.specs.Programs.{outside, global_place}
use Rattle.cxx_rules.specs.Sites.{Site}
use Rattle.cxx_rules.specs.Types.{creatable}
use Rattle.cxx_rules.specs.Forms as form
use Rattle.cxx_rules.specs.Forms.{Form, forms_of, forms_of_arguments}
use Rattle.cxx_rules.specs.StmtForms.{forms_of_body, forms_of_optional}

-- ---- functions

abbrev pub with_param : Site → Param → Site
with_param w f = record w { scope = with_name w.scope f.name.item.0 (thing_of w.declared f.type_name.item) }

abbrev pub scope_with : Declared → List (ℕ × Thing) → List Param → List (ℕ × Thing)
scope_with d scope [] = scope
scope_with d scope (f ∷ fs) = scope_with d (with_name scope f.name.item.0 (thing_of d f.type_name.item)) fs

-- these parameters are in scope
abbrev pub with_params : Site → List Param → Site
with_params w fs = record w { scope = scope_with w.declared w.scope fs }

-- parameters, of which so many stand before
abbrev pub forms_of_params : Site → ℕ → List Param → List Form
forms_of_params w index [] = []
forms_of_params w index (f ∷ fs) =
    form.variable_type w f.type_name ∷ form.counted form.params index f.name.at ∷ form.local_name w f.name ∷ form.apart w f.name
    ∷ forms_of_params (with_param w f) (suc index) fs

abbrev pub forms_of_function : Site → FunctionTree → List Form
forms_of_function w f = form.result_type w f.result ∷ (forms_of_params w 0 f.params ++ forms_of_body (with_params w f.params) f.body)

-- ---- initialisers of a constructor

abbrev pub forms_of_base_arguments : Site → ExprTrees → List Form
forms_of_base_arguments w e.no_exprs = []
forms_of_base_arguments w (e.more_exprs first rest) = form.base_argument w first ∷ forms_of_base_arguments w rest

abbrev pub forms_of_base_init : Site → ClassInfo → InitTree → List Form
forms_of_base_init w class i =
    form.base_initialiser w class i.name (count i.arguments)
    ∷ (forms_of_base_arguments w i.arguments ++ forms_of_arguments w (base_params (base_ctor_in w.declared class)) i.arguments)

-- the first argument is the value
abbrev pub forms_of_values : Site → Placed NameId → Option MemberInfo → ExprTrees → List Form
forms_of_values w name None arguments = forms_of_arguments w [] arguments
forms_of_values w name (Some m) e.no_exprs = []
forms_of_values w name (Some m) (e.more_exprs first rest) =
    forms_of w first ++ (form.member_value w name m.type_name first ∷ forms_of_arguments w [] rest)

abbrev pub forms_of_member_init : Site → ClassInfo → InitTree → List Form
forms_of_member_init w class i =
    form.member_initialiser w class i.name (count i.arguments)
    ∷ forms_of_values w i.name (named class.members i.name.item.0) i.arguments

abbrev pub forms_of_init : Site → ClassInfo → InitTree → Bool → List Form
forms_of_init w class i true = forms_of_base_init w class i
forms_of_init w class i false = forms_of_member_init w class i

-- initialisers, behind those of these names
abbrev pub forms_of_inits : Site → Option (Placed NameId) → ClassInfo → List (ℕ × ℕ) → List InitTree → List Form
forms_of_inits w base class before [] = []
forms_of_inits w base class before (i ∷ is) =
    form.initialiser before i.name
    ∷ (forms_of_init w class i (names_base base class i.name) ++ forms_of_inits w base class (with_name before i.name.item.0 0) is)

-- a base that no initialiser names is constructed without arguments
abbrev pub forms_without : Site → ClassInfo → Placed NameId → Bool → List Form
forms_without w class name true = []
forms_without w class name false = form.without_initialiser w class name ∷ []

-- ---- items of a class

abbrev pub forms_of_ctor : Site → Option (Placed NameId) → ClassInfo → Bool → CtorTree → List Form
forms_of_ctor w base class is_second k =
    form.second is_second k.name ∷ form.lifecycle class k.name
    ∷ (forms_of_params w 0 k.params
    ++ (forms_without (with_params w k.params) class k.name (initialises_base base class k.inits)
    ++ (forms_of_inits (with_params w k.params) base class [] k.inits ++ forms_of_body (with_params w k.params) k.body)))

abbrev pub forms_of_dtor : Site → ClassInfo → Bool → DtorTree → List Form
forms_of_dtor w class is_second k = form.second is_second k.name ∷ form.lifecycle class k.name ∷ forms_of_body w k.body

abbrev pub forms_of_member : Site → ClassInfo → ItemsSeen → Member → List Form
forms_of_member w class seen m =
    form.counted form.members seen.members m.name.at ∷ form.variable_type w m.type_name ∷ form.member_type m.name m.type_name.item
    ∷ form.item_name w class seen.index m.name ∷ form.apart w m.name ∷ []

-- in a function with a result of this type, and in a constructor or destructor
abbrev pub in_function : Site → TypeName → Site
in_function w result = record w { context = record w.context { owner = owner.Function result } }

abbrev pub in_lifecycle : Site → Site
in_lifecycle w = record w { context = record w.context { owner = owner.Lifecycle } }

abbrev pub forms_of_method : Site → ClassInfo → ItemsSeen → FunctionTree → List Form
forms_of_method w class seen f =
    form.counted form.methods seen.methods f.name.at ∷ form.item_name w class seen.index f.name ∷ form.apart w f.name
    ∷ forms_of_function (in_function w f.result.item) f

abbrev pub forms_of_item : Site → Option (Placed NameId) → ClassInfo → ItemsSeen → ItemTree → List Form
forms_of_item w base class seen (p.label at a) = []
forms_of_item w base class seen (p.member m) = forms_of_member w class seen m
forms_of_item w base class seen (p.function f) = forms_of_method w class seen f
forms_of_item w base class seen (p.ctor k) = forms_of_ctor (in_lifecycle w) base class seen.has_ctor k
forms_of_item w base class seen (p.dtor k) = forms_of_dtor (in_lifecycle w) class seen.has_dtor k

-- items, behind so many
abbrev pub forms_of_items : Site → Option (Placed NameId) → ClassInfo → ItemsSeen → List ItemTree → List Form
forms_of_items w base class seen [] = []
forms_of_items w base class seen (i ∷ is) = forms_of_item w base class seen i ++ forms_of_items w base class (c.next_seen i seen) is

-- a class, of which this is known
abbrev pub forms_of_class : Site → ClassTree → Option ClassInfo → List Form
forms_of_class w k None = []
forms_of_class w k (Some class) =
    form.head w k.base class ∷ form.counted form.ancestors class.ancestors class.name.at
    ∷ forms_of_items w k.base class c.none_seen k.items

-- ---- globals

abbrev pub forms_of_constant : Site → TypeName → Placed Const → List Form
forms_of_constant w type k = form.constant w type k ∷ []

abbrev pub forms_of_global : Site → GlobalTree → List Form
forms_of_global w (p.variable v) = form.variable_type w v.type_name ∷ forms_of_optional (forms_of_constant w v.type_name.item) v.initial
forms_of_global w (p.object o) =
    form.object w o ∷ form.object_end w o ∷ forms_of_arguments w (creatable w o.class (count o.arguments)).params o.arguments
forms_of_global w (p.mutex at name) = []

-- ---- declarations

-- in a declaration, of a class, or of a free function
abbrev pub in_decl : Site → ℕ → Site
in_decl w index = record w { context = outside index }

abbrev pub in_class : Site → DeclsSeen → Site
in_class w seen = record w { context = record { class = Some (record { 0 = seen.classes }); owner = owner.Lifecycle; index = seen.index } }

abbrev pub forms_of_decl : Site → DeclsSeen → DeclTree → List Form
forms_of_decl w seen (p.class k) =
    form.counted form.classes seen.classes k.name.at ∷ form.decl_name w seen.index k.name
    ∷ forms_of_class (in_class w seen) k (class_at w.declared (record { 0 = seen.classes }))
forms_of_decl w seen (p.class_name k) = []
forms_of_decl w seen (p.free_function f) =
    form.counted form.functions seen.functions f.name.at ∷ form.decl_name w seen.index f.name
    ∷ forms_of_function (in_function (in_decl w seen.index) f.result.item) f
forms_of_decl w seen (p.proto f) = []
forms_of_decl w seen (p.global g) =
    form.counted form.globals seen.globals (global_place g).at ∷ form.decl_name w seen.index (global_place g)
    ∷ forms_of_global (in_decl w seen.index) g

-- declarations, behind so many
abbrev pub forms_of_decls : Site → DeclsSeen → List DeclTree → List Form
forms_of_decls w seen [] = []
forms_of_decls w seen (x ∷ xs) = forms_of_decl w seen x ++ forms_of_decls w (d.next_seen x seen) xs

-- ---- programs

-- outside of all declarations of a program
abbrev pub top : List (List ℕ) → ProgramTree → Site
top names q = record { names = names; declared = declared names q; context = outside 0; scope = []; locals = 0; returns = 0 }

abbrev pub forms_of_program : List (List ℕ) → ProgramTree → List Form
forms_of_program names q = form.program names q ∷ (forms_of_decls (top names q) d.none_seen q.decls ++ form.names q ∷ [])
