-- Whatever declarations a walk goes through, what it has noted before keeps its meaning.
use Rattle.std.proofs.Common.{ℕ, suc, Bool, true, false, not, nat_eq, List, [], ◌∷◌, Option, Some, None}
use Rattle.agxx_base.specs.declared.ids.ClassId.{ClassId}
use Rattle.agxx_base.specs.declared.ids.NameId.{NameId}
use Rattle.agxx_base.specs.declared.rule.Rule.TheVariants as rule
use Rattle.cxx_tree.specs.declared.node.Placed.{Placed}
use Rattle.cxx_tree.specs.declared.program.Const.{Const}
use Rattle.cxx_tree.specs.declared.program.Param.{Param}
use Rattle.cxx_tree.specs.declared.program.TypeName.{TypeName}
use Rattle.cxx_tree.specs.ExprTree as e
use Rattle.cxx_tree.specs.ExprTree.{ExprTrees}
use Rattle.cxx_tree.specs.ProgramTree as p
use Rattle.cxx_tree.specs.ProgramTree.{FunctionTree, InitTree, ItemTree, ClassTree, ObjectTree, GlobalTree, DeclTree}
use Rattle.cxx_names.specs.declared.declarations.ClassInfo.{ClassInfo}
use Rattle.cxx_names.specs.declared.declarations.MemberInfo.{MemberInfo}
use Rattle.cxx_names.specs.Declarations.{class_at}
use Rattle.cxx_names.specs.Tables as tables
use Rattle.cxx_names.specs.Tables.{with_name}
use Rattle.cxx_types.specs.declared.classes.ItemsSeen.{ItemsSeen}
use Rattle.cxx_types.specs.declared.context.Context.{Context}
use Rattle.cxx_types.specs.declared.context.Owner.TheVariants as owner
use Rattle.cxx_types.specs.declared.entry.Entry.{Entry}
use Rattle.cxx_types.specs.declared.programs.DeclsSeen.{DeclsSeen}
use Rattle.cxx_types.specs.State.{State}
use Rattle.cxx_types.specs.Checking.{required}
use Rattle.cxx_types.specs.Calls.{constructed, ctor_in}
use Rattle.cxx_types.specs.Expressions.{count}
use Rattle.cxx_types.specs.Classes as c
use Rattle.cxx_types.specs.Classes.{function, ctor, dtor, member, method, class, names_base, base_params, base_ctor}
use Rattle.cxx_types.specs.Programs as d
use Rattle.cxx_types.specs.Programs.{variable, object, global, outside}
use Rattle.guard_rules.proofs.KeptMeanings.{required_entries}
use Rattle.guard_rules.proofs.WalksKeep.{Keeps, expr_keeps, exprs_keeps, constructed_keeps}
use Rattle.guard_rules.proofs.StatementsKeep.{type_keeps, result_keeps, no_class_keeps, param_declared_keeps, body_keeps}

module _ (es : List Entry) where
  -- ---- functions

  param-keeps : (k : Context) (index : ℕ) (x : Param) (s : State) → Keeps es s → Keeps es (c.param k index x s)
  param-keeps k index x s h = param_declared_keeps es k x.name _ _ (simp required_entries (type_keeps es x.type_name s h))

  pub params_keeps : (k : Context) (index : ℕ) (xs : List Param) (s : State) → Keeps es s → Keeps es (c.params k index xs s)
  params_keeps k index [] s h = h
  params_keeps k index (x ∷ xs) s h = params_keeps k (suc index) xs (c.param k index x s) (param-keeps k index x s h)

  pub function_keeps : (k : Context) (f : FunctionTree) (s : State) → Keeps es s → Keeps es (function k f s)
  unfolding function
  function_keeps k f s h = body_keeps es k f.body _ (params_keeps k 0 f.params _ (result_keeps es f.result s h))

  -- ---- initialisers

  base-keeps : (k : Context) (xs : ExprTrees) (s : State) → Keeps es s → Keeps es (c.base_arguments k xs s)
  base-keeps k e.no_exprs s h = h
  base-keeps k (e.more_exprs first rest) s h = base-keeps k rest _ (simp required_entries h)

  base-init-keeps : (k : Context) (info : ClassInfo) (i : InitTree) (s : State) → Keeps es s → Keeps es (c.base_init k info i s)
  base-init-keeps k info i s h =
      exprs_keeps es k (base_params (base_ctor info s)) true i.arguments _ (base-keeps k i.arguments _ (simp required_entries h))

  arguments-keeps : (k : Context) (name : Placed NameId) (t : TypeName) (xs : ExprTrees) (s : State) → Keeps es s → Keeps es (c.member_arguments k name t xs s)
  arguments-keeps k name t e.no_exprs s h = h
  arguments-keeps k name t (e.more_exprs first rest) s h = exprs_keeps es k [] true rest _ (simp required_entries (expr_keeps es k first s h))

  member-init-keeps : (k : Context) (i : InitTree) (x : Option MemberInfo) (s : State) → Keeps es s → Keeps es (c.member_init k i x s)
  member-init-keeps k i None s h = exprs_keeps es k [] true i.arguments _ (simp required_entries h)
  member-init-keeps k i (Some x) s h = arguments-keeps k i.name x.type_name i.arguments _ (simp required_entries h)

  pub init_by_keeps : (k : Context) (info : ClassInfo) (i : InitTree) (is_base : Bool) (s : State) → Keeps es s → Keeps es (c.init_by k info i is_base s)
  init_by_keeps k info i true s h = base-init-keeps k info i s h
  init_by_keeps k info i false s h = member-init-keeps k i (tables.named info.members i.name.item.0) s h

  pub init_keeps : (k : Context) (base : Option (Placed NameId)) (info : ClassInfo) (before : List (ℕ × ℕ)) (i : InitTree) (s : State) → Keeps es s → Keeps es (c.init k base info before i s)
  init_keeps k base info before i s h = init_by_keeps k info i (names_base base info i.name) _ (simp required_entries h)

  pub inits_keeps : (k : Context) (base : Option (Placed NameId)) (info : ClassInfo) (before : List (ℕ × ℕ)) (xs : List InitTree) (s : State) → Keeps es s → Keeps es (c.inits k base info before xs s)
  inits_keeps k base info before [] s h = h
  inits_keeps k base info before (i ∷ is) s h =
      inits_keeps k base info (with_name before i.name.item.0 0) is (c.init k base info before i s) (init_keeps k base info before i s h)

  -- ---- items of a class

  pub alone_keeps : (name : Placed NameId) (base : Option (Placed NameId)) (info : ClassInfo) (xs : List InitTree) (s : State) → Keeps es s → Keeps es (c.base_alone name base info xs s)
  alone_keeps name base info xs s h = simp required_entries h

  own-keeps : (k : Context) (info : ClassInfo) (index : ℕ) (name : Placed NameId) (s : State) → Keeps es s → Keeps es (c.own_item k info index name s)
  own-keeps k info index name s h = no_class_keeps es k name _ (simp required_entries h)

  item-keeps : (k : Context) (base : Option (Placed NameId)) (info : ClassInfo) (seen : ItemsSeen) (x : ItemTree) (s : State) → Keeps es s → Keeps es (c.item k base info seen x s)
  unfolding ctor dtor member method
  item-keeps k base info seen (p.label at a) s h = h
  item-keeps k base info seen (p.member m) s h =
      own-keeps k info seen.index m.name _ (simp required_entries (type_keeps es m.type_name _ (simp required_entries h)))
  item-keeps k base info seen (p.function f) s h =
      function_keeps (record k { owner = owner.Function f.result.item }) f _ (own-keeps k info seen.index f.name _ (simp required_entries h))
  item-keeps k base info seen (p.ctor x) s h =
      body_keeps es (c.lifecycle k) x.body _
      (inits_keeps (c.lifecycle k) base info [] x.inits _
      (alone_keeps x.name base info x.inits _ (params_keeps (c.lifecycle k) 0 x.params _ (simp required_entries h))))
  item-keeps k base info seen (p.dtor x) s h = body_keeps es (c.lifecycle k) x.body _ (simp required_entries h)

  pub items_keeps : (k : Context) (base : Option (Placed NameId)) (info : ClassInfo) (seen : ItemsSeen) (xs : List ItemTree) (s : State) → Keeps es s → Keeps es (c.items k base info seen xs s)
  items_keeps k base info seen [] s h = h
  items_keeps k base info seen (i ∷ is) s h = items_keeps k base info (c.next_seen i seen) is (c.item k base info seen i s) (item-keeps k base info seen i s h)

  head-keeps : (base : Option (Placed NameId)) (info : ClassInfo) (s : State) → Keeps es s → Keeps es (c.head base info s)
  head-keeps None info s h = simp required_entries h
  head-keeps (Some name) info s h = simp required_entries h

  class-keeps : (seen : DeclsSeen) (x : ClassTree) (o : Option ClassInfo) (s : State) → Keeps es s → Keeps es (d.class_by seen x o s)
  unfolding class
  class-keeps seen x None s h = h
  class-keeps seen x (Some info) s h = items_keeps _ x.base info c.none_seen x.items (c.head x.base info s) (head-keeps x.base info s h)

  -- ---- globals and declarations

  constant-keeps : (t : TypeName) (x : Option (Placed Const)) (s : State) → Keeps es s → Keeps es (d.initialised t x s)
  constant-keeps t None s h = h
  constant-keeps t (Some x) s h = simp required_entries h

  object-keeps : (index : ℕ) (o : ObjectTree) (x : Option ClassId) (s : State) → Keeps es s → Keeps es (d.object_by index o x s)
  object-keeps index o None s h = exprs_keeps es (outside index) [] true o.arguments _ (simp required_entries h)
  object-keeps index o (Some x) s h =
      let f = constructed None x o.name.at (count o.arguments) (ctor_in x s) s in
      exprs_keeps es (outside index) f.1.params true o.arguments _ (simp required_entries (constructed_keeps es None x o.name.at (count o.arguments) (ctor_in x s) s h))

  global-keeps : (index : ℕ) (g : GlobalTree) (s : State) → Keeps es s → Keeps es (d.global_item index g s)
  unfolding variable object
  global-keeps index (p.variable v) s h = constant-keeps v.type_name.item v.initial _ (type_keeps es v.type_name s h)
  global-keeps index (p.object o) s h = object-keeps index o _ s h
  global-keeps index (p.mutex at name) s h = h

  -- the name of a declaration, of which there may be so many
  abbrev named : ℕ → Placed NameId → Bool → State → State
  named index name fits s = d.own_decl index name (required rule.N10 name.at fits s)

  named-keeps : (index : ℕ) (name : Placed NameId) (fits : Bool) (s : State) → Keeps es s → Keeps es (named index name fits s)
  named-keeps index name fits s h = simp required_entries h

  pub decl_keeps : (seen : DeclsSeen) (x : DeclTree) (s : State) → Keeps es s → Keeps es (d.decl seen x s)
  unfolding global
  decl_keeps seen (p.class x) s h = class-keeps seen x (class_at s.declared (record { 0 = seen.classes })) _ (named-keeps seen.index x.name (not (nat_eq seen.classes s.most.classes)) s h)
  decl_keeps seen (p.class_name x) s h = h
  decl_keeps seen (p.free_function f) s h = function_keeps _ f _ (named-keeps seen.index f.name (not (nat_eq seen.functions s.most.functions)) s h)
  decl_keeps seen (p.proto f) s h = h
  decl_keeps seen (p.global g) s h = global-keeps seen.index g _ (named-keeps seen.index (d.global_place g) (not (nat_eq seen.globals s.most.globals)) s h)

  pub decls_keeps : (seen : DeclsSeen) (xs : List DeclTree) (s : State) → Keeps es s → Keeps es (d.decls seen xs s)
  decls_keeps seen [] s h = h
  decls_keeps seen (x ∷ xs) s h = decls_keeps (d.next_seen x seen) xs (d.decl seen x s) (decl_keeps seen x s h)
