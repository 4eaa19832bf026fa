-- The core form of a program keeps where its nodes are numbered anew.
use Rattle.std.proofs.Common.{◌≡◌, ◌∙◌, ℕ, suc, refl, List, [], ◌∷◌, Option, if◌then◌else◌}
use Rattle.agxx_base.specs.declared.ids.ClassId.{ClassId}
use Rattle.agxx_base.specs.declared.ids.NameId.{NameId}
use Rattle.cxx_tree.specs.declared.node.Placed.{Placed}
use Rattle.cxx_tree.specs.ProgramTree as p
use Rattle.cxx_normal.specs.Numbers as n
use Rattle.cxx_names.specs.declared.declarations.Declared.{Declared}
use Rattle.cxx_names.specs.Declarations.{class_named, declared}
use Rattle.cxx_core.specs.CoreStmt as cs
use Rattle.cxx_core.specs.CoreStmt.{CoreStmts}
use Rattle.cxx_core.specs.CoreProgram.{CoreFunction}
use Rattle.cxx_core.specs.Meanings.{Scope, Within, type_named, kind_named}
use Rattle.cxx_core.specs.ElaboratedStmt.{core_block}
use Rattle.cxx_core.specs.ElaboratedProgram as k
use Rattle.core_laws.specs.Laws.{NumberingKeepsCore}
use Rattle.core_laws.proofs.RenumberedExprs.{expr-kept, exprs-kept}
use Rattle.core_laws.proofs.RenumberedStmts.{stmt-kept, block-kept}
use Rattle.core_laws.proofs.RenumberedNames.{declared-kept}

-- ---- functions

function-kept : (w : Within) (f : p.FunctionTree) (m : ℕ) → k.core_function w (n.number_function f m).0 ≡ k.core_function w f
function-kept w f m =
    λ i. record (k.core_function w f) {
      body = block-kept (record w { result = type_named w.declared f.result.item }) (k.params_scope w.declared f.params) f.body m i;
    }

module _ (w : Within) (scope : Scope) (base : Option (Placed NameId)) where
  arguments-kept : (xs : List p.InitTree) (m : ℕ) → k.base_arguments w scope base (n.number_each n.number_init xs m).0 ≡ k.base_arguments w scope base xs
  arguments-kept [] m = refl
  arguments-kept (x ∷ xs) m =
      λ i. if k.is_named base x.name.item then exprs-kept w scope x.arguments m i else arguments-kept xs (n.number_init x m).1 i

others-kept : (base : Option (Placed NameId)) (xs : List p.InitTree) (m : ℕ) (body : CoreStmts) → k.others_wrong base (n.number_each n.number_init xs m).0 body ≡ k.others_wrong base xs body
others-kept base [] m body = refl
others-kept base (x ∷ xs) m body =
    λ i. if k.is_named base x.name.item then others-kept base xs (n.number_init x m).1 body i
    else cs.more_stmts (cs.wrong x.name.at) (others-kept base xs (n.number_init x m).1 body i)

ctor-kept : (w : Within) (base : Option (Placed NameId)) (f : p.CtorTree) (m : ℕ) → k.core_ctor w base (n.number_ctor f m).0 ≡ k.core_ctor w base f
ctor-kept w base f m =
    let scope = k.params_scope w.declared f.params in
    let inits = n.number_each n.number_init f.inits m in
    (λ i. record (k.core_ctor w base f) {
      base_arguments = arguments-kept w scope base f.inits m i;
      body = others-kept base f.inits m (core_block w scope (n.number_block f.body inits.1).0) i;
    })
    ∙ (λ i. record (k.core_ctor w base f) { body = k.others_wrong base f.inits (block-kept w scope f.body inits.1 i) })

dtor-kept : (w : Within) (f : p.DtorTree) (m : ℕ) → k.core_dtor w (n.number_dtor f m).0 ≡ k.core_dtor w f
dtor-kept w f m = λ i. record (k.core_dtor w f) { body = block-kept w [] f.body m i }

module _ (w : Within) (base : Option (Placed NameId)) where
  item-kept : (x : p.ItemTree) (m : ℕ) (rest : List CoreFunction) → k.item_functions w base (n.number_item x m).0 rest ≡ k.item_functions w base x rest
  item-kept (p.label at access) m rest = refl
  item-kept (p.member x) m rest = refl
  item-kept (p.function f) m rest = λ i. function-kept w f m i ∷ rest
  item-kept (p.ctor f) m rest = λ i. ctor-kept w base f m i ∷ rest
  item-kept (p.dtor f) m rest = λ i. dtor-kept w f m i ∷ rest

  items-kept : (xs : List p.ItemTree) (m : ℕ) (rest : List CoreFunction) → k.items_functions w base (n.number_each n.number_item xs m).0 rest ≡ k.items_functions w base xs rest
  items-kept [] m rest = refl
  items-kept (x ∷ xs) m rest =
      item-kept x m (k.items_functions w base (n.number_each n.number_item xs (n.number_item x m).1).0 rest)
      ∙ (λ i. k.item_functions w base x (items-kept xs (n.number_item x m).1 rest i))

-- ---- classes

words-kept : (d : Declared) (xs : List p.ItemTree) (m : ℕ) → k.words d (n.number_each n.number_item xs m).0 ≡ k.words d xs
words-kept d [] m = refl
words-kept d (p.label at access ∷ xs) m = words-kept d xs m
words-kept d (p.member x ∷ xs) m = λ i. k.word_by x.name.item.0 (kind_named d x.type_name.item) (words-kept d xs m i)
words-kept d (p.function f ∷ xs) m = words-kept d xs (n.number_item (p.function f) m).1
words-kept d (p.ctor f ∷ xs) m = words-kept d xs (n.number_item (p.ctor f) m).1
words-kept d (p.dtor f ∷ xs) m = words-kept d xs (n.number_item (p.dtor f) m).1

mutexes-kept : (xs : List p.ItemTree) (m : ℕ) → k.mutexes (n.number_each n.number_item xs m).0 ≡ k.mutexes xs
mutexes-kept [] m = refl
mutexes-kept (p.label at access ∷ xs) m = mutexes-kept xs m
mutexes-kept (p.member x ∷ xs) m = λ i. k.mutex_by x.name.item.0 x.type_name.item (mutexes-kept xs m i)
mutexes-kept (p.function f ∷ xs) m = mutexes-kept xs (n.number_item (p.function f) m).1
mutexes-kept (p.ctor f ∷ xs) m = mutexes-kept xs (n.number_item (p.ctor f) m).1
mutexes-kept (p.dtor f ∷ xs) m = mutexes-kept xs (n.number_item (p.dtor f) m).1

class-kept : (d : Declared) (class : ClassId) (x : p.ClassTree) (m : ℕ) → k.core_class d class (n.number_class x m).0 ≡ k.core_class d class x
class-kept d class x m =
    λ i. record (k.core_class d class x) { words = words-kept d x.items m i; mutexes = mutexes-kept x.items m i }

-- ---- globals

global-kept : (w : Within) (x : p.GlobalTree) (m : ℕ) → k.core_global w (n.number_global x m).0 ≡ k.core_global w x
global-kept w (p.variable v) m = refl
global-kept w (p.object o) m =
    λ i. k.object_as o.class.at o.name.item.0 (class_named w.declared o.class.item.0) (exprs-kept w [] o.arguments m i)
global-kept w (p.mutex at name) m = refl

-- ---- programs

after-kept : (next : ℕ) (x : p.DeclTree) (m : ℕ) → k.after_decl next (n.number_decl x m).0 ≡ k.after_decl next x
after-kept next (p.class x) m = refl
after-kept next (p.class_name x) m = refl
after-kept next (p.free_function f) m = refl
after-kept next (p.proto f) m = refl
after-kept next (p.global g) m = refl

module _ (w : Within) where
  decl-functions-kept : (next : ℕ) (x : p.DeclTree) (m : ℕ) (rest : List CoreFunction) → k.decl_functions w next (n.number_decl x m).0 rest ≡ k.decl_functions w next x rest
  decl-functions-kept next (p.class x) m rest = items-kept (k.in_class w next) x.base x.items m rest
  decl-functions-kept next (p.class_name x) m rest = refl
  decl-functions-kept next (p.free_function f) m rest = λ i. function-kept w f m i ∷ rest
  decl-functions-kept next (p.proto f) m rest = refl
  decl-functions-kept next (p.global g) m rest = refl

  functions-kept : (next : ℕ) (xs : List p.DeclTree) (m : ℕ) → k.decls_functions w next (n.number_each n.number_decl xs m).0 ≡ k.decls_functions w next xs
  functions-kept next [] m = refl
  functions-kept next (x ∷ xs) m =
      let others = n.number_each n.number_decl xs (n.number_decl x m).1 in
      decl-functions-kept next x m (k.decls_functions w (k.after_decl next (n.number_decl x m).0) others.0)
      ∙ (λ i. k.decl_functions w next x (k.decls_functions w (after-kept next x m i) others.0))
      ∙ (λ i. k.decl_functions w next x (functions-kept (k.after_decl next x) xs (n.number_decl x m).1 i))

  globals-kept : (xs : List p.DeclTree) (m : ℕ) → k.decls_globals w (n.number_each n.number_decl xs m).0 ≡ k.decls_globals w xs
  globals-kept [] m = refl
  globals-kept (p.class x ∷ xs) m = globals-kept xs (n.number_decl (p.class x) m).1
  globals-kept (p.class_name x ∷ xs) m = globals-kept xs m
  globals-kept (p.free_function f ∷ xs) m = globals-kept xs (n.number_decl (p.free_function f) m).1
  globals-kept (p.proto f ∷ xs) m = globals-kept xs m
  globals-kept (p.global g ∷ xs) m = λ i. global-kept w g m i ∷ globals-kept xs (n.number_decl (p.global g) m).1 i

classes-kept : (d : Declared) (next : ℕ) (xs : List p.DeclTree) (m : ℕ) → k.decls_classes d next (n.number_each n.number_decl xs m).0 ≡ k.decls_classes d next xs
classes-kept d next [] m = refl
classes-kept d next (p.class x ∷ xs) m =
    λ i. class-kept d (record { 0 = next }) x m i ∷ classes-kept d (suc next) xs (n.number_decl (p.class x) m).1 i
classes-kept d next (p.class_name x ∷ xs) m = classes-kept d next xs m
classes-kept d next (p.free_function f ∷ xs) m = classes-kept d next xs (n.number_decl (p.free_function f) m).1
classes-kept d next (p.proto f ∷ xs) m = classes-kept d next xs m
classes-kept d next (p.global g ∷ xs) m = classes-kept d next xs (n.number_decl (p.global g) m).1

decls-kept : (names : List (List ℕ)) (d : Declared) (xs : List p.DeclTree) (m : ℕ) → k.core_decls names d (n.number_each n.number_decl xs m).0 ≡ k.core_decls names d xs
decls-kept names d xs m =
    λ i. record (k.core_decls names d xs) {
      functions = k.numbered_from 0 (functions-kept (k.outside names d) 0 xs m i);
      classes = classes-kept d 0 xs m i;
      globals = globals-kept (k.outside names d) xs m i;
    }

program-kept : (names : List (List ℕ)) (q : p.ProgramTree) → k.core_program names (n.numbered_program q) ≡ k.core_program names q
program-kept names q =
    (λ i. k.core_decls names (declared-kept names q i) (n.number_each n.number_decl q.decls 0).0)
    ∙ decls-kept names (declared names q) q.decls 0

pub kept : NumberingKeepsCore
kept = record {
  of_declared = declared-kept;
  of_program = program-kept;
  of_expr = expr-kept;
  of_exprs = exprs-kept;
  of_stmt = stmt-kept;
  of_block = block-kept;
}
