-- The parts of programs are read as what they are.
use Rattle.std.proofs.Common.{◌≡◌, true, false, ℕ, List, [], ◌∷◌, Option, Some, None, refl}
use Rattle.agxx_base.specs.declared.ids.NameId.{NameId}
use Rattle.agxx_base.specs.declared.vocabulary.Sign.TheVariants as sg
use Rattle.agxx_base.specs.declared.vocabulary.SpecialName.TheVariants as sn
use Rattle.cxx_tree.specs.declared.node.Placed.{Placed}
use Rattle.cxx_tree.specs.declared.program.ClassWord.{ClassWord}
use Rattle.cxx_tree.specs.declared.program.ClassWord.TheVariants as class_word_of
use Rattle.cxx_tree.specs.declared.program.Access.{Access}
use Rattle.cxx_tree.specs.declared.program.Access.TheVariants as access_of
use Rattle.cxx_tree.specs.declared.program.Directive.{Directive}
use Rattle.cxx_tree.specs.declared.program.Directive.TheVariants as directive_of
use Rattle.cxx_tree.specs.declared.program.Const.{Const}
use Rattle.cxx_tree.specs.declared.program.Const.TheVariants as const_of
use Rattle.cxx_tree.specs.declared.program.Param.{Param}
use Rattle.cxx_tree.specs.declared.program.Variable.{Variable}
use Rattle.cxx_tree.specs.Limits.{Grammar, HasAdviceForms, Limits, Every}
use Rattle.cxx_tree.specs.Fits as fits
use Rattle.cxx_tree.specs.ExprTree as e
use Rattle.cxx_tree.specs.ProgramTree as p
use Rattle.cxx_print.specs.Expressions.{typed}
use Rattle.cxx_print.specs.Statements.{optional}
use Rattle.cxx_print.specs.Programs as f
use Rattle.print_laws.proofs.Shapes.{Shape, letters, sign, space, AreApart}
use Rattle.print_laws.proofs.ApartDocuments.{touches, front, Apart, parts-apart, parentheses-apart, ended-apart, line-apart}
use Rattle.print_laws.proofs.ApartExpressions.{parenthesis-opens, type-behind, std-apart, typed-apart, flag-apart, arguments-apart}
use Rattle.print_laws.proofs.ApartStatements.{block-apart}

-- ---- parameters

params-close : (qs : List Param) → touches letters (front (f.params_after_commas qs) (Some (sign sg.CloseParen))) ≡ true
params-close [] = refl
params-close (q ∷ qs) = refl

param-apart : (q : Param) (next : Option Shape) → touches letters next ≡ true → Apart (f.param q) next
param-apart q next is = typed-apart q.type_name q.name next is

params_after_commas-apart : (qs : List Param) → Apart (f.params_after_commas qs) (Some (sign sg.CloseParen))
params_after_commas-apart [] = tt
params_after_commas-apart (q ∷ qs) = (
  (((refl, refl), (refl, refl)), param-apart q (front (f.params_after_commas qs) (Some (sign sg.CloseParen))) (params-close qs)),
  params_after_commas-apart qs,
)

separated_params-apart : (qs : List Param) → Apart (f.separated_params qs) (Some (sign sg.CloseParen))
separated_params-apart [] = tt
separated_params-apart (q ∷ qs) = (param-apart q (front (f.params_after_commas qs) (Some (sign sg.CloseParen))) (params-close qs), params_after_commas-apart qs)

params-in-parentheses : (qs : List Param) → touches (sign sg.OpenParen) (front (f.separated_params qs) (Some (sign sg.CloseParen))) ≡ true
params-in-parentheses [] = refl
params-in-parentheses (q ∷ qs) = type-behind sg.OpenParen parenthesis-opens q.type_name.item (Some space)

params-apart : (qs : List Param) (next : Option Shape) → touches (sign sg.CloseParen) next ≡ true → Apart (f.params qs) next
params-apart qs next is = parentheses-apart (f.separated_params qs) next (params-in-parentheses qs) (separated_params-apart qs) is

-- ---- what stands behind the parameters of a constructor

inits-close : (is : List p.InitTree) → touches (sign sg.CloseParen) (front (f.inits_after_commas is) (Some space)) ≡ true
inits-close [] = refl
inits-close (i ∷ is) = refl

inits-behind : (is : List p.InitTree) → touches (sign sg.CloseParen) (front (f.inits is) (Some space)) ≡ true
inits-behind [] = refl
inits-behind (i ∷ is) = refl

-- ---- heads of classes

class_head-apart : (it : ClassWord) (n : Placed NameId) (next : Option Shape) → touches letters next ≡ true → Apart (f.class_head it n) next
class_head-apart class_word_of.Class n next is = ((refl, refl), ((refl, refl), (refl, is)))
class_head-apart class_word_of.Struct n next is = ((refl, refl), ((refl, refl), (refl, is)))

base-close : (b : Option (Placed NameId)) → touches letters (front (optional f.public_base b) (Some space)) ≡ true
base-close None = refl
base-close (Some b) = refl

base-apart : (b : Option (Placed NameId)) → Apart (optional f.public_base b) (Some space)
base-apart None = tt
base-apart (Some b) = (((refl, refl), ((refl, refl), (refl, refl))), ((refl, refl), ((refl, refl), (refl, refl))))

label-apart : (it : Access) → Apart (f.label it) (Some space)
label-apart access_of.Public = ((refl, refl), (refl, refl))
label-apart access_of.Protected = ((refl, refl), (refl, refl))
label-apart access_of.Private = ((refl, refl), (refl, refl))

-- ---- globals

const-apart : (c : Const) → Apart (f.const c) (Some (sign sg.Semicolon))
const-apart (const_of.Number true n) = ((refl, refl), (refl, refl))
const-apart (const_of.Number false n) = (refl, refl)
const-apart (const_of.Flag is_set) = flag-apart is_set (Some (sign sg.Semicolon)) refl
const-apart const_of.Null = (refl, refl)

initial-close : (c : Option (Placed Const)) → touches letters (front (optional f.constant c) (Some (sign sg.Semicolon))) ≡ true
initial-close None = refl
initial-close (Some c) = refl

initial-apart : (c : Option (Placed Const)) → Apart (optional f.constant c) (Some (sign sg.Semicolon))
initial-apart None = tt
initial-apart (Some c) = (((refl, refl), ((refl, refl), (refl, refl))), const-apart c.item)

variable-apart : (v : Variable) → Apart (f.variable v) (Some space)
variable-apart v = (
  (typed-apart v.type_name v.name (front (optional f.constant v.initial) (Some (sign sg.Semicolon))) (initial-close v.initial), initial-apart v.initial),
  (refl, refl),
)

object_arguments-close : (es : e.ExprTrees) → touches letters (front (f.object_arguments es) (Some (sign sg.Semicolon))) ≡ true
object_arguments-close e.no_exprs = refl
object_arguments-close (e.more_exprs first rest) = refl

-- ---- directives

directives-apart : (ds : List Directive) (next : Option Shape) → Apart (f.directives ds) next
directives-apart [] next = tt
directives-apart (directive_of.Include header ∷ ds) next = (line-apart 0 (f.directive (directive_of.Include header)) (front (f.directives ds) next) (refl, refl), directives-apart ds next)
directives-apart (directive_of.Pragma ∷ ds) next = (line-apart 0 (f.directive directive_of.Pragma) (front (f.directives ds) next) (refl, refl), directives-apart ds next)

module _ (grammar : Grammar) (no_advice : HasAdviceForms grammar → ⊥) (most : ℕ) where
  -- ---- functions, constructors and destructors

  function-apart : (depth level : ℕ) (g : p.FunctionTree) → fits.FitsFunction grammar most depth g → Apart (f.function level g) (Some space)
  function-apart depth level g (plain, params, body) = (
    typed-apart g.result g.name (Some (sign sg.OpenParen)) refl,
    (params-apart g.params (Some space) refl, ((refl, refl), block-apart grammar no_advice most depth level g.body body (Some space) refl)),
  )

  init-apart : (depth : ℕ) (i : p.InitTree) → fits.FitsArguments grammar most depth i.arguments → (next : Option Shape) → touches (sign sg.CloseParen) next ≡ true → Apart (f.init i) next
  init-apart depth i h next is = ((refl, refl), arguments-apart grammar no_advice most depth i.arguments h next is)

  inits_after_commas-apart : (depth : ℕ) (is : List p.InitTree) → Every (λ (i : p.InitTree). fits.FitsArguments grammar most depth i.arguments) is
      → Apart (f.inits_after_commas is) (Some space)
  inits_after_commas-apart depth [] h = tt
  inits_after_commas-apart depth (i ∷ is) (here, there) = (
    (((refl, refl), (refl, refl)), init-apart depth i here (front (f.inits_after_commas is) (Some space)) (inits-close is)),
    inits_after_commas-apart depth is there,
  )

  inits-apart : (depth : ℕ) (is : List p.InitTree) → Every (λ (i : p.InitTree). fits.FitsArguments grammar most depth i.arguments) is
      → Apart (f.inits is) (Some space)
  inits-apart depth [] h = tt
  inits-apart depth (i ∷ is) (here, there) = (
    ((refl, refl), ((refl, refl), (refl, refl))),
    (init-apart depth i here (front (f.inits_after_commas is) (Some space)) (inits-close is), inits_after_commas-apart depth is there),
  )

  ctor-apart : (depth level : ℕ) (c : p.CtorTree) → fits.FitsCtor grammar most depth c → Apart (f.ctor level c) (Some space)
  ctor-apart depth level c (params, inits, body) = (
    (refl, refl),
    (
      params-apart c.params (front (f.inits c.inits) (Some space)) (inits-behind c.inits),
      (inits-apart depth c.inits inits, ((refl, refl), block-apart grammar no_advice most depth level c.body body (Some space) refl)),
    ),
  )

  dtor-apart : (depth level : ℕ) (d : p.DtorTree) → fits.FitsDtor grammar most depth d → Apart (f.dtor level d) (Some space)
  dtor-apart depth level d (opens, body) = (
    (refl, refl),
    ((refl, refl), (((refl, refl), (refl, refl)), ((refl, refl), block-apart grammar no_advice most depth level d.body body (Some space) refl))),
  )

  -- ---- classes

  item-apart : (depth : ℕ) (i : p.ItemTree) → fits.FitsItem grammar most depth i → Apart (f.item i) (Some space)
  item-apart depth (p.label at it) h = label-apart it
  item-apart depth (p.member m) h = ended-apart (typed m.type_name m.name) (Some space) (typed-apart m.type_name m.name (Some (sign sg.Semicolon)) refl) refl
  item-apart depth (p.function g) h = function-apart depth 1 g h
  item-apart depth (p.ctor c) h = ctor-apart depth 1 c h
  item-apart depth (p.dtor d) h = dtor-apart depth 1 d h

  items-apart : (depth : ℕ) (is : List p.ItemTree) → Every (fits.FitsItem grammar most depth) is → (next : Option Shape) → Apart (f.items is) next
  items-apart depth [] h next = tt
  items-apart depth (i ∷ is) (here, there) next =
      (line-apart (f.item_level i) (f.item i) (front (f.items is) next) (item-apart depth i here), items-apart depth is there next)

  class-apart : (depth : ℕ) (c : p.ClassTree) → Every (fits.FitsItem grammar most depth) c.items → Apart (f.class c) (Some space)
  class-apart depth c h = (
    class_head-apart c.word c.name (front (optional f.public_base c.base) (Some space)) (base-close c.base),
    (
      base-apart c.base,
      ((refl, refl), ((refl, refl), ((refl, refl), (items-apart depth c.items h (Some (sign sg.CloseBrace)), ((refl, refl), (refl, refl)))))),
    ),
  )

  -- ---- declarations

  object_arguments-apart : (depth : ℕ) (es : e.ExprTrees) → fits.FitsObjectArguments grammar most depth es → Apart (f.object_arguments es) (Some (sign sg.Semicolon))
  object_arguments-apart depth e.no_exprs h = tt
  object_arguments-apart depth (e.more_exprs first rest) h = arguments-apart grammar no_advice most depth (e.more_exprs first rest) h (Some (sign sg.Semicolon)) refl

  object-apart : (depth : ℕ) (o : p.ObjectTree) → fits.FitsObjectArguments grammar most depth o.arguments → Apart (f.object o) (Some space)
  object-apart depth o h =
      (((refl, refl), ((refl, refl), ((refl, object_arguments-close o.arguments), object_arguments-apart depth o.arguments h))), (refl, refl))

  global-apart : (depth : ℕ) (g : p.GlobalTree) → fits.FitsGlobal grammar most depth g → Apart (f.global g) (Some space)
  global-apart depth (p.variable v) h = variable-apart v
  global-apart depth (p.object o) h = object-apart depth o h
  global-apart depth (p.mutex at n) h = ((std-apart sn.Mutex (Some space) refl refl, ((refl, refl), (refl, refl))), (refl, refl))

  decl-apart : (depth : ℕ) (d : p.DeclTree) → fits.FitsDecl grammar most depth d → Apart (f.decl d) (Some space)
  decl-apart depth (p.class c) (below, opened, h) = class-apart below c h
  decl-apart depth (p.class_name c) h = (class_head-apart c.word c.name (Some (sign sg.Semicolon)) refl, (refl, refl))
  decl-apart depth (p.free_function g) h = function-apart depth 0 g h
  decl-apart depth (p.proto g) h = ((typed-apart g.result g.name (Some (sign sg.OpenParen)) refl, params-apart g.params (Some (sign sg.Semicolon)) refl), (refl, refl))
  decl-apart depth (p.global g) h = global-apart depth g h

  decls-apart : (depth : ℕ) (ds : List p.DeclTree) → Every (fits.FitsDecl grammar most depth) ds → Apart (f.decls ds) None
  decls-apart depth [] h = tt
  decls-apart depth (d ∷ ds) (here, there) = (line-apart 0 (f.decl d) (front (f.decls ds) None) (decl-apart depth d here), decls-apart depth ds there)

pub program-apart : (grammar : Grammar) (limits : Limits) (q : p.ProgramTree) → (HasAdviceForms grammar → ⊥) → fits.FitsProgram grammar limits q → AreApart (f.printed_program q)
program-apart grammar limits q no_advice h =
    parts-apart (f.program q) [] (directives-apart q.directives (front (f.decls q.decls) None), decls-apart grammar no_advice limits.operators limits.nesting q.decls h) tt
