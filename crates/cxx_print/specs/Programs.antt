-- The canonical form of declarations and programs, a line of the grammar each, and the text of a program. Includes and
-- declarations stand in the order that they have in the tree, which the normal form has chosen.
use Rattle.std.specs.Prelude.{ℕ, true, false, List, [], ◌∷◌}
use Rattle.agxx_base.specs.declared.ids.NameId.{NameId}
use Rattle.agxx_base.specs.declared.vocabulary.Keyword.TheVariants as k
use Rattle.agxx_base.specs.declared.vocabulary.Sign.TheVariants as sg
use Rattle.agxx_base.specs.declared.vocabulary.SpecialName.TheVariants as sn
use Rattle.cxx_tree.specs.declared.node.Placed.{Placed}
use Rattle.cxx_tree.specs.declared.program.ClassWord.{ClassWord}
use Rattle.cxx_tree.specs.declared.program.ClassWord.TheVariants as class_word_of
use Rattle.cxx_tree.specs.declared.program.Access.{Access}
use Rattle.cxx_tree.specs.declared.program.Access.TheVariants as access_of
use Rattle.cxx_tree.specs.declared.program.Directive.{Directive}
use Rattle.cxx_tree.specs.declared.program.Directive.TheVariants as directive_of
use Rattle.cxx_tree.specs.declared.program.Const.{Const}
use Rattle.cxx_tree.specs.declared.program.Const.TheVariants as const_of
use Rattle.cxx_tree.specs.declared.program.Member.{Member}
use Rattle.cxx_tree.specs.declared.program.Param.{Param}
use Rattle.cxx_tree.specs.declared.program.Proto.{Proto}
use Rattle.cxx_tree.specs.declared.program.ClassName.{ClassName}
use Rattle.cxx_tree.specs.declared.program.Variable.{Variable}
use Rattle.cxx_tree.specs.Words as w
use Rattle.cxx_tree.specs.ExprTree as e
use Rattle.cxx_tree.specs.ProgramTree as p
use Rattle.cxx_print.specs.Document.{Part, Document, nothing, one, ◌⨾◌, word, newline, line, parts_of}
use Rattle.cxx_print.specs.Expressions.{keyword, sign, name, number, gap, in_parentheses, spaced, comma, ended, flag, std_name, typed, no_arguments, arguments}
use Rattle.cxx_print.specs.Statements.{optional, block}
use Rattle.cxx_print.specs.Texts.{text_of_parts}

abbrev pub class_word : ClassWord → Document
class_word class_word_of.Class = keyword k.Class
class_word class_word_of.Struct = keyword k.Struct

abbrev pub access : Access → Document
access access_of.Public = keyword k.Public
access access_of.Protected = keyword k.Protected
access access_of.Private = keyword k.Private

abbrev pub public_base : Placed NameId → Document
public_base base = spaced sg.Colon ⨾ keyword k.Public ⨾ gap ⨾ name base

abbrev pub param : Param → Document
param q = typed q.type_name q.name

abbrev pub params_after_commas : List Param → Document
params_after_commas [] = nothing
params_after_commas (next ∷ rest) = (comma ⨾ param next) ⨾ params_after_commas rest

-- parameters, with commas between them
abbrev pub separated_params : List Param → Document
separated_params [] = nothing
separated_params (first ∷ rest) = param first ⨾ params_after_commas rest

abbrev pub params : List Param → Document
params qs = in_parentheses (separated_params qs)

abbrev pub member : Member → Document
member m = ended (typed m.type_name m.name)

-- a function in a line of this level
abbrev pub function : ℕ → p.FunctionTree → Document
function level f = typed f.result f.name ⨾ params f.params ⨾ gap ⨾ block level f.body

abbrev pub heading : Proto → Document
heading f = typed f.result f.name ⨾ params f.params

abbrev pub proto : Proto → Document
proto f = ended (heading f)

abbrev pub init : p.InitTree → Document
init i = name i.name ⨾ arguments i.arguments

abbrev pub inits_after_commas : List p.InitTree → Document
inits_after_commas [] = nothing
inits_after_commas (next ∷ rest) = (comma ⨾ init next) ⨾ inits_after_commas rest

-- the initialisers and the colon before them, or nothing
abbrev pub inits : List p.InitTree → Document
inits [] = nothing
inits (first ∷ rest) = spaced sg.Colon ⨾ init first ⨾ inits_after_commas rest

abbrev pub ctor : ℕ → p.CtorTree → Document
ctor level c = name c.name ⨾ params c.params ⨾ inits c.inits ⨾ gap ⨾ block level c.body

abbrev pub dtor : ℕ → p.DtorTree → Document
dtor level d = sign sg.Tilde ⨾ name d.name ⨾ no_arguments ⨾ gap ⨾ block level d.body

abbrev pub label : Access → Document
label it = access it ⨾ sign sg.Colon

-- an item of a class
abbrev pub item : p.ItemTree → Document
item (p.label at it) = label it
item (p.member m) = member m
item (p.function f) = function 1 f
item (p.ctor c) = ctor 1 c
item (p.dtor d) = dtor 1 d

-- labels stand at the column of their class
abbrev pub item_level : p.ItemTree → ℕ
item_level (p.label at it) = 0
item_level (p.member m) = 1
item_level (p.function f) = 1
item_level (p.ctor c) = 1
item_level (p.dtor d) = 1

abbrev pub item_line : p.ItemTree → Document
item_line i = line (item_level i) (item i)

abbrev pub items : List p.ItemTree → Document
items [] = nothing
items (first ∷ rest) = item_line first ⨾ items rest

abbrev pub class_head : ClassWord → Placed NameId → Document
class_head it n = class_word it ⨾ gap ⨾ name n

abbrev pub class_body : List p.ItemTree → Document
class_body inner = sign sg.OpenBrace ⨾ one newline ⨾ items inner ⨾ ended (sign sg.CloseBrace)

abbrev pub class : p.ClassTree → Document
class c = class_head c.word c.name ⨾ optional public_base c.base ⨾ gap ⨾ class_body c.items

abbrev pub class_name : ClassName → Document
class_name c = ended (class_head c.word c.name)

abbrev pub const : Const → Document
const (const_of.Number true n) = sign sg.Minus ⨾ number n
const (const_of.Number false n) = number n
const (const_of.Flag is_set) = flag is_set
const const_of.Null = keyword k.Nullptr

abbrev pub constant : Placed Const → Document
constant c = spaced sg.Assign ⨾ const c.item

abbrev pub declared : Variable → Document
declared v = typed v.type_name v.name ⨾ optional constant v.initial

abbrev pub variable : Variable → Document
variable v = ended (declared v)

-- the arguments of a global object, in parentheses where there are any
abbrev pub object_arguments : e.ExprTrees → Document
object_arguments e.no_exprs = nothing
object_arguments (e.more_exprs first rest) = arguments (e.more_exprs first rest)

abbrev pub named_object : p.ObjectTree → Document
named_object o = name o.class ⨾ gap ⨾ name o.name ⨾ object_arguments o.arguments

abbrev pub object : p.ObjectTree → Document
object o = ended (named_object o)

abbrev pub named_mutex : Placed NameId → Document
named_mutex n = std_name sn.Mutex ⨾ gap ⨾ name n

abbrev pub global : p.GlobalTree → Document
global (p.variable v) = variable v
global (p.object o) = object o
global (p.mutex at n) = ended (named_mutex n)

abbrev pub decl : p.DeclTree → Document
decl (p.class c) = class c
decl (p.class_name c) = class_name c
decl (p.free_function f) = function 0 f
decl (p.proto f) = proto f
decl (p.global g) = global g

abbrev pub decls : List p.DeclTree → Document
decls [] = nothing
decls (first ∷ rest) = line 0 (decl first) ⨾ decls rest

abbrev pub directive : Directive → Document
directive (directive_of.Include header) = one (word (w.include header))
directive directive_of.Pragma = one (word w.pragma)

abbrev pub directives : List Directive → Document
directives [] = nothing
directives (first ∷ rest) = line 0 (directive first) ⨾ directives rest

abbrev pub program : p.ProgramTree → Document
program q = directives q.directives ⨾ decls q.decls

-- the parts of a program's canonical text
abbrev pub printed_program : p.ProgramTree → List Part
printed_program q = parts_of (program q)

-- the canonical text of a program, where these are the texts of its names
abbrev pub text_of : List (List ℕ) → p.ProgramTree → List ℕ
text_of names q = text_of_parts names (printed_program q)
