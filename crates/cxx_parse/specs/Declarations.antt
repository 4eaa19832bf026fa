-- The descent over the words of declarations.
use Rattle.std.specs.Prelude.{ℕ, if◌then◌else◌, nat_eq, List, [], Option, Some, None}
use Rattle.agxx_base.specs.declared.place.Place.{Place}
use Rattle.agxx_base.specs.declared.ids.NameId.{NameId}
use Rattle.agxx_base.specs.declared.vocabulary.Keyword.{Keyword}
use Rattle.agxx_base.specs.declared.vocabulary.Keyword.TheVariants as k
use Rattle.agxx_base.specs.declared.vocabulary.Sign.TheVariants as sg
use Rattle.cxx_tree.specs.declared.node.Placed.{Placed}
use Rattle.cxx_tree.specs.declared.program.TypeName.{TypeName}
use Rattle.cxx_tree.specs.declared.program.ClassWord.TheVariants as class_word_of
use Rattle.cxx_tree.specs.declared.program.Const.{Const}
use Rattle.cxx_tree.specs.declared.program.Param.{Param}
use Rattle.cxx_tree.specs.Words as w
use Rattle.cxx_tree.specs.Words.{Word}
use Rattle.cxx_tree.specs.ExprTree.{ExprTree, listed_exprs}
use Rattle.cxx_tree.specs.ProgramTree as p
use Rattle.cxx_tree.specs.ProgramTree.{DeclTree}
use Rattle.cxx_expr.specs.declared.stop.Stop.TheVariants.{Syntax}
use Rattle.cxx_expr.specs.Tokens.{Tokens, next, sees, after}
use Rattle.cxx_expr.specs.Outcome.{done, failed, Parse, and_then}
use Rattle.cxx_expr.specs.Lefts.{name}
use Rattle.cxx_stmt.specs.declared.dialect.Dialect.{Dialect}
use Rattle.cxx_stmt.specs.Parts.{sign_at, ended_by, in_parens, expressions}
use Rattle.cxx_stmt.specs.Types.{word_type, pointer_to, params}
use Rattle.cxx_parse.specs.Constants.{constant}
use Rattle.cxx_parse.specs.Classes.{mutex_name, body_of, class}

-- ---- variables and mutexes

abbrev pub variable_of : Placed TypeName → Placed NameId → Option (Placed Const) → DeclTree
variable_of t n value = p.global (p.variable (record { type_name = t; name = n; initial = value }))

abbrev pub constant_by : Option Place → Parse Tokens (Option (Placed Const))
constant_by None ts = done None ts
constant_by (Some at) ts = and_then (constant (after ts)) (λ c. done (Some (record { at = at; item = c })))

-- the initial value of a variable, if it has one
unfoldable pub initial_constant : Parse Tokens (Option (Placed Const))
initial_constant ts = constant_by (sign_at sg.Assign ts) ts

-- behind the type and the name of a variable
unfoldable pub variable : Placed TypeName → Placed NameId → Parse Tokens DeclTree
variable t n ts = and_then (initial_constant ts) (λ value. ended_by sg.Semicolon (variable_of t n value))

-- a global mutex, behind `std ::`
unfoldable pub mutex : Dialect → Place → Parse Tokens DeclTree
mutex d at ts = and_then (mutex_name d ts) (λ n. ended_by sg.Semicolon (p.global (p.mutex at n)))

-- Full expressions have so many operators at most.
module _ (most : ℕ) (d : Dialect) where
  -- ---- functions, prototypes and variables

  -- behind the parameters
  unfoldable pub function_or_proto : ℕ → Placed TypeName → Placed NameId → List Param → Parse Tokens DeclTree
  function_or_proto depth t n qs ts =
      if sees sg.Semicolon ts then done (p.proto (record { result = t; name = n; params = qs })) (after ts)
      else and_then (body_of most d depth t n qs ts) (λ f. done (p.free_function f))

  -- behind a type and a name
  unfoldable pub typed_decl : ℕ → Placed TypeName → Placed NameId → Parse Tokens DeclTree
  typed_decl depth t n ts = if sees sg.OpenParen ts then and_then (params depth ts) (function_or_proto depth t n) else variable t n ts

  -- behind a type
  unfoldable pub decl_of_type : ℕ → Placed TypeName → Parse Tokens DeclTree
  decl_of_type depth t ts = and_then (name ts) (typed_decl depth t)

  -- ---- objects

  -- the arguments of a global object, if it has some
  unfoldable pub object_arguments : ℕ → Parse Tokens (List ExprTree)
  object_arguments depth ts = if sees sg.OpenParen ts then in_parens depth (λ below. expressions most below) ts else done [] ts

  -- behind the class and the name of an object
  unfoldable pub object_of : ℕ → Placed NameId → Placed NameId → Parse Tokens DeclTree
  object_of depth of n ts =
      and_then (object_arguments depth ts) (λ xs. ended_by sg.Semicolon (p.global (p.object (record { class = of; name = n; arguments = listed_exprs xs }))))

  -- behind the class of an object
  unfoldable pub object : ℕ → Placed NameId → Parse Tokens DeclTree
  object depth of ts = and_then (name ts) (object_of depth of)

  -- ---- all of them

  -- behind a name: of an object's class, or of a class in a type; or `std`
  unfoldable pub name_decl : ℕ → Placed NameId → Parse Tokens DeclTree
  name_decl depth n ts =
      if sees sg.Star ts then decl_of_type depth (pointer_to n) (after ts)
      else (if sees sg.ColonColon ts then (if nat_eq n.item.0 d.std.0 then mutex d n.at (after ts) else failed Syntax ts) else object depth n ts)

  abbrev pub decl_of_word : ℕ → Place → Option TypeName → Parse Tokens DeclTree
  decl_of_word depth at (Some t) ts = decl_of_type depth (record { at = at; item = t }) (after ts)
  decl_of_word depth at None ts = failed Syntax ts

  abbrev pub keyword_decl : ℕ → Place → Keyword → Parse Tokens DeclTree
  keyword_decl depth at k.Class ts = class most d depth at class_word_of.Class (after ts)
  keyword_decl depth at k.Struct ts = class most d depth at class_word_of.Struct (after ts)
  keyword_decl depth at word ts = decl_of_word depth at (word_type word) ts

  abbrev pub decl_at : ℕ → Place → Word → Parse Tokens DeclTree
  decl_at depth at (w.keyword word) ts = keyword_decl depth at word ts
  decl_at depth at (w.name n) ts = name_decl depth (record { at = at; item = record { 0 = n } }) (after ts)
  decl_at depth at _ ts = failed Syntax ts

  abbrev pub decl_next : ℕ → Option (Placed Word) → Parse Tokens DeclTree
  decl_next depth None ts = failed Syntax ts
  decl_next depth (Some t) ts = decl_at depth t.at t.item ts

  unfoldable pub decl : ℕ → Parse Tokens DeclTree
  decl depth ts = decl_next depth (next ts) ts
