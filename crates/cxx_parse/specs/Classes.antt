-- The descent over the words of functions and classes.
use Rattle.std.specs.Prelude.{ℕ, ◌&&◌, if◌then◌else◌, nat_eq, List, [], Option, Some, None}
use Rattle.agxx_base.specs.declared.place.Place.{Place}
use Rattle.agxx_base.specs.declared.ids.NameId.{NameId}
use Rattle.agxx_base.specs.declared.vocabulary.Keyword.{Keyword}
use Rattle.agxx_base.specs.declared.vocabulary.Keyword.TheVariants as k
use Rattle.agxx_base.specs.declared.vocabulary.Sign.{Sign}
use Rattle.agxx_base.specs.declared.vocabulary.Sign.TheVariants as sg
use Rattle.cxx_tree.specs.declared.node.Placed.{Placed}
use Rattle.cxx_tree.specs.declared.program.TypeName.{TypeName}
use Rattle.cxx_tree.specs.declared.program.TypeName.TheVariants as type_of
use Rattle.cxx_tree.specs.declared.program.Access.{Access}
use Rattle.cxx_tree.specs.declared.program.Access.TheVariants as access_of
use Rattle.cxx_tree.specs.declared.program.ClassWord.{ClassWord}
use Rattle.cxx_tree.specs.declared.program.Param.{Param}
use Rattle.cxx_tree.specs.Words as w
use Rattle.cxx_tree.specs.Words.{Word}
use Rattle.cxx_tree.specs.ExprTree.{listed_exprs}
use Rattle.cxx_tree.specs.ProgramTree as p
use Rattle.cxx_tree.specs.ProgramTree.{FunctionTree, InitTree, CtorTree, DtorTree, ItemTree, DeclTree}
use Rattle.cxx_expr.specs.declared.stop.Stop.TheVariants.{Syntax}
use Rattle.cxx_expr.specs.Tokens.{Tokens, next, sees, after}
use Rattle.cxx_expr.specs.Outcome.{done, failed, Parse, and_then}
use Rattle.cxx_expr.specs.Lefts.{name}
use Rattle.cxx_stmt.specs.declared.dialect.Dialect.{Dialect}
use Rattle.cxx_stmt.specs.Dialect.{is_woven}
use Rattle.cxx_stmt.specs.Parts.{sees_name, ended_by, opens, no_parts, some, braced, arguments}
use Rattle.cxx_stmt.specs.Types.{word_type, pointer_to, params}
use Rattle.cxx_stmt.specs.Statements.{block}

-- the access that a keyword is
abbrev pub access_word : Keyword → Option Access
access_word k.Public = Some access_of.Public
access_word k.Protected = Some access_of.Protected
access_word k.Private = Some access_of.Private
access_word _ = None

-- `mutex` and a name, behind `std ::`
unfoldable pub mutex_name : Dialect → Parse Tokens (Placed NameId)
mutex_name d ts = if sees_name d.mutex.0 ts then name (after ts) else failed Syntax ts

-- a member that is a mutex, behind `std`, which stands at this place
unfoldable pub mutex_member : Dialect → Place → Parse Tokens ItemTree
mutex_member d at ts =
    and_then (mutex_name d ts) (λ n. ended_by sg.Semicolon (p.member (record { type_name = record { at = at; item = type_of.Mutex }; name = n })))

abbrev pub public_at : Word → Parse Tokens (Placed NameId)
public_at (w.keyword k.Public) ts = name (after ts)
public_at _ ts = failed Syntax ts

abbrev pub public_next : Option (Placed Word) → Parse Tokens (Placed NameId)
public_next None ts = failed Syntax ts
public_next (Some t) ts = public_at t.item ts

-- `public` and the base's name, behind `:`
unfoldable pub public_base : Parse Tokens (Placed NameId)
public_base ts = public_next (next ts) ts

-- a class's base, if it has one
unfoldable pub base : Parse Tokens (Option (Placed NameId))
base ts = if sees sg.Colon ts then and_then (public_base (after ts)) (λ n. done (Some n)) else done None ts

-- Full expressions have so many operators at most.
module _ (most : ℕ) (d : Dialect) where
  -- behind a function's name and its parameters
  unfoldable pub body_of : ℕ → Placed TypeName → Placed NameId → List Param → Parse Tokens FunctionTree
  body_of depth t n qs ts = and_then (block most d depth ts) (λ b. done (record { result = t; name = n; params = qs; body = b }))

  -- behind a function's name
  unfoldable pub function_of : ℕ → Placed TypeName → Placed NameId → Parse Tokens FunctionTree
  function_of depth t n ts = and_then (params depth ts) (body_of depth t n)

  -- ---- constructors and destructors

  unfoldable pub init : ℕ → Parse Tokens InitTree
  init depth ts = and_then (name ts) (λ n ts. and_then (arguments most depth ts) (λ xs. done (record { name = n; arguments = listed_exprs xs })))

  -- the initialisers of a constructor, if it has some
  unfoldable pub inits : ℕ → Parse Tokens (List InitTree)
  inits depth ts = if sees sg.Colon ts then some (init depth) (after ts) else done [] ts

  -- behind a constructor's name and its parameters
  unfoldable pub ctor_body : ℕ → Placed NameId → List Param → Parse Tokens CtorTree
  ctor_body depth n qs ts =
      and_then (inits depth ts) (λ is ts. and_then (block most d depth ts) (λ b. done (record { name = n; params = qs; inits = is; body = b })))

  -- behind a constructor's name
  unfoldable pub ctor : ℕ → Placed NameId → Parse Tokens CtorTree
  ctor depth n ts = and_then (params depth ts) (ctor_body depth n)

  -- behind `~`
  unfoldable pub dtor : ℕ → Place → Parse Tokens DtorTree
  dtor depth at ts =
      and_then (name ts) (λ n ts. and_then (no_parts depth ts) (λ u ts. and_then (block most d depth ts) (λ b. done (record { at = at; name = n; body = b }))))

  -- ---- items of a class

  -- behind the type and the name of a member or a member function
  unfoldable pub typed_item : ℕ → Placed TypeName → Placed NameId → Parse Tokens ItemTree
  typed_item depth t n ts =
      if sees sg.Semicolon ts then done (p.member (record { type_name = t; name = n })) (after ts)
      else and_then (function_of depth t n ts) (λ f. done (p.function f))

  -- behind the type of a member or a member function
  unfoldable pub item_of_type : ℕ → Placed TypeName → Parse Tokens ItemTree
  item_of_type depth t ts = and_then (name ts) (typed_item depth t)

  -- behind a name: of a constructor, or of a class in a type; or `std`
  unfoldable pub name_item : ℕ → Placed NameId → Parse Tokens ItemTree
  name_item depth n ts =
      if sees sg.OpenParen ts then and_then (ctor depth n ts) (λ c. done (p.ctor c))
      else (if sees sg.Star ts then item_of_type depth (pointer_to n) (after ts)
      else (if is_woven d.mode && (nat_eq n.item.0 d.std.0 && sees sg.ColonColon ts) then mutex_member d n.at (after ts) else failed Syntax ts))

  abbrev pub label_or_type : ℕ → Place → Option Access → Option TypeName → Parse Tokens ItemTree
  label_or_type depth at (Some a) t ts = ended_by sg.Colon (p.label at a) (after ts)
  label_or_type depth at None (Some t) ts = item_of_type depth (record { at = at; item = t }) (after ts)
  label_or_type depth at None None ts = failed Syntax ts

  abbrev pub sign_item : ℕ → Place → Sign → Parse Tokens ItemTree
  sign_item depth at sg.Tilde ts = and_then (dtor depth at (after ts)) (λ x. done (p.dtor x))
  sign_item depth at _ ts = failed Syntax ts

  abbrev pub item_at : ℕ → Place → Word → Parse Tokens ItemTree
  item_at depth at (w.keyword word) ts = label_or_type depth at (access_word word) (word_type word) ts
  item_at depth at (w.name n) ts = name_item depth (record { at = at; item = record { 0 = n } }) (after ts)
  item_at depth at (w.sign found) ts = sign_item depth at found ts
  item_at depth at _ ts = failed Syntax ts

  abbrev pub item_next : ℕ → Option (Placed Word) → Parse Tokens ItemTree
  item_next depth None ts = failed Syntax ts
  item_next depth (Some t) ts = item_at depth t.at t.item ts

  unfoldable pub item : ℕ → Parse Tokens ItemTree
  item depth ts = item_next depth (next ts) ts

  -- ---- classes

  -- the items of a class in braces
  unfoldable pub items : ℕ → Parse Tokens (List ItemTree)
  items depth ts = if sees sg.OpenBrace ts then opens depth (λ below. braced (item below)) ts else failed Syntax ts

  -- behind the name and the base of a class
  unfoldable pub class_items : ℕ → Place → ClassWord → Placed NameId → Option (Placed NameId) → Parse Tokens DeclTree
  class_items depth at word n from ts =
      and_then (items depth ts) (λ xs. ended_by sg.Semicolon (p.class (record { at = at; word = word; name = n; base = from; items = xs })))

  -- behind `class` or `struct`, which stands at this place, and a name
  unfoldable pub class_of : ℕ → Place → ClassWord → Placed NameId → Parse Tokens DeclTree
  class_of depth at word n ts =
      if sees sg.Semicolon ts then done (p.class_name (record { at = at; word = word; name = n })) (after ts)
      else and_then (base ts) (class_items depth at word n)

  -- behind `class` or `struct`
  unfoldable pub class : ℕ → Place → ClassWord → Parse Tokens DeclTree
  class depth at word ts = and_then (name ts) (class_of depth at word)
