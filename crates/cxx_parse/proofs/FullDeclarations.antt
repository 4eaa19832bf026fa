-- The spelling of each constant and of each declaration is read again.
use Rattle.std.proofs.Common.{◌≡◌, ℕ, true, false, List, [], ◌∷◌, ◌++◌, map, Option, Some, None, refl, ap, ◌∙◌, append_assoc}
use Rattle.std.specs.Prelude.{option_map}
use Rattle.std.proofs.lemmas.Bool.{eq-eqb}
use Rattle.std.specs.List.{flat_map}
use Rattle.agxx_base.specs.declared.place.Place.{Place}
use Rattle.agxx_base.specs.declared.ids.NameId.{NameId}
use Rattle.agxx_base.specs.declared.vocabulary.Sign.TheVariants as sg
use Rattle.agxx_base.specs.declared.vocabulary.SpecialName.{SpecialName}
use Rattle.cxx_tree.specs.declared.node.Placed.{Placed}
use Rattle.cxx_tree.specs.declared.program.TypeName.{TypeName}
use Rattle.cxx_tree.specs.declared.program.TypeName.TheVariants as type_of
use Rattle.cxx_tree.specs.declared.program.ClassWord.{ClassWord}
use Rattle.cxx_tree.specs.declared.program.ClassWord.TheVariants as class_word_of
use Rattle.cxx_tree.specs.declared.program.Const.{Const}
use Rattle.cxx_tree.specs.declared.program.Const.TheVariants as const_of
use Rattle.cxx_tree.specs.declared.program.Proto.{Proto}
use Rattle.cxx_tree.specs.declared.program.Param.{Param}
use Rattle.cxx_tree.specs.declared.program.Variable.{Variable}
use Rattle.cxx_tree.specs.Words as w
use Rattle.cxx_tree.specs.Words.{Word, separated, in_braces, optional}
use Rattle.cxx_tree.specs.ExprTree as e
use Rattle.cxx_tree.specs.ExprTree.{ExprTree, ExprTrees, listed_exprs}
use Rattle.cxx_tree.specs.ProgramTree as p
use Rattle.cxx_tree.specs.ProgramTree.{FunctionTree, ItemTree, ClassTree, ObjectTree, DeclTree}
use Rattle.cxx_tree.specs.Spelling.{spell_name, spell_class_word, spell_type, spell_typed, spell_each, spell_block, spell_params, spell_item, spell_public_base, spell_constant, spell_object_arguments, spell_decl}
use Rattle.cxx_tree.specs.Limits.{Opens, Every}
use Rattle.cxx_tree.specs.Fits.{expr_level, IsPlainType, FitsParams, FitsEach, FitsFunction, FitsItem, FitsObjectArguments, FitsDecl}
use Rattle.cxx_tree.specs.Blank.{no_place, blank_placed, blank_exprs, blank_param, blank_function, blank_object, blank_decl}
use Rattle.cxx_expr.specs.Tokens.{Tokens}
use Rattle.cxx_expr.specs.Outcome.{done, and_then}
use Rattle.cxx_expr.specs.Lefts.{name}
use Rattle.cxx_expr.proofs.Fronts.{token, Ends-close}
use Rattle.cxx_stmt.specs.declared.dialect.Dialect.{Dialect}
use Rattle.cxx_stmt.specs.Dialect.{special_of, grammar, IsApart}
use Rattle.cxx_stmt.specs.Parts.{expressions}
use Rattle.cxx_stmt.specs.Types.{params}
use Rattle.cxx_stmt.proofs.FullParts.{PlacesOf, laid, begins, begins-append, IsRead, read-then, read-made, read-ended, read-in_parens}
use Rattle.cxx_stmt.proofs.FullTypes.{is_first, first-typed, read-params}
use Rattle.cxx_stmt.proofs.FullExprs.{blank_listed, read-more_exprs}
use Rattle.cxx_stmt.proofs.Modes.{no_advice-of}
use Rattle.cxx_parse.specs.Constants.{negative, constant}
use Rattle.cxx_parse.specs.Classes.{mutex_name, body_of, class, class_of}
use Rattle.cxx_parse.specs.Declarations.{variable_of, initial_constant, variable, mutex, function_or_proto, typed_decl, decl_of_type, object_arguments, object_of, object, name_decl, decl}
use Rattle.cxx_parse.proofs.FullClasses.{read-words, block-sees, class_words, read-body_of, read-class}

-- ---- constants and variables

module _ (special : SpecialName → ℕ) where
  const-by : (value : Const) (at : Place) (rest : Tokens)
      → IsRead (option_map blank_placed) initial_constant (spell_constant special (record { at = at; item = value })) (Some (blank_placed (record { at = at; item = value }))) rest
  unfolding initial_constant constant negative
  const-by (const_of.Number true n) at rest places = (Some (record { at = places.0; item = const_of.Number true n }), refl, refl)
  const-by (const_of.Number false n) at rest places = (Some (record { at = places.0; item = const_of.Number false n }), refl, refl)
  const-by (const_of.Flag true) at rest places = (Some (record { at = places.0; item = const_of.Flag true }), refl, refl)
  const-by (const_of.Flag false) at rest places = (Some (record { at = places.0; item = const_of.Flag false }), refl, refl)
  const-by const_of.Null at rest places = (Some (record { at = places.0; item = const_of.Null }), refl, refl)

  -- the initial value of a variable, before its semicolon
  read-initial : (value : Option (Placed Const)) (at : Place) (rest : Tokens)
      → IsRead (option_map blank_placed) initial_constant (optional (spell_constant special) value) (option_map blank_placed value) (token at (w.sign sg.Semicolon) ∷ rest)
  unfolding initial_constant
  read-initial None at rest places = (None, refl, refl)
  read-initial (Some c) at rest places = const-by c.item c.at (token at (w.sign sg.Semicolon) ∷ rest) places

  -- behind the type and the name of a variable
  read-variable : (t : Placed TypeName) (n : Placed NameId) (v : Variable) (rest : Tokens) → blank_placed t ≡ blank_placed v.type_name → blank_placed n ≡ blank_placed v.name
      → IsRead blank_decl (variable t n) (optional (spell_constant special) v.initial ++ w.sign sg.Semicolon ∷ []) (blank_decl (p.global (p.variable v))) rest
  unfolding variable
  read-variable t n v rest e i =
      read-ended (option_map blank_placed) blank_decl initial_constant sg.Semicolon (variable_of t n) (optional (spell_constant special) v.initial)
      (option_map blank_placed v.initial) (blank_decl (p.global (p.variable v))) rest
      (λ at. read-initial v.initial at rest) (λ value h. cc)

module _ (d : Dialect) (apart : IsApart d) (most : ℕ) where
  abbrev special : SpecialName → ℕ
  special = special_of d

  abbrev IsDeclRead : ℕ → DeclTree → Tokens → Type 0
  IsDeclRead depth x rest = IsRead blank_decl (decl most d depth) (spell_decl special x) (blank_decl x) rest

  -- ---- functions, prototypes and variables

  -- a type and a name at the beginning of a declaration
  typed-decl : (depth : ℕ) (t : TypeName) → IsPlainType t → (n : Placed NameId) (words : List Word) (y : DeclTree) (rest : Tokens)
      → ((at : Place) (found : Placed NameId) → blank_placed found ≡ blank_placed n → IsRead blank_decl (typed_decl most d depth (record { at = at; item = t }) found) words y rest)
      → IsRead blank_decl (decl most d depth) ((spell_type special t ++ spell_name n) ++ words) y rest
  unfolding decl decl_of_type name_decl name
  typed-decl depth (type_of.Num kind) v n words y rest F places = F places.0 (record { at = places.1.0; item = n.item }) refl places.1.1
  typed-decl depth type_of.Int v n words y rest F places = F places.0 (record { at = places.1.0; item = n.item }) refl places.1.1
  typed-decl depth type_of.Unsigned v n words y rest F places = F places.0 (record { at = places.1.0; item = n.item }) refl places.1.1
  typed-decl depth type_of.Void v n words y rest F places = F places.0 (record { at = places.1.0; item = n.item }) refl places.1.1
  typed-decl depth (type_of.Pointer class) v n words y rest F places = F places.0 (record { at = places.1.1.0; item = n.item }) refl places.1.1.1
  typed-decl depth type_of.Mutex v n words y rest F places = absurd v

  -- parameters at the beginning, behind a type and a name
  with-params : (depth : ℕ) (t : Placed TypeName) (n : Placed NameId) (qs : List Param) (words : List Word) (y : DeclTree) (rest : Tokens) → FitsParams depth qs
      → ((found : List Param) → map blank_param found ≡ map blank_param qs → IsRead blank_decl (function_or_proto most d depth t n found) words y rest)
      → IsRead blank_decl (typed_decl most d depth t n) (spell_params special qs ++ words) y rest
  unfolding typed_decl
  with-params depth t n qs words y rest v F =
      read-then (map blank_param) blank_decl (params depth) (function_or_proto most d depth t n) (spell_params special qs) words (map blank_param qs) y rest (λ places. read-params special depth qs _ v) F

  body-by : (depth : ℕ) (t : Placed TypeName) (n : Placed NameId) (qs : List Param) (f : FunctionTree) (rest : Tokens) (places : PlacesOf (spell_block special f.body))
      → function_or_proto most d depth t n qs (laid (spell_block special f.body) places rest) ≡ and_then (body_of most d depth t n qs (laid (spell_block special f.body) places rest)) (λ f. done (p.free_function f))
  unfolding function_or_proto
  body-by depth t n qs f rest places = rw (block-sees sg.Semicolon refl special f.body places rest) refl

  function-decl : (depth : ℕ) (f : FunctionTree) (rest : Tokens) → FitsFunction (grammar d) most depth f → IsDeclRead depth (p.free_function f) rest
  function-decl depth f rest v =
      let words : List Word = spell_block special f.body in
      typed-decl depth f.result.item v.0 f.name (spell_params special f.params ++ words) (p.free_function (blank_function f)) rest
      (λ at n e. let t : Placed TypeName = record { at = at; item = f.result.item } in
      with-params depth t n f.params words (p.free_function (blank_function f)) rest v.1
      (λ qs i places. let r =
      read-made blank_function blank_decl (body_of most d depth t n qs) p.free_function words (blank_function f) (p.free_function (blank_function f)) rest
      (read-body_of d apart most depth t n qs f rest refl e i v.2) (λ q h. ap p.free_function h) places in
      (r.0, r.1, body-by depth t n qs f rest places ∙ r.2)))

  proto-decl : (depth : ℕ) (f : Proto) (rest : Tokens) → IsPlainType f.result.item → FitsParams depth f.params → IsDeclRead depth (p.proto f) rest
  unfolding function_or_proto
  proto-decl depth f rest u v =
      let close : List Word = w.sign sg.Semicolon ∷ [] in
      read-words blank_decl (decl most d depth) (spell_decl special (p.proto f)) (spell_typed special f.result f.name ++ (spell_params special f.params ++ close)) (blank_decl (p.proto f)) rest
      (append_assoc (spell_typed special f.result f.name) (spell_params special f.params) close)
      (typed-decl depth f.result.item u f.name (spell_params special f.params ++ close) (blank_decl (p.proto f)) rest
      (λ at n e. let t : Placed TypeName = record { at = at; item = f.result.item } in
      with-params depth t n f.params close (blank_decl (p.proto f)) rest v (λ qs i places. (p.proto (record { result = t; name = n; params = qs }), cc, refl))))

  -- what stands behind the name of a variable
  abbrev variable_words : Option (Placed Const) → List Word
  variable_words value = optional (spell_constant special) value ++ w.sign sg.Semicolon ∷ []

  variable-by : (depth : ℕ) (t : Placed TypeName) (n : Placed NameId) (value : Option (Placed Const)) (rest : Tokens) (places : PlacesOf (variable_words value))
      → typed_decl most d depth t n (laid (variable_words value) places rest) ≡ variable t n (laid (variable_words value) places rest)
  unfolding typed_decl
  variable-by depth t n None rest places = refl
  variable-by depth t n (Some c) rest places = refl

  variable-decl : (depth : ℕ) (v : Variable) (rest : Tokens) → IsPlainType v.type_name.item → IsDeclRead depth (p.global (p.variable v)) rest
  variable-decl depth v rest u =
      let y : DeclTree = p.global (p.variable v) in
      let words : List Word = variable_words v.initial in
      read-words blank_decl (decl most d depth) (spell_decl special y) (spell_typed special v.type_name v.name ++ words) (blank_decl y) rest
      (append_assoc (spell_typed special v.type_name v.name) (optional (spell_constant special) v.initial) (w.sign sg.Semicolon ∷ []))
      (typed-decl depth v.type_name.item u v.name words (blank_decl y) rest
      (λ at n e places. let t : Placed TypeName = record { at = at; item = v.type_name.item } in
      let r = read-variable special t n v rest refl e places in
      (r.0, r.1, variable-by depth t n v.initial rest places ∙ r.2)))

  -- ---- objects and mutexes

  -- one expression or more, before a closing parenthesis
  read-expressions : (depth : ℕ) (first : ExprTree) (xs : ExprTrees) (at : Place) (rest : Tokens) → FitsEach (grammar d) most depth (e.more_exprs first xs)
      → IsRead blank_listed (expressions most depth) (separated (spell_each special (e.more_exprs first xs))) (blank_exprs (e.more_exprs first xs)) (token at (w.sign sg.CloseParen) ∷ rest)
  read-expressions depth first xs at rest v places =
      read-more_exprs special (grammar d) (no_advice-of d) most depth (e.more_exprs first xs) (token at (w.sign sg.CloseParen) ∷ rest) v (Ends-close expr_level at rest) refl (at, places)

  read-object_arguments : (depth : ℕ) (xs : ExprTrees) (at : Place) (rest : Tokens) → FitsObjectArguments (grammar d) most depth xs
      → IsRead blank_listed (object_arguments most d depth) (spell_object_arguments special xs) (blank_exprs xs) (token at (w.sign sg.Semicolon) ∷ rest)
  unfolding object_arguments
  read-object_arguments depth e.no_exprs at rest v places = ([], refl, refl)
  read-object_arguments depth (e.more_exprs first xs) at rest v places =
      read-in_parens blank_listed depth (λ below. expressions most below) _ _ (blank_exprs (e.more_exprs first xs)) (token at (w.sign sg.Semicolon) ∷ rest) v
      (λ below u at. read-expressions below first xs at _ u) places

  object-decl : (depth : ℕ) (o : ObjectTree) (rest : Tokens) → FitsObjectArguments (grammar d) most depth o.arguments → IsDeclRead depth (p.global (p.object o)) rest
  unfolding decl name_decl object object_of name
  object-decl depth o rest v places =
      let class : Placed NameId = record { at = places.0; item = o.class.item } in
      let n : Placed NameId = record { at = places.1.0; item = o.name.item } in
      read-ended blank_listed blank_decl (object_arguments most d depth) sg.Semicolon (λ xs. p.global (p.object (record { class = class; name = n; arguments = listed_exprs xs })))
      (spell_object_arguments special o.arguments) (blank_exprs o.arguments) (p.global (p.object (blank_object o))) rest
      (λ at. read-object_arguments depth o.arguments at rest v) (λ xs h. cc) places.1.1

  mutex-decl : (depth : ℕ) (at : Place) (n : Placed NameId) (rest : Tokens) → IsDeclRead depth (p.global (p.mutex at n)) rest
  unfolding decl name_decl mutex mutex_name name
  mutex-decl depth at n rest places =
      (p.global (p.mutex places.0 (record { at = places.1.1.1.0; item = n.item })), refl, rw (eq-eqb d.std.0 d.std.0 refl, eq-eqb d.mutex.0 d.mutex.0 refl) refl)

  -- ---- classes

  abbrev FitsItems : ℕ → List ItemTree → Type 0
  FitsItems depth xs = Opens depth (λ below. Every (FitsItem (grammar d) most below) xs)

  class-by : (depth : ℕ) (at : Place) (word : ClassWord) (n : Placed NameId) (from : Option (Placed NameId)) (xs : List ItemTree) (rest : Tokens) → FitsItems depth xs
      → IsRead blank_decl (decl most d depth) (spell_class_word word ++ (spell_name n ++ class_words special from xs))
      (blank_decl (p.class (record { at = at; word = word; name = n; base = from; items = xs }))) rest
  unfolding decl
  class-by depth at class_word_of.Class n from xs rest v places =
      read-class d apart most depth places.0 (record { at = at; word = class_word_of.Class; name = n; base = from; items = xs }) rest v places.1
  class-by depth at class_word_of.Struct n from xs rest v places =
      read-class d apart most depth places.0 (record { at = at; word = class_word_of.Struct; name = n; base = from; items = xs }) rest v places.1

  -- a class's semicolon is read with its items
  class-words : (word : ClassWord) (n : Placed NameId) (from : Option (Placed NameId)) (xs : List ItemTree)
      → spell_decl special (p.class (record { at = no_place; word = word; name = n; base = from; items = xs })) ≡ spell_class_word word ++ (spell_name n ++ class_words special from xs)
  class-words word n from xs =
      let close : List Word = w.sign sg.Semicolon ∷ [] in
      let body : List Word = in_braces (flat_map (spell_item special) xs) in
      append_assoc (spell_class_word word) (spell_name n ++ (optional spell_public_base from ++ body)) close
      ∙ ap (λ q. spell_class_word word ++ (spell_name n ++ q)) (append_assoc (optional spell_public_base from) body close)

  class-decl : (depth : ℕ) (c : ClassTree) (rest : Tokens) → FitsItems depth c.items → IsDeclRead depth (p.class c) rest
  class-decl depth c rest v =
      read-words blank_decl (decl most d depth) (spell_decl special (p.class c)) (spell_class_word c.word ++ (spell_name c.name ++ class_words special c.base c.items)) (blank_decl (p.class c)) rest
      (class-words c.word c.name c.base c.items) (class-by depth c.at c.word c.name c.base c.items rest v)

  class_name-decl : (depth : ℕ) (at : Place) (word : ClassWord) (n : Placed NameId) (rest : Tokens) → IsDeclRead depth (p.class_name (record { at = at; word = word; name = n })) rest
  unfolding decl class class_of name
  class_name-decl depth at class_word_of.Class n rest places = (p.class_name (record { at = places.0; word = class_word_of.Class; name = record { at = places.1.0; item = n.item } }), refl, refl)
  class_name-decl depth at class_word_of.Struct n rest places = (p.class_name (record { at = places.0; word = class_word_of.Struct; name = record { at = places.1.0; item = n.item } }), refl, refl)

  -- ---- all of them

  pub read-decl : (depth : ℕ) (x : DeclTree) (rest : Tokens) → FitsDecl (grammar d) most depth x → IsRead blank_decl (decl most d depth) (spell_decl special x) (blank_decl x) rest
  read-decl depth (p.class c) rest v = class-decl depth c rest v
  read-decl depth (p.class_name c) rest v = class_name-decl depth c.at c.word c.name rest
  read-decl depth (p.free_function f) rest v = function-decl depth f rest v
  read-decl depth (p.proto f) rest v = proto-decl depth f rest v.0 v.1
  read-decl depth (p.global (p.variable v)) rest u = variable-decl depth v rest u
  read-decl depth (p.global (p.object o)) rest v = object-decl depth o rest v
  read-decl depth (p.global (p.mutex at n)) rest v = mutex-decl depth at n rest

-- ---- how a declaration begins

module _ (special : SpecialName → ℕ) where
  first-class : (word : ClassWord) (words : List Word) → begins is_first (spell_class_word word ++ words) ≡ true
  first-class class_word_of.Class words = refl
  first-class class_word_of.Struct words = refl

  first-ended : (t : Placed TypeName) (n : Placed NameId) (words : List Word) → begins is_first ((spell_typed special t n ++ words) ++ w.sign sg.Semicolon ∷ []) ≡ true
  first-ended t n words =
      begins-append is_first (spell_typed special t n ++ words) (w.sign sg.Semicolon ∷ []) (begins-append is_first (spell_typed special t n) words (first-typed special t n))

  pub first-decl : (x : DeclTree) → begins is_first (spell_decl special x) ≡ true
  first-decl (p.class c) = begins-append is_first _ (w.sign sg.Semicolon ∷ []) (first-class c.word _)
  first-decl (p.class_name c) = begins-append is_first _ (w.sign sg.Semicolon ∷ []) (first-class c.word _)
  first-decl (p.free_function f) = begins-append is_first (spell_typed special f.result f.name) _ (first-typed special f.result f.name)
  first-decl (p.proto f) = first-ended f.result f.name (spell_params special f.params)
  first-decl (p.global (p.variable v)) = first-ended v.type_name v.name (optional (spell_constant special) v.initial)
  first-decl (p.global (p.object o)) = refl
  first-decl (p.global (p.mutex at n)) = refl
