-- The spelling of each function, of each item of a class and of each class is read again.
use Rattle.std.proofs.Common.{◌≡◌, ℕ, zero, suc, true, false, List, [], ◌∷◌, ◌++◌, map, Option, Some, None, refl, sym, ap, ◌∙◌, subst}
use Rattle.std.specs.Prelude.{option_map}
use Rattle.std.specs.List.{flat_map}
use Rattle.std.proofs.lemmas.Bool.{eq-eqb}
use Rattle.agxx_base.specs.declared.place.Place.{Place}
use Rattle.agxx_base.specs.declared.ids.NameId.{NameId}
use Rattle.agxx_base.specs.declared.vocabulary.Sign.{Sign}
use Rattle.agxx_base.specs.declared.vocabulary.Sign.TheVariants as sg
use Rattle.agxx_base.specs.declared.vocabulary.SpecialName.{SpecialName}
use Rattle.cxx_tree.specs.declared.node.Placed.{Placed}
use Rattle.cxx_tree.specs.declared.program.TypeName.{TypeName}
use Rattle.cxx_tree.specs.declared.program.TypeName.TheVariants as type_of
use Rattle.cxx_tree.specs.declared.program.Access.{Access}
use Rattle.cxx_tree.specs.declared.program.Access.TheVariants as access_of
use Rattle.cxx_tree.specs.declared.program.ClassWord.{ClassWord}
use Rattle.cxx_tree.specs.declared.program.Member.{Member}
use Rattle.cxx_tree.specs.declared.program.Param.{Param}
use Rattle.cxx_tree.specs.Words as w
use Rattle.cxx_tree.specs.Words.{Word, separated, in_parentheses, in_braces, ended, optional}
use Rattle.cxx_tree.specs.ExprTree.{ExprTree, listed_exprs}
use Rattle.cxx_tree.specs.StmtTree as s
use Rattle.cxx_tree.specs.StmtTree.{BlockTree}
use Rattle.cxx_tree.specs.ProgramTree as p
use Rattle.cxx_tree.specs.ProgramTree.{FunctionTree, InitTree, CtorTree, DtorTree, ItemTree, ClassTree, DeclTree}
use Rattle.cxx_tree.specs.Spelling.{spell_name, spell_type, spell_typed, spell_arguments, spell_block, spell_params, spell_init, spell_inits, spell_label, spell_item, spell_public_base}
use Rattle.cxx_tree.specs.Limits.{HasWovenForms, Opens, Every}
use Rattle.cxx_tree.specs.Fits.{IsPlainType, IsMemberType, FitsParams, FitsArguments, FitsBlock, FitsFunction, FitsCtor, FitsDtor, FitsItem}
use Rattle.cxx_tree.specs.Blank.{blank_placed, blank_exprs, blank_block, blank_param, blank_function, blank_init, blank_ctor, blank_dtor, blank_item, blank_class, blank_decl}
use Rattle.cxx_expr.specs.Tokens.{Tokens, is_sign, sees}
use Rattle.cxx_expr.specs.Outcome.{done, Parse, and_then}
use Rattle.cxx_expr.specs.Lefts.{name}
use Rattle.cxx_stmt.specs.declared.dialect.Dialect.{Dialect}
use Rattle.cxx_stmt.specs.Dialect.{special_of, grammar, IsApart}
use Rattle.cxx_stmt.specs.Parts.{no_parts, arguments}
use Rattle.cxx_stmt.specs.Types.{params}
use Rattle.cxx_stmt.specs.Statements.{block}
use Rattle.cxx_stmt.proofs.FullParts.{PlacesOf, laid, begins, begins-append, IsRead, read-then, read-made, read-ended, read-some, read-braced, opens-none, opens-below}
use Rattle.cxx_stmt.proofs.FullTypes.{is_first, first-not-close_brace, first-typed, read-name, read-params}
use Rattle.cxx_stmt.proofs.FullExprs.{blank_listed, read-no_parts, read-arguments}
use Rattle.cxx_stmt.proofs.Modes.{no_advice-of, is_woven-of}
use Rattle.cxx_stmt.proofs.FullStatements.{read-block}
use Rattle.cxx_parse.specs.Classes.{mutex_name, mutex_member, base, public_base, body_of, function_of, init, inits, ctor_body, ctor, dtor, typed_item, item_of_type, name_item, item, items, class_items, class_of, class}

-- ---- words

-- the same words, put together in another way
pub read-words : {A B : Type 0} (same : A → B) (parse : Parse Tokens A) (a b : List Word) (x : B) (rest : Tokens) → a ≡ b → IsRead same parse b x rest → IsRead same parse a x rest
read-words same parse a b x rest e h = subst (λ words. IsRead same parse words x rest) (sym e) h

-- a block begins with no other sign than its brace
pub block-sees : (found : Sign) → is_sign found (w.sign sg.OpenBrace) ≡ false → (special : SpecialName → ℕ) (b : BlockTree) (places : PlacesOf (spell_block special b)) (rest : Tokens)
    → sees found (laid (spell_block special b) places rest) ≡ false
block-sees found e special (s.braces at stmts) places rest = e

-- what stands behind the name of a class with items
abbrev pub class_words : (SpecialName → ℕ) → Option (Placed NameId) → List ItemTree → List Word
class_words special from xs = optional spell_public_base from ++ (in_braces (flat_map (spell_item special) xs) ++ w.sign sg.Semicolon ∷ [])

module _ (d : Dialect) (apart : IsApart d) (most : ℕ) where
  abbrev special : SpecialName → ℕ
  special = special_of d

  -- ---- functions

  -- behind a function's parameters
  pub read-body_of : (depth : ℕ) (t : Placed TypeName) (n : Placed NameId) (qs : List Param) (f : FunctionTree) (rest : Tokens)
      → blank_placed t ≡ blank_placed f.result → blank_placed n ≡ blank_placed f.name → map blank_param qs ≡ map blank_param f.params → FitsBlock (grammar d) most depth f.body
      → IsRead blank_function (body_of most d depth t n qs) (spell_block special f.body) (blank_function f) rest
  unfolding body_of
  read-body_of depth t n qs f rest e i j v =
      read-made blank_block blank_function (block most d depth) (λ b. record { result = t; name = n; params = qs; body = b }) (spell_block special f.body) (blank_block f.body) (blank_function f) rest
      (read-block d apart most depth f.body rest v) (λ b h. cc)

  -- behind a function's name
  pub read-function_of : (depth : ℕ) (t : Placed TypeName) (n : Placed NameId) (f : FunctionTree) (rest : Tokens)
      → blank_placed t ≡ blank_placed f.result → blank_placed n ≡ blank_placed f.name → FitsParams depth f.params → FitsBlock (grammar d) most depth f.body
      → IsRead blank_function (function_of most d depth t n) (spell_params special f.params ++ spell_block special f.body) (blank_function f) rest
  unfolding function_of
  read-function_of depth t n f rest e i u v =
      read-then (map blank_param) blank_function (params depth) (body_of most d depth t n) (spell_params special f.params) (spell_block special f.body) (map blank_param f.params) (blank_function f) rest
      (λ places. read-params special depth f.params _ u) (λ qs j. read-body_of depth t n qs f rest e i j v)

  -- ---- constructors and destructors

  abbrev FitsInit : ℕ → InitTree → Type 0
  FitsInit depth i = FitsArguments (grammar d) most depth i.arguments

  read-init : (depth : ℕ) (i : InitTree) (rest : Tokens) → FitsInit depth i → IsRead blank_init (init most d depth) (spell_init special i) (blank_init i) rest
  unfolding init
  read-init depth i rest v =
      let made : Placed NameId → List ExprTree → InitTree = λ n xs. record { name = n; arguments = listed_exprs xs } in
      read-then blank_placed blank_init name (λ n ts. and_then (arguments most depth ts) (λ xs. done (made n xs))) (spell_name i.name) (spell_arguments special i.arguments)
      (blank_placed i.name) (blank_init i) rest
      (λ places. read-name i.name _)
      (λ n e. read-made blank_listed blank_init (arguments most depth) (made n) (spell_arguments special i.arguments) (blank_exprs i.arguments) (blank_init i) rest
      (read-arguments special (grammar d) (no_advice-of d) most depth i.arguments rest v) (λ xs h. cc))

  read-inits : (depth : ℕ) (is : List InitTree) (rest : Tokens) → Every (FitsInit depth) is → sees sg.Colon rest ≡ false → sees sg.Comma rest ≡ false
      → IsRead (map blank_init) (inits most d depth) (spell_inits special is) (map blank_init is) rest
  unfolding inits
  read-inits depth [] rest v colon last places = ([], refl, rw colon refl)
  read-inits depth (i ∷ is) rest v colon last places =
      read-some (spell_init special) (FitsInit depth) blank_init (init most d depth) (λ ts. Unit {0}) (λ i rest v follows. read-init depth i rest v)
      (λ at ts. tt) rest tt last i is v.0 v.1 places.1

  read-ctor_body : (depth : ℕ) (n : Placed NameId) (qs : List Param) (c : CtorTree) (rest : Tokens)
      → blank_placed n ≡ blank_placed c.name → map blank_param qs ≡ map blank_param c.params → Every (FitsInit depth) c.inits → FitsBlock (grammar d) most depth c.body
      → IsRead blank_ctor (ctor_body most d depth n qs) (spell_inits special c.inits ++ spell_block special c.body) (blank_ctor c) rest
  unfolding ctor_body
  read-ctor_body depth n qs c rest e i u v =
      let made : List InitTree → BlockTree → CtorTree = λ is b. record { name = n; params = qs; inits = is; body = b } in
      read-then (map blank_init) blank_ctor (inits most d depth) (λ is ts. and_then (block most d depth ts) (λ b. done (made is b))) (spell_inits special c.inits) (spell_block special c.body)
      (map blank_init c.inits) (blank_ctor c) rest
      (λ places. read-inits depth c.inits _ u (block-sees sg.Colon refl special c.body places rest) (block-sees sg.Comma refl special c.body places rest))
      (λ is j. read-made blank_block blank_ctor (block most d depth) (made is) (spell_block special c.body) (blank_block c.body) (blank_ctor c) rest
      (read-block d apart most depth c.body rest v) (λ b h. cc))

  -- behind a constructor's name
  read-ctor : (depth : ℕ) (n : Placed NameId) (c : CtorTree) (rest : Tokens) → blank_placed n ≡ blank_placed c.name → FitsCtor (grammar d) most depth c
      → IsRead blank_ctor (ctor most d depth n) (spell_params special c.params ++ (spell_inits special c.inits ++ spell_block special c.body)) (blank_ctor c) rest
  unfolding ctor
  read-ctor depth n c rest e v =
      read-then (map blank_param) blank_ctor (params depth) (ctor_body most d depth n) (spell_params special c.params) (spell_inits special c.inits ++ spell_block special c.body)
      (map blank_param c.params) (blank_ctor c) rest
      (λ places. read-params special depth c.params _ v.0) (λ qs i. read-ctor_body depth n qs c rest e i v.1 v.2)

  -- behind `~`
  read-dtor : (depth : ℕ) (at : Place) (x : DtorTree) (rest : Tokens) → FitsDtor (grammar d) most depth x
      → IsRead blank_dtor (dtor most d depth at) (spell_name x.name ++ (in_parentheses [] ++ spell_block special x.body)) (blank_dtor x) rest
  unfolding dtor
  read-dtor depth at x rest v =
      let made : Placed NameId → BlockTree → DtorTree = λ n b. record { at = at; name = n; body = b } in
      let behind : Placed NameId → Unit {0} → Parse Tokens DtorTree = λ n u ts. and_then (block most d depth ts) (λ b. done (made n b)) in
      read-then blank_placed blank_dtor name (λ n ts. and_then (no_parts depth ts) (behind n)) (spell_name x.name) (in_parentheses [] ++ spell_block special x.body)
      (blank_placed x.name) (blank_dtor x) rest
      (λ places. read-name x.name _)
      (λ n e. read-then (λ (u : Unit {0}). u) blank_dtor (no_parts depth) (behind n) (in_parentheses []) (spell_block special x.body) tt (blank_dtor x) rest
      (λ places. read-no_parts depth (λ below. Unit {0}) _ v.0)
      (λ u i. read-made blank_block blank_dtor (block most d depth) (made n) (spell_block special x.body) (blank_block x.body) (blank_dtor x) rest
      (read-block d apart most depth x.body rest v.1) (λ b h. cc)))

  -- ---- items of a class

  -- a type and a name at the beginning of an item
  typed-item : (depth : ℕ) (t : TypeName) → IsPlainType t → (n : Placed NameId) (words : List Word) (y : ItemTree) (rest : Tokens)
      → ((at : Place) (found : Placed NameId) → blank_placed found ≡ blank_placed n → IsRead blank_item (typed_item most d depth (record { at = at; item = t }) found) words y rest)
      → IsRead blank_item (item most d depth) ((spell_type special t ++ spell_name n) ++ words) y rest
  unfolding item item_of_type name_item name
  typed-item depth (type_of.Num kind) v n words y rest F places = F places.0 (record { at = places.1.0; item = n.item }) refl places.1.1
  typed-item depth type_of.Int v n words y rest F places = F places.0 (record { at = places.1.0; item = n.item }) refl places.1.1
  typed-item depth type_of.Unsigned v n words y rest F places = F places.0 (record { at = places.1.0; item = n.item }) refl places.1.1
  typed-item depth type_of.Void v n words y rest F places = F places.0 (record { at = places.1.0; item = n.item }) refl places.1.1
  typed-item depth (type_of.Pointer class) v n words y rest F places = F places.0 (record { at = places.1.1.0; item = n.item }) refl places.1.1.1
  typed-item depth type_of.Mutex v n words y rest F places = absurd v

  abbrev IsItemRead : ℕ → ItemTree → Tokens → Type 0
  IsItemRead depth x rest = IsRead blank_item (item most d depth) (spell_item special x) (blank_item x) rest

  plain-member : (depth : ℕ) (m : Member) (rest : Tokens) → IsPlainType m.type_name.item → IsItemRead depth (p.member m) rest
  unfolding typed_item
  plain-member depth m rest v =
      typed-item depth m.type_name.item v m.name (w.sign sg.Semicolon ∷ []) (blank_item (p.member m)) rest
      (λ at n e places. (p.member (record { type_name = record { at = at; item = m.type_name.item }; name = n }), cc, refl))

  mutex-member : (depth : ℕ) (at : Place) (n : Placed NameId) (rest : Tokens) → HasWovenForms (grammar d)
      → IsItemRead depth (p.member (record { type_name = record { at = at; item = type_of.Mutex }; name = n })) rest
  unfolding item name_item mutex_member mutex_name name
  mutex-member depth at n rest v places =
      let found : Placed NameId = record { at = places.1.1.1.0; item = n.item } in
      (p.member (record { type_name = record { at = places.0; item = type_of.Mutex }; name = found }), refl, rw (is_woven-of d.mode v, eq-eqb d.std.0 d.std.0 refl, eq-eqb d.mutex.0 d.mutex.0 refl) refl)

  member-by : (depth : ℕ) (at : Place) (t : TypeName) (n : Placed NameId) (rest : Tokens) → IsMemberType (grammar d) t
      → IsItemRead depth (p.member (record { type_name = record { at = at; item = t }; name = n })) rest
  member-by depth at (type_of.Num kind) n rest v = plain-member depth (record { type_name = record { at = at; item = type_of.Num kind }; name = n }) rest tt
  member-by depth at type_of.Int n rest v = plain-member depth (record { type_name = record { at = at; item = type_of.Int }; name = n }) rest tt
  member-by depth at type_of.Unsigned n rest v = plain-member depth (record { type_name = record { at = at; item = type_of.Unsigned }; name = n }) rest tt
  member-by depth at type_of.Void n rest v = plain-member depth (record { type_name = record { at = at; item = type_of.Void }; name = n }) rest tt
  member-by depth at (type_of.Pointer class) n rest v = plain-member depth (record { type_name = record { at = at; item = type_of.Pointer class }; name = n }) rest tt
  member-by depth at type_of.Mutex n rest v = mutex-member depth at n rest v

  label-by : (depth : ℕ) (at : Place) (access : Access) (rest : Tokens) → IsItemRead depth (p.label at access) rest
  unfolding item
  label-by depth at access_of.Public rest places = (p.label places.0 access_of.Public, refl, refl)
  label-by depth at access_of.Protected rest places = (p.label places.0 access_of.Protected, refl, refl)
  label-by depth at access_of.Private rest places = (p.label places.0 access_of.Private, refl, refl)

  function-item : (depth : ℕ) (f : FunctionTree) (rest : Tokens) → FitsFunction (grammar d) most depth f → IsItemRead depth (p.function f) rest
  unfolding typed_item
  function-item depth f rest v =
      let words : List Word = spell_params special f.params ++ spell_block special f.body in
      typed-item depth f.result.item v.0 f.name words (blank_item (p.function f)) rest
      (λ at n e. read-made blank_function blank_item (function_of most d depth (record { at = at; item = f.result.item }) n) p.function words (blank_function f) (blank_item (p.function f)) rest
      (read-function_of depth (record { at = at; item = f.result.item }) n f rest refl e v.1 v.2) (λ q h. ap p.function h))

  ctor-item : (depth : ℕ) (c : CtorTree) (rest : Tokens) → FitsCtor (grammar d) most depth c → IsItemRead depth (p.ctor c) rest
  unfolding item name_item
  ctor-item depth c rest v places =
      let n : Placed NameId = record { at = places.0; item = c.name.item } in
      let words : List Word = spell_params special c.params ++ (spell_inits special c.inits ++ spell_block special c.body) in
      read-made blank_ctor blank_item (ctor most d depth n) p.ctor words (blank_ctor c) (blank_item (p.ctor c)) rest (read-ctor depth n c rest refl v) (λ q h. ap p.ctor h) places.1

  dtor-item : (depth : ℕ) (x : DtorTree) (rest : Tokens) → FitsDtor (grammar d) most depth x → IsItemRead depth (p.dtor x) rest
  unfolding item
  dtor-item depth x rest v places =
      let words : List Word = spell_name x.name ++ (in_parentheses [] ++ spell_block special x.body) in
      read-made blank_dtor blank_item (dtor most d depth places.0) p.dtor words (blank_dtor x) (blank_item (p.dtor x)) rest (read-dtor depth places.0 x rest v) (λ q h. ap p.dtor h) places.1

  read-item : (depth : ℕ) (x : ItemTree) (rest : Tokens) → FitsItem (grammar d) most depth x → IsItemRead depth x rest
  read-item depth (p.label at access) rest v = label-by depth at access rest
  read-item depth (p.member m) rest v = member-by depth m.type_name.at m.type_name.item m.name rest v
  read-item depth (p.function f) rest v = function-item depth f rest v
  read-item depth (p.ctor c) rest v = ctor-item depth c rest v
  read-item depth (p.dtor x) rest v = dtor-item depth x rest v

  first-label : (access : Access) → begins is_first (spell_label access) ≡ true
  first-label access_of.Public = refl
  first-label access_of.Protected = refl
  first-label access_of.Private = refl

  first-item : (x : ItemTree) → begins is_first (spell_item special x) ≡ true
  first-item (p.label at access) = first-label access
  first-item (p.member m) = begins-append is_first (spell_typed special m.type_name m.name) (w.sign sg.Semicolon ∷ []) (first-typed special m.type_name m.name)
  first-item (p.function f) =
      begins-append is_first (spell_typed special f.result f.name) (spell_params special f.params ++ spell_block special f.body) (first-typed special f.result f.name)
  first-item (p.ctor c) = refl
  first-item (p.dtor x) = refl

  -- the items of a class in braces
  read-items : (depth : ℕ) (xs : List ItemTree) (rest : Tokens) → Opens depth (λ below. Every (FitsItem (grammar d) most below) xs)
      → IsRead (map blank_item) (items most d depth) (in_braces (flat_map (spell_item special) xs)) (map blank_item xs) rest
  unfolding items
  read-items zero xs rest v places = absurd (opens-none (λ below. Every (FitsItem (grammar d) most below) xs) v)
  read-items (suc n) xs rest v places =
      read-braced (spell_item special) (FitsItem (grammar d) most n) blank_item (item most d n) (λ ts. Unit {0}) (λ x rest v follows. read-item n x rest v)
      (λ at ts. tt) (λ x v places ts. tt) is_first first-not-close_brace (λ x v. first-item x) xs rest (opens-below n (λ below. Every (FitsItem (grammar d) most below) xs) v) places.1

  -- ---- classes

  read-base : (from : Option (Placed NameId)) (rest : Tokens) → sees sg.Colon rest ≡ false
      → IsRead (option_map blank_placed) base (optional spell_public_base from) (option_map blank_placed from) rest
  unfolding base public_base name
  read-base None rest e places = (None, refl, rw e refl)
  read-base (Some n) rest e places = (Some (record { at = places.1.1.0; item = n.item }), refl, refl)

  behind-name : (depth : ℕ) (at : Place) (n : Placed NameId) (c : ClassTree) (rest : Tokens) → blank_placed n ≡ blank_placed c.name
      → Opens depth (λ below. Every (FitsItem (grammar d) most below) c.items)
      → IsRead blank_decl (λ ts. and_then (base ts) (class_items most d depth at c.word n)) (class_words special c.base c.items) (p.class (blank_class c)) rest
  unfolding class_items
  behind-name depth at n c rest e v =
      let words : List Word = in_braces (flat_map (spell_item special) c.items) in
      let made : Option (Placed NameId) → List ItemTree → DeclTree = λ from xs. p.class (record { at = at; word = c.word; name = n; base = from; items = xs }) in
      read-then (option_map blank_placed) blank_decl base (class_items most d depth at c.word n) (optional spell_public_base c.base) (words ++ w.sign sg.Semicolon ∷ [])
      (option_map blank_placed c.base) (p.class (blank_class c)) rest
      (λ places. read-base c.base _ refl)
      (λ from i. read-ended (map blank_item) blank_decl (items most d depth) sg.Semicolon (made from) words (map blank_item c.items) (p.class (blank_class c)) rest
      (λ at. read-items depth c.items _ v) (λ xs h. cc))

  class_of-by : (depth : ℕ) (at : Place) (word : ClassWord) (n : Placed NameId) (from : Option (Placed NameId)) (xs : List ItemTree) (rest : Tokens) (places : PlacesOf (class_words special from xs))
      → class_of most d depth at word n (laid (class_words special from xs) places rest) ≡ and_then (base (laid (class_words special from xs) places rest)) (class_items most d depth at word n)
  unfolding class_of
  class_of-by depth at word n None xs rest places = refl
  class_of-by depth at word n (Some from) xs rest places = refl

  -- behind `class` or `struct`
  pub read-class : (depth : ℕ) (at : Place) (c : ClassTree) (rest : Tokens) → Opens depth (λ below. Every (FitsItem (grammar d) most below) c.items)
      → IsRead blank_decl (class most d depth at c.word) (spell_name c.name ++ class_words special c.base c.items) (p.class (blank_class c)) rest
  unfolding class name
  read-class depth at c rest v places =
      let n : Placed NameId = record { at = places.0; item = c.name.item } in
      let r = behind-name depth at n c rest refl v places.1 in
      (r.0, r.1, class_of-by depth at c.word n c.base c.items rest places.1 ∙ r.2)
