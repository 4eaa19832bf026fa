-- The spelling of each name, of what may be called, of each type and of parameters is read again.
use Rattle.std.proofs.Common.{◌≡◌, ℕ, Bool, true, false, List, map, refl, ap, ◌∙◌}
use Rattle.agxx_base.specs.declared.ids.NameId.{NameId}
use Rattle.agxx_base.specs.declared.vocabulary.Keyword.TheVariants as k
use Rattle.agxx_base.specs.declared.vocabulary.Sign.{Sign}
use Rattle.agxx_base.specs.declared.vocabulary.Sign.TheVariants as sg
use Rattle.agxx_base.specs.declared.vocabulary.SpecialName.{SpecialName}
use Rattle.cxx_tree.specs.declared.node.Node.{Node}
use Rattle.cxx_tree.specs.declared.node.Placed.{Placed}
use Rattle.cxx_tree.specs.declared.expr.Ref.{Ref}
use Rattle.cxx_tree.specs.declared.expr.Base.{Base}
use Rattle.cxx_tree.specs.declared.expr.Base.TheVariants as base_of
use Rattle.cxx_tree.specs.declared.expr.Callee.{Callee}
use Rattle.cxx_tree.specs.declared.expr.Callee.TheVariants as callee_of
use Rattle.cxx_tree.specs.declared.program.TypeName.{TypeName}
use Rattle.cxx_tree.specs.declared.program.TypeName.TheVariants as type_of
use Rattle.cxx_tree.specs.declared.program.Param.{Param}
use Rattle.cxx_tree.specs.Words as w
use Rattle.cxx_tree.specs.Words.{Word}
use Rattle.cxx_tree.specs.Spelling.{spell_name, spell_ref, spell_callee, spell_type, spell_typed, spell_param, spell_params}
use Rattle.cxx_tree.specs.Fits.{IsPlainType, FitsParams}
use Rattle.cxx_tree.specs.Blank.{no_place, blank_placed, blank_ref, blank_callee, blank_param}
use Rattle.cxx_expr.specs.Tokens.{Tokens, is_sign, sees}
use Rattle.cxx_expr.specs.Lefts.{node_at, name, reference, selected, selected_of, target}
use Rattle.cxx_expr.proofs.Names.{member_of}
use Rattle.cxx_stmt.specs.Parts.{placed_ref, any}
use Rattle.cxx_stmt.specs.Types.{plain_type, param, params}
use Rattle.cxx_stmt.specs.Simples.{callee, placed_callee}
use Rattle.cxx_stmt.specs.Statements.{is_else}
use Rattle.cxx_stmt.proofs.FullParts.{begins, begins-append, Excludes, IsRead, read-then, read-made, read-in_parens, read-any}

-- ---- how a part of a statement begins

abbrev is_first_sign : Sign → Bool
is_first_sign sg.OpenBrace = true
is_first_sign sg.OpenParen = true
is_first_sign sg.ColonColon = true
is_first_sign sg.Minus = true
is_first_sign sg.Not = true
is_first_sign sg.Tilde = true
is_first_sign sg.And = true
is_first_sign sg.Star = true
is_first_sign sg.PlusPlus = true
is_first_sign sg.MinusMinus = true
is_first_sign _ = false

-- types, expressions and statements begin with no other words
abbrev pub is_first : Word → Bool
is_first (w.name n) = true
is_first (w.number bits kind) = true
is_first (w.keyword k.Else) = false
is_first (w.keyword word) = true
is_first (w.sign found) = is_first_sign found
is_first _ = false

pub first-not-close_paren : Excludes is_first (is_sign sg.CloseParen)
first-not-close_paren (w.sign sg.CloseParen) h = cc
first-not-close_paren (w.sign _) h = refl
first-not-close_paren _ h = refl

pub first-not-close_brace : Excludes is_first (is_sign sg.CloseBrace)
first-not-close_brace (w.sign sg.CloseBrace) h = cc
first-not-close_brace (w.sign _) h = refl
first-not-close_brace _ h = refl

pub first-not-semicolon : Excludes is_first (is_sign sg.Semicolon)
first-not-semicolon (w.sign sg.Semicolon) h = cc
first-not-semicolon (w.sign _) h = refl
first-not-semicolon _ h = refl

pub first-not-else : Excludes is_first is_else
first-not-else (w.keyword k.Else) h = cc
first-not-else (w.keyword _) h = refl
first-not-else _ h = refl

-- ---- names

pub read-name : (n : Placed NameId) (rest : Tokens) → IsRead blank_placed name (spell_name n) (blank_placed n) rest
unfolding name
read-name n rest places = (record { at = places.0; item = n.item }, refl, refl)

ref-by : (global : Bool) (n : Node) (x : Placed NameId) (rest : Tokens) → IsRead blank_ref placed_ref (spell_ref (record { node = n; global = global; name = x })) (blank_ref (record { node = n; global = global; name = x })) rest
unfolding placed_ref reference name
ref-by true n x rest places = (record { node = node_at places.0; global = true; name = record { at = places.1.0; item = x.item } }, refl, refl)
ref-by false n x rest places = (record { node = node_at places.0; global = false; name = record { at = places.0; item = x.item } }, refl, refl)

pub read-ref : (r : Ref) (rest : Tokens) → IsRead blank_ref placed_ref (spell_ref r) (blank_ref r) rest
read-ref r rest = ref-by r.global r.node r.name rest

-- ---- what may be called

-- a callee, wherever it begins
abbrev pub blank_placed_callee : Placed Callee → Callee
blank_placed_callee c = blank_callee c.item

abbrev IsCalleeRead : Callee → Tokens → Type 0
IsCalleeRead c rest = IsRead blank_placed_callee callee (spell_callee c) (blank_callee c) rest

bare-by : (global : Bool) (n : Node) (x : Placed NameId) (rest : Tokens) → sees sg.Dot rest ≡ false → sees sg.Arrow rest ≡ false → IsCalleeRead (callee_of.Bare (record { node = n; global = global; name = x })) rest
unfolding callee target reference selected_of name
bare-by true n x rest dot arrow places =
    (placed_callee places.0 (callee_of.Bare (record { node = node_at places.0; global = true; name = record { at = places.1.0; item = x.item } })), refl, rw (dot, arrow) refl)
bare-by false n x rest dot arrow places =
    (placed_callee places.0 (callee_of.Bare (record { node = node_at places.0; global = false; name = record { at = places.0; item = x.item } })), refl, rw (dot, arrow) refl)

dot-by : (global : Bool) (n : Node) (x y : Placed NameId) (rest : Tokens) → IsCalleeRead (member_of (base_of.Dot (record { node = n; global = global; name = x })) y) rest
unfolding callee target reference selected_of selected name
dot-by true n x y rest places =
    let r : Ref = record { node = node_at places.0; global = true; name = record { at = places.1.0; item = x.item } } in
    (placed_callee places.0 (member_of (base_of.Dot r) (record { at = places.1.1.1.0; item = y.item })), refl, refl)
dot-by false n x y rest places =
    let r : Ref = record { node = node_at places.0; global = false; name = record { at = places.0; item = x.item } } in
    (placed_callee places.0 (member_of (base_of.Dot r) (record { at = places.1.1.0; item = y.item })), refl, refl)

arrow-by : (global : Bool) (n : Node) (x y : Placed NameId) (rest : Tokens) → IsCalleeRead (member_of (base_of.Arrow (record { node = n; global = global; name = x })) y) rest
unfolding callee target reference selected_of selected name
arrow-by true n x y rest places =
    let r : Ref = record { node = node_at places.0; global = true; name = record { at = places.1.0; item = x.item } } in
    (placed_callee places.0 (member_of (base_of.Arrow r) (record { at = places.1.1.1.0; item = y.item })), refl, refl)
arrow-by false n x y rest places =
    let r : Ref = record { node = node_at places.0; global = false; name = record { at = places.0; item = x.item } } in
    (placed_callee places.0 (member_of (base_of.Arrow r) (record { at = places.1.1.0; item = y.item })), refl, refl)

member-by : (base : Base) (y : Placed NameId) (rest : Tokens) → IsCalleeRead (member_of base y) rest
unfolding callee selected name
member-by base_of.This y rest places = (placed_callee places.0 (member_of base_of.This (record { at = places.1.1.0; item = y.item })), refl, refl)
member-by (base_of.Dot r) y rest places = dot-by r.global r.node r.name y rest places
member-by (base_of.Arrow r) y rest places = arrow-by r.global r.node r.name y rest places

pub read-callee : (c : Callee) (rest : Tokens) → sees sg.Dot rest ≡ false → sees sg.Arrow rest ≡ false → IsRead blank_placed_callee callee (spell_callee c) (blank_callee c) rest
read-callee (callee_of.Bare r) rest dot arrow = bare-by r.global r.node r.name rest dot arrow
read-callee (callee_of.Member s) rest dot arrow = member-by s.base s.name rest

-- ---- types and parameters

module _ (special : SpecialName → ℕ) where
  type-by : (t : TypeName) → IsPlainType t → (rest : Tokens) → IsRead blank_placed plain_type (spell_type special t) (record { at = no_place; item = t }) rest
  unfolding plain_type
  type-by (type_of.Num kind) v rest places = (record { at = places.0; item = type_of.Num kind }, refl, refl)
  type-by type_of.Int v rest places = (record { at = places.0; item = type_of.Int }, refl, refl)
  type-by type_of.Unsigned v rest places = (record { at = places.0; item = type_of.Unsigned }, refl, refl)
  type-by type_of.Void v rest places = (record { at = places.0; item = type_of.Void }, refl, refl)
  type-by (type_of.Pointer class) v rest places = (record { at = places.0; item = type_of.Pointer class }, refl, refl)
  type-by type_of.Mutex v rest places = absurd v

  pub read-type : (t : Placed TypeName) → IsPlainType t.item → (rest : Tokens) → IsRead blank_placed plain_type (spell_type special t.item) (blank_placed t) rest
  read-type t v rest = type-by t.item v rest

  pub first-type : (t : TypeName) → begins is_first (spell_type special t) ≡ true
  first-type (type_of.Num kind) = refl
  first-type type_of.Int = refl
  first-type type_of.Unsigned = refl
  first-type type_of.Void = refl
  first-type (type_of.Pointer class) = refl
  first-type type_of.Mutex = refl

  pub first-typed : (t : Placed TypeName) (n : Placed NameId) → begins is_first (spell_typed special t n) ≡ true
  first-typed t n = begins-append is_first (spell_type special t.item) (spell_name n) (first-type t.item)

  pub read-param : (q : Param) (rest : Tokens) → IsPlainType q.type_name.item → IsRead blank_param param (spell_param special q) (blank_param q) rest
  unfolding param
  read-param q rest v =
      let made : Placed TypeName → Placed NameId → Param = λ t n. record { type_name = t; name = n } in
      read-then blank_placed blank_param plain_type _ (spell_type special q.type_name.item) (spell_name q.name) (blank_placed q.type_name) (blank_param q) rest
      (λ places. read-type q.type_name v _)
      (λ t e. read-made blank_placed blank_param name (made t) (spell_name q.name) (blank_placed q.name) (blank_param q) rest (read-name q.name rest)
      (λ n i. ap (λ x. made x (blank_placed n)) e ∙ ap (made (blank_placed q.type_name)) i))

  pub read-params : (depth : ℕ) (qs : List Param) (rest : Tokens) → FitsParams depth qs → IsRead (map blank_param) (params depth) (spell_params special qs) (map blank_param qs) rest
  unfolding params
  read-params depth qs rest v =
      read-in_parens (map blank_param) depth (λ below. any param) _ _ (map blank_param qs) rest v (λ below u at.
      read-any (spell_param special) (λ (q : Param). IsPlainType q.type_name.item) blank_param param (λ ts. Unit {0}) (λ q rest v follows. read-param q rest v)
      (λ at ts. tt) (λ at ts. tt) is_first first-not-close_paren (λ q v. first-typed q.type_name q.name) qs at rest u)
