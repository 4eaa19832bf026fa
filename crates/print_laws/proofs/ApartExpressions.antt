-- The parts of expressions are read as what they are.
use Rattle.std.proofs.Common.{◌≡◌, Bool, true, false, ℕ, Option, Some, refl}
use Rattle.agxx_base.specs.declared.ids.NameId.{NameId}
use Rattle.agxx_base.specs.declared.vocabulary.Sign.{Sign}
use Rattle.agxx_base.specs.declared.vocabulary.Sign.TheVariants as sg
use Rattle.agxx_base.specs.declared.vocabulary.SpecialName.{SpecialName}
use Rattle.cxx_tree.specs.declared.node.Placed.{Placed}
use Rattle.cxx_tree.specs.declared.operator.UnOp.{UnOp}
use Rattle.cxx_tree.specs.declared.operator.UnOp.TheVariants as un
use Rattle.cxx_tree.specs.declared.expr.Ref.{Ref}
use Rattle.cxx_tree.specs.declared.expr.Base.{Base}
use Rattle.cxx_tree.specs.declared.expr.Base.TheVariants as base_of
use Rattle.cxx_tree.specs.declared.expr.Selector.{Selector}
use Rattle.cxx_tree.specs.declared.expr.Left.{Left}
use Rattle.cxx_tree.specs.declared.expr.Left.TheVariants as left_of
use Rattle.cxx_tree.specs.declared.expr.Callee.{Callee}
use Rattle.cxx_tree.specs.declared.expr.Callee.TheVariants as callee_of
use Rattle.cxx_tree.specs.declared.program.TypeName.{TypeName}
use Rattle.cxx_tree.specs.declared.program.TypeName.TheVariants as type_of
use Rattle.cxx_tree.specs.Limits.{Grammar, HasAdviceForms}
use Rattle.cxx_tree.specs.Fits as fits
use Rattle.cxx_tree.specs.Spelling.{unary_sign}
use Rattle.cxx_tree.specs.ExprTree as e
use Rattle.cxx_print.specs.Document.{Document}
use Rattle.cxx_print.specs.Expressions as f
use Rattle.print_laws.proofs.Shapes.{Shape, letters, sign, space, may_touch, is_in_programs}
use Rattle.print_laws.proofs.ApartDocuments.{touches, front, Apart, Closes, parentheses-apart}

-- ---- what an expression may stand behind

-- a sign behind which a name may stand, with `::` before it or without, the result of a join point, or a parenthesis
abbrev pub IsOpener : Sign → Type 0
IsOpener it =
    (may_touch (sign it) (sign sg.ColonColon) ≡ true)
    × (may_touch (sign it) (sign sg.Star) ≡ true)
    × (may_touch (sign it) (sign sg.OpenParen) ≡ true)

pub parenthesis-opens : IsOpener sg.OpenParen
parenthesis-opens = (refl, refl, refl)

unary-opens : (o : UnOp) → IsOpener (unary_sign o)
unary-opens un.Negate = (refl, refl, refl)
unary-opens un.Not = (refl, refl, refl)
unary-opens un.Complement = (refl, refl, refl)
unary-opens un.AddressOf = (refl, refl, refl)

module _ (it : Sign) (opens : IsOpener it) where
  scope-behind : (is_global : Bool) → touches (sign it) (front (f.scope is_global) (Some letters)) ≡ true
  scope-behind true = opens.0
  scope-behind false = refl

  pub ref-behind : (r : Ref) (next : Option Shape) → touches (sign it) (front (f.ref r) next) ≡ true
  ref-behind r next = scope-behind r.global

  selector-behind : (b : Base) (n : Placed NameId) (next : Option Shape) → touches (sign it) (front (f.base b) (front (f.name n) next)) ≡ true
  selector-behind base_of.This n next = refl
  selector-behind (base_of.Dot r) n next = scope-behind r.global
  selector-behind (base_of.Arrow r) n next = scope-behind r.global

  pub callee-behind : (c : Callee) (next : Option Shape) → touches (sign it) (front (f.callee c) next) ≡ true
  callee-behind (callee_of.Bare r) next = scope-behind r.global
  callee-behind (callee_of.Member s) next = selector-behind s.base s.name next

  pub left-behind : (l : Left) (next : Option Shape) → touches (sign it) (front (f.left l) next) ≡ true
  left-behind (left_of.Name r) next = scope-behind r.global
  left-behind (left_of.Member n s) next = selector-behind s.base s.name next
  left-behind (left_of.Result n) next = opens.1

  pub type-behind : (t : TypeName) (next : Option Shape) → touches (sign it) (front (f.type_name t) next) ≡ true
  type-behind (type_of.Num num) next = refl
  type-behind type_of.Int next = refl
  type-behind type_of.Unsigned next = refl
  type-behind type_of.Void next = refl
  type-behind (type_of.Pointer class) next = refl
  type-behind type_of.Mutex next = refl

  -- the unary operator with which an expression begins may stand behind the sign
  abbrev IsFree : e.ExprTree → Type 0
  IsFree (e.unary n o operand) = may_touch (sign it) (sign (unary_sign o)) ≡ true
  IsFree (e.binary n o a b) = IsFree a
  IsFree other = Unit {0}

  flag-behind : (is_set : Bool) (next : Option Shape) → touches (sign it) (front (f.flag is_set) next) ≡ true
  flag-behind true next = refl
  flag-behind false next = refl

  expr-behind : (x : e.ExprTree) → IsFree x → (next : Option Shape) → touches (sign it) (front (f.expr x) next) ≡ true
  expr-behind (e.lit n value) free next = refl
  expr-behind (e.flag n is_set) free next = flag-behind is_set next
  expr-behind (e.null n) free next = refl
  expr-behind (e.this n) free next = refl
  expr-behind (e.left l) free next = left-behind l next
  expr-behind (e.unary n o operand) free next = free
  expr-behind (e.binary n o a b) free next = expr-behind a free (Some space)
  expr-behind (e.paren n inner) free next = opens.2
  expr-behind (e.cast n to operand) free next = type-behind to (Some (sign sg.OpenParen))
  expr-behind (e.call (e.calls n to given)) free next = callee-behind to (Some (sign sg.OpenParen))
  expr-behind (e.new n class) free next = refl
  expr-behind (e.new_with n class given) free next = refl

-- behind a parenthesis each may stand
unary-in-parentheses : (o : UnOp) → may_touch (sign sg.OpenParen) (sign (unary_sign o)) ≡ true
unary-in-parentheses un.Negate = refl
unary-in-parentheses un.Not = refl
unary-in-parentheses un.Complement = refl
unary-in-parentheses un.AddressOf = refl

in-parentheses-free : (x : e.ExprTree) → IsFree sg.OpenParen parenthesis-opens x
in-parentheses-free (e.unary n o operand) = unary-in-parentheses o
in-parentheses-free (e.binary n o a b) = in-parentheses-free a
in-parentheses-free other = tt

pub expr-in-parentheses : (x : e.ExprTree) (next : Option Shape) → touches (sign sg.OpenParen) (front (f.expr x) next) ≡ true
expr-in-parentheses x next = expr-behind sg.OpenParen parenthesis-opens x (in-parentheses-free x) next

-- behind a unary operator each that doesn't join with it
unary-behind-unary : (o next : UnOp) → f.would_join o next ≡ false → may_touch (sign (unary_sign o)) (sign (unary_sign next)) ≡ true
unary-behind-unary un.Negate un.Negate joined = absurd (cc joined)
unary-behind-unary un.Negate un.Not joined = refl
unary-behind-unary un.Negate un.Complement joined = refl
unary-behind-unary un.Negate un.AddressOf joined = refl
unary-behind-unary un.Not un.Negate joined = refl
unary-behind-unary un.Not un.Not joined = refl
unary-behind-unary un.Not un.Complement joined = refl
unary-behind-unary un.Not un.AddressOf joined = refl
unary-behind-unary un.Complement un.Negate joined = refl
unary-behind-unary un.Complement un.Not joined = refl
unary-behind-unary un.Complement un.Complement joined = refl
unary-behind-unary un.Complement un.AddressOf joined = refl
unary-behind-unary un.AddressOf un.Negate joined = refl
unary-behind-unary un.AddressOf un.Not joined = refl
unary-behind-unary un.AddressOf un.Complement joined = refl
unary-behind-unary un.AddressOf un.AddressOf joined = absurd (cc joined)

behind-unary-free : (o : UnOp) (x : e.ExprTree) → f.joins o x ≡ false → IsFree (unary_sign o) (unary-opens o) x
behind-unary-free o (e.unary n next operand) joined = unary-behind-unary o next joined
behind-unary-free o (e.binary n s a b) joined = behind-unary-free o a joined
behind-unary-free o other joined = tt

unary-apart : (o : UnOp) (is_apart : Bool) (d : Document) (next : Option Shape)
    → (is_apart ≡ false → touches (sign (unary_sign o)) (front d next) ≡ true) → Apart d next → Apart (f.unary o is_apart d) next
unary-apart o true d next behind h = ((refl, refl), ((refl, refl), h))
unary-apart o false d next behind h = ((refl, behind refl), (tt, h))

-- ---- names and types

scope-apart : (is_global : Bool) → Apart (f.scope is_global) (Some letters)
scope-apart true = (refl, refl)
scope-apart false = tt

pub ref-apart : (r : Ref) (next : Option Shape) → touches letters next ≡ true → Apart (f.ref r) next
ref-apart r next is = (scope-apart r.global, (refl, is))

base-apart : (b : Base) → Apart (f.base b) (Some letters)
base-apart base_of.This = ((refl, refl), (refl, refl))
base-apart (base_of.Dot r) = (ref-apart r (Some (sign sg.Dot)) refl, (refl, refl))
base-apart (base_of.Arrow r) = (ref-apart r (Some (sign sg.Arrow)) refl, (refl, refl))

selector-apart : (s : Selector) (next : Option Shape) → touches letters next ≡ true → Apart (f.selector s) next
selector-apart s next is = (base-apart s.base, (refl, is))

pub callee-apart : (c : Callee) (next : Option Shape) → touches letters next ≡ true → Apart (f.callee c) next
callee-apart (callee_of.Bare r) next is = ref-apart r next is
callee-apart (callee_of.Member s) next is = selector-apart s next is

pub std-apart : (part : SpecialName) (next : Option Shape) → is_in_programs part ≡ true → touches letters next ≡ true → Apart (f.std_name part) next
std-apart part next known is = ((refl, refl), ((refl, refl), (known, is)))

type-apart : (t : TypeName) (next : Option Shape) → touches letters next ≡ true → touches (sign sg.Star) next ≡ true → Apart (f.type_name t) next
type-apart (type_of.Num num) next is starred = (refl, is)
type-apart type_of.Int next is starred = (refl, is)
type-apart type_of.Unsigned next is starred = (refl, is)
type-apart type_of.Void next is starred = (refl, is)
type-apart (type_of.Pointer class) next is starred = ((refl, refl), (refl, starred))
type-apart type_of.Mutex next is starred = ((refl, refl), ((refl, refl), (refl, is)))

pub typed-apart : (t : Placed TypeName) (n : Placed NameId) (next : Option Shape) → touches letters next ≡ true → Apart (f.typed t n) next
typed-apart t n next is = (type-apart t.item (Some space) refl refl, ((refl, refl), (refl, is)))

pub flag-apart : (is_set : Bool) (next : Option Shape) → touches letters next ≡ true → Apart (f.flag is_set) next
flag-apart true next is = (refl, is)
flag-apart false next is = (refl, is)

-- ---- expressions

separated-in-parentheses : (es : e.ExprTrees) → touches (sign sg.OpenParen) (front (f.separated es) (Some (sign sg.CloseParen))) ≡ true
separated-in-parentheses e.no_exprs = refl
separated-in-parentheses (e.more_exprs first rest) = expr-in-parentheses first (front (f.after_commas rest) (Some (sign sg.CloseParen)))

pub commas-close : (es : e.ExprTrees) → Closes (front (f.after_commas es) (Some (sign sg.CloseParen)))
commas-close e.no_exprs = (refl, refl)
commas-close (e.more_exprs next rest) = (refl, refl)

module _ (grammar : Grammar) (no_advice : HasAdviceForms grammar → ⊥) where
  pub left-apart : (depth : ℕ) (l : Left) → fits.FitsLeft grammar depth l → (next : Option Shape) → touches letters next ≡ true → Apart (f.left l) next
  left-apart depth (left_of.Name r) h next is = ref-apart r next is
  left-apart depth (left_of.Member n s) h next is = selector-apart s next is
  left-apart depth (left_of.Result n) (has, opens) next is = absurd (no_advice has)

  mutual
    pub expr-apart : (depth level : ℕ) (x : e.ExprTree) → fits.FitsExpr grammar depth level x → (next : Option Shape) → Closes next → Apart (f.expr x) next
    expr-apart depth level (e.lit n value) h next closes = (refl, closes.0)
    expr-apart depth level (e.flag n is_set) h next closes = flag-apart is_set next closes.0
    expr-apart depth level (e.null n) h next closes = (refl, closes.0)
    expr-apart depth level (e.this n) h next closes = (refl, closes.0)
    expr-apart depth level (e.left l) h next closes = left-apart depth l h next closes.0
    expr-apart depth level (e.unary n o operand) h next closes =
        unary-apart o (f.joins o operand) (f.expr operand) next
        (λ joined. expr-behind (unary_sign o) (unary-opens o) operand (behind-unary-free o operand joined) next)
        (expr-apart depth 0 operand h next closes)
    expr-apart depth level (e.binary n o a b) (within, first, second) next closes =
        (expr-apart depth _ a first (Some space) (refl, refl), (((refl, refl), ((refl, refl), (refl, refl))), expr-apart depth _ b second next closes))
    expr-apart depth level (e.paren n inner) (below, opened, h) next closes =
        parentheses-apart (f.expr inner) next (expr-in-parentheses inner (Some (sign sg.CloseParen))) (expr-apart below fits.expr_level inner h (Some (sign sg.CloseParen)) (refl, refl)) closes.1
    expr-apart depth level (e.cast n to operand) (plain, (below, opened, h)) next closes = (
      type-apart to (Some (sign sg.OpenParen)) refl refl,
      parentheses-apart (f.expr operand) next (expr-in-parentheses operand (Some (sign sg.CloseParen))) (expr-apart below fits.expr_level operand h (Some (sign sg.CloseParen)) (refl, refl)) closes.1,
    )
    expr-apart depth level (e.call c) h next closes = call-apart depth c h next closes.1
    expr-apart depth level (e.new n class) h next closes = ((refl, refl), ((refl, refl), (refl, closes.0)))
    expr-apart depth level (e.new_with n class given) (below, opened, h) next closes = (
      ((refl, refl), ((refl, refl), (refl, refl))),
      parentheses-apart (f.separated given) next (separated-in-parentheses given) (separated-apart below given h) closes.1,
    )

    separated-apart : (depth : ℕ) (es : e.ExprTrees) → fits.FitsAll grammar depth es → Apart (f.separated es) (Some (sign sg.CloseParen))
    separated-apart depth e.no_exprs h = tt
    separated-apart depth (e.more_exprs first rest) (here, there) =
        (expr-apart depth fits.expr_level first here (front (f.after_commas rest) (Some (sign sg.CloseParen))) (commas-close rest), commas-apart depth rest there)

    pub commas-apart : (depth : ℕ) (es : e.ExprTrees) → fits.FitsAll grammar depth es → Apart (f.after_commas es) (Some (sign sg.CloseParen))
    commas-apart depth e.no_exprs h = tt
    commas-apart depth (e.more_exprs first rest) (here, there) = (
      (((refl, refl), (refl, refl)), expr-apart depth fits.expr_level first here (front (f.after_commas rest) (Some (sign sg.CloseParen))) (commas-close rest)),
      commas-apart depth rest there,
    )

    call-apart : (depth : ℕ) (c : e.CallTree) → fits.FitsCall grammar depth c → (next : Option Shape) → touches (sign sg.CloseParen) next ≡ true → Apart (f.call c) next
    call-apart depth (e.calls n to given) (below, opened, h) next is =
        (callee-apart to (Some (sign sg.OpenParen)) refl, parentheses-apart (f.separated given) next (separated-in-parentheses given) (separated-apart below given h) is)

  module _ (most : ℕ) where
    pub full-apart : (depth level : ℕ) (x : e.ExprTree) → fits.FitsFull grammar most depth level x → (next : Option Shape) → Closes next → Apart (f.expr x) next
    full-apart depth level x h next closes = expr-apart depth level x h.0 next closes

    -- arguments that are each within the limits
    pub all-fit : (depth : ℕ) (es : e.ExprTrees) → fits.FitsEach grammar most depth es → fits.FitsAll grammar depth es
    all-fit depth e.no_exprs h = tt
    all-fit depth (e.more_exprs first rest) (here, there) = (here.0, all-fit depth rest there)

    pub arguments-apart : (depth : ℕ) (es : e.ExprTrees) → fits.FitsArguments grammar most depth es → (next : Option Shape) → touches (sign sg.CloseParen) next ≡ true → Apart (f.arguments es) next
    arguments-apart depth es (below, opened, h) next is =
        parentheses-apart (f.separated es) next (separated-in-parentheses es) (separated-apart below es (all-fit below es h)) is

    pub condition-apart : (depth level : ℕ) (x : e.ExprTree) → fits.FitsFull grammar most depth level x → (next : Option Shape) → touches (sign sg.CloseParen) next ≡ true → Apart (f.in_parentheses (f.expr x)) next
    condition-apart depth level x h next is =
        parentheses-apart (f.expr x) next (expr-in-parentheses x (Some (sign sg.CloseParen))) (full-apart depth level x h (Some (sign sg.CloseParen)) (refl, refl)) is
