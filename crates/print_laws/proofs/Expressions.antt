-- The words of expressions are their spelling.
use Rattle.std.proofs.Common.{◌≡◌, Bool, true, false, ℕ, List, [], ◌∷◌, ◌++◌, refl, ap}
use Rattle.agxx_base.specs.declared.ids.NameId.{NameId}
use Rattle.agxx_base.specs.declared.vocabulary.Sign.TheVariants as sg
use Rattle.agxx_base.specs.declared.vocabulary.SpecialName.{SpecialName}
use Rattle.cxx_tree.specs.declared.node.Placed.{Placed}
use Rattle.cxx_tree.specs.declared.expr.Ref.{Ref}
use Rattle.cxx_tree.specs.declared.expr.Base.{Base}
use Rattle.cxx_tree.specs.declared.expr.Base.TheVariants as base_of
use Rattle.cxx_tree.specs.declared.expr.Selector.{Selector}
use Rattle.cxx_tree.specs.declared.expr.Left.{Left}
use Rattle.cxx_tree.specs.declared.expr.Left.TheVariants as left_of
use Rattle.cxx_tree.specs.declared.expr.Callee.{Callee}
use Rattle.cxx_tree.specs.declared.expr.Callee.TheVariants as callee_of
use Rattle.cxx_tree.specs.declared.program.TypeName.{TypeName}
use Rattle.cxx_tree.specs.declared.program.TypeName.TheVariants as type_of
use Rattle.cxx_tree.specs.Words as w
use Rattle.cxx_tree.specs.Words.{Word}
use Rattle.cxx_tree.specs.Spelling.{scoped, spell_flag, spell_ref, spell_base, spell_selector, spell_callee, spell_left, spell_type, spell_typed, spell_expr, spell_each, spell_call, spell_arguments}
use Rattle.cxx_tree.specs.ExprTree as e
use Rattle.cxx_print.specs.Expressions as f
use Rattle.print_laws.proofs.Documents.{words}

module _ (number : SpecialName → ℕ) where
  scope-is : (is_global : Bool) (xs : List Word) → words number (f.scope is_global) ++ xs ≡ scoped is_global xs
  scope-is true xs = refl
  scope-is false xs = refl

  pub ref-is : (r : Ref) → words number (f.ref r) ≡ spell_ref r
  ref-is r = scope-is r.global (w.name r.name.item.0 ∷ [])

  base-is : (b : Base) → words number (f.base b) ≡ spell_base b
  base-is base_of.This = refl
  base-is (base_of.Dot r) = ap (λ z. z ++ w.sign sg.Dot ∷ []) (ref-is r)
  base-is (base_of.Arrow r) = ap (λ z. z ++ w.sign sg.Arrow ∷ []) (ref-is r)

  selector-is : (s : Selector) → words number (f.selector s) ≡ spell_selector s
  selector-is s = ap (λ z. z ++ w.name s.name.item.0 ∷ []) (base-is s.base)

  callee-is : (c : Callee) → words number (f.callee c) ≡ spell_callee c
  callee-is (callee_of.Bare r) = ref-is r
  callee-is (callee_of.Member s) = selector-is s

  pub left-is : (l : Left) → words number (f.left l) ≡ spell_left number l
  left-is (left_of.Name r) = ref-is r
  left-is (left_of.Member n s) = selector-is s
  left-is (left_of.Result n) = refl

  type-is : (t : TypeName) → words number (f.type_name t) ≡ spell_type number t
  type-is (type_of.Num num) = refl
  type-is type_of.Int = refl
  type-is type_of.Unsigned = refl
  type-is type_of.Void = refl
  type-is (type_of.Pointer class) = refl
  type-is type_of.Mutex = refl

  pub typed-is : (t : Placed TypeName) (n : Placed NameId) → words number (f.typed t n) ≡ spell_typed number t n
  typed-is t n = ap (λ z. z ++ w.name n.item.0 ∷ []) (type-is t.item)

  pub flag-is : (is_set : Bool) → words number (f.flag is_set) ≡ spell_flag is_set
  flag-is true = refl
  flag-is false = refl

  apart-is : (is_apart : Bool) (xs : List Word) → words number (f.apart is_apart) ++ xs ≡ xs
  apart-is true xs = refl
  apart-is false xs = refl

  mutual
    pub expr-is : (x : e.ExprTree) → words number (f.expr x) ≡ spell_expr number x
    expr-is (e.lit n value) = refl
    expr-is (e.flag n is_set) = flag-is is_set
    expr-is (e.null n) = refl
    expr-is (e.this n) = refl
    expr-is (e.left l) = left-is l
    expr-is (e.unary n o operand) = rw (expr-is operand, apart-is (f.joins o operand) (spell_expr number operand)) refl
    expr-is (e.binary n o a b) = rw (expr-is a, expr-is b) refl
    expr-is (e.paren n inner) = rw (expr-is inner) refl
    expr-is (e.cast n to operand) = rw (type-is to, expr-is operand) refl
    expr-is (e.call c) = call-is c
    expr-is (e.new n class) = refl
    expr-is (e.new_with n class given) = rw (separated-is given) refl

    pub separated-is : (es : e.ExprTrees) → words number (f.separated es) ≡ w.separated (spell_each number es)
    separated-is e.no_exprs = refl
    separated-is (e.more_exprs first rest) = rw (expr-is first, commas-is rest) refl

    pub commas-is : (es : e.ExprTrees) → words number (f.after_commas es) ≡ w.each_after_comma (spell_each number es)
    commas-is e.no_exprs = refl
    commas-is (e.more_exprs next rest) = rw (expr-is next, commas-is rest) refl

    pub call-is : (c : e.CallTree) → words number (f.call c) ≡ spell_call number c
    call-is (e.calls n to given) = rw (callee-is to, separated-is given) refl

  pub arguments-is : (es : e.ExprTrees) → words number (f.arguments es) ≡ spell_arguments number es
  arguments-is es = rw (separated-is es) refl
