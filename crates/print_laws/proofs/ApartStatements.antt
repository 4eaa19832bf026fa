-- The parts of statements are read as what they are.
use Rattle.std.proofs.Common.{◌≡◌, Bool, true, false, ℕ, List, [], ◌∷◌, Option, Some, None, refl}
use Rattle.agxx_base.specs.declared.vocabulary.Sign.TheVariants as sg
use Rattle.agxx_base.specs.declared.vocabulary.SpecialName.TheVariants as sn
use Rattle.cxx_tree.specs.declared.expr.Left.{Left}
use Rattle.cxx_tree.specs.Limits.{Grammar, HasAdviceForms, Every}
use Rattle.cxx_tree.specs.Fits as fits
use Rattle.cxx_tree.specs.Spelling.{bump_sign}
use Rattle.cxx_tree.specs.ExprTree as e
use Rattle.cxx_tree.specs.StmtTree as s
use Rattle.cxx_print.specs.Document.{deeper, indented}
use Rattle.cxx_print.specs.Expressions as x
use Rattle.cxx_print.specs.Statements as f
use Rattle.print_laws.proofs.Shapes.{Shape, letters, sign, space}
use Rattle.print_laws.proofs.ApartDocuments.{touches, front, Apart, Closes, quotes-touch, parentheses-apart, ended-apart, indented-apart, line-apart, optional-apart}
use Rattle.print_laws.proofs.ApartExpressions.{IsOpener, parenthesis-opens, left-behind, callee-behind, type-behind, ref-behind, ref-apart, callee-apart, std-apart, typed-apart, commas-close, left-apart, commas-apart, full-apart, all-fit, arguments-apart, condition-apart}

-- ---- what may stand behind parts of a statement

-- behind a part without its semicolon
abbrev Ends : Option Shape → Type 0
Ends next = Closes next × ((adds : Bool) → touches (sign (bump_sign adds)) next ≡ true)

bump-before-semicolon : (adds : Bool) → touches (sign (bump_sign adds)) (Some (sign sg.Semicolon)) ≡ true
bump-before-semicolon true = refl
bump-before-semicolon false = refl

bump-before-parenthesis : (adds : Bool) → touches (sign (bump_sign adds)) (Some (sign sg.CloseParen)) ≡ true
bump-before-parenthesis true = refl
bump-before-parenthesis false = refl

semicolon-ends : Ends (Some (sign sg.Semicolon))
semicolon-ends = ((refl, refl), bump-before-semicolon)

parenthesis-ends : Ends (Some (sign sg.CloseParen))
parenthesis-ends = ((refl, refl), bump-before-parenthesis)

bump-opens : (adds : Bool) → IsOpener (bump_sign adds)
bump-opens true = (refl, refl, refl)
bump-opens false = (refl, refl, refl)

letters-before-bump : (adds : Bool) → touches letters (Some (sign (bump_sign adds))) ≡ true
letters-before-bump true = refl
letters-before-bump false = refl

operands-close : (qs : List s.PrintedTree) → Closes (front (f.operands qs) (Some (sign sg.Semicolon)))
operands-close [] = (refl, refl)
operands-close (q ∷ qs) = (refl, refl)

initial-closes : (i : Option s.InitialTree) (next : Option Shape) → Closes next → touches letters (front (f.optional f.initial i) next) ≡ true
initial-closes None next closes = closes.0
initial-closes (Some i) next closes = refl

bump-in-parentheses : (in_front adds : Bool) (l : Left) (next : Option Shape) → touches (sign sg.OpenParen) (front (f.beside in_front (bump_sign adds) (x.left l)) next) ≡ true
bump-in-parentheses true true l next = refl
bump-in-parentheses true false l next = refl
bump-in-parentheses false adds l next = left-behind sg.OpenParen parenthesis-opens l (Some (sign (bump_sign adds)))

simple-in-parentheses : (i : s.SimpleTree) (next : Option Shape) → touches (sign sg.OpenParen) (front (f.simple i) next) ≡ true
simple-in-parentheses (s.assign a) next = left-behind sg.OpenParen parenthesis-opens a.left (Some space)
simple-in-parentheses (s.bump b) next = bump-in-parentheses b.in_front b.adds b.left next
simple-in-parentheses (s.call_stmt (e.calls n to given)) next = callee-behind sg.OpenParen parenthesis-opens to (Some (sign sg.OpenParen))
simple-in-parentheses (s.proceed at) next = refl

start-in-parentheses : (t : Option s.StartTree) → touches (sign sg.OpenParen) (front (f.optional f.start t) (Some (sign sg.Semicolon))) ≡ true
start-in-parentheses None = refl
start-in-parentheses (Some (s.start_local l)) = type-behind sg.OpenParen parenthesis-opens l.type_name.item (Some space)
start-in-parentheses (Some (s.start_simple i)) = simple-in-parentheses i (Some (sign sg.Semicolon))

return-ends : (value : Option e.ExprTree) → touches letters (front (f.optional f.returned value) (Some (sign sg.Semicolon))) ≡ true
return-ends None = refl
return-ends (Some value) = refl

alternative-behind : (level : ℕ) (o : s.ElseTree) (next : Option Shape) → touches (sign sg.CloseBrace) next ≡ true → touches (sign sg.CloseBrace) (front (f.alternative level o) next) ≡ true
alternative-behind level s.no_else next is = is
alternative-behind level (s.else_if i) next is = refl
alternative-behind level (s.else_block b) next is = refl

-- ---- statements

module _ (grammar : Grammar) (no_advice : HasAdviceForms grammar → ⊥) (most : ℕ) where
  initial-apart : (depth : ℕ) (next : Option Shape) → Closes next → (i : s.InitialTree) → fits.FitsFull grammar most depth fits.expr_level i.value → Apart (f.initial i) next
  initial-apart depth next closes i h = (((refl, refl), ((refl, refl), (refl, refl))), full-apart grammar no_advice most depth fits.expr_level i.value h next closes)

  local-apart : (depth : ℕ) (l : s.LocalTree) → fits.FitsLocal grammar most depth l → (next : Option Shape) → Closes next → Apart (f.local l) next
  local-apart depth l (plain, value) next closes = (
    typed-apart l.type_name l.name (front (f.optional f.initial l.initial) next) (initial-closes l.initial next closes),
    optional-apart f.initial next (initial-apart depth next closes) l.initial value,
  )

  assign-apart : (depth : ℕ) (a : s.AssignTree) → fits.FitsLeft grammar depth a.left → fits.FitsFull grammar most depth fits.expr_level a.value → (next : Option Shape) → Closes next → Apart (f.assign a) next
  assign-apart depth a left value next closes = (
    left-apart grammar no_advice depth a.left left (Some space) refl,
    (((refl, refl), ((refl, refl), (refl, refl))), full-apart grammar no_advice most depth fits.expr_level a.value value next closes),
  )

  beside-apart : (depth : ℕ) (in_front adds : Bool) (l : Left) → fits.FitsLeft grammar depth l → (next : Option Shape) → Ends next → Apart (f.beside in_front (bump_sign adds) (x.left l)) next
  beside-apart depth true adds l h next (closes, bumped) =
      ((refl, left-behind (bump_sign adds) (bump-opens adds) l next), left-apart grammar no_advice depth l h next closes.0)
  beside-apart depth false adds l h next (closes, bumped) =
      (left-apart grammar no_advice depth l h (Some (sign (bump_sign adds))) (letters-before-bump adds), (refl, bumped adds))

  simple-apart : (depth : ℕ) (next : Option Shape) → Ends next → (i : s.SimpleTree) → fits.FitsSimple grammar most depth i → Apart (f.simple i) next
  simple-apart depth next ends (s.assign a) (left, signed, value) = assign-apart depth a left value next ends.0
  simple-apart depth next ends (s.bump b) h = beside-apart depth b.in_front b.adds b.left h next ends
  simple-apart depth next ends (s.call_stmt (e.calls n to given)) h =
      (callee-apart to (Some (sign sg.OpenParen)) refl, arguments-apart grammar no_advice most depth given h next ends.0.1)
  simple-apart depth next ends (s.proceed at) (has, opens) = absurd (no_advice has)

  operand-apart : (depth : ℕ) (q : s.PrintedTree) → fits.FitsPrinted grammar most depth q → (next : Option Shape) → Closes next → Apart (f.operand q) next
  operand-apart depth (s.text q) h next closes = (refl, quotes-touch next)
  operand-apart depth (s.endl at) h next closes = std-apart sn.Endl next refl closes.0
  operand-apart depth (s.value v) h next closes = full-apart grammar no_advice most depth fits.sum_level v h next closes

  operands-apart : (depth : ℕ) (qs : List s.PrintedTree) → Every (fits.FitsPrinted grammar most depth) qs → Apart (f.operands qs) (Some (sign sg.Semicolon))
  operands-apart depth [] h = tt
  operands-apart depth (q ∷ qs) (here, there) = (
    (((refl, refl), ((refl, refl), (refl, refl))), operand-apart depth q here (front (f.operands qs) (Some (sign sg.Semicolon))) (operands-close qs)),
    operands-apart depth qs there,
  )

  print-apart : (depth : ℕ) (p : s.PrintTree) → Every (fits.FitsPrinted grammar most depth) p.operands → Apart (f.print p) (Some (sign sg.Semicolon))
  print-apart depth p h =
      (std-apart sn.Cout (front (f.operands p.operands) (Some (sign sg.Semicolon))) refl (operands-close p.operands).0, operands-apart depth p.operands h)

  started-apart : (depth : ℕ) (t : s.ThreadTree) → fits.FitsArguments grammar most depth t.arguments → Apart (f.started t) (Some (sign sg.Semicolon))
  started-apart depth t (below, opened, h) =
      parentheses-apart (f.function_and_arguments t) (Some (sign sg.Semicolon))
      (ref-behind sg.OpenParen parenthesis-opens t.function (front (x.after_commas t.arguments) (Some (sign sg.CloseParen)))) (
        ref-apart t.function (front (x.after_commas t.arguments) (Some (sign sg.CloseParen))) (commas-close t.arguments).0,
        commas-apart grammar no_advice below t.arguments (all-fit grammar no_advice most below t.arguments h),
      )
      refl

  thread-apart : (depth : ℕ) (t : s.ThreadTree) → fits.FitsArguments grammar most depth t.arguments → Apart (f.thread t) (Some (sign sg.Semicolon))
  thread-apart depth t h = (std-apart sn.Thread (Some space) refl refl, ((refl, refl), ((refl, refl), started-apart depth t h)))

  start-apart : (depth : ℕ) (t : s.StartTree) → fits.FitsStart grammar most depth t → Apart (f.start t) (Some (sign sg.Semicolon))
  start-apart depth (s.start_local l) h = local-apart depth l h (Some (sign sg.Semicolon)) (refl, refl)
  start-apart depth (s.start_simple i) h = simple-apart depth (Some (sign sg.Semicolon)) semicolon-ends i h

  returned-apart : (depth : ℕ) (value : e.ExprTree) → fits.FitsFull grammar most depth fits.expr_level value → Apart (f.returned value) (Some (sign sg.Semicolon))
  returned-apart depth value h = ((refl, refl), full-apart grammar no_advice most depth fits.expr_level value h (Some (sign sg.Semicolon)) (refl, refl))

  for_parts-apart : (depth : ℕ) (first : Option s.StartTree) (condition : Option e.ExprTree) (step : Option s.SimpleTree)
      → fits.Optionally (fits.FitsStart grammar most depth) first → fits.Optionally (fits.FitsFull grammar most depth fits.expr_level) condition → fits.Optionally (fits.FitsSimple grammar most depth) step
      → Apart (f.for_parts first condition step) (Some (sign sg.CloseParen))
  for_parts-apart depth first condition step begins tests steps = (
    ended-apart (f.optional f.start first) (Some space) (optional-apart f.start (Some (sign sg.Semicolon)) (start-apart depth) first begins) refl,
    (
      (refl, refl),
      (
        ended-apart (f.optional x.expr condition) (Some space)
            (optional-apart x.expr (Some (sign sg.Semicolon)) (λ t h. full-apart grammar no_advice most depth fits.expr_level t h (Some (sign sg.Semicolon)) (refl, refl)) condition tests)
            refl,
        ((refl, refl), optional-apart f.simple (Some (sign sg.CloseParen)) (simple-apart depth (Some (sign sg.CloseParen)) parenthesis-ends) step steps),
      ),
    ),
  )

  mutual
    -- a statement stands before the end of its line
    pub stmt-apart : (depth level : ℕ) (t : s.StmtTree) → fits.FitsStmt grammar most depth t → Apart (f.stmt level t) (Some space)
    stmt-apart depth level (s.block b) h = block-apart depth level b h (Some space) refl
    stmt-apart depth level (s.local l) h = ended-apart (f.local l) (Some space) (local-apart depth l h (Some (sign sg.Semicolon)) (refl, refl)) refl
    stmt-apart depth level (s.simple i) h = ended-apart (f.simple i) (Some space) (simple-apart depth (Some (sign sg.Semicolon)) semicolon-ends i h) refl
    stmt-apart depth level (s.branch i) h = branch-apart depth level i h
    stmt-apart depth level (s.while at condition body) ((below, opened, head), inner) = (
      ((refl, refl), ((refl, refl), condition-apart grammar no_advice most below fits.expr_level condition head (Some space) refl)),
      ((refl, refl), block-apart depth level body inner (Some space) refl),
    )
    stmt-apart depth level (s.for at first condition step body) ((below, opened, (begins, tests, steps)), inner) = (
      (
        (refl, refl),
        (
          (refl, refl),
          parentheses-apart (f.for_parts first condition step) (Some space) (start-in-parentheses first) (for_parts-apart below first condition step begins tests steps) refl,
        ),
      ),
      ((refl, refl), block-apart depth level body inner (Some space) refl),
    )
    stmt-apart depth level (s.return at value) h =
        (((refl, return-ends value), optional-apart f.returned (Some (sign sg.Semicolon)) (returned-apart depth) value h), (refl, refl))
    stmt-apart depth level (s.delete at pointer) h = (((refl, refl), returned-apart depth pointer h), (refl, refl))
    stmt-apart depth level (s.print p) (some, operands) = ended-apart (f.print p) (Some space) (print-apart depth p operands) refl
    stmt-apart depth level (s.thread t) h = ended-apart (f.thread t) (Some space) (thread-apart depth t h) refl
    stmt-apart depth level (s.abort at) h = ((std-apart sn.Abort (Some (sign sg.OpenParen)) refl refl, ((refl, refl), (refl, refl))), (refl, refl))

    pub stmts-apart : (depth level : ℕ) (ts : s.StmtTrees) → fits.FitsStmts grammar most depth ts → (next : Option Shape) → Apart (f.stmts level ts) next
    stmts-apart depth level s.no_stmts h next = tt
    stmts-apart depth level (s.more_stmts first rest) (here, there) next =
        (line-apart level (f.stmt level first) (front (f.stmts level rest) next) (stmt-apart depth level first here), stmts-apart depth level rest there next)

    pub block-apart : (depth level : ℕ) (b : s.BlockTree) → fits.FitsBlock grammar most depth b → (next : Option Shape) → touches (sign sg.CloseBrace) next ≡ true → Apart (f.block level b) next
    block-apart depth level (s.braces at inner) (below, opened, h) next is = (
      (refl, refl),
      (
        (refl, refl),
        (
          stmts-apart below (deeper level) inner h (front (indented level) (Some (sign sg.CloseBrace))),
          (indented-apart level (Some (sign sg.CloseBrace)), (refl, is)),
        ),
      ),
    )

    branch-apart : (depth level : ℕ) (i : s.IfTree) → fits.FitsIf grammar most depth i → Apart (f.branch level i) (Some space)
    branch-apart depth level (s.chooses at condition body other) ((below, opened, head), inner, otherwise) = (
      ((refl, refl), ((refl, refl), condition-apart grammar no_advice most below fits.expr_level condition head (Some space) refl)),
      (
        (refl, refl),
        (
          block-apart depth level body inner (front (f.alternative level other) (Some space)) (alternative-behind level other (Some space) refl),
          alternative-apart depth level other otherwise,
        ),
      ),
    )

    alternative-apart : (depth level : ℕ) (o : s.ElseTree) → fits.FitsElse grammar most depth o → Apart (f.alternative level o) (Some space)
    alternative-apart depth level s.no_else h = tt
    alternative-apart depth level (s.else_if i) (below, opened, h) = (((refl, refl), ((refl, refl), (refl, refl))), branch-apart below level i h)
    alternative-apart depth level (s.else_block b) h = (((refl, refl), ((refl, refl), (refl, refl))), block-apart depth level b h (Some space) refl)
