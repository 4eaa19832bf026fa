-- The words of statements are their spelling.
use Rattle.std.proofs.Common.{◌≡◌, Bool, true, false, ℕ, List, [], ◌∷◌, ◌++◌, Option, Some, None, refl, ap, ◌∙◌}
use Rattle.std.specs.List.{flat_map}
use Rattle.agxx_base.specs.declared.vocabulary.Keyword.TheVariants as k
use Rattle.agxx_base.specs.declared.vocabulary.Sign.{Sign}
use Rattle.agxx_base.specs.declared.vocabulary.Sign.TheVariants as sg
use Rattle.agxx_base.specs.declared.vocabulary.SpecialName.{SpecialName}
use Rattle.cxx_tree.specs.declared.stmt.Bump.{Bump}
use Rattle.cxx_tree.specs.Words as w
use Rattle.cxx_tree.specs.Spelling as spell
use Rattle.cxx_tree.specs.Spelling.{bump_sign, spell_expr, spell_initial, spell_local, spell_assign, spell_bump, spell_simple, spell_printed, spell_print, spell_thread, spell_start, spell_stmt, spell_stmts, spell_block, spell_if, spell_else}
use Rattle.cxx_tree.specs.ExprTree as e
use Rattle.cxx_tree.specs.StmtTree as s
use Rattle.cxx_print.specs.Document.{Document, deeper}
use Rattle.cxx_print.specs.Expressions as x
use Rattle.cxx_print.specs.Statements as f
use Rattle.print_laws.proofs.Documents.{words, words-indented, words-line, words-optional}
use Rattle.print_laws.proofs.Expressions.{ref-is, left-is, typed-is, expr-is, commas-is, call-is}

module _ (number : SpecialName → ℕ) where
  initial-is : (i : s.InitialTree) → words number (f.initial i) ≡ spell_initial number i
  initial-is i = rw (expr-is number i.value) refl

  local-is : (l : s.LocalTree) → words number (f.local l) ≡ spell_local number l
  local-is l = rw (typed-is number l.type_name l.name, words-optional number f.initial (spell_initial number) initial-is l.initial) refl

  assign-is : (a : s.AssignTree) → words number (f.assign a) ≡ spell_assign number a
  assign-is a = rw (left-is number a.left, expr-is number a.value) refl

  beside-is : (in_front : Bool) (it : Sign) (d : Document) → words number (f.beside in_front it d) ≡ spell.beside in_front it (words number d)
  beside-is true it d = refl
  beside-is false it d = refl

  bump-is : (b : Bump) → words number (f.bump b) ≡ spell_bump number b
  bump-is b = beside-is b.in_front (bump_sign b.adds) (x.left b.left) ∙ ap (spell.beside b.in_front (bump_sign b.adds)) (left-is number b.left)

  simple-is : (i : s.SimpleTree) → words number (f.simple i) ≡ spell_simple number i
  simple-is (s.assign a) = assign-is a
  simple-is (s.bump b) = bump-is b
  simple-is (s.call_stmt c) = call-is number c
  simple-is (s.proceed at) = refl

  operand-is : (q : s.PrintedTree) → w.sign sg.ShiftLeft ∷ words number (f.operand q) ≡ spell_printed number q
  operand-is (s.text q) = refl
  operand-is (s.endl at) = refl
  operand-is (s.value v) = rw (expr-is number v) refl

  operands-is : (qs : List s.PrintedTree) → words number (f.operands qs) ≡ flat_map (spell_printed number) qs
  operands-is [] = refl
  operands-is (q ∷ qs) = λ i. operand-is q i ++ operands-is qs i

  print-is : (p : s.PrintTree) → words number (f.print p) ≡ spell_print number p
  print-is p = rw (operands-is p.operands) refl

  thread-is : (t : s.ThreadTree) → words number (f.thread t) ≡ spell_thread number t
  thread-is t = rw (ref-is number t.function, commas-is number t.arguments) refl

  start-is : (t : s.StartTree) → words number (f.start t) ≡ spell_start number t
  start-is (s.start_local l) = local-is l
  start-is (s.start_simple i) = simple-is i

  return-is : (value : Option e.ExprTree) → words number (f.return_stmt value) ≡ w.keyword k.Return ∷ w.ended (w.optional (spell_expr number) value)
  return-is None = refl
  return-is (Some value) = rw (expr-is number value) refl

  mutual
    pub stmt-is : (level : ℕ) (t : s.StmtTree) → words number (f.stmt level t) ≡ spell_stmt number t
    stmt-is level (s.block b) = block-is level b
    stmt-is level (s.local l) = ap w.ended (local-is l)
    stmt-is level (s.simple i) = ap w.ended (simple-is i)
    stmt-is level (s.branch i) = branch-is level i
    stmt-is level (s.while at condition body) = rw (expr-is number condition, block-is level body) refl
    stmt-is level (s.for at first condition step body) =
        rw (words-optional number f.start (spell_start number) start-is first, words-optional number x.expr (spell_expr number) (expr-is number) condition, words-optional number f.simple (spell_simple number) simple-is step, block-is level body) refl
    stmt-is level (s.return at value) = return-is value
    stmt-is level (s.delete at pointer) = rw (expr-is number pointer) refl
    stmt-is level (s.print p) = ap w.ended (print-is p)
    stmt-is level (s.thread t) = ap w.ended (thread-is t)
    stmt-is level (s.abort at) = refl

    pub stmts-is : (level : ℕ) (ts : s.StmtTrees) → words number (f.stmts level ts) ≡ spell_stmts number ts
    stmts-is level s.no_stmts = refl
    stmts-is level (s.more_stmts first rest) = λ i. (words-line number level (f.stmt level first) ∙ stmt-is level first) i ++ stmts-is level rest i

    pub block-is : (level : ℕ) (b : s.BlockTree) → words number (f.block level b) ≡ spell_block number b
    block-is level (s.braces at inner) = rw (stmts-is (deeper level) inner, words-indented number level) refl

    branch-is : (level : ℕ) (i : s.IfTree) → words number (f.branch level i) ≡ spell_if number i
    branch-is level (s.chooses at condition body other) = rw (expr-is number condition, block-is level body, alternative-is level other) refl

    alternative-is : (level : ℕ) (o : s.ElseTree) → words number (f.alternative level o) ≡ spell_else number o
    alternative-is level s.no_else = refl
    alternative-is level (s.else_if i) = ap (λ z. w.keyword k.Else ∷ z) (branch-is level i)
    alternative-is level (s.else_block b) = ap (λ z. w.keyword k.Else ∷ z) (block-is level b)
