-- Operands and print statements: their core form, and that they print what they print.
use Rattle.std.proofs.Common.{◌≡◌, ℕ, ◌+◌, ◌<◌, ◌≤◌, ◌^◌, List, [], ◌∷◌, ◌++◌, length, map, Some, refl, ap, sym, subst, ◌∙◌, arith, length-append, append_assoc, append-nil}
use Rattle.std.specs.List.{All, flat_map}
use Rattle.std.specs.Prelude.{◌*◌, sum_by}
use Rattle.std.proofs.lemmas.List.Elements.{All-head, All-tail}
use Rattle.std.proofs.lemmas.List.Sums.{sum_by-cons}
use Rattle.agxx_base.specs.declared.kind.NumKind.TheVariants as num
use Rattle.cxx_tree.specs.declared.operator.BinOp.TheVariants.{Add}
use Rattle.cxx_tree.specs.Places.{expr_node}
use Rattle.cxx_tree.specs.ExprTree as e
use Rattle.cxx_names.specs.declared.types.ValueType.{ValueType}
use Rattle.cxx_names.specs.declared.types.ValueType.TheVariants as type
use Rattle.cxx_core.specs.CoreExpr as c
use Rattle.cxx_core.specs.CoreExpr.{CoreExpr, type_of}
use Rattle.cxx_core.specs.CoreStmt as cs
use Rattle.cxx_core.specs.CoreStmt.{CorePrinted}
use Rattle.cxx_core.specs.Meanings.{Scope, Within}
use Rattle.cxx_core.specs.ElaboratedExpr.{core_expr, binary_by}
use Rattle.cxx_core.specs.ElaboratedStmt.{core_printed, printed_as, printed_by}
use Rattle.step_machine.specs.ActMembers.{output_limit}
use Rattle.step_machine.specs.declared.datum.Datum.{Datum}
use Rattle.step_machine.specs.Setting.{Setting}
use Rattle.step_machine.specs.Item as it
use Rattle.step_machine.specs.Item.{Item, printed_on, line_end}
use Rattle.step_machine.specs.Frame.{Frame}
use Rattle.step_machine.specs.Machine.{Machine}
use Rattle.sum_programs.specs.SumPrograms as p
use Rattle.sum_programs.specs.SumPrograms.{Literal, Addend, Operand, Print, literal_tree, added_tree, operand_tree, sum_of, text_of, text_of_print, Fits, PrintFits, steps_of_operand, steps_of_print}
use Rattle.sum_programs.proofs.Turns.{Goes, there, onward}
use Rattle.sum_programs.proofs.Steps as one
use Rattle.sum_programs.proofs.Steps.{in_main, int32, IsPlain}

-- ---- the core form

abbrev pub int_type : ValueType
int_type = type.Number num.I32

abbrev core_literal : Literal → CoreExpr
core_literal l = c.number (record { kind = num.I32; bits = l.value })

abbrev core_added : CoreExpr → List Addend → CoreExpr
core_added before [] = before
core_added before (a ∷ rest) = core_added (c.binary a.sign Add int_type int_type before (core_literal a.literal)) rest

abbrev pub core_operand : Operand → CorePrinted
core_operand (p.string q) = cs.text q.at q.bytes
core_operand (p.end_line at) = cs.endl at
core_operand (p.sum first rest) = cs.operand (expr_node (added_tree (literal_tree first) rest)).at num.I32 (core_added (core_literal first) rest)

type-added : (before : CoreExpr) (rest : List Addend) → type_of before ≡ Some int_type → type_of (core_added before rest) ≡ Some int_type
type-added before [] h = h
type-added before (a ∷ rest) h = type-added (c.binary a.sign Add int_type int_type before (core_literal a.literal)) rest refl

module _ (w : Within) (scope : Scope) where
  one-added : (before : e.ExprTree) (a : Addend) → type_of (core_expr w scope before) ≡ Some int_type
      → core_expr w scope (e.binary a.node (p.plus a.sign) before (literal_tree a.literal)) ≡ c.binary a.sign Add int_type int_type (core_expr w scope before) (core_literal a.literal)
  one-added before a h = ap (λ t. binary_by a.sign Add t (Some int_type) (core_expr w scope before) (core_literal a.literal)) h

  all-added : (before : e.ExprTree) (rest : List Addend) → type_of (core_expr w scope before) ≡ Some int_type
      → core_expr w scope (added_tree before rest) ≡ core_added (core_expr w scope before) rest
  all-added before [] h = refl
  all-added before (a ∷ rest) h =
      all-added (e.binary a.node (p.plus a.sign) before (literal_tree a.literal)) rest (ap type_of (one-added before a h))
      ∙ ap (λ x. core_added x rest) (one-added before a h)

  operand-is : (o : Operand) → core_printed w scope (operand_tree o) ≡ core_operand o
  operand-is (p.string q) = refl
  operand-is (p.end_line at) = refl
  operand-is (p.sum first rest) =
      ap (printed_as (expr_node (added_tree (literal_tree first) rest)).at) (all-added (literal_tree first) rest refl)
      ∙ ap (λ t. printed_by (expr_node (added_tree (literal_tree first) rest)).at t (core_added (core_literal first) rest)) (type-added (core_literal first) rest refl)

  pub operands-are : (os : List Operand) → map (core_printed w scope) (map operand_tree os) ≡ map core_operand os
  operands-are [] = refl
  operands-are (o ∷ os) = λ i. operand-is o i ∷ operands-are os i

-- ---- what it does

goes-so : {a b d : Machine} {n k : ℕ} → Goes a n b → n ≡ k → b ≡ d → Goes a k d
goes-so {a} {b} {d} {n} {k} g e q = subst (λ x. Goes a k x) q (subst (λ x. Goes a x b) e g)

none-more : (n : ℕ) → n ≡ n + 0
none-more n = omega arith

pub plain-operands : (s : Setting) (os : List Operand) (items : List Item) → IsPlain s items → IsPlain s (printed_on (map core_operand os) items)
plain-operands s [] items h = h
plain-operands s (p.string q ∷ os) items h = plain-operands s os items h
plain-operands s (p.end_line at ∷ os) items h = plain-operands s os items h
plain-operands s (p.sum first rest ∷ os) items h = plain-operands s os items h

-- print statements and what follows them
abbrev pub prints_on : List Print → List Item → List Item
prints_on [] items = items
prints_on (q ∷ qs) items = it.stmt (cs.print (map core_operand q.operands)) ∷ prints_on qs items

pub plain-prints : (s : Setting) (qs : List Print) (items : List Item) → IsPlain s items → IsPlain s (prints_on qs items)
plain-prints s [] items h = h
plain-prints s (q ∷ qs) items h = plain-prints s qs items h

module _ (s : Setting) (below : List Frame) where
  -- the expression has this value, and takes so many steps
  abbrev Evaluates : CoreExpr → ℕ → ℕ → Type 0
  Evaluates e k n = (values : List Datum) (items : List Item) (output : List ℕ) → IsPlain s items
      → Goes (in_main s below values (it.expr e ∷ items) output) k (in_main s below (int32 n ∷ values) items output)

  literal : (l : Literal) → Evaluates (core_literal l) 1 l.value
  literal l values items output h = one.literal s below items output h (record { kind = num.I32; bits = l.value }) values

  addition : (before : CoreExpr) (k n : ℕ) (a : Addend) → Evaluates before k n → n + a.literal.value < 2 ^ 31
      → Evaluates (c.binary a.sign Add int_type int_type before (core_literal a.literal)) (1 + (k + (1 + 1))) (n + a.literal.value)
  addition before k n a ev l values items output h =
      onward (one.operands s below items output h a.sign int_type int_type before (core_literal a.literal) values)
      (onward (ev values (it.expr (core_literal a.literal) ∷ it.op_two a.sign Add ∷ items) output h)
      (onward (literal a.literal (int32 n ∷ values) (it.op_two a.sign Add ∷ items) output h)
      (one.addition s below items output h a.sign n a.literal.value values l)))

  additions : (before : CoreExpr) (k n : ℕ) (rest : List Addend) → Evaluates before k n → n + sum_by (λ a. a.literal.value) rest < 2 ^ 31
      → Evaluates (core_added before rest) (k + 3 * length rest) (n + sum_by (λ a. a.literal.value) rest)
  additions before k n [] ev l values items output h =
      goes-so (ev values items output h) (none-more k) (ap (λ x. in_main s below (int32 x ∷ values) items output) (none-more n))
  additions before k n (a ∷ rest) ev l values items output h =
      let value : sum_by (λ x. x.literal.value) (a ∷ rest) ≡ a.literal.value + sum_by (λ x. x.literal.value) rest = sum_by-cons (λ x. x.literal.value) a rest in
      goes-so (additions (c.binary a.sign Add int_type int_type before (core_literal a.literal)) (1 + (k + (1 + 1))) (n + a.literal.value) rest (addition before k n a ev (omega arith)) (omega arith) values items output h)
      (omega arith) (ap (λ x. in_main s below (int32 x ∷ values) items output) (omega arith))

  -- what is shown by one operand
  operand : (o : Operand) (values : List Datum) (items : List Item) (output : List ℕ) → IsPlain s items → Fits o → length output + length (text_of o) ≤ output_limit
      → Goes (in_main s below values (printed_on (core_operand o ∷ []) items) output) (steps_of_operand o) (in_main s below values items (output ++ text_of o))
  operand (p.string q) values items output h l m = one.shown s below items output h q.at q.bytes values m
  operand (p.end_line at) values items output h l m = one.shown s below items output h at line_end values m
  operand (p.sum first rest) values items output h l m =
      let at = (expr_node (added_tree (literal_tree first) rest)).at in
      goes-so
      (onward (additions (core_literal first) 1 first.value rest (literal first) l values (it.print at ∷ items) output h)
      (one.printed s below items output h at (sum_of first rest) values l m))
      (omega arith) refl

  -- an operand before others
  abbrev Shows : Operand → List CorePrinted → List Item → Type 0
  Shows o qs items = (values : List Datum) (output : List ℕ) → Fits o → length output + length (text_of o) ≤ output_limit
      → Goes (in_main s below values (printed_on (core_operand o ∷ qs) items) output) (steps_of_operand o) (in_main s below values (printed_on qs items) (output ++ text_of o))

  shows : (o : Operand) (qs : List CorePrinted) (items : List Item) → IsPlain s (printed_on qs items) → Shows o qs items
  shows (p.string q) qs items h values output l m = operand (p.string q) values (printed_on qs items) output h l m
  shows (p.end_line at) qs items h values output l m = operand (p.end_line at) values (printed_on qs items) output h l m
  shows (p.sum first rest) qs items h values output l m = operand (p.sum first rest) values (printed_on qs items) output h l m

  split-length : (xs ys : List ℕ) (n : ℕ) → n + length (xs ++ ys) ≤ output_limit → n + (length xs + length ys) ≤ output_limit
  split-length xs ys n m = rw length-append at m

  first-fits : (xs ys output : List ℕ) → length output + length (xs ++ ys) ≤ output_limit → length output + length xs ≤ output_limit
  first-fits xs ys output m = let q = split-length xs ys (length output) m in omega arith

  rest-fits : (xs ys output : List ℕ) → length output + length (xs ++ ys) ≤ output_limit → length (output ++ xs) + length ys ≤ output_limit
  rest-fits xs ys output m = let q = split-length xs ys (length output) m in rw length-append (omega arith)

  pub operands : (os : List Operand) (values : List Datum) (items : List Item) (output : List ℕ) → IsPlain s items → All Fits os → length output + length (flat_map text_of os) ≤ output_limit
      → Goes (in_main s below values (printed_on (map core_operand os) items) output) (sum_by steps_of_operand os) (in_main s below values items (output ++ flat_map text_of os))
  operands [] values items output h l m = goes-so there refl (ap (λ x. in_main s below values items x) (sym (append-nil output)))
  operands (o ∷ os) values items output h l m =
      goes-so
      (onward (shows o (map core_operand os) items (plain-operands s os items h) values output (All-head Fits o os l) (first-fits (text_of o) (flat_map text_of os) output m))
      (operands os values items (output ++ text_of o) h (All-tail Fits o os l) (rest-fits (text_of o) (flat_map text_of os) output m)))
      (sym (sum_by-cons steps_of_operand o os))
      (ap (λ x. in_main s below values items x) (append_assoc output (text_of o) (flat_map text_of os)))

  -- ---- statements

  print : (q : Print) (items : List Item) (output : List ℕ) → IsPlain s items → All Fits q.operands → length output + length (text_of_print q) ≤ output_limit
      → Goes (in_main s below [] (it.stmt (cs.print (map core_operand q.operands)) ∷ items) output) (steps_of_print q) (in_main s below [] items (output ++ text_of_print q))
  print q items output h l m =
      onward (one.print_begun s below items output h (map core_operand q.operands) []) (operands q.operands [] items output h l m)

  pub prints : (qs : List Print) (items : List Item) (output : List ℕ) → IsPlain s items → All PrintFits qs → length output + length (flat_map text_of_print qs) ≤ output_limit
      → Goes (in_main s below [] (prints_on qs items) output) (sum_by steps_of_print qs) (in_main s below [] items (output ++ flat_map text_of_print qs))
  prints [] items output h l m = goes-so there refl (ap (λ x. in_main s below [] items x) (sym (append-nil output)))
  prints (q ∷ qs) items output h l m =
      goes-so
      (onward (print q (prints_on qs items) output (plain-prints s qs items h) (All-head PrintFits q qs l) (first-fits (text_of_print q) (flat_map text_of_print qs) output m))
      (prints qs items (output ++ text_of_print q) h (All-tail PrintFits q qs l) (rest-fits (text_of_print q) (flat_map text_of_print qs) output m)))
      (sym (sum_by-cons steps_of_print q qs))
      (ap (λ x. in_main s below [] items x) (append_assoc output (text_of_print q) (flat_map text_of_print qs)))
