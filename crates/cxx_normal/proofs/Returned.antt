-- The end of `main` twice.
use Rattle.std.proofs.Common.{◌≡◌, ℕ, refl, ap, ◌∙◌, Bool, true, false, if◌then◌else◌}
use Rattle.agxx_base.specs.declared.place.Place.{Place}
use Rattle.cxx_tree.specs.StmtTree as s
use Rattle.cxx_tree.specs.ProgramTree.{FunctionTree}
use Rattle.cxx_normal.specs.Numbers as n
use Rattle.cxx_normal.specs.Entry.{is_return, ends_with_return, return_zero, followed_by, returning_block, is_main, returning}
use Rattle.cxx_normal.proofs.Settled.{IsSettled}

return-numbered : (t : s.StmtTree) (k : ℕ) → is_return (n.number_stmt t k).0 ≡ is_return t
return-numbered (s.block b) k = refl
return-numbered (s.local l) k = refl
return-numbered (s.simple i) k = refl
return-numbered (s.branch i) k = refl
return-numbered (s.while at condition body) k = refl
return-numbered (s.for at start condition step body) k = refl
return-numbered (s.return at value) k = refl
return-numbered (s.delete at pointer) k = refl
return-numbered (s.print q) k = refl
return-numbered (s.thread t) k = refl
return-numbered (s.abort at) k = refl

ends-numbered : (before : Bool) (ts : s.StmtTrees) (k : ℕ) → ends_with_return before (n.number_stmts ts k).0 ≡ ends_with_return before ts
ends-numbered before s.no_stmts k = refl
ends-numbered before (s.more_stmts first rest) k =
    ap (λ b. ends_with_return b (n.number_stmts rest (n.number_stmt first k).1).0) (return-numbered first k) ∙ ends-numbered (is_return first) rest (n.number_stmt first k).1

ends-followed : (before : Bool) (ts : s.StmtTrees) (at : Place) → ends_with_return before (followed_by ts (return_zero at)) ≡ true
ends-followed before s.no_stmts at = refl
ends-followed before (s.more_stmts first rest) at = ends-followed (is_return first) rest at

module _ (at : Place) where
  ended : (stmts : s.StmtTrees) → ends_with_return false (if ends_with_return false stmts then stmts else followed_by stmts (return_zero at)) ≡ true
  ended stmts = by (ends_with_return false stmts) refl
    where
      by : (ends : Bool) → ends_with_return false stmts ≡ ends → ends_with_return false (if ends_with_return false stmts then stmts else followed_by stmts (return_zero at)) ≡ true
      by true e = rw (e, e)
      by false e = rw e (ends-followed false stmts at)

  stays : (place : Place) (stmts : s.StmtTrees) → ends_with_return false stmts ≡ true → IsSettled n.number_block (returning_block at) (s.braces place stmts)
  stays place stmts ends k = rw (ends-numbered false stmts k, ends)

  block-returned : (b : s.BlockTree) → IsSettled n.number_block (returning_block at) (returning_block at b)
  block-returned (s.braces place stmts) = stays place _ (ended stmts)

pub function-returned : (main : ℕ) (f : FunctionTree) → IsSettled n.number_function (returning main) (returning main f)
function-returned main f k = by (is_main main f) refl
  where
    by : (b : Bool) → is_main main f ≡ b → returning main (n.number_function (returning main f) k).0 ≡ (n.number_function (returning main f) k).0
    by true e = rw (e, e) (ap (λ body. record f { body = body }) (block-returned f.name.at f.body k))
    by false e = rw (e, e)
