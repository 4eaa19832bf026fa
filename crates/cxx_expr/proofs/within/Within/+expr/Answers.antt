use Rattle.std.proofs.Common.{◌≡◌, length, map, ◌-◌, ◌∙◌, sym, ap, arith, true, false, [], ◌∷◌}
use Rattle.std.proofs.lemmas.Result.{err_from_is_err_and}
use Rattle.agxx_base.specs.declared.vocabulary.Sign.TheVariants as sg
use Rattle.cxx_tree.specs.ExprTree.{expr_tree, exprs_tree, new_with}
use Rattle.cxx_expr.specs.Tokens.{sees}
use Rattle.cxx_expr.specs.Outcome.{done, and_then}
use Rattle.cxx_expr.specs.Descent.{chain, level, expr, inner_at, items_from, front_of}
use Rattle.cxx_expr.proofs.Turns.{expr-is, level-step, chain-stop, chain-turn, chain-fail, chain-full, true-sees, items-fail, items-more, items-last, front_of-front_of, map-push, unary-primary, enclosed-closes, called-call, created_with-arguments}
use Rattle.cxx_expr.proofs.Views.{call-is, new_with-is}
use Rattle.cxx_expr.proofs.within.Within.+expr.Goals as goal

pub expr-returns-clause-reads : goal.expr-returns-clause-reads
expr-returns-clause-reads t c = rw expr-is c.level.ensures.reads

pub unary-returns-in_default-clause-reads : goal.unary-returns-in_default-clause-reads
unary-returns-in_default-clause-reads t c = rw (unary-primary (inner_at c.args.depth) c.args.self.now (sym c.in_default.is ∙ c.prefix_operator.ensures)) c.primary.ensures.reads

pub called-returns-clause-reads : goal.called-returns-clause-reads
called-returns-clause-reads t c =
    let e : sees sg.OpenParen c.args.self.now.words ≡ true = cc in
    called-call (inner_at c.args.depth) c.args.node c.args.callee c.args.self.now c.arguments.new.self (map expr_tree c.in_ok-arguments.arguments) e c.in_ok-arguments.ensures.reads
    ∙ ap (λ x. done x c.arguments.new.self) (sym (call-is (record { node = c.args.node; callee = c.args.callee; arguments = c.in_ok-arguments.arguments })))

pub created_with-returns-clause-reads : goal.created_with-returns-clause-reads
created_with-returns-clause-reads t c =
    let e : sees sg.OpenParen c.args.self.now.words ≡ true = cc in
    created_with-arguments (inner_at c.args.depth) c.args.at c.args.class c.args.self.now c.arguments.new.self (map expr_tree c.in_ok-arguments.arguments) e c.in_ok-arguments.ensures.reads
    ∙ ap (λ x. done x c.arguments.new.self) (ap (λ n. new_with n c.args.class (exprs_tree c.in_ok-arguments.arguments)) (sym c.unnumbered-2.ensures) ∙ sym (new_with-is c.unnumbered-2.result c.args.class c.in_ok-arguments.arguments))

pub enclosed-returns-in_err-expect-clause-reads : goal.enclosed-returns-in_err-expect-clause-reads
enclosed-returns-in_err-expect-clause-reads t c =
    let p = err_from_is_err_and c.from_residual-in_err-expect.result c.from_residual-in_err-expect.ensures.1 in
    let e : sees sg.OpenParen c.args.self.now.words ≡ true = cc in
    rw (p.1, p.2) (λ ne. enclosed-closes c.args.depth c.args.self.now c.advance.new.self c.expr.new.self (expr_tree c.in_ok-inside.inside) (omega arith) e c.advance.ensures.after c.in_ok-inside.ensures.reads
    ∙ ap (λ o. and_then o (λ u. done (expr_tree c.in_ok-inside.inside))) (c.in_err-expect.ensures.reads ne))

pub level-loop-op-init : goal.level-loop-op-init
level-loop-op-init t c = record {
  shorter = omega arith;
  positive = omega arith;
  reads = (length c.level.new.self.words, omega arith, level-step _ _ _ _ _ (omega arith) c.in_ok-first.ensures.reads);
}

pub level-returns-in_err-take_operator-clause-reads : goal.level-returns-in_err-take_operator-clause-reads
level-returns-in_err-take_operator-clause-reads t c =
    let p = err_from_is_err_and c.from_residual-in_err-take_operator.result c.from_residual-in_err-take_operator.ensures.1 in
    rw (p.1, p.2) (λ ne. c.loop-op.invariant.reads.2 ∙ chain-full (λ s. level (inner_at c.args.depth) (c.args.level - 1) s) c.args.level c.loop-op.invariant.reads.0 (expr_tree c.loop-op.first) c.loop-op.self c.in-Some.op c.in_err-take_operator.field-0.0 c.take_operator.new.self c.loop-op.invariant.reads.1 c.in-Some.ensures (c.in_err-take_operator.ensures.reads ne))

pub level-returns-in_err-second-clause-reads : goal.level-returns-in_err-second-clause-reads
level-returns-in_err-second-clause-reads t c =
    let p = err_from_is_err_and c.from_residual-in_err-second.result c.from_residual-in_err-second.ensures.1 in
    rw (p.1, p.2) (λ ne. c.loop-op.invariant.reads.2 ∙ chain-fail (λ s. level (inner_at c.args.depth) (c.args.level - 1) s) c.args.level c.loop-op.invariant.reads.0 (expr_tree c.loop-op.first) c.loop-op.self c.in-Some.op tt c.in_err-second.field-0.0 c.take_operator.new.self c.level-in-Some.new.self c.loop-op.invariant.reads.1 c.in-Some.ensures c.in_ok-take_operator.ensures.reads (c.in_err-second.ensures.reads ne))

pub level-loop-op-preserved : goal.level-loop-op-preserved
level-loop-op-preserved t c =
    let turn = chain-turn (λ s. level (inner_at c.args.depth) (c.args.level - 1) s) c.args.level c.loop-op.invariant.reads.0 (expr_tree c.loop-op.first) c.loop-op.self c.in-Some.op tt (expr_tree c.in_ok-second.second) c.take_operator.new.self c.level-in-Some.new.self c.loop-op.invariant.reads.1 c.in-Some.ensures c.in_ok-take_operator.ensures.reads c.in_ok-second.ensures.reads c.in_ok-second.ensures.left in
    record {
      shorter = omega arith;
      positive = omega arith;
      reads = (turn.0, turn.1, c.loop-op.invariant.reads.2 ∙ turn.2 ∙ ap (λ v. chain (λ s. level (inner_at c.args.depth) (c.args.level - 1) s) c.args.level turn.0 v c.level-in-Some.new.self) (sym c.in_ok-first-2.ensures));
    }

pub level-returns-clause-reads : goal.level-returns-clause-reads
level-returns-clause-reads t c = c.loop-op.invariant.reads.2 ∙ chain-stop _ _ _ _ _ c.in_default.ensures

pub items-returns-in_err-item-clause-reads : goal.items-returns-in_err-item-clause-reads
items-returns-in_err-item-clause-reads t c =
    let p = err_from_is_err_and c.from_residual.result c.from_residual.ensures.1 in
    rw (p.1, p.2) (λ ne. c.items.invariant.reads.2 ∙ ap (front_of (map expr_tree c.items.found)) (items-fail (λ s. expr c.args.depth s) c.items.invariant.reads.0 c.items.self c.in_err-item.field-0.0 c.expr.new.self c.items.invariant.reads.1 (c.in_err-item.ensures.reads ne)))

pub items-items-preserved : goal.items-items-preserved
items-items-preserved t c =
    let e : sees sg.Comma c.expr.new.self.words ≡ true = cc in
    let some = true-sees sg.Comma c.expr.new.self.words e in
    let turn = items-more (λ s. expr c.args.depth s) c.items.invariant.reads.0 c.items.self (expr_tree c.in_ok-item.item) c.expr.new.self c.advance-in-items.new.self c.items.invariant.reads.1 c.in_ok-item.ensures.reads e c.advance-in-items.ensures.after c.in_ok-item.ensures.left in
    record {
      shorter = omega arith;
      reads = (
        turn.0,
        turn.1,
        c.items.invariant.reads.2 ∙ ap (front_of (map expr_tree c.items.found)) turn.2 ∙ front_of-front_of (map expr_tree c.items.found) (expr_tree c.in_ok-item.item ∷ []) (items_from (λ s. expr c.args.depth s) turn.0 c.advance-in-items.new.self)
            ∙ ap (λ xs. front_of xs (items_from (λ s. expr c.args.depth s) turn.0 c.advance-in-items.new.self)) (map-push expr_tree c.items.found c.in_ok-item.item c.push.new.self c.in_ok-push.ensures.ok),
      );
    }

pub items-returns-in_err-expect-clause-reads : goal.items-returns-in_err-expect-clause-reads
items-returns-in_err-expect-clause-reads t c =
    let p = err_from_is_err_and c.from_residual-in_err-expect.result c.from_residual-in_err-expect.ensures.1 in
    let e : sees sg.Comma c.expr.new.self.words ≡ false = cc in
    rw (p.1, p.2) (λ ne. c.items.invariant.reads.2
    ∙ ap (front_of (map expr_tree c.items.found)) (items-last (λ s. expr c.args.depth s) c.items.invariant.reads.0 c.items.self (expr_tree c.in_ok-item.item) c.expr.new.self c.items.invariant.reads.1 c.in_ok-item.ensures.reads e)
    ∙ ap (λ o. front_of (map expr_tree c.items.found) (front_of (expr_tree c.in_ok-item.item ∷ []) (and_then o (λ u. done [])))) (c.in_err-expect.ensures.reads ne))

pub items-returns-clause-reads : goal.items-returns-clause-reads
items-returns-clause-reads t c =
    let e : sees sg.Comma c.expr.new.self.words ≡ false = cc in
    c.items.invariant.reads.2
    ∙ ap (front_of (map expr_tree c.items.found)) (items-last (λ s. expr c.args.depth s) c.items.invariant.reads.0 c.items.self (expr_tree c.in_ok-item.item) c.expr.new.self c.items.invariant.reads.1 c.in_ok-item.ensures.reads e)
    ∙ ap (λ o. front_of (map expr_tree c.items.found) (front_of (expr_tree c.in_ok-item.item ∷ []) (and_then o (λ u. done [])))) c.in_ok-expect.ensures.reads
    ∙ ap (λ xs. done xs c.expect.new.self) (map-push expr_tree c.items.found c.in_ok-item.item c.push.new.self c.in_ok-push.ensures.ok)
