use Rattle.std.proofs.Common.{◌≡◌, length, arith}
use Rattle.step_frame.proofs.Tops.{given_ok, recounted}
use Rattle.step_frame.proofs.frame.Stack+Frame.give.Goals as goal

pub returns-clause-given : goal.returns-clause-given
returns-clause-given c =
    let e : c.len-count.result ≡ length c.self.inside.items.items = omega (arith, c.self.inside.items.ok.0, c.len-count.ensures) in
    given_ok c.give.result c.self.inside.items.items c.args.self.now c.len-count.result c.args.datum c.index_mut.result.now c.give.new.self
    e (omega (arith, e, c.if-count-eq0.false)) c.index_mut.ensures.value c.give.ensures.given c.self.view_is

pub returns-clause-counts : goal.returns-clause-counts
returns-clause-counts c =
    let e : c.len-count.result ≡ length c.self.inside.items.items = omega (arith, c.self.inside.items.ok.0, c.len-count.ensures) in
    recounted c.self.inside.items.items c.args.self.now c.len-count.result c.index_mut.result.now c.give.new.self
    e (omega (arith, e, c.if-count-eq0.false)) c.index_mut.ensures.value c.give.ensures.counts c.self.view_is
