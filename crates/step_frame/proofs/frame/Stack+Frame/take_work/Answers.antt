use Rattle.std.proofs.Common.{◌≡◌, length, arith}
use Rattle.step_frame.proofs.Tops.{taken_ok, recounted}
use Rattle.step_frame.proofs.frame.Stack+Frame.take_work.Goals as goal

pub returns-clause-taken : goal.returns-clause-taken
returns-clause-taken c =
    let e : c.len-count.result ≡ length c.self.inside.items.items = omega (arith, c.self.inside.items.ok.0, c.len-count.ensures) in
    taken_ok c.take_work.result c.self.inside.items.items c.args.self.now c.len-count.result c.index_mut.result.now c.take_work.new.self
    e (omega (arith, e, c.if-count-eq0.false)) c.index_mut.ensures.value c.take_work.ensures.taken c.self.view_is

pub returns-clause-counts : goal.returns-clause-counts
returns-clause-counts c =
    let e : c.len-count.result ≡ length c.self.inside.items.items = omega (arith, c.self.inside.items.ok.0, c.len-count.ensures) in
    recounted c.self.inside.items.items c.args.self.now c.len-count.result c.index_mut.result.now c.take_work.new.self
    e (omega (arith, e, c.if-count-eq0.false)) c.index_mut.ensures.value c.take_work.ensures.counts c.self.view_is
