use Rattle.std.proofs.Common.{ap, ◌∙◌, map}
use Rattle.hamming_gen.specs.HammingTrees.{mend_member, mend_check}
use Rattle.hamming_gen.proofs.Statements.{two_and_last}
use Rattle.hamming_gen.proofs.repair.mends.Goals as goal

pub returns : goal.returns
returns c =
    let members = c.in_ok-stmts.ensures ∙ ap (map (mend_member c.args.maker.at)) c.as_slice.ensures in
    let checks = c.in_ok-mend_checks.ensures ∙ ap (map (mend_check c.args.maker.at)) c.as_slice-2.ensures in
    two_and_last _ _ _ _ _ _ _ _
    members checks c.in_ok-append.ensures c.in_ok-mend_parity.ensures c.in_ok-push.ensures.ok
