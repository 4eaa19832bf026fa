use Rattle.std.proofs.Common.{ap, sym, subst, map, length, arith}
use Rattle.std.specs.List.{All}
use Rattle.agxx_calls.specs.declared.command.Command.TheVariants as command
use Rattle.agxx_main.specs.CallAnswers.{HasFiles, by_plan, IsAnswerOf}
use Rattle.agxx_main.specs.Replies.{answer_of, seen}
use Rattle.agxx_main.specs.Weaving.{Sources, sources_at, IsSourceAnswer, writes, runs, runs_source}
use Rattle.agxx_main.proofs.Texts.{if-ok}
use Rattle.agxx_main.proofs.Weavings.{IsShort, one-seen, one-short, later-short, rest_short}
use Rattle.agxx_main.proofs.commands.answer_sheets.Goals as goal

pub exec_by-requires-clause-program : goal.exec_by-requires-clause-program
exec_by-requires-clause-program c =
    let f : HasFiles command.Exec (length c.args.sheets.now) = subst (λ k. HasFiles k (length c.args.sheets.now)) c.in-Exec.is c.requires.files in
    one-short c.args.sheets.now 0 c.index-sheets-0.result _ (omega (arith, f.0)) c.index-sheets-0.is c.requires.within

pub exec_by-requires-clause-plans : goal.exec_by-requires-clause-plans
exec_by-requires-clause-plans c = rest_short c.args.sheets.now 1 c.requires.within

pub returns-in-Weave : goal.returns-in-Weave
returns-in-Weave c =
    let all = map seen c.args.sheets.now in
    if-ok c.answer_sources.result _ _
    (λ r x. subst (λ k. IsAnswerOf k all (answer_of r)) (sym c.in-Weave.is) (subst (λ s. IsSourceAnswer s writes (answer_of r)) c.sources_at.ensures x))
    c.answer_sources.ensures

pub run-requires-clause-aspects : goal.run-requires-clause-aspects
run-requires-clause-aspects c = subst (All IsShort) (sym (ap (λ (s : Sources). s.aspects) c.sources_at-in-Run.ensures)) (later-short (map seen c.args.sheets.now) 2 c.requires.within)

pub returns-in-Run : goal.returns-in-Run
returns-in-Run c =
    let f : HasFiles command.Run (length c.args.sheets.now) = subst (λ k. HasFiles k (length c.args.sheets.now)) c.in-Run.is c.requires.files in
    let all = map seen c.args.sheets.now in
    if-ok c.run.result _ _
    (λ r x. subst (λ k. IsAnswerOf k all (answer_of r)) (sym c.in-Run.is)
    (subst (λ z. by_plan z (λ plan. IsSourceAnswer (sources_at all 1) (runs plan)) (answer_of r)) (sym (one-seen c.args.sheets.now 0 c.index-sheets-0-in-Run.result _ (omega (arith, f.0)) c.index-sheets-0-in-Run.is))
    (subst (λ s. by_plan (seen c.index-sheets-0-in-Run.result) (λ plan. IsSourceAnswer s (runs plan)) (answer_of r)) c.sources_at-in-Run.ensures x)))
    c.run.ensures

pub source-requires-clause-aspects : goal.source-requires-clause-aspects
source-requires-clause-aspects c = subst (All IsShort) (sym (ap (λ (s : Sources). s.aspects) c.sources_at-in-Source.ensures)) (later-short (map seen c.args.sheets.now) 2 c.requires.within)

pub returns-in-Source : goal.returns-in-Source
returns-in-Source c =
    let f : HasFiles command.Source (length c.args.sheets.now) = subst (λ k. HasFiles k (length c.args.sheets.now)) c.in-Source.is c.requires.files in
    let all = map seen c.args.sheets.now in
    if-ok c.source.result _ _
    (λ r x. subst (λ k. IsAnswerOf k all (answer_of r)) (sym c.in-Source.is)
    (subst (λ z. by_plan z (λ plan. IsSourceAnswer (sources_at all 1) (runs_source plan)) (answer_of r)) (sym (one-seen c.args.sheets.now 0 c.index-sheets-0-in-Source.result _ (omega (arith, f.0)) c.index-sheets-0-in-Source.is))
    (subst (λ s. by_plan (seen c.index-sheets-0-in-Source.result) (λ plan. IsSourceAnswer s (runs_source plan)) (answer_of r)) c.sources_at-in-Source.ensures x)))
    c.source.ensures
