use Rattle.std.proofs.Common.{◌≡◌, ◌∙◌, ap, subst}
use Rattle.agxx_base.specs.declared.kind.Mode.{Mode}
use Rattle.cxx_lex.specs.TokList.{tokens_of}
use Rattle.cxx_tree.specs.ProgramTree.{program_tree}
use Rattle.cxx_parse.specs.Numbering.{names_of}
use Rattle.cxx_parse.specs.Parsed.{IsParsed, IsReadAs, IsRefused}
use Rattle.agxx_main.specs.Answers.{refused, names_in, IsProgramIn, IsRefusalIn, no_program, judged}
use Rattle.agxx_main.specs.RunAnswers.{mode_of, way_answer}
use Rattle.agxx_main.proofs.Texts.{if-ok, program-answer}
use Rattle.agxx_main.proofs.program.answer_tokens.Goals as goal

pub returns-in-Ok : goal.returns-in-Ok
returns-in-Ok c =
    let m : Mode = mode_of c.args.way.now in
    let n : c.parse_program.new.names ≡ names_in (tokens_of c.args.toks.now.items) = c.in-Ok.ensures.names ∙ ap (λ q. names_of q (tokens_of c.args.toks.now.items)) c.new-names.ensures in
    let p : IsProgramIn m (tokens_of c.args.toks.now.items) c.args.toks.now.end (program_tree c.in-Ok.program) = (
      subst (λ k. IsParsed k (names_in (tokens_of c.args.toks.now.items)) (tokens_of c.args.toks.now.items) c.args.toks.now.end (program_tree c.in-Ok.program)) c.mode.ensures
          (subst (λ q. IsParsed c.mode.result q (tokens_of c.args.toks.now.items) c.args.toks.now.end (program_tree c.in-Ok.program)) n c.in-Ok.ensures.parsed),
      subst (λ k. IsReadAs k (names_in (tokens_of c.args.toks.now.items)) (tokens_of c.args.toks.now.items) c.args.toks.now.end (program_tree c.in-Ok.program)) c.mode.ensures
          (subst (λ q. IsReadAs c.mode.result q (tokens_of c.args.toks.now.items) c.args.toks.now.end (program_tree c.in-Ok.program)) n c.in-Ok.ensures.read),
    ) in
    if-ok c.answer_program.result _ _
    (λ a e. judged (tokens_of c.args.toks.now.items) c.args.toks.now.end (program_tree c.in-Ok.program) c.requires p
    (program-answer m (way_answer c.args.way.now) c.args.file.now (tokens_of c.args.toks.now.items) (program_tree c.in-Ok.program) c.parse_program.new.names a n e))
    c.answer_program.ensures

pub returns-in-Err-Refused : goal.returns-in-Err-Refused
returns-in-Err-Refused c =
    let m : Mode = mode_of c.args.way.now in
    let r : IsRefused c.mode.result (names_of c.new-names.result (tokens_of c.args.toks.now.items)) (tokens_of c.args.toks.now.items) c.args.toks.now.end c.in-Err-Refused.refusal = rw c.in-Err-Refused.field-0-is at c.in-Err-Refused.ensures.refused in
    let s : IsRefusalIn m (tokens_of c.args.toks.now.items) c.args.toks.now.end c.in-Err-Refused.refusal =
    subst (λ k. IsRefused k (names_in (tokens_of c.args.toks.now.items)) (tokens_of c.args.toks.now.items) c.args.toks.now.end c.in-Err-Refused.refusal) c.mode.ensures
    (subst (λ q. IsRefused c.mode.result (names_of q (tokens_of c.args.toks.now.items)) (tokens_of c.args.toks.now.items) c.args.toks.now.end c.in-Err-Refused.refusal) c.new-names.ensures r) in
    if-ok c.refused.result _ _ (λ a e. no_program (tokens_of c.args.toks.now.items) c.args.toks.now.end c.in-Err-Refused.refusal c.requires s (e ∙ ap (refused c.args.file.now) c.in-Err-Refused.refusal-is)) c.refused.ensures
