use Rattle.std.proofs.Common.{◌≡◌, ◌∙◌, ap, subst}
use Rattle.agxx_base.specs.declared.kind.Mode.TheVariants as mode
use Rattle.cxx_lex.specs.TokList.{tokens_of}
use Rattle.cxx_tree.specs.ProgramTree.{program_tree}
use Rattle.cxx_parse.specs.Numbering.{names_of}
use Rattle.cxx_parse.specs.Parsed.{IsParsed, IsReadAs, IsRefused}
use Rattle.agxx_main.specs.Answers.{refused, names_in, IsProgramIn, IsRefusalIn}
use Rattle.agxx_main.specs.Replies.{answer_of, all_seen, ending_of}
use Rattle.agxx_main.specs.Weaving.{joined, IsProgramAnswer, no_program, program}
use Rattle.agxx_main.proofs.Texts.{if-ok}
use Rattle.agxx_main.proofs.weave.Weaver.read_program.Goals as goal

pub returns-in-Ok : goal.returns-in-Ok
returns-in-Ok c =
    let ts = tokens_of c.args.toks.now.items in
    let end = c.args.toks.now.end in
    let n : c.parse_program.new.names ≡ names_in ts = c.in-Ok.ensures.names ∙ ap (λ q. names_of q ts) c.new-names.ensures in
    let p : IsProgramIn mode.Source ts end (program_tree c.in-Ok.program) = (
      subst (λ q. IsParsed mode.Source q ts end (program_tree c.in-Ok.program)) n c.in-Ok.ensures.parsed,
      subst (λ q. IsReadAs mode.Source q ts end (program_tree c.in-Ok.program)) n c.in-Ok.ensures.read,
    ) in
    if-ok c.judge_program.result _ _
    (λ r x. program (program_tree c.in-Ok.program) p (subst (λ z. IsProgramAnswer (all_seen c.args.self.sources) (ending_of c.args.self.purpose.now) z (joined c.args.files.now) (program_tree c.in-Ok.program) (answer_of r)) n x))
    c.judge_program.ensures

pub returns-in-Err-Refused : goal.returns-in-Err-Refused
returns-in-Err-Refused c =
    let ts = tokens_of c.args.toks.now.items in
    let end = c.args.toks.now.end in
    let r : IsRefused mode.Source (names_of c.new-names.result ts) ts end c.in-Err-Refused.refusal = rw c.in-Err-Refused.field-0-is at c.in-Err-Refused.ensures.refused in
    let s : IsRefusalIn mode.Source ts end c.in-Err-Refused.refusal = subst (λ q. IsRefused mode.Source (names_of q ts) ts end c.in-Err-Refused.refusal) c.new-names.ensures r in
    if-ok c.refuse.result _ _ (λ r e. no_program c.in-Err-Refused.refusal s (e ∙ ap (refused c.args.self.sources.program.name.now) c.in-Err-Refused.refusal-is)) c.refuse.ensures
