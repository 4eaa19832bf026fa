use Rattle.std.proofs.Common.{rules, ◌≡◌, subst, sym, ap, ◌∙◌, length, drop, ◌-◌}
use Rattle.std.proofs.lemmas.List.{length-map}
use Rattle.agxx_base.specs.declared.fault.Fault.TheVariants as fault_of
use Rattle.agxx_base.specs.declared.rule.Rule.TheVariants.{G1, G2}
use Rattle.cxx_lex.specs.All.{IfRefused}
use Rattle.cxx_tree.specs.ProgramTree.{program_tree}
use Rattle.cxx_expr.specs.declared.stop.Stop.TheVariants.{Syntax, Deep}
use Rattle.cxx_expr.specs.Full.{most_operators}
use Rattle.cxx_expr.specs.Outcome.{done, failed}
use Rattle.cxx_expr.specs.Tokens.{tokens_of, token_of}
use Rattle.cxx_parse.specs.Parsed.{place_of, IsUngrammatical}
use Rattle.cxx_parse.specs.Programs.{program}
use Rattle.cxx_parse.proofs.Whole.{read-done, read-all, read-syntax, read-deep}
use Rattle.cxx_parse.proofs.read.read.Goals as goal

pub returns-in-Ok-clause-parsed : goal.returns-in-Ok-clause-parsed
returns-in-Ok-clause-parsed c =
    let h : program most_operators c.args.dialect.now c.most_nesting.result c.file_start.result (tokens_of c.args.words.now) ≡ done (program_tree c.in-Ok.program) c.program.new.words = search rules in
    read-done c.args.dialect.now c.requires c.most_nesting.result c.most_nesting.ensures c.file_start.result (tokens_of c.args.words.now) (program_tree c.in-Ok.program) c.program.new.words c.args.end c.file_start.ensures h

pub returns-in-Ok-clause-read : goal.returns-in-Ok-clause-read
returns-in-Ok-clause-read c =
    let h : program most_operators c.args.dialect.now c.most_nesting.result c.file_start.result (tokens_of c.args.words.now) ≡ done (program_tree c.in-Ok.program) c.program.new.words = search rules in
    read-all c.args.dialect.now c.requires c.most_nesting.result c.most_nesting.ensures c.file_start.result (tokens_of c.args.words.now) (program_tree c.in-Ok.program) c.program.new.words c.args.end c.file_start.ensures h

pub returns-in-Err-Syntax-clause-refused : goal.returns-in-Err-Syntax-clause-refused
returns-in-Err-Syntax-clause-refused c =
    let h : program most_operators c.args.dialect.now c.most_nesting.result c.file_start.result (tokens_of c.args.words.now) ≡ failed Syntax c.program.new.words = search rules in
    let e : c.refused.result ≡ fault_of.Refused (record { rule = G1; place = place_of (drop (length (tokens_of c.args.words.now) - length c.program.new.words) (tokens_of c.args.words.now)) c.args.end }) =
    c.refused.ensures ∙ ap (λ p. fault_of.Refused (record { rule = G1; place = p })) (c.place_of.ensures ∙ ap (λ n. place_of (drop n (tokens_of c.args.words.now)) c.args.end)
    (ap (λ m. length c.args.words.now - m) c.len.ensures ∙ ap (λ m. m - length c.program.new.words) (sym (length-map c.args.words.now token_of)))) in
    subst (λ f. IfRefused f (IsUngrammatical c.args.dialect.now (tokens_of c.args.words.now) c.args.end)) (sym e)
    (read-syntax c.args.dialect.now c.requires c.most_nesting.result c.most_nesting.ensures c.file_start.result (tokens_of c.args.words.now) c.program.new.words c.args.end h)

pub returns-in-Err-Deep-clause-refused : goal.returns-in-Err-Deep-clause-refused
returns-in-Err-Deep-clause-refused c =
    let h : program most_operators c.args.dialect.now c.most_nesting.result c.file_start.result (tokens_of c.args.words.now) ≡ failed Deep c.program.new.words = search rules in
    let e : c.refused-in-Err-Deep.result ≡ fault_of.Refused (record { rule = G2; place = place_of (drop (length (tokens_of c.args.words.now) - length c.program.new.words) (tokens_of c.args.words.now)) c.args.end }) =
    c.refused-in-Err-Deep.ensures ∙ ap (λ p. fault_of.Refused (record { rule = G2; place = p })) (c.place_of-in-Err-Deep.ensures ∙ ap (λ n. place_of (drop n (tokens_of c.args.words.now)) c.args.end)
    (ap (λ m. length c.args.words.now - m) c.len-in-Err-Deep.ensures ∙ ap (λ m. m - length c.program.new.words) (sym (length-map c.args.words.now token_of)))) in
    subst (λ f. IfRefused f (IsUngrammatical c.args.dialect.now (tokens_of c.args.words.now) c.args.end)) (sym e)
    (read-deep c.args.dialect.now c.requires c.most_nesting.result c.most_nesting.ensures c.file_start.result (tokens_of c.args.words.now) c.program.new.words c.args.end h)
