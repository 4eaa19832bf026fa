use Rattle.std.proofs.Common.{sym, ap, ◌∙◌, subst}
use Rattle.cxx_lex.specs.Tokens.{HasTokens, token_of}
use Rattle.cxx_lex.specs.TokList.{tokens_of}
use Rattle.cxx_lex.specs.Place.{start_of}
use Rattle.cxx_lex.specs.Lexed.{tokens}
use Rattle.cxx_lex.proofs.Readings.{has_tokens, is_refused}
use Rattle.cxx_lex.proofs.Stepping.{reading-begins, reading-goes-on, token-shortens, reading-ends, end-behind, reading-refused}
use Rattle.cxx_lex.proofs.all.lex_all.Goals as goal

pub steps-init : goal.steps-init
steps-init c = reading-begins c.args.mode c.args.file c.args.text.now c.new-toks.result.items c.new-lexer.result c.new-toks.ensures.items c.new-lexer.ensures

pub steps-smaller : goal.steps-smaller
steps-smaller c = token-shortens c.steps.lexer c.next.new.self (token_of c.in-Token.tok) c.in-Token.ensures

pub steps-preserved : goal.steps-preserved
steps-preserved c =
    reading-goes-on c.args.mode (start_of c.args.file) c.args.text.now c.steps.toks.items c.push.new.self.items c.in-Token.tok c.steps.lexer c.next.new.self c.steps.invariant c.in-Token.ensures c.in_ok-push-in-Token.ensures.items

pub returns-in-End-clause-tokens : goal.returns-in-End-clause-tokens
returns-in-End-clause-tokens c =
    subst (λ toks. HasTokens c.args.mode c.args.file c.args.text.now (tokens_of toks.items) toks.end) (sym c.from_vec.ensures) (reading-ends c.args.mode c.args.file c.args.text.now c.steps.toks.items c.steps.lexer c.in-End.end c.steps.invariant c.in-End.ensures.0)

pub returns-in-End-clause-end : goal.returns-in-End-clause-end
returns-in-End-clause-end c =
    ap (λ toks. toks.end) c.from_vec.ensures
    ∙ end-behind c.args.mode c.args.file c.args.text.now (tokens_of c.steps.toks.items) c.in-End.end (reading-ends c.args.mode c.args.file c.args.text.now c.steps.toks.items c.steps.lexer c.in-End.end c.steps.invariant c.in-End.ensures.0)

pub returns-in-End-clause-lexed : goal.returns-in-End-clause-lexed
returns-in-End-clause-lexed c =
    has_tokens c.args.mode c.args.file c.args.text.now (tokens_of c.steps.toks.items) c.in-End.end (reading-ends c.args.mode c.args.file c.args.text.now c.steps.toks.items c.steps.lexer c.in-End.end c.steps.invariant c.in-End.ensures.0)
    ∙ ap (λ toks. tokens (tokens_of toks.items) toks.end) (sym c.from_vec.ensures)

pub returns-in-Refused-clause-refused : goal.returns-in-Refused-clause-refused
returns-in-Refused-clause-refused c = reading-refused c.args.mode c.args.file c.args.text.now c.steps.toks.items c.steps.lexer c.in-Refused.refusal c.steps.invariant c.in-Refused.ensures.0

pub returns-in-Refused-clause-unlexed : goal.returns-in-Refused-clause-unlexed
returns-in-Refused-clause-unlexed c =
    is_refused c.args.mode c.args.file c.args.text.now c.in-Refused.refusal (reading-refused c.args.mode c.args.file c.args.text.now c.steps.toks.items c.steps.lexer c.in-Refused.refusal c.steps.invariant c.in-Refused.ensures.0)
