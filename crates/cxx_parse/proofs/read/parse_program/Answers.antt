use Rattle.std.proofs.Common.{rules, ◌≡◌, refl, sym, ap, ◌∙◌, subst}
use Rattle.cxx_lex.specs.TokList.{tokens_of as lexed_tokens}
use Rattle.cxx_expr.specs.Tokens.{tokens_of}
use Rattle.cxx_stmt.specs.Dialect.{IsApart}
use Rattle.cxx_parse.specs.Numbering.{with_special, names_of, dialect_in, words_in}
use Rattle.cxx_parse.specs.Parsed.{IsProgramOf, IsDescent}
use Rattle.cxx_parse.proofs.Numbers.{longer_self, apart-later, dialect-then}
use Rattle.cxx_parse.proofs.Whole.{read-as-parsed, refused-as-parsed}
use Rattle.cxx_parse.proofs.read.parse_program.Goals as goal

pub read-requires : goal.read-requires
read-requires c =
    let e : c.in_ok-dialect.dialect ≡ dialect_in c.args.mode (with_special c.args.names.now) = c.in_ok-dialect.ensures.dialect ∙ ap (dialect_in c.args.mode) c.in_ok-dialect.ensures.names in
    subst IsApart (sym e) (apart-later c.args.mode c.args.names.now (with_special c.args.names.now) (longer_self (with_special c.args.names.now)))

pub returns-clause-parsed : goal.returns-clause-parsed
returns-clause-parsed c =
    let n : c.owned_words.new.names ≡ names_of c.args.names.now (lexed_tokens c.args.toks.now.items) = search rules in
    let i : c.in_ok-dialect.dialect ≡ dialect_in c.args.mode c.owned_words.new.names =
    dialect-then c.args.mode c.args.names.now (lexed_tokens c.args.toks.now.items) _ c.owned_words.new.names c.in_ok-dialect.dialect c.in_ok-dialect.ensures.dialect c.in_ok-dialect.ensures.names n in
    let j : tokens_of c.as_slice-3.result.now ≡ words_in c.owned_words.new.names (lexed_tokens c.args.toks.now.items) = search rules in
    read-as-parsed (λ d ts end q. IsProgramOf d ts end q) c.in_ok-dialect.dialect (dialect_in c.args.mode c.owned_words.new.names) (tokens_of c.as_slice-3.result.now) (words_in c.owned_words.new.names (lexed_tokens c.args.toks.now.items)) c.end.result c.args.toks.now.end c.read.result i j c.end.ensures
    c.read.ensures.parsed

pub returns-clause-read : goal.returns-clause-read
returns-clause-read c =
    let n : c.owned_words.new.names ≡ names_of c.args.names.now (lexed_tokens c.args.toks.now.items) = search rules in
    let i : c.in_ok-dialect.dialect ≡ dialect_in c.args.mode c.owned_words.new.names =
    dialect-then c.args.mode c.args.names.now (lexed_tokens c.args.toks.now.items) _ c.owned_words.new.names c.in_ok-dialect.dialect c.in_ok-dialect.ensures.dialect c.in_ok-dialect.ensures.names n in
    let j : tokens_of c.as_slice-3.result.now ≡ words_in c.owned_words.new.names (lexed_tokens c.args.toks.now.items) = search rules in
    read-as-parsed (λ d ts end q. IsDescent d ts end q) c.in_ok-dialect.dialect (dialect_in c.args.mode c.owned_words.new.names) (tokens_of c.as_slice-3.result.now) (words_in c.owned_words.new.names (lexed_tokens c.args.toks.now.items)) c.end.result c.args.toks.now.end c.read.result i j c.end.ensures
    c.read.ensures.read

pub returns-clause-refused : goal.returns-clause-refused
returns-clause-refused c =
    let n : c.owned_words.new.names ≡ names_of c.args.names.now (lexed_tokens c.args.toks.now.items) = search rules in
    let i : c.in_ok-dialect.dialect ≡ dialect_in c.args.mode (names_of c.args.names.now (lexed_tokens c.args.toks.now.items)) =
    dialect-then c.args.mode c.args.names.now (lexed_tokens c.args.toks.now.items) _ _ c.in_ok-dialect.dialect c.in_ok-dialect.ensures.dialect c.in_ok-dialect.ensures.names refl in
    let j : tokens_of c.as_slice-3.result.now ≡ words_in c.owned_words.new.names (lexed_tokens c.args.toks.now.items) = search rules in
    refused-as-parsed c.in_ok-dialect.dialect (dialect_in c.args.mode (names_of c.args.names.now (lexed_tokens c.args.toks.now.items))) (tokens_of c.as_slice-3.result.now) (words_in (names_of c.args.names.now (lexed_tokens c.args.toks.now.items)) (lexed_tokens c.args.toks.now.items)) c.end.result c.args.toks.now.end c.read.result i
    (j ∙ ap (λ q. words_in q (lexed_tokens c.args.toks.now.items)) n) c.end.ensures c.read.ensures.refused
