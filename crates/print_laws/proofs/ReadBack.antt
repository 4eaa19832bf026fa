-- The canonical text of a written program reads as the program.
use Rattle.std.proofs.Common.{◌≡◌, ℕ, List, [], ◌∷◌, append-nil, sym, ap, ◌∙◌, subst}
use Rattle.agxx_base.specs.declared.fault.Refusal.{Refusal}
use Rattle.agxx_base.specs.declared.kind.Mode.{Mode}
use Rattle.agxx_base.specs.declared.kind.Mode.TheVariants as mode_of
use Rattle.agxx_base.specs.declared.place.Place.{Place}
use Rattle.agxx_base.specs.declared.vocabulary.SpecialName.{SpecialName}
use Rattle.cxx_lex.specs.Place.{start_of}
use Rattle.cxx_lex.specs.Tokens.{Token}
use Rattle.cxx_tree.specs.Limits.{HasAdviceForms, grammar_of, limits_of, Every}
use Rattle.cxx_tree.specs.ProgramTree.{ProgramTree}
use Rattle.cxx_expr.specs.Tokens as grammar
use Rattle.cxx_stmt.specs.declared.dialect.Dialect.{Dialect}
use Rattle.cxx_stmt.specs.Dialect.{special_of, IsApart}
use Rattle.cxx_parse.specs.Numbering.{with_special, names_of, with_names, dialect_in, words_in}
use Rattle.cxx_parse.specs.Parsed.{Fits, IsParsed, IsRefused, IsUngrammatical, unexpected, too_deep, spelled}
use Rattle.cxx_parse.proofs.Numbers.{apart-later}
use Rattle.cxx_parse.proofs.Whole.{spelling-unique}
use Rattle.cxx_print.specs.Document.{Part, word, special, blank, margin, newline}
use Rattle.cxx_print.specs.Programs.{printed_program}
use Rattle.cxx_written.specs.Written.{IsWrittenWord}
use Rattle.print_laws.specs.ReadBack.{TextsReadBack}
use Rattle.print_laws.specs.Spelled.{words_of}
use Rattle.print_laws.proofs.ApartProgram.{program-apart}
use Rattle.print_laws.proofs.LexingNames.{tokens-words, tokens-known}
use Rattle.print_laws.proofs.LexingParts.{IsWrittenPart, tokens_of, end_of, parts-read}
use Rattle.print_laws.proofs.Programs.{texts-are-spelled}
use Rattle.print_laws.proofs.Shapes.{AreApart}

-- what is written is so in each part
written-parts : (mode : Mode) (names : List (List ℕ)) (number : SpecialName → ℕ) (parts : List Part) → Every (IsWrittenWord mode names) (words_of number parts) → Every (IsWrittenPart mode names) parts
written-parts mode names number [] is = tt
written-parts mode names number (word it ∷ rest) is = (is.0, written-parts mode names number rest is.1)
written-parts mode names number (special given ∷ rest) is = (tt, written-parts mode names number rest is.1)
written-parts mode names number (blank ∷ rest) is = (tt, written-parts mode names number rest is)
written-parts mode names number (margin ∷ rest) is = (tt, written-parts mode names number rest is)
written-parts mode names number (newline ∷ rest) is = (tt, written-parts mode names number rest is)

no-advice : (mode : Mode) → HasAdviceForms (grammar_of mode) → ⊥
no-advice mode_of.Source has = has
no-advice mode_of.Woven has = has

-- no refusal of words that are a program within the limits
not-refused : (d : Dialect) (ts : grammar.Tokens) (end : Place) (q : ProgramTree) (refusal : Refusal) → Fits d q → spelled d q ≡ grammar.words_of ts → IsUngrammatical d ts end refusal → ⊥
not-refused d ts end q refusal fits is (unexpected never rule stops) = never q (limits_of (grammar_of d.mode), fits) is
not-refused d ts end q refusal fits is (too_deep none rule at) = none q fits is

pub texts-read-back : TextsReadBack
texts-read-back mode file names q distinct have fits written =
    let parts : List Part = printed_program q in
    let number : SpecialName → ℕ = special_of (dialect_in mode names) in
    let apart : AreApart parts = program-apart (grammar_of mode) (limits_of (grammar_of mode)) q (no-advice mode) fits in
    let are : Every (IsWrittenPart mode names) parts = written-parts mode names number parts (subst (Every (IsWrittenWord mode names)) (sym (texts-are-spelled number q)) written) in
    let ts : List Token = tokens_of mode names (start_of file) parts in
    let end : Place = end_of mode names (start_of file) parts in
    let spelling : grammar.words_of (words_in names ts) ≡ spelled (dialect_in mode names) q = tokens-words mode names distinct (start_of file) parts are apart ∙ texts-are-spelled number q in
    let known : names_of names ts ≡ names = ap (λ z. with_names z ts) have ∙ tokens-known mode names have (start_of file) parts are apart in
    let differ : IsApart (dialect_in mode names) = apart-later mode names names ([], sym have ∙ sym (append-nil (with_special names))) in
    record {
      tokens = ts;
      end = end;
      has_tokens = parts-read mode names (start_of file) parts are apart;
      spelling = spelling;
      no_new_name = known;
      read = λ p is.
          let here : IsParsed mode names ts end p = subst (λ z. IsParsed mode z ts end p) known is in
          spelling-unique (dialect_in mode names) differ p q (limits_of (grammar_of mode), here.fits) (limits_of (grammar_of mode), fits) (here.spelling ∙ spelling);
      never_refused = λ refusal is. not-refused (dialect_in mode names) (words_in names ts) end q refusal fits (sym spelling) (subst (λ z. IsRefused mode z ts end refusal) known is);
    }
