use Rattle.std.proofs.Common.{◌≡◌, ℕ, Bool, true, false, List, length, Option, Some, None, refl, sym, ◌∙◌, arith}
use Rattle.std.specs.Prelude.{◌==◌, ◌&&◌, ◌||◌, nat_le}
use Rattle.std.proofs.lemmas.Bool.Decides.{nat_tests}
use Rattle.agxx_base.specs.declared.vocabulary.Keyword.{Keyword}
use Rattle.cxx_lex.specs.Words.{keywords, keyword_of, entry_of}
use Rattle.cxx_lex.proofs.Tables.{entry_of-length, entry-pass}
use Rattle.cxx_lex.proofs.keywords.keyword.Goals as goal

-- whether some keyword has n bytes
abbrev has_keywords : ℕ → Bool
has_keywords n = (nat_le 2 n && nat_le n 13) || n == 16

no_keyword : (text : List ℕ) → has_keywords (length text) ≡ false → None ≡ entry_of keywords text
no_keyword text h = go (entry_of keywords text) refl
  where
    go : (o : Option Keyword) → entry_of keywords text ≡ o → None ≡ o
    go None e = refl
    go (Some k) e = let z : true ≡ false = sym (entry-pass (λ p. has_keywords (length p.0)) keywords refl text k e) ∙ h in cc

pub returns-in-2 : goal.returns-in-2
unfolding keyword_of
returns-in-2 c = c.of_two.ensures ∙ entry_of-length keywords c.args.word.now 2 c.in-2.is

pub returns-in-3 : goal.returns-in-3
unfolding keyword_of
returns-in-3 c = c.of_three.ensures ∙ entry_of-length keywords c.args.word.now 3 c.in-3.is

pub returns-in-4 : goal.returns-in-4
unfolding keyword_of
returns-in-4 c = c.of_four.ensures ∙ entry_of-length keywords c.args.word.now 4 c.in-4.is

pub returns-in-5 : goal.returns-in-5
unfolding keyword_of
returns-in-5 c = c.of_five.ensures ∙ entry_of-length keywords c.args.word.now 5 c.in-5.is

pub returns-in-6 : goal.returns-in-6
unfolding keyword_of
returns-in-6 c = c.of_six.ensures ∙ entry_of-length keywords c.args.word.now 6 c.in-6.is

pub returns-in-7 : goal.returns-in-7
unfolding keyword_of
returns-in-7 c = c.of_seven.ensures ∙ entry_of-length keywords c.args.word.now 7 c.in-7.is

pub returns-in-8 : goal.returns-in-8
unfolding keyword_of
returns-in-8 c = c.of_eight.ensures ∙ entry_of-length keywords c.args.word.now 8 c.in-8.is

pub returns-in-9 : goal.returns-in-9
unfolding keyword_of
returns-in-9 c = c.of_nine.ensures ∙ entry_of-length keywords c.args.word.now 9 c.in-9.is

pub returns-in-10 : goal.returns-in-10
unfolding keyword_of
returns-in-10 c = c.of_ten.ensures ∙ entry_of-length keywords c.args.word.now 10 c.in-10.is

pub returns-in-11 : goal.returns-in-11
unfolding keyword_of
returns-in-11 c = c.of_eleven.ensures ∙ entry_of-length keywords c.args.word.now 11 c.in-11.is

pub returns-in-12 : goal.returns-in-12
unfolding keyword_of
returns-in-12 c = c.of_twelve.ensures ∙ entry_of-length keywords c.args.word.now 12 c.in-12.is

pub returns-in-13 : goal.returns-in-13
unfolding keyword_of
returns-in-13 c = c.of_thirteen.ensures ∙ entry_of-length keywords c.args.word.now 13 c.in-13.is

pub returns-in-16 : goal.returns-in-16
unfolding keyword_of
returns-in-16 c = c.of_sixteen.ensures ∙ entry_of-length keywords c.args.word.now 16 c.in-16.is

pub returns-in_default : goal.returns-in_default
unfolding keyword_of
returns-in_default c = no_keyword c.args.word.now (grind (arith, nat_tests, c.in_default))
