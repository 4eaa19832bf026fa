-- Words of tokens are written.
use Rattle.std.proofs.Common.{◌≡◌, ℕ, ◌<◌, Bool, true, false, cond, List, [], ◌∷◌, length, Option, Some, None, Ok, Err, slice_get, refl, sym, ap, ◌∙◌, subst, arith}
use Rattle.std.specs.Prelude.{◌==◌, nat_lt}
use Rattle.std.specs.List.{list_all}
use Rattle.std.proofs.lemmas.Bool.Decides.{nat_tests}
use Rattle.agxx_base.specs.declared.kind.Mode.{Mode}
use Rattle.agxx_base.specs.declared.kind.NumKind.{NumKind}
use Rattle.agxx_base.specs.declared.place.Place.{Place}
use Rattle.agxx_base.specs.declared.rule.Rule.TheVariants.{L4, L5}
use Rattle.agxx_base.specs.declared.vocabulary.Keyword.{Keyword}
use Rattle.agxx_base.specs.Names.{number_of, interned}
use Rattle.agxx_base.proofs.Interning.{text-interned, interned-keeps}
use Rattle.cxx_lex.specs.declared.numbers.Base.{Base}
use Rattle.cxx_lex.specs.declared.numbers.Base.TheVariants.{Decimal, Hexadecimal}
use Rattle.cxx_lex.specs.declared.numbers.Suffix.{Suffix}
use Rattle.cxx_lex.specs.declared.numbers.Suffix.TheVariants as suffix
use Rattle.cxx_lex.specs.declared.tok.TokKind.{TokKind}
use Rattle.cxx_lex.specs.declared.tok.TokKind.TheVariants as kind
use Rattle.cxx_lex.specs.Directives.{IsDirective, include, pragma}
use Rattle.cxx_lex.specs.Strings.{is_character}
use Rattle.cxx_lex.specs.Lexemes.{IsLexeme, word, number, literal, directive, sign}
use Rattle.cxx_lex.specs.Numbers.{kinds_of, bound_of, kind_for, by_kind}
use Rattle.cxx_lex.specs.Tokens.{Token, Reads, arrives, past_gap, past_token}
use Rattle.cxx_lex.specs.Words.{IsWord, keyword_of, name_limit, is_reserved, by_keyword}
use Rattle.cxx_lex.proofs.Runs.{both}
use Rattle.cxx_lex.proofs.StringCut.{reads_quoted}
use Rattle.cxx_tree.specs.Limits.{Every}
use Rattle.cxx_expr.specs.Tokens.{words_of}
use Rattle.cxx_parse.specs.Numbering.{with_name, with_names, with_special, names_of, word_in, words_in}
use Rattle.cxx_parse.proofs.Numbers.{number-later, longer-names}
use Rattle.cxx_written.specs.Written.{literal_bound, IsWrittenWord, ParsedIsWritten}

-- ---- one token

-- a name stands at its number
abbrev Stands : List (List ℕ) → TokKind → List ℕ → Type 0
Stands names kind.Name text = slice_get names (number_of names text) ≡ Some text
Stands names _ text = Unit {0}

-- whether literals may be of a kind
abbrev is_literal : NumKind → Bool
is_literal k = bound_of k == literal_bound k

below : (value bound other : ℕ) → (bound == other) ≡ true → nat_lt value bound ≡ true → value < other
below value bound other e l = grind (arith, nat_tests, e, l)

held : (value : ℕ) (ks : List NumKind) (k : NumKind) → list_all is_literal ks ≡ true → kind_for value ks ≡ Some k → value < literal_bound k
held value [] k all e = cc
held value (j ∷ js) k all e = let p = both (is_literal j) (list_all is_literal js) all in go (nat_lt value (bound_of j)) refl p.0 e (held value js k p.1)
  where
    go : (x : Bool) → nat_lt value (bound_of j) ≡ x → is_literal j ≡ true → cond x (Some j) (kind_for value js) ≡ Some k → (kind_for value js ≡ Some k → value < literal_bound k) → value < literal_bound k
    go true l i f next = let s : j ≡ k = cc in subst (λ z. value < literal_bound z) s (below value (bound_of j) (literal_bound j) i l)
    go false l i f next = next f

literals : (base : Base) (ending : Suffix) → list_all is_literal (kinds_of base ending) ≡ true
literals Decimal suffix.Plain = refl
literals Decimal suffix.U = refl
literals Decimal suffix.Ll = refl
literals Decimal suffix.Ull = refl
literals Hexadecimal suffix.Plain = refl
literals Hexadecimal suffix.U = refl
literals Hexadecimal suffix.Ll = refl
literals Hexadecimal suffix.Ull = refl

module _ (mode : Mode) (names : List (List ℕ)) where
  abbrev Goal : TokKind → List ℕ → Type 0
  Goal token text = IsWrittenWord mode names (word_in names token text)

  word-written : (token : TokKind) (text : List ℕ) → IsWord text → Stands names token text → (o : Option Keyword) → keyword_of text ≡ o → Ok token ≡ by_keyword mode text o → Goal token text
  word-written token text w at (Some k) o e = let s : token ≡ kind.Keyword k = cc in subst (λ z. Goal z text) (sym s) tt
  word-written token text w at None o e = go (nat_lt (name_limit mode) (length text)) (is_reserved mode text) e
    where
      go : (x y : Bool) → Ok token ≡ cond x (Err L5) (cond y (Err L4) (Ok kind.Name)) → Goal token text
      go true y f = cc
      go false true f = cc
      go false false f =
          let s : token ≡ kind.Name = cc in
          subst (λ z. Goal z text) (sym s) (text, subst (λ z. Stands names z text) s at, (w, ap (by_keyword mode text) o ∙ sym e ∙ ap Ok s))

  number-written : (token : TokKind) (text : List ℕ) (base : Base) (value : ℕ) (ending : Suffix) (o : Option NumKind) → kind_for value (kinds_of base ending) ≡ o → Ok token ≡ by_kind value o → Goal token text
  number-written token text base value ending None p e = cc
  number-written token text base value ending (Some k) p e =
      let s : token ≡ kind.Number value k = cc in
      subst (λ z. Goal z text) (sym s) (held value (kinds_of base ending) k (literals base ending) p)

  directive-written : (token : TokKind) (text : List ℕ) → IsDirective token text → Goal token text
  directive-written token text (include gap other header a b p e) = subst (λ z. Goal z text) (sym e) tt
  directive-written token text (pragma gap other a b n p e) = subst (λ z. Goal z text) (sym e) tt

  token-written : (token : TokKind) (text : List ℕ) → IsLexeme mode (Ok token) text → Stands names token text → Goal token text
  token-written token text (word w e) at = word-written token text w at (keyword_of text) refl e
  token-written token text (number base value ending n e) at = number-written token text base value ending (kind_for value (kinds_of base ending)) refl e
  token-written token text (literal value is e) at =
      let s : token ≡ kind.Text = cc in
      subst (λ z. Goal z text) (sym s) (ap (list_all is_character) (reads_quoted value text is) ∙ is.0)
  token-written token text (directive it d e) at = let s : it ≡ token = cc in subst (λ z. Goal z text) s (directive-written it text d)
  token-written token text (sign it p e) at = let s : token ≡ kind.Sign it = cc in subst (λ z. Goal z text) (sym s) tt

-- ---- the tokens of a text

-- texts keep their numbers as the tokens get theirs
kept-one : (names : List (List ℕ)) (token : TokKind) (text old : List ℕ) (id : ℕ) → slice_get names id ≡ Some old → slice_get (with_name names token text) id ≡ Some old
kept-one names kind.Name text old id at = interned-keeps names text old id at
kept-one names _ text old id at = at

kept : (names : List (List ℕ)) (ts : List Token) (old : List ℕ) (id : ℕ) → slice_get names id ≡ Some old → slice_get (with_names names ts) id ≡ Some old
kept names [] old id at = at
kept names (t ∷ ts) old id at = kept (with_name names t.kind t.text) ts old id (kept-one names t.kind t.text old id at)

stands-later : (names : List (List ℕ)) (token : TokKind) (text : List ℕ) (ts : List Token) → Stands (with_names (with_name names token text) ts) token text
stands-later names kind.Name text ts =
    ap (slice_get (with_names (interned names text) ts)) (number-later names (with_names (interned names text) ts) text (longer-names (interned names text) ts))
    ∙ kept (interned names text) ts text (number_of names text) (text-interned names text)
stands-later names _ text ts = tt

-- where the names before a part of the tokens lead to these
tokens-written : (mode : Mode) (all names : List (List ℕ)) (at : Place) (text : List ℕ) (ts : List Token) (end : Place) (left : List ℕ) → Reads mode at text ts end left → with_names names ts ≡ all
    → Every (IsWrittenWord mode all) (words_of (words_in all ts))
tokens-written mode all names at text ts end left (arrives a t) e = tt
tokens-written mode all names at text ts end left (past_gap a t gap rest us last more p g r) e = tokens-written mode all names _ rest us last more r e
tokens-written mode all names at text ts end left (past_token a t rest tok us last more p q i r) e = (
  token-written mode all tok.kind tok.text i.longest.lexeme (subst (λ z. Stands z tok.kind tok.text) e (stands-later names tok.kind tok.text us)),
  tokens-written mode all (with_name names tok.kind tok.text) _ rest us last more r e,
)

pub parsed-is-written : ParsedIsWritten
parsed-is-written mode file text names ts end q has is =
    subst (Every (IsWrittenWord mode (names_of names ts))) (sym is.spelling) (tokens-written mode (names_of names ts) (with_special names) _ text ts end [] has refl)
