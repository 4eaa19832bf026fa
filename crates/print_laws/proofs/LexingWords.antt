-- Names and keywords at the front of a text.
use Rattle.std.proofs.Common.{◌≡◌, ℕ, true, false, List, [], ◌∷◌, ◌++◌, take, length, Some, None, Ok, refl, ap, ◌∙◌, arith}
use Rattle.std.specs.Prelude.{◌==◌}
use Rattle.std.proofs.lemmas.Bool.Decides.{nat_tests}
use Rattle.std.proofs.Math.Seq.{take-append_seam}
use Rattle.agxx_base.specs.declared.kind.Mode.{Mode}
use Rattle.agxx_base.specs.declared.kind.Mode.TheVariants as mode_of
use Rattle.agxx_base.specs.declared.kind.NumKind.TheVariants as num
use Rattle.agxx_base.specs.declared.vocabulary.Keyword.{Keyword}
use Rattle.agxx_base.specs.declared.vocabulary.Keyword.TheVariants as k
use Rattle.agxx_base.specs.declared.vocabulary.SpecialName.{SpecialName}
use Rattle.agxx_base.specs.declared.vocabulary.SpecialName.TheVariants as special_name
use Rattle.agxx_base.specs.Vocabulary.{keyword_text, special_text}
use Rattle.cxx_lex.specs.declared.tok.TokKind.{TokKind}
use Rattle.cxx_lex.specs.declared.tok.TokKind.TheVariants as kind
use Rattle.cxx_lex.specs.Bytes.{is_letter, is_part}
use Rattle.cxx_lex.specs.Runs.{run}
use Rattle.cxx_lex.specs.Scan.{lexeme}
use Rattle.cxx_lex.specs.Tokens.{clashes, IsTokenAt}
use Rattle.cxx_lex.specs.Words.{IsWord, keyword_of, by_keyword, name_verdict, word_verdict}
use Rattle.cxx_lex.specs.WordScan.{word_lexeme}
use Rattle.cxx_lex.proofs.Runs.{Stops, run-front}
use Rattle.cxx_tree.specs.Words as w
use Rattle.cxx_written.specs.Written.{IsNameText}
use Rattle.print_laws.proofs.Shapes.{is_spelled_word, is_in_programs}
use Rattle.print_laws.proofs.LexingTokens.{token-found, no-slash}

letter-lexeme : (mode : Mode) (b : ℕ) (bs : List ℕ) → is_letter b ≡ true → lexeme mode (b ∷ bs) ≡ Some (word_lexeme mode (b ∷ bs))
letter-lexeme mode b bs l = rw l refl

whole-word : (mode : Mode) (text rest : List ℕ) → run is_part (text ++ rest) ≡ length text → word_lexeme mode (text ++ rest) ≡ record { kind = word_verdict mode text; len = length text }
unfolding word_lexeme
whole-word mode text rest n =
    let t : take (run is_part (text ++ rest)) (text ++ rest) ≡ text = ap (λ k. take k (text ++ rest)) n ∙ take-append_seam text rest in
    λ i. record { kind = word_verdict mode (t i); len = n i }

letter-slash : (b : ℕ) → is_letter b ≡ true → (b == 47) ≡ false
letter-slash b l = grind (arith, nat_tests, l)

-- a word before what is no letter, digit or underscore
word-token : (mode : Mode) (token : TokKind) (text rest : List ℕ) → IsWord text → word_verdict mode text ≡ Ok token → clashes token rest ≡ false → Stops is_part rest → IsTokenAt mode token text rest
word-token mode token [] rest is verdict apart stops = absurd is
word-token mode token (b ∷ bs) rest is verdict apart stops =
    let part : is_part b ≡ true = rw is.0 refl in
    let n : run is_part ((b ∷ bs) ++ rest) ≡ length (b ∷ bs) = run-front is_part (b ∷ bs) rest (rw part is.1) stops in
    token-found mode token (b ∷ bs) rest (no-slash b (bs ++ rest) (letter-slash b is.0))
    (letter-lexeme mode b (bs ++ rest) is.0 ∙ ap Some (whole-word mode (b ∷ bs) rest n) ∙ ap (λ v. Some (record { kind = v; len = length (b ∷ bs) })) verdict) apart

pub name-token : (mode : Mode) (text rest : List ℕ) → IsNameText mode text → Stops is_part rest → IsTokenAt mode kind.Name text rest
name-token mode text rest is stops = word-token mode kind.Name text rest is.0 is.1 refl stops

-- ---- keywords

keyword-found : (it : Keyword) → is_spelled_word (w.keyword it) ≡ true → keyword_of (keyword_text it) ≡ Some it
unfolding keyword_of
keyword-found (k.Number num.Bool) e = refl
keyword-found (k.Number num.I8) e = refl
keyword-found (k.Number num.U8) e = refl
keyword-found (k.Number num.I16) e = refl
keyword-found (k.Number num.U16) e = refl
keyword-found (k.Number num.I32) e = refl
keyword-found (k.Number num.U32) e = refl
keyword-found (k.Number num.I64) e = refl
keyword-found (k.Number num.U64) e = refl
keyword-found k.Reserved e = cc
keyword-found _ e = refl

pub keyword-word : (it : Keyword) → is_spelled_word (w.keyword it) ≡ true → IsWord (keyword_text it)
keyword-word (k.Number num.Bool) e = (refl, refl)
keyword-word (k.Number num.I8) e = (refl, refl)
keyword-word (k.Number num.U8) e = (refl, refl)
keyword-word (k.Number num.I16) e = (refl, refl)
keyword-word (k.Number num.U16) e = (refl, refl)
keyword-word (k.Number num.I32) e = (refl, refl)
keyword-word (k.Number num.U32) e = (refl, refl)
keyword-word (k.Number num.I64) e = (refl, refl)
keyword-word (k.Number num.U64) e = (refl, refl)
keyword-word k.Reserved e = cc
keyword-word _ e = (refl, refl)

pub keyword-token : (mode : Mode) (it : Keyword) (rest : List ℕ) → is_spelled_word (w.keyword it) ≡ true → Stops is_part rest → IsTokenAt mode (kind.Keyword it) (keyword_text it) rest
keyword-token mode it rest e stops =
    word-token mode (kind.Keyword it) (keyword_text it) rest (keyword-word it e) (ap (by_keyword mode (keyword_text it)) (keyword-found it e)) refl stops

-- ---- names with a meaning

no-keyword : (given : SpecialName) → is_in_programs given ≡ true → keyword_of (special_text given) ≡ None
unfolding keyword_of
no-keyword special_name.Std e = refl
no-keyword special_name.Mutex e = refl
no-keyword special_name.Thread e = refl
no-keyword special_name.Cout e = refl
no-keyword special_name.Endl e = refl
no-keyword special_name.Abort e = refl
no-keyword _ e = cc

is-name : (mode : Mode) (given : SpecialName) → is_in_programs given ≡ true → name_verdict mode (special_text given) ≡ Ok kind.Name
is-name mode_of.Source special_name.Std e = refl
is-name mode_of.Source special_name.Mutex e = refl
is-name mode_of.Source special_name.Thread e = refl
is-name mode_of.Source special_name.Cout e = refl
is-name mode_of.Source special_name.Endl e = refl
is-name mode_of.Source special_name.Abort e = refl
is-name mode_of.Woven special_name.Std e = refl
is-name mode_of.Woven special_name.Mutex e = refl
is-name mode_of.Woven special_name.Thread e = refl
is-name mode_of.Woven special_name.Cout e = refl
is-name mode_of.Woven special_name.Endl e = refl
is-name mode_of.Woven special_name.Abort e = refl
is-name _ _ e = cc

special-word : (given : SpecialName) → is_in_programs given ≡ true → IsWord (special_text given)
special-word special_name.Std e = (refl, refl)
special-word special_name.Mutex e = (refl, refl)
special-word special_name.Thread e = (refl, refl)
special-word special_name.Cout e = (refl, refl)
special-word special_name.Endl e = (refl, refl)
special-word special_name.Abort e = (refl, refl)
special-word _ e = cc

pub special-is-name : (mode : Mode) (given : SpecialName) → is_in_programs given ≡ true → IsNameText mode (special_text given)
special-is-name mode given e = (special-word given e, ap (by_keyword mode (special_text given)) (no-keyword given e) ∙ is-name mode given e)
