-- The aspects of a file, one by one.
use Rattle.std.proofs.Common.{◌≡◌, ◌≢◌, ◌<◌, ℕ, length, List, [], ◌∷◌, ◌++◌, map, fold, flat_map, Option, Some, None, Result, Ok, Err, IfOk, MatchOption, refl, sym, ap, ap₂, ◌∙◌, subst, append-nil}
use Rattle.std.proofs.lemmas.Grind.{fold-append}
use Rattle.std.proofs.lemmas.List.{map-append}
use Rattle.agxx_base.specs.Names.{is_known, interned}
use Rattle.agxx_base.specs.declared.fault.Refusal.{Refusal}
use Rattle.agxx_base.specs.declared.place.Place.{Place}
use Rattle.agxx_base.specs.declared.kind.Mode.TheVariants.{Source}
use Rattle.cxx_lex.specs.Tokens.{Token, HasTokens, RefusedAt}
use Rattle.cxx_lex.proofs.Readings.{one_reading, never_both}
use Rattle.ah_parse.specs.declared.aspect.GuardAspect.{GuardAspect}
use Rattle.ah_parse.specs.Aspects.{word_of, spelled, IsAspect, AreAspects}
use Rattle.ah_parse.specs.Descent.{IsFresh, IsNoFresh, AreFile, AreNoFile}
use Rattle.ah_parse.specs.GuardFiles.{names_of, taken_after, IsGuardFile, HasOneMeaning, IsSpelled}
use Rattle.ah_parse.proofs.Beginnings.{begins-words}
use Rattle.ah_parse.proofs.Parts.{same-aspect, shorter}
use Rattle.ah_parse.proofs.Taken.{AreNew, new-from_apart, apart-from_new, new-on, new-behind}

aspects-on : (aspects : List GuardAspect) (aspect : GuardAspect) (tokens left rest : List Token) → AreAspects aspects tokens left → IsAspect aspect left rest → AreAspects (aspects ++ aspect ∷ []) tokens rest
aspects-on [] aspect tokens left rest are is = (rest, subst (λ ts. IsAspect aspect ts rest) (sym are) is, refl)
aspects-on (a ∷ aspects) aspect tokens left rest are is = (are.0, are.1, aspects-on aspects aspect are.0 left rest are.2 is)

no-tokens : (aspect : GuardAspect) (rest : List Token) → IsAspect aspect [] rest → ⊥
no-tokens aspect rest is = is.words

-- All aspects begin with those that were read.
aspects-left : (read all : List GuardAspect) (tokens left : List Token) → AreAspects read tokens left → AreAspects all tokens [] → (others : List GuardAspect) × (all ≡ read ++ others) × AreAspects others left []
aspects-left [] all tokens left are full = (all, refl, subst (λ ts. AreAspects all ts []) are full)
aspects-left (a ∷ read) [] tokens left are full = absurd (no-tokens a are.0 (subst (λ ts. IsAspect a ts are.0) full are.1))
aspects-left (a ∷ read) (b ∷ all) tokens left are full =
    let same = same-aspect a b tokens are.0 full.0 are.1 full.1 in
    let rest = aspects-left read all are.0 left are.2 (subst (λ ts. AreAspects all ts []) (sym same.1) full.2) in
    (rest.0, ap₂ (λ x xs. x ∷ xs) (sym same.0) rest.1, rest.2)

none-left : (aspects : List GuardAspect) → AreAspects aspects [] [] → aspects ≡ []
none-left [] are = refl
none-left (a ∷ aspects) are = absurd (no-tokens a are.0 are.1)

same-aspects : (ones others : List GuardAspect) (tokens : List Token) → AreAspects ones tokens [] → AreAspects others tokens [] → ones ≡ others
same-aspects ones others tokens are too =
    let rest = aspects-left ones others tokens [] are too in
    sym (rest.1 ∙ ap (λ more. ones ++ more) (none-left rest.0 rest.2) ∙ append-nil ones)

-- ---- reading one by one

-- Aspects that were read, up to the tokens that are left, with the names that are taken then.
pub record WereRead (old taken : List (List ℕ)) (aspects : List GuardAspect) (tokens left : List Token) : Type 0 where
  pub are : AreAspects aspects tokens left
  pub new : AreNew old (names_of aspects)
  pub names : taken ≡ taken_after old aspects

pub reads-none : (taken : List (List ℕ)) (tokens : List Token) → WereRead taken taken [] tokens tokens
reads-none taken tokens = record { are = refl; new = tt; names = refl }

pub reads-one : (old taken new : List (List ℕ)) (aspects : List GuardAspect) (aspect : GuardAspect) (tokens left rest : List Token)
    → WereRead old taken aspects tokens left → IsFresh taken aspect left rest → new ≡ interned taken aspect.name → WereRead old new (aspects ++ aspect ∷ []) tokens rest
reads-one old taken new aspects aspect tokens left rest read is more =
    let all : names_of (aspects ++ aspect ∷ []) ≡ names_of aspects ++ aspect.name ∷ [] = map-append (λ (a : GuardAspect). a.name) aspects (aspect ∷ []) in
    record {
      are = aspects-on aspects aspect tokens left rest read.are is.0;
      new = subst (AreNew old) (sym all) (new-on old (names_of aspects) aspect.name read.new (ap (λ t. is_known t aspect.name) (sym read.names) ∙ is.1));
      names = more ∙ ap (λ t. interned t aspect.name) read.names ∙ sym (fold-append interned old (names_of aspects) (aspect.name ∷ [])) ∙ ap (fold interned old) (sym all);
    }

-- all tokens were read
pub reads-all : (old taken : List (List ℕ)) (aspects : List GuardAspect) (tokens : List Token) → WereRead old taken aspects tokens [] → AreFile old aspects tokens
reads-all old taken aspects tokens read = (read.are, apart-from_new old (names_of aspects) read.new)

by-first : (old taken : List (List ℕ)) (read others : List GuardAspect) (tokens left : List Token) → left ≢ [] → WereRead old taken read tokens left → AreNew old (names_of (read ++ others)) → AreAspects others left []
    → IsNoFresh taken left → ⊥
by-first old taken read [] tokens left more were new are none = more are
by-first old taken read (a ∷ others) tokens left more were new are none =
    let all : names_of (read ++ a ∷ others) ≡ names_of read ++ a.name ∷ names_of others = map-append (λ (x : GuardAspect). x.name) read (a ∷ others) in
    none a are.0 (are.1, ap (λ ts. is_known ts a.name) were.names ∙ new-behind old (names_of read) (names_of others) a.name (subst (AreNew old) all new))

-- no aspect that may follow stands in front of the tokens that are left
pub reads-no-more : (old taken : List (List ℕ)) (read : List GuardAspect) (tokens left : List Token) → left ≢ [] → WereRead old taken read tokens left → IsNoFresh taken left → AreNoFile old tokens
reads-no-more old taken read tokens left more were none aspects file =
    let rest = aspects-left read aspects tokens left were.are file.0 in
    by-first old taken read rest.0 tokens left more were (subst (λ all. AreNew old (names_of all)) rest.1 (new-from_apart old (names_of aspects) file.1)) rest.2 none

pub fresh-shorter : (taken : List (List ℕ)) (aspect : GuardAspect) (tokens rest : List Token) → IsFresh taken aspect tokens rest → length rest < length tokens
fresh-shorter taken aspect tokens rest is = shorter aspect tokens rest is.0

-- ---- files

pub is-file : (file : ℕ) (taken : List (List ℕ)) (text : List ℕ) (tokens : List Token) (end : Place) (aspects : List GuardAspect) → HasTokens Source file text tokens end → AreFile taken aspects tokens → IsGuardFile file taken text aspects
is-file file taken text tokens end aspects read is = record { tokens = tokens; end = end; read = read; are = is.0; apart = is.1 }

pub no-file : (file : ℕ) (taken : List (List ℕ)) (text : List ℕ) (tokens : List Token) (end : Place) → HasTokens Source file text tokens end → AreNoFile taken tokens → (aspects : List GuardAspect) → IsGuardFile file taken text aspects → ⊥
no-file file taken text tokens end read none aspects is =
    none aspects (subst (λ ts. AreAspects aspects ts []) (one_reading Source file text is.tokens tokens is.end end is.read read).0 is.are, is.apart)

pub no-text : (file : ℕ) (taken : List (List ℕ)) (text : List ℕ) (refusal : Refusal) → RefusedAt Source file text refusal → (aspects : List GuardAspect) → IsGuardFile file taken text aspects → ⊥
no-text file taken text refusal refused aspects is = never_both Source file text is.tokens is.end refusal is.read refused

-- what is told of the tokens is told of the text
pub of-text : {E : Type 0} (file : ℕ) (taken : List (List ℕ)) (text : List ℕ) (tokens : List Token) (end : Place) (result : Result (Option (List GuardAspect)) E) → HasTokens Source file text tokens end
    → IfOk result (λ found. MatchOption found (AreNoFile taken tokens) (λ aspects. AreFile taken aspects tokens))
    → IfOk result (λ found. MatchOption found ((aspects : List GuardAspect) → IsGuardFile file taken text aspects → ⊥) (λ aspects. IsGuardFile file taken text aspects))
of-text file taken text tokens end (Err e) read told = told
of-text file taken text tokens end (Ok None) read told = no-file file taken text tokens end read told
of-text file taken text tokens end (Ok (Some aspects)) read told = is-file file taken text tokens end aspects read told

-- ---- laws

pub one_meaning : HasOneMeaning
one_meaning file taken text ones others is too =
    let tokens = (one_reading Source file text is.tokens too.tokens is.end too.end is.read too.read).0 in
    same-aspects ones others too.tokens (subst (λ ts. AreAspects ones ts []) tokens is.are) too.are

words-of : (aspects : List GuardAspect) (tokens : List Token) → AreAspects aspects tokens [] → map word_of tokens ≡ flat_map spelled aspects
words-of [] tokens are = ap (map word_of) are
words-of (a ∷ aspects) tokens are = begins-words (spelled a) tokens are.0 are.1.words ∙ ap (λ ws. spelled a ++ ws) (words-of aspects are.0 are.2)

pub is_spelled : IsSpelled
is_spelled file taken text aspects is = words-of aspects is.tokens is.are
