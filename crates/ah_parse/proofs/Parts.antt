-- The parts of an aspect.
use Rattle.std.proofs.Common.{◌≡◌, ◌<◌, ℕ, List, [], ◌∷◌, ◌++◌, length, slice_get, option_map, refl, sym, ap, ◌∙◌, subst, append_assoc, arith}
use Rattle.agxx_base.specs.declared.place.Place.{Place}
use Rattle.agxx_base.specs.declared.vocabulary.Keyword.TheVariants as kw
use Rattle.agxx_base.specs.declared.vocabulary.Sign.TheVariants as sg
use Rattle.agxx_base.specs.Names.{is_known}
use Rattle.cxx_lex.specs.Tokens.{Token}
use Rattle.guards.specs.declared.guard.GuardKind.{GuardKind}
use Rattle.guards.specs.declared.guard.GuardKind.TheVariants.{Copies, Hamming}
use Rattle.ah_parse.specs.declared.aspect.GuardAspect.{GuardAspect}
use Rattle.ah_parse.specs.Aspects.{Word, base_of, keyword, sign, name, quoted, joined, heading, closing, built_in, Begins, IsAspect}
use Rattle.ah_parse.specs.Descent.{IsHeading, IsNoAspect, listed, AreClasses, AreNoClasses, NeverBegins, IsNoHeading, IsNoOpening, IsName, IsNoName, IsNoClass, IsNoQuoted, IsNoEnd, ending}
use Rattle.ah_parse.proofs.Beginnings.{begins-on, begins-cut, begins-same, begins-shorter}
use Rattle.ah_parse.proofs.Classes.{same-classes}

-- the words behind the `;` that ends the classes
abbrev pub closed : List Word
closed = sign sg.CloseBrace ∷ sign sg.Semicolon ∷ []

-- the words up to the classes
abbrev opened : GuardKind → List ℕ → List Word
opened guard text = keyword kw.Aspect ∷ name text ∷ heading guard

-- An aspect is an opening, classes and what closes it.
pub record HasParts (aspect : GuardAspect) (named : Token) (tokens inside behind rest : List Token) : Type 0 where
  pub head : IsHeading aspect.kind named tokens inside
  pub classes : AreClasses aspect.classes inside behind
  pub close : Begins closed behind rest
  pub is : aspect ≡ record { name = named.text; at = named.at; kind = aspect.kind; classes = aspect.classes }

-- the words of an aspect, part by part
cut-words : (guard : GuardKind) (text : List ℕ) (classes : List (List ℕ))
    → opened guard text ++ (listed classes ++ closed) ≡ opened guard text ++ (joined classes ++ closing)
cut-words guard text classes = ap (λ ws. opened guard text ++ ws) (append_assoc (joined classes) (sign sg.Semicolon ∷ []) closed)

pub whole : (guard : GuardKind) (named : Token) (classes : List (List ℕ)) (tokens inside behind rest : List Token)
    → IsHeading guard named tokens inside → AreClasses classes inside behind → Begins closed behind rest
    → IsAspect (record { name = named.text; at = named.at; kind = guard; classes = classes }) tokens rest
whole guard named classes tokens inside behind rest head are close = record {
  words = subst (λ ws. Begins ws tokens rest) (cut-words guard named.text classes)
      (begins-on (opened guard named.text) (listed classes ++ closed) tokens inside rest head.words
      (begins-on (listed classes) closed inside behind rest are.words close));
  place = ap (option_map (λ (t : Token). t.at)) head.place;
  own = head.own;
  some = are.some;
  plain = are.plain;
}

remade : (aspect : GuardAspect) (text : List ℕ) (at : Place) → text ≡ aspect.name → at ≡ aspect.at
    → aspect ≡ record { name = text; at = at; kind = aspect.kind; classes = aspect.classes }
remade aspect text at e f = rw (e, f) refl

-- the parts of an aspect
pub parts : (aspect : GuardAspect) (tokens rest : List Token) → IsAspect aspect tokens rest
    → (named : Token) × (inside behind : List Token) × HasParts aspect named tokens inside behind rest
parts aspect [] rest is = absurd is.words
parts aspect (t ∷ []) rest is = absurd is.words.1
parts aspect (t ∷ named ∷ ts) rest is =
    let words : Begins (opened aspect.kind aspect.name ++ (listed aspect.classes ++ closed)) (t ∷ named ∷ ts) rest =
    subst (λ ws. Begins ws (t ∷ named ∷ ts) rest) (sym (cut-words aspect.kind aspect.name aspect.classes)) is.words in
    let first = begins-cut (opened aspect.kind aspect.name) (listed aspect.classes ++ closed) (t ∷ named ∷ ts) rest words in
    let second = begins-cut (listed aspect.classes) closed first.0 rest first.2 in
    let text : named.text ≡ aspect.name = ap (λ (w : Word). w.1) words.1.0 in
    let at : named.at ≡ aspect.at = cc is.place in (
      named,
      first.0,
      second.0,
      record {
        head = record {
          words = subst (λ text. Begins (opened aspect.kind text) (t ∷ named ∷ ts) first.0) (sym text) first.1;
          place = refl;
          own = ap (is_known built_in) text ∙ is.own;
        };
        classes = record { words = second.1; some = is.some; plain = is.plain };
        close = second.2;
        is = remade aspect named.text named.at text at;
      },
    )

-- A built-in aspect guards in one way.
same-base : (one other : GuardKind) → base_of one ≡ base_of other → one ≡ other
same-base Copies Copies e = refl
same-base Hamming Hamming e = refl
same-base Copies Hamming e = absurd (omega (arith, ap length e))
same-base Hamming Copies e = absurd (omega (arith, ap length e))

same-guard : (one other : GuardKind) (tokens left rest : List Token)
    → Begins (heading one) tokens left → Begins (heading other) tokens rest → one ≡ other
same-guard one other [] left rest is too = absurd is
same-guard one other (a ∷ []) left rest is too = absurd is.1
same-guard one other (a ∷ b ∷ []) left rest is too = absurd is.1.1
same-guard one other (a ∷ b ∷ c ∷ ts) left rest is too =
    same-base one other (ap (λ (w : Word). w.1) (sym is.1.1.0 ∙ too.1.1.0))

pub same-heading : (guard kind : GuardKind) (one other : Token) (tokens left rest : List Token)
    → IsHeading guard one tokens left → IsHeading kind other tokens rest → (guard ≡ kind) × (one ≡ other) × (left ≡ rest)
same-heading guard kind one other [] left rest is too = absurd is.words
same-heading guard kind one other (t ∷ []) left rest is too = absurd is.words.1
same-heading guard kind one other (t ∷ n ∷ ts) left rest is too =
    let alike : guard ≡ kind = same-guard guard kind ts left rest is.words.1.1 too.words.1.1 in
    let same : one ≡ other = cc (is.place, too.place) in
    let words : Begins (heading kind) ts left = subst (λ g. Begins (heading g) ts left) alike is.words.1.1 in
    (alike, same, begins-same (heading kind) ts left rest words too.words.1.1)

-- Tokens begin with one aspect, if with any.
pub same-aspect : (one other : GuardAspect) (tokens left rest : List Token)
    → IsAspect one tokens left → IsAspect other tokens rest → (one ≡ other) × (left ≡ rest)
same-aspect one other tokens left rest is too =
    let p = parts one tokens left is in
    let q = parts other tokens rest too in
    let heads = same-heading one.kind other.kind p.0 q.0 tokens p.1 q.1 p.3.head q.3.head in
    let lists =
    same-classes one.classes other.classes q.1 p.2 q.2
    (subst (λ ts. AreClasses one.classes ts p.2) heads.2 p.3.classes) q.3.classes in (
      p.3.is ∙ (alike one other p.0 q.0 heads.0 heads.1 lists.0 ∙ sym q.3.is),
      begins-same closed q.2 left rest (subst (λ ts. Begins closed ts left) lists.1 p.3.close) q.3.close,
    )
  where
    alike : (one other : GuardAspect) (first second : Token) → one.kind ≡ other.kind → first ≡ second → one.classes ≡ other.classes
        → ◌≡◌ {A = GuardAspect} (record { name = first.text; at = first.at; kind = one.kind; classes = one.classes })
        (record { name = second.text; at = second.at; kind = other.kind; classes = other.classes })
    alike one other first second kinds tokens classes = rw (kinds, tokens, classes) refl

-- no aspect without a heading
pub no-heading : (tokens : List Token) → IsNoHeading tokens → IsNoAspect tokens
no-heading tokens none aspect rest is =
    let p = parts aspect tokens rest is in
    none aspect.kind p.0 p.1 p.3.head

-- no aspect where no classes stand behind its heading, or nothing closes it behind them
pub no-classes : (guard : GuardKind) (named : Token) (tokens inside : List Token)
    → IsHeading guard named tokens inside → AreNoClasses inside → IsNoAspect tokens
no-classes guard named tokens inside head none aspect rest is =
    let p = parts aspect tokens rest is in
    let heads = same-heading aspect.kind guard p.0 named tokens p.1 inside p.3.head head in
    none aspect.classes p.2 (subst (λ ts. AreClasses aspect.classes ts p.2) heads.2 p.3.classes)

pub no-close : (guard : GuardKind) (named : Token) (classes : List (List ℕ)) (tokens inside behind : List Token)
    → IsHeading guard named tokens inside → AreClasses classes inside behind → NeverBegins closed behind → IsNoAspect tokens
no-close guard named classes tokens inside behind head are none aspect rest is =
    let p = parts aspect tokens rest is in
    let heads = same-heading aspect.kind guard p.0 named tokens p.1 inside p.3.head head in
    let lists =
    same-classes aspect.classes classes inside p.2 behind
    (subst (λ ts. AreClasses aspect.classes ts p.2) heads.2 p.3.classes) are in
    none rest (subst (λ ts. Begins closed ts rest) lists.1 p.3.close)

pub shorter : (aspect : GuardAspect) (tokens rest : List Token) → IsAspect aspect tokens rest → length rest < length tokens
shorter aspect tokens rest is =
    begins-shorter (keyword kw.Aspect) (name aspect.name ∷ (heading aspect.kind ++ joined aspect.classes ++ closing))
    tokens rest is.words

-- ---- headings and classes, word by word

pub never_all : (word : Word) (words : List Word) (tokens : List Token) → NeverBegins (word ∷ []) tokens → NeverBegins (word ∷ words) tokens
never_all word words [] never rest is = is
never_all word words (t ∷ ts) never rest is = never ts (is.0, refl)

pub no-keyword : (tokens : List Token) → NeverBegins (keyword kw.Aspect ∷ []) tokens → IsNoHeading tokens
no-keyword tokens never guard named rest is =
    never_all (keyword kw.Aspect) (name named.text ∷ heading guard) tokens never rest is.words

pub no-name : (tokens inside : List Token) → Begins (keyword kw.Aspect ∷ []) tokens inside → IsNoName inside → IsNoHeading tokens
no-name [] inside is none guard named rest head = is
no-name (t ∷ []) inside is none guard named rest head = head.words.1
no-name (t ∷ n ∷ ts) inside is none guard named rest head =
    let same : n ≡ named = cc head.place in
    none named ts (record {
      words = subst (λ all. Begins (name named.text ∷ []) all ts) is.1 (head.words.1.0, refl);
      first = sym is.1 ∙ ap (λ x. x ∷ ts) same;
      own = head.own;
    })

pub no-opening : (named : Token) (tokens inside left : List Token)
    → Begins (keyword kw.Aspect ∷ []) tokens inside → IsName named inside left → IsNoOpening left → IsNoHeading tokens
no-opening named [] inside left is first none guard other rest head = is
no-opening named (t ∷ []) inside left is first none guard other rest head = head.words.1
no-opening named (t ∷ n ∷ ts) inside left is first none guard other rest head =
    let same : ts ≡ left = cc (is.1, first.first) in
    none guard rest (subst (λ all. Begins (heading guard) all rest) same head.words.1.1)

-- none, where neither comes next
pub neither : (tokens : List Token) → NeverBegins (heading Copies) tokens → NeverBegins (heading Hamming) tokens → IsNoOpening tokens
neither tokens one other Copies = one
neither tokens one other Hamming = other

pub is-heading : (guard : GuardKind) (named : Token) (tokens inside left rest : List Token)
    → Begins (keyword kw.Aspect ∷ []) tokens inside → IsName named inside left → Begins (heading guard) left rest
    → IsHeading guard named tokens rest
is-heading guard named [] inside left rest is first head = absurd is
is-heading guard named (t ∷ ts) inside left rest is first head = record {
  words = (
    is.0,
    subst (λ all. Begins (name named.text ∷ heading guard) all rest) (sym is.1)
        (begins-on (name named.text ∷ []) (heading guard) inside left rest first.words head),
  );
  place = ap (λ all. slice_get (t ∷ all) 1) (is.1 ∙ first.first);
  own = first.own;
}

pub no-quoted : (tokens : List Token) → IsNoQuoted tokens → IsNoClass tokens
no-quoted tokens none class last rest is =
    let cut = begins-cut (quoted class ∷ []) (ending last ∷ []) tokens rest is.1 in
    none class cut.0 is.0 cut.1

pub no-end : (class : List ℕ) (tokens left : List Token) → Begins (quoted class ∷ []) tokens left → IsNoEnd left → IsNoClass tokens
no-end class [] left is none other last rest too = is
no-end class (t ∷ ts) left is none other last rest too = none last rest (subst (λ all. Begins (ending last ∷ []) all rest) is.1 too.1.1)
