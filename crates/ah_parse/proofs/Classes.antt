-- The classes of an aspect.
use Rattle.std.proofs.Common.{◌≡◌, ◌≢◌, ◌<◌, ℕ, Bool, true, false, List, [], ◌∷◌, ◌++◌, length, refl, sym, ap, ap₂, ◌∙◌, subst, append_assoc}
use Rattle.std.specs.List.{AllByRecursion}
use Rattle.std.proofs.lemmas.List.{append_cancel_right}
use Rattle.agxx_base.specs.declared.vocabulary.Sign.TheVariants as sg
use Rattle.cxx_lex.specs.declared.tok.TokKind.TheVariants as kind
use Rattle.cxx_lex.specs.Tokens.{Token}
use Rattle.cxx_lex.specs.Words.{IsWord}
use Rattle.ah_parse.specs.Aspects.{Word, word_of, sign, quoted, further, joined, Begins}
use Rattle.ah_parse.specs.Descent.{listed, ending, AreClasses, AreNoClasses, IsClass, IsNoClass}
use Rattle.ah_parse.proofs.Beginnings.{begins-on, begins-shorter}

-- classes with `||` behind each
abbrev pub run : List (List ℕ) → List Word
run [] = []
run (class ∷ classes) = quoted class ∷ sign sg.OrOr ∷ run classes

further-more : (classes : List (List ℕ)) (class : List ℕ) → further (classes ++ class ∷ []) ≡ sign sg.OrOr ∷ joined (classes ++ class ∷ [])
further-more [] class = refl
further-more (c ∷ cs) class = refl

joined-more : (classes : List (List ℕ)) (class : List ℕ) → joined (classes ++ class ∷ []) ≡ run classes ++ quoted class ∷ []
joined-more [] class = refl
joined-more (c ∷ cs) class = ap (λ ws. quoted c ∷ ws) (further-more cs class ∙ ap (λ ws. sign sg.OrOr ∷ ws) (joined-more cs class))

run-more : (classes : List (List ℕ)) (class : List ℕ) → run (classes ++ class ∷ []) ≡ run classes ++ quoted class ∷ sign sg.OrOr ∷ []
run-more [] class = refl
run-more (c ∷ cs) class = ap (λ ws. quoted c ∷ sign sg.OrOr ∷ ws) (run-more cs class)

listed-more : (classes : List (List ℕ)) (class : List ℕ) → listed (classes ++ class ∷ []) ≡ run classes ++ quoted class ∷ sign sg.Semicolon ∷ []
listed-more classes class = ap (λ ws. ws ++ sign sg.Semicolon ∷ []) (joined-more classes class) ∙ append_assoc (run classes) (quoted class ∷ []) (sign sg.Semicolon ∷ [])

plain-more : (classes : List (List ℕ)) (class : List ℕ) → AllByRecursion IsWord classes → IsWord class → AllByRecursion IsWord (classes ++ class ∷ [])
plain-more [] class all is = (is, tt)
plain-more (c ∷ cs) class all is = (all.0, plain-more cs class all.1 is)

not-empty : (classes : List (List ℕ)) (class : List ℕ) → classes ++ class ∷ [] ≢ []
not-empty [] class e = cc
not-empty (c ∷ cs) class e = cc

-- Classes that were read, up to the tokens that are left.
pub record WereRead (classes : List (List ℕ)) (tokens left : List Token) : Type 0 where
  pub words : Begins (run classes) tokens left
  pub plain : AllByRecursion IsWord classes

pub reads-none : (tokens : List Token) → WereRead [] tokens tokens
reads-none tokens = record { words = refl; plain = tt }

-- one more, with `||` behind it
pub reads-more : (classes : List (List ℕ)) (class : List ℕ) (tokens left rest : List Token) → WereRead classes tokens left → IsClass class false left rest → WereRead (classes ++ class ∷ []) tokens rest
reads-more classes class tokens left rest read is = record {
  words = subst (λ ws. Begins ws tokens rest) (sym (run-more classes class)) (begins-on (run classes) _ tokens left rest read.words is.1);
  plain = plain-more classes class read.plain is.0;
}

-- the last, with `;` behind it
pub reads-last : (classes : List (List ℕ)) (class : List ℕ) (tokens left rest : List Token) → WereRead classes tokens left → IsClass class true left rest → AreClasses (classes ++ class ∷ []) tokens rest
reads-last classes class tokens left rest read is = record {
  words = subst (λ ws. Begins ws tokens rest) (sym (listed-more classes class)) (begins-on (run classes) _ tokens left rest read.words is.1);
  some = not-empty classes class;
  plain = plain-more classes class read.plain is.0;
}

no-end : (u : Token) → word_of u ≡ sign sg.OrOr → word_of u ≡ sign sg.Semicolon → ⊥
no-end u or end =
    let one : u.kind ≡ kind.Sign sg.OrOr = ap (λ (w : Word). w.0) or in
    let other : u.kind ≡ kind.Sign sg.Semicolon = ap (λ (w : Word). w.0) end in
    cc

-- Behind classes that were read there are some still.
classes-left : (read classes : List (List ℕ)) (tokens left rest : List Token) → Begins (run read) tokens left → AreClasses classes tokens rest → (others : List (List ℕ)) × AreClasses others left rest
classes-left [] classes tokens left rest is are = (classes, subst (λ ts. AreClasses classes ts rest) is are)
classes-left (r ∷ rs) classes [] left rest is are = absurd is
classes-left (r ∷ rs) classes (t ∷ []) left rest is are = absurd is.1
classes-left (r ∷ rs) [] (t ∷ u ∷ ts) left rest is are = absurd (are.some refl)
classes-left (r ∷ rs) (c ∷ []) (t ∷ u ∷ ts) left rest is are = absurd (no-end u is.1.0 are.words.1.0)
classes-left (r ∷ rs) (c ∷ d ∷ cs) (t ∷ u ∷ ts) left rest is are =
    classes-left rs (d ∷ cs) ts left rest is.1.1 (record { words = are.words.1.1; some = (λ e. cc); plain = are.plain.1 })

-- Classes begin with a class.
first-class : (classes : List (List ℕ)) (tokens rest : List Token) → AreClasses classes tokens rest → IsNoClass tokens → ⊥
first-class [] tokens rest are none = are.some refl
first-class (c ∷ cs) [] rest are none = are.words
first-class (c ∷ []) (t ∷ []) rest are none = are.words.1
first-class (c ∷ d ∷ cs) (t ∷ []) rest are none = are.words.1
first-class (c ∷ []) (t ∷ u ∷ ts) rest are none = none c true ts (are.plain.0, (are.words.0, (are.words.1.0, refl)))
first-class (c ∷ d ∷ cs) (t ∷ u ∷ ts) rest are none = none c false ts (are.plain.0, (are.words.0, (are.words.1.0, refl)))

-- no classes where none follows those that were read
pub reads-no-more : (read : List (List ℕ)) (tokens left : List Token) → WereRead read tokens left → IsNoClass left → AreNoClasses tokens
reads-no-more read tokens left were none classes rest are =
    let others = classes-left read classes tokens left rest were.words are in
    first-class others.0 left rest others.1 none

pub class-shorter : (class : List ℕ) (last : Bool) (tokens rest : List Token) → IsClass class last tokens rest → length rest < length tokens
class-shorter class last tokens rest is = begins-shorter (quoted class) (ending last ∷ []) tokens rest is.1

same-class : (one other : List ℕ) (t : Token) → word_of t ≡ quoted one → word_of t ≡ quoted other → one ≡ other
same-class one other t is too =
    let first : t.text ≡ 34 ∷ (one ++ 34 ∷ []) = ap (λ (w : Word). w.1) is in
    let second : t.text ≡ 34 ∷ (other ++ 34 ∷ []) = ap (λ (w : Word). w.1) too in
    let e : one ++ 34 ∷ [] ≡ other ++ 34 ∷ [] = cc in
    append_cancel_right one other (34 ∷ []) e

-- The classes are one list.
pub same-classes : (ones others : List (List ℕ)) (tokens left rest : List Token) → AreClasses ones tokens left → AreClasses others tokens rest → (ones ≡ others) × (left ≡ rest)
same-classes [] others tokens left rest are too = absurd (are.some refl)
same-classes (c ∷ cs) [] tokens left rest are too = absurd (too.some refl)
same-classes (c ∷ []) (d ∷ ds) [] left rest are too = absurd are.words
same-classes (c ∷ []) (d ∷ ds) (t ∷ []) left rest are too = absurd are.words.1
same-classes (c ∷ e ∷ cs) (d ∷ ds) [] left rest are too = absurd are.words
same-classes (c ∷ e ∷ cs) (d ∷ ds) (t ∷ []) left rest are too = absurd are.words.1
same-classes (c ∷ []) (d ∷ []) (t ∷ u ∷ ts) left rest are too =
    (ap (λ x. x ∷ []) (same-class c d t are.words.0 too.words.0), sym are.words.1.1 ∙ too.words.1.1)
same-classes (c ∷ []) (d ∷ e ∷ ds) (t ∷ u ∷ ts) left rest are too = absurd (no-end u too.words.1.0 are.words.1.0)
same-classes (c ∷ e ∷ cs) (d ∷ []) (t ∷ u ∷ ts) left rest are too = absurd (no-end u are.words.1.0 too.words.1.0)
same-classes (c ∷ e ∷ cs) (d ∷ f ∷ ds) (t ∷ u ∷ ts) left rest are too =
    let both = same-classes (e ∷ cs) (f ∷ ds) ts left rest (record { words = are.words.1.1; some = (λ z. cc); plain = are.plain.1 }) (record { words = too.words.1.1; some = (λ z. cc); plain = too.plain.1 }) in
    (ap₂ (λ x xs. x ∷ xs) (same-class c d t are.words.0 too.words.0) both.0, both.1)
