-- Each text is a guard file or none: the parts of one are decided in turn.
use Rattle.std.proofs.Common.{◌≡◌, ◌≢◌, ◌<◌, ℕ, zero, suc, Bool, true, false, true≢false, ◌⊎◌, inl, inr, List, [], ◌∷◌, ◌++◌, length, refl, sym, ap, ap₂, ◌∙◌, subst, arith}
use Rattle.std.specs.List.{list_all}
use Rattle.std.specs.Str.{bytes_eq}
use Rattle.std.proofs.lemmas.Slice.Eq.{bytes_eq-Decides}
use Rattle.agxx_base.specs.declared.fault.Refusal.{Refusal}
use Rattle.agxx_base.specs.declared.kind.Mode.TheVariants.{Source}
use Rattle.agxx_base.specs.declared.place.Place.{Place}
use Rattle.agxx_base.specs.declared.vocabulary.Keyword.TheVariants as kw
use Rattle.agxx_base.specs.declared.vocabulary.Sign.TheVariants as sg
use Rattle.agxx_base.specs.Names.{is_known, interned}
use Rattle.cxx_lex.specs.Bytes.{is_letter, is_part}
use Rattle.cxx_lex.specs.declared.tok.TokKind.{TokKind}
use Rattle.cxx_lex.specs.declared.tok.TokKind.TheVariants as kind
use Rattle.cxx_lex.specs.Tokens.{Token, HasTokens, RefusedAt}
use Rattle.cxx_lex.specs.Words.{IsWord}
use Rattle.cxx_lex.proofs.Readings.{always_one}
use Rattle.guards.specs.declared.guard.GuardKind.{GuardKind}
use Rattle.guards.specs.declared.guard.GuardKind.TheVariants.{Copies, Hamming}
use Rattle.ah_parse.specs.declared.aspect.GuardAspect.{GuardAspect}
use Rattle.ah_parse.specs.declared.fixed.Fixed.{Fixed}
use Rattle.ah_parse.specs.declared.fixed.Fixed.TheVariants as fixed
use Rattle.ah_parse.specs.Aspects.{Word, word_of, keyword, sign, heading, quoted, built_in, Begins, IsAspect}
use Rattle.ah_parse.specs.Descent.{fixed_word, fixed_words, fixed_kind, fixed_text, NeverBegins, IsName, IsNoName, IsNoOpening, IsHeading, IsNoHeading, IsNoClass, AreClasses, AreNoClasses, IsNoAspect, IsFresh, IsNoFresh, AreFile, AreNoFile}
use Rattle.ah_parse.specs.GuardFiles.{IsGuardFile, IsAlwaysOneOrNone}
use Rattle.ah_parse.proofs.Classes as classes
use Rattle.ah_parse.proofs.Files as files
use Rattle.ah_parse.proofs.Files.{fresh-shorter, is-file, no-file, no-text, one_meaning}
use Rattle.ah_parse.proofs.Parts.{closed, whole, same-aspect, no-heading, no-classes, no-close, no-keyword, no-name, no-opening, neither, is-heading}

-- ---- tokens

kind-is : (word : Fixed) (k : TokKind) → (k ≡ fixed_kind word) ⊎ (k ≢ fixed_kind word)
kind-is fixed.Aspect (kind.Keyword kw.Aspect) = inl refl
kind-is fixed.Aspect _ = inr (λ e. cc)
kind-is fixed.Colon (kind.Sign sg.Colon) = inl refl
kind-is fixed.Colon _ = inr (λ e. cc)
kind-is fixed.Public (kind.Keyword kw.Public) = inl refl
kind-is fixed.Public _ = inr (λ e. cc)
kind-is (fixed.Base guard) kind.Name = inl refl
kind-is (fixed.Base guard) _ = inr (λ e. cc)
kind-is fixed.OpenBrace (kind.Sign sg.OpenBrace) = inl refl
kind-is fixed.OpenBrace _ = inr (λ e. cc)
kind-is fixed.Pointcut (kind.Keyword kw.Pointcut) = inl refl
kind-is fixed.Pointcut _ = inr (λ e. cc)
kind-is fixed.Guarded kind.Name = inl refl
kind-is fixed.Guarded _ = inr (λ e. cc)
kind-is fixed.OpenParen (kind.Sign sg.OpenParen) = inl refl
kind-is fixed.OpenParen _ = inr (λ e. cc)
kind-is fixed.CloseParen (kind.Sign sg.CloseParen) = inl refl
kind-is fixed.CloseParen _ = inr (λ e. cc)
kind-is fixed.Assign (kind.Sign sg.Assign) = inl refl
kind-is fixed.Assign _ = inr (λ e. cc)
kind-is fixed.OrOr (kind.Sign sg.OrOr) = inl refl
kind-is fixed.OrOr _ = inr (λ e. cc)
kind-is fixed.Semicolon (kind.Sign sg.Semicolon) = inl refl
kind-is fixed.Semicolon _ = inr (λ e. cc)
kind-is fixed.CloseBrace (kind.Sign sg.CloseBrace) = inl refl
kind-is fixed.CloseBrace _ = inr (λ e. cc)

kind-is-text : (k : TokKind) → (k ≡ kind.Text) ⊎ (k ≢ kind.Text)
kind-is-text kind.Text = inl refl
kind-is-text _ = inr (λ e. cc)

text-is : (one other : List ℕ) → (one ≡ other) ⊎ (one ≢ other)
text-is one other = by (bytes_eq one other) refl
  where
    by : (same : Bool) → bytes_eq one other ≡ same → (one ≡ other) ⊎ (one ≢ other)
    by true e = inl ((bytes_eq-Decides one other).0 e)
    by false e = inr (λ is. true≢false (sym ((bytes_eq-Decides one other).1 is) ∙ e))

-- a word where its kind and its text are decided
pair-is : (k l : TokKind) (one other : List ℕ) → (k ≡ l) ⊎ (k ≢ l) → (one ≡ other) ⊎ (one ≢ other) → ◌≡◌ {A = Word} (k, one) (l, other) ⊎ ◌≢◌ {A = Word} (k, one) (l, other)
pair-is k l one other (inl e) (inl f) = inl (ap₂ (λ x y. (x, y)) e f)
pair-is k l one other (inl e) (inr n) = inr (λ is. n (ap (λ (w : Word). w.1) is))
pair-is k l one other (inr n) same = inr (λ is. n (ap (λ (w : Word). w.0) is))

word-is : (word : Fixed) (t : Token) → (word_of t ≡ fixed_word word) ⊎ (word_of t ≢ fixed_word word)
word-is word t = pair-is t.kind (fixed_kind word) t.text (fixed_text word) (kind-is word t.kind) (text-is t.text (fixed_text word))

passes : (words : List Fixed) (tokens : List Token) → ((rest : List Token) × Begins (fixed_words words) tokens rest) ⊎ NeverBegins (fixed_words words) tokens
passes [] tokens = inl (tokens, refl)
passes (word ∷ words) [] = inr (λ rest is. is)
passes (word ∷ words) (t ∷ ts) = by (word-is word t) (passes words ts)
  where
    by : (word_of t ≡ fixed_word word) ⊎ (word_of t ≢ fixed_word word) → ((rest : List Token) × Begins (fixed_words words) ts rest) ⊎ NeverBegins (fixed_words words) ts
        → ((rest : List Token) × Begins (fixed_words (word ∷ words)) (t ∷ ts) rest) ⊎ NeverBegins (fixed_words (word ∷ words)) (t ∷ ts)
    by (inl e) (inl more) = inl (more.0, (e, more.1))
    by (inl e) (inr none) = inr (λ rest is. none rest is.1)
    by (inr n) more = inr (λ rest is. n is.0)

-- ---- headings

name-is : (tokens : List Token) → ((named : Token) × (rest : List Token) × IsName named tokens rest) ⊎ IsNoName tokens
name-is [] = inr (λ named rest is. is.words)
name-is (t ∷ ts) = by (kind-is fixed.Guarded t.kind) (is_known built_in t.text) refl
  where
    by : (t.kind ≡ kind.Name) ⊎ (t.kind ≢ kind.Name) → (known : Bool) → is_known built_in t.text ≡ known
        → ((named : Token) × (rest : List Token) × IsName named (t ∷ ts) rest) ⊎ IsNoName (t ∷ ts)
    by (inl e) false own = inl (t, ts, record { words = (ap (λ k. (k, t.text)) e, refl); first = refl; own = own })
    by (inl e) true own = inr (λ named rest is. true≢false (sym own ∙ ap (λ (w : Word). is_known built_in w.1) is.words.0 ∙ is.own))
    by (inr n) known own = inr (λ named rest is. n (ap (λ (w : Word). w.0) is.words.0))

-- the words between an aspect's name and its first class
abbrev behind_name : GuardKind → List Fixed
behind_name guard =
    fixed.Colon ∷ fixed.Public ∷ fixed.Base guard ∷ fixed.OpenBrace ∷ fixed.Pointcut ∷ fixed.Guarded ∷ fixed.OpenParen ∷ fixed.CloseParen ∷ fixed.Assign ∷ []

opening-is : (tokens : List Token) → ((guard : GuardKind) × (rest : List Token) × Begins (heading guard) tokens rest) ⊎ IsNoOpening tokens
opening-is tokens = by (passes (behind_name Copies) tokens) (passes (behind_name Hamming) tokens)
  where
    by : ((rest : List Token) × Begins (heading Copies) tokens rest) ⊎ NeverBegins (heading Copies) tokens
        → ((rest : List Token) × Begins (heading Hamming) tokens rest) ⊎ NeverBegins (heading Hamming) tokens
        → ((guard : GuardKind) × (rest : List Token) × Begins (heading guard) tokens rest) ⊎ IsNoOpening tokens
    by (inl (rest, is)) other = inl (Copies, rest, is)
    by (inr one) (inl (rest, is)) = inl (Hamming, rest, is)
    by (inr one) (inr other) = inr (neither tokens one other)

-- a heading, or none
abbrev Heading : List Token → Type 0
Heading tokens =
    ((guard : GuardKind) × (named : Token) × (rest : List Token) × IsHeading guard named tokens rest) ⊎ IsNoHeading tokens

heading-is : (tokens : List Token) → Heading tokens
heading-is tokens = by (passes (fixed.Aspect ∷ []) tokens)
  where
    by-rest : (named : Token) (inside left : List Token) → Begins (keyword kw.Aspect ∷ []) tokens inside → IsName named inside left
        → ((guard : GuardKind) × (rest : List Token) × Begins (heading guard) left rest) ⊎ IsNoOpening left → Heading tokens
    by-rest named inside left is first (inl (guard, rest, head)) =
        inl (guard, named, rest, is-heading guard named tokens inside left rest is first head)
    by-rest named inside left is first (inr none) = inr (no-opening named tokens inside left is first none)

    by-name : (inside : List Token) → Begins (keyword kw.Aspect ∷ []) tokens inside
        → ((named : Token) × (left : List Token) × IsName named inside left) ⊎ IsNoName inside → Heading tokens
    by-name inside is (inl (named, left, first)) = by-rest named inside left is first (opening-is left)
    by-name inside is (inr none) = inr (no-name tokens inside is none)

    by : ((rest : List Token) × Begins (keyword kw.Aspect ∷ []) tokens rest) ⊎ NeverBegins (keyword kw.Aspect ∷ []) tokens → Heading tokens
    by (inl (inside, is)) = by-name inside is (name-is inside)
    by (inr none) = inr (no-keyword tokens none)

-- ---- classes

plain-is : (text : List ℕ) → IsWord text ⊎ (IsWord text → ⊥)
plain-is [] = inr (λ is. is)
plain-is (b ∷ bs) = by (is_letter b) refl (list_all is_part bs) refl
  where
    by : (letter : Bool) → is_letter b ≡ letter → (parts : Bool) → list_all is_part bs ≡ parts → IsWord (b ∷ bs) ⊎ (IsWord (b ∷ bs) → ⊥)
    by true e true f = inl (e, f)
    by true e false f = inr (λ is. true≢false (sym is.1 ∙ f))
    by false e parts f = inr (λ is. true≢false (sym is.0 ∙ e))

without_last : List ℕ → List ℕ
without_last [] = []
without_last (b ∷ []) = []
without_last (b ∷ c ∷ bs) = b ∷ without_last (c ∷ bs)

-- what stands between the first byte and the last
inner : List ℕ → List ℕ
inner [] = []
inner (b ∷ bs) = without_last bs

without-quote : (class : List ℕ) → without_last (class ++ 34 ∷ []) ≡ class
unfolding without_last
without-quote [] = refl
without-quote (b ∷ []) = refl
without-quote (b ∷ c ∷ bs) = ap (λ rest. b ∷ rest) (without-quote (c ∷ bs))

inner-is : (t : Token) (class : List ℕ) → word_of t ≡ quoted class → inner t.text ≡ class
unfolding inner
inner-is t class is = ap (λ (w : Word). inner w.1) is ∙ without-quote class

class-is : (t : Token) → ((class : List ℕ) × IsWord class × (word_of t ≡ quoted class)) ⊎ ((class : List ℕ) → IsWord class → word_of t ≡ quoted class → ⊥)
class-is t = by (pair-is t.kind kind.Text t.text (34 ∷ (inner t.text ++ 34 ∷ [])) (kind-is-text t.kind) (text-is t.text (34 ∷ (inner t.text ++ 34 ∷ [])))) (plain-is (inner t.text))
  where
    by : (word_of t ≡ quoted (inner t.text)) ⊎ (word_of t ≢ quoted (inner t.text)) → IsWord (inner t.text) ⊎ (IsWord (inner t.text) → ⊥)
        → ((class : List ℕ) × IsWord class × (word_of t ≡ quoted class)) ⊎ ((class : List ℕ) → IsWord class → word_of t ≡ quoted class → ⊥)
    by (inl e) (inl plain) = inl (inner t.text, plain, e)
    by (inl e) (inr none) = inr (λ class plain is. none (subst IsWord (sym (inner-is t class is)) plain))
    by (inr n) plain = inr (λ class _ is. n (subst (λ x. word_of t ≡ quoted x) (sym (inner-is t class is)) is))

no-sign : (t u : Token) (ts : List Token) → word_of u ≢ sign sg.Semicolon → word_of u ≢ sign sg.OrOr → IsNoClass (t ∷ u ∷ ts)
no-sign t u ts one other class true rest is = one is.1.1.0
no-sign t u ts one other class false rest is = other is.1.1.0

classes-from : (read : List (List ℕ)) (tokens left : List Token) → classes.WereRead read tokens left → ((found : List (List ℕ)) × (rest : List Token) × AreClasses found tokens rest) ⊎ AreNoClasses tokens
classes-from read tokens [] were = inr (classes.reads-no-more read tokens [] were (λ class last rest is. is.1))
classes-from read tokens (t ∷ []) were = inr (classes.reads-no-more read tokens (t ∷ []) were (λ class last rest is. is.1.1))
classes-from read tokens (t ∷ u ∷ ts) were = by (class-is t) (word-is fixed.Semicolon u) (word-is fixed.OrOr u) (λ more. classes-from more tokens ts)
  where
    by : ((class : List ℕ) × IsWord class × (word_of t ≡ quoted class)) ⊎ ((class : List ℕ) → IsWord class → word_of t ≡ quoted class → ⊥)
        → (word_of u ≡ sign sg.Semicolon) ⊎ (word_of u ≢ sign sg.Semicolon) → (word_of u ≡ sign sg.OrOr) ⊎ (word_of u ≢ sign sg.OrOr)
        → ((more : List (List ℕ)) → classes.WereRead more tokens ts → ((found : List (List ℕ)) × (rest : List Token) × AreClasses found tokens rest) ⊎ AreNoClasses tokens)
        → ((found : List (List ℕ)) × (rest : List Token) × AreClasses found tokens rest) ⊎ AreNoClasses tokens
    by (inr none) one other next = inr (classes.reads-no-more read tokens (t ∷ u ∷ ts) were (λ class last rest is. none class is.0 is.1.0))
    by (inl (class, plain, e)) (inl f) other next = inl (read ++ class ∷ [], ts, classes.reads-last read class tokens (t ∷ u ∷ ts) ts were (plain, (e, (f, refl))))
    by (inl (class, plain, e)) (inr n) (inl f) next = next (read ++ class ∷ []) (classes.reads-more read class tokens (t ∷ u ∷ ts) ts were (plain, (e, (f, refl))))
    by (inl (class, plain, e)) (inr n) (inr m) next = inr (classes.reads-no-more read tokens (t ∷ u ∷ ts) were (no-sign t u ts n m))

classes-are : (tokens : List Token) → ((found : List (List ℕ)) × (rest : List Token) × AreClasses found tokens rest) ⊎ AreNoClasses tokens
classes-are tokens = classes-from [] tokens tokens (classes.reads-none tokens)

-- ---- aspects

-- an aspect, or none
abbrev Aspect : List Token → Type 0
Aspect tokens = ((aspect : GuardAspect) × (rest : List Token) × IsAspect aspect tokens rest) ⊎ IsNoAspect tokens

aspect-is : (tokens : List Token) → Aspect tokens
aspect-is tokens = by (heading-is tokens)
  where
    by-rest : (guard : GuardKind) (named : Token) (found : List (List ℕ)) (inside behind : List Token)
        → IsHeading guard named tokens inside → AreClasses found inside behind
        → ((rest : List Token) × Begins closed behind rest) ⊎ NeverBegins closed behind → Aspect tokens
    by-rest guard named found inside behind head are (inl (rest, close)) =
        inl (_, rest, whole guard named found tokens inside behind rest head are close)
    by-rest guard named found inside behind head are (inr none) = inr (no-close guard named found tokens inside behind head are none)

    by-classes : (guard : GuardKind) (named : Token) (inside : List Token) → IsHeading guard named tokens inside
        → ((found : List (List ℕ)) × (rest : List Token) × AreClasses found inside rest) ⊎ AreNoClasses inside → Aspect tokens
    by-classes guard named inside head (inl (found, behind, are)) =
        by-rest guard named found inside behind head are (passes (fixed.CloseBrace ∷ fixed.Semicolon ∷ []) behind)
    by-classes guard named inside head (inr none) = inr (no-classes guard named tokens inside head none)

    by : Heading tokens → Aspect tokens
    by (inl (guard, named, inside, head)) = by-classes guard named inside head (classes-are inside)
    by (inr none) = inr (no-heading tokens none)

fresh-is : (taken : List (List ℕ)) (tokens : List Token) → ((aspect : GuardAspect) × (rest : List Token) × IsFresh taken aspect tokens rest) ⊎ IsNoFresh taken tokens
fresh-is taken tokens = by (aspect-is tokens)
  where
    by-known : (aspect : GuardAspect) (rest : List Token) → IsAspect aspect tokens rest → (known : Bool) → is_known taken aspect.name ≡ known
        → ((aspect : GuardAspect) × (rest : List Token) × IsFresh taken aspect tokens rest) ⊎ IsNoFresh taken tokens
    by-known aspect rest is false e = inl (aspect, rest, (is, e))
    by-known aspect rest is true e =
        inr (λ other left fresh. true≢false (sym e ∙ ap (λ (a : GuardAspect). is_known taken a.name) (same-aspect aspect other tokens rest left is fresh.0).0 ∙ fresh.1))

    by : ((aspect : GuardAspect) × (rest : List Token) × IsAspect aspect tokens rest) ⊎ IsNoAspect tokens → ((aspect : GuardAspect) × (rest : List Token) × IsFresh taken aspect tokens rest) ⊎ IsNoFresh taken tokens
    by (inl (aspect, rest, is)) = by-known aspect rest is (is_known taken aspect.name) refl
    by (inr none) = inr (λ aspect rest fresh. none aspect rest fresh.0)

-- ---- files

-- the aspects of the tokens that are left, which are fewer than the bound
file-from : (bound : ℕ) (old taken : List (List ℕ)) (read : List GuardAspect) (tokens left : List Token) → files.WereRead old taken read tokens left → length left < bound
    → ((aspects : List GuardAspect) × AreFile old aspects tokens) ⊎ AreNoFile old tokens
file-from zero old taken read tokens left were less = absurd (omega arith)
file-from (suc bound) old taken read tokens [] were less = inl (read, files.reads-all old taken read tokens were)
file-from (suc bound) old taken read tokens (t ∷ ts) were less = by (fresh-is taken (t ∷ ts)) (file-from bound old)
  where
    by : ((aspect : GuardAspect) × (rest : List Token) × IsFresh taken aspect (t ∷ ts) rest) ⊎ IsNoFresh taken (t ∷ ts)
        → ((now : List (List ℕ)) (all : List GuardAspect) (tokens left : List Token) → files.WereRead old now all tokens left → length left < bound → ((aspects : List GuardAspect) × AreFile old aspects tokens) ⊎ AreNoFile old tokens)
        → ((aspects : List GuardAspect) × AreFile old aspects tokens) ⊎ AreNoFile old tokens
    by (inl (aspect, rest, fresh)) next =
        let shorter : length rest < length (t ∷ ts) = fresh-shorter taken aspect (t ∷ ts) rest fresh in
        next (interned taken aspect.name) (read ++ aspect ∷ []) tokens rest (files.reads-one old taken (interned taken aspect.name) read aspect tokens (t ∷ ts) rest were fresh refl) (omega arith)
    by (inr none) next = inr (files.reads-no-more old taken read tokens (t ∷ ts) (λ e. cc) were none)

file-is : (taken : List (List ℕ)) (tokens : List Token) → ((aspects : List GuardAspect) × AreFile taken aspects tokens) ⊎ AreNoFile taken tokens
file-is taken tokens = file-from (suc (length tokens)) taken taken [] tokens tokens (files.reads-none taken tokens) (omega arith)

pub guard-file-or-none : IsAlwaysOneOrNone
guard-file-or-none file taken text = by (always_one Source file text)
  where
    by-tokens : (tokens : List Token) (end : Place) → HasTokens Source file text tokens end → ((aspects : List GuardAspect) × AreFile taken aspects tokens) ⊎ AreNoFile taken tokens
        → ((aspects : List GuardAspect) × IsGuardFile file taken text aspects) ⊎ ((aspects : List GuardAspect) → IsGuardFile file taken text aspects → ⊥)
    by-tokens tokens end read (inl (aspects, are)) = inl (aspects, is-file file taken text tokens end aspects read are)
    by-tokens tokens end read (inr none) = inr (no-file file taken text tokens end read none)

    by : ((tokens : List Token) × (end : Place) × HasTokens Source file text tokens end) ⊎ ((refusal : Refusal) × RefusedAt Source file text refusal)
        → ((aspects : List GuardAspect) × IsGuardFile file taken text aspects) ⊎ ((aspects : List GuardAspect) → IsGuardFile file taken text aspects → ⊥)
    by (inl (tokens, end, read)) = by-tokens tokens end read (file-is taken tokens)
    by (inr (refusal, refused)) = inr (no-text file taken text refusal refused)

pub one-guard-file : (file : ℕ) (taken : List (List ℕ)) (text : List ℕ) (ones others : List GuardAspect) → IsGuardFile file taken text ones → IsGuardFile file taken text others → ones ≡ others
one-guard-file = one_meaning
