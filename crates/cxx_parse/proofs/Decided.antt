-- Tokens are a program or violate the grammar, and never both; the place of G1 is one.
use Rattle.std.proofs.Common.{◌≡◌, ℕ, List, [], ◌∷◌, ◌++◌, ◌⊎◌, inl, inr, refl, sym, ap, ◌∙◌, subst, append_assoc}
use Rattle.agxx_base.specs.declared.fault.Refusal.{Refusal}
use Rattle.agxx_base.specs.declared.kind.Mode.{Mode}
use Rattle.agxx_base.specs.declared.place.Place.{Place}
use Rattle.agxx_base.specs.declared.rule.Rule.TheVariants.{G1, G2}
use Rattle.cxx_lex.specs.Tokens.{Token}
use Rattle.cxx_tree.specs.declared.node.Placed.{Placed}
use Rattle.cxx_tree.specs.Words.{Word}
use Rattle.cxx_tree.specs.ProgramTree.{ProgramTree}
use Rattle.cxx_tree.specs.Limits.{limits_of}
use Rattle.cxx_expr.specs.declared.stop.Stop.TheVariants.{Syntax, Deep, Memory}
use Rattle.cxx_expr.specs.Tokens.{Tokens, words_of}
use Rattle.cxx_expr.specs.Outcome.{Outcome, done, failed}
use Rattle.cxx_expr.specs.Full.{most_operators}
use Rattle.cxx_expr.proofs.Good.{words-append}
use Rattle.cxx_stmt.specs.declared.dialect.Dialect.{Dialect}
use Rattle.cxx_stmt.specs.Dialect.{grammar, IsApart}
use Rattle.cxx_parse.specs.Numbering.{names_of, dialect_in, words_in}
use Rattle.cxx_parse.specs.Programs.{program}
use Rattle.cxx_parse.specs.Parsed.{IsViable, place_of, StopsAt, IsUngrammatical, unexpected, too_deep, file_start, IsProgramOf, IsDescent, IsParsed, IsReadAs, IsRefused}
use Rattle.cxx_parse.proofs.Numbers.{apart-of}
use Rattle.cxx_parse.proofs.Whole.{read-done, read-all, read-syntax, read-deep, never-memory}

-- ---- one of both

decided-by : (d : Dialect) → IsApart d → (ts : Tokens) (end : Place) (o : Outcome Tokens ProgramTree) → program most_operators d (limits_of (grammar d)).nesting (file_start end) ts ≡ o
    → ((q : ProgramTree) × IsProgramOf d ts end q × IsDescent d ts end q) ⊎ ((refusal : Refusal) × IsUngrammatical d ts end refusal)
decided-by d apart ts end (done q rest) h =
    inl (
      q,
      read-done d apart (limits_of (grammar d)).nesting refl (file_start end) ts q rest end refl h,
      read-all d apart (limits_of (grammar d)).nesting refl (file_start end) ts q rest end refl h,
    )
decided-by d apart ts end (failed Syntax rest) h = inr (_, read-syntax d apart (limits_of (grammar d)).nesting refl (file_start end) ts rest end h)
decided-by d apart ts end (failed Deep rest) h = inr (_, read-deep d apart (limits_of (grammar d)).nesting refl (file_start end) ts rest end h)
decided-by d apart ts end (failed Memory rest) h = absurd (never-memory d apart (limits_of (grammar d)).nesting refl (file_start end) ts rest h)

pub parsed-or-refused : (mode : Mode) (names : List (List ℕ)) (ts : List Token) (end : Place)
    → ((q : ProgramTree) × IsParsed mode (names_of names ts) ts end q × IsReadAs mode (names_of names ts) ts end q)
    ⊎ ((refusal : Refusal) × IsRefused mode (names_of names ts) ts end refusal)
parsed-or-refused mode names ts end =
    decided-by (dialect_in mode (names_of names ts)) (apart-of mode names ts) (words_in (names_of names ts) ts) end _ refl

pub never-both : (d : Dialect) (ts : Tokens) (end : Place) (q : ProgramTree) (refusal : Refusal) → IsProgramOf d ts end q → IsUngrammatical d ts end refusal → ⊥
never-both d ts end q refusal p (unexpected n e s) = n q (limits_of (grammar d), p.fits) p.spelling
never-both d ts end q refusal p (too_deep n e w) = n q p.fits p.spelling

-- ---- one place of G1

-- how one list is put together in two ways
abbrev pub Splits : Tokens → Tokens → Tokens → Tokens → Type 0
Splits f r g s =
    ((f ≡ g) × (r ≡ s)) ⊎ (((t : Placed Word) × (more others : Tokens) × (r ≡ t ∷ others) × (g ≡ f ++ t ∷ more)) ⊎ ((t : Placed Word) × (more others : Tokens) × (s ≡ t ∷ others) × (f ≡ g ++ t ∷ more)))

splits : (f r g s : Tokens) → f ++ r ≡ g ++ s → Splits f r g s
splits [] r [] s e = inl (refl, e)
splits [] r (x ∷ g) s e = inr (inl (x, g, g ++ s, e, refl))
splits (x ∷ f) r [] s e = inr (inr (x, f, f ++ r, sym e, refl))
splits (x ∷ f) r (y ∷ g) s e =
    let i : x ≡ y = cc in
    let h : f ++ r ≡ g ++ s = cc in
    by i (splits f r g s h)
  where
    by : x ≡ y → Splits f r g s → Splits (x ∷ f) r (y ∷ g) s
    by i (inl (a, b)) = inl (cc, b)
    by i (inr (inl (t, more, others, a, b))) = inr (inl (t, more, others, a, cc))
    by i (inr (inr (t, more, others, a, b))) = inr (inr (t, more, others, a, cc))

-- a front of a front is viable
viable-front : (d : Dialect) (f more : Tokens) (t : Placed Word) → IsViable d (words_of (f ++ t ∷ more)) → IsViable d (words_of f ++ t.item ∷ [])
viable-front d f more t (q, behind, v, e) = (
  q,
  words_of more ++ behind,
  v,
  e ∙ ap (λ words. words ++ behind) (words-append f (t ∷ more)) ∙ append_assoc (words_of f) (t.item ∷ words_of more) behind ∙ sym (append_assoc (words_of f) (t.item ∷ []) (words_of more ++ behind)),
)

pub stops-once : (d : Dialect) (ts : Tokens) (end a b : Place) → StopsAt d ts end a → StopsAt d ts end b → a ≡ b
stops-once d ts end a b x y = by (splits x.front x.rest y.front y.rest (sym x.parts ∙ y.parts))
  where
    by : Splits x.front x.rest y.front y.rest → a ≡ b
    by (inl (f, r)) = x.place ∙ ap (λ q. place_of q end) r ∙ sym y.place
    by (inr (inl (t, more, others, r, g))) = absurd (x.first t others r (viable-front d x.front more t (subst (λ q. IsViable d (words_of q)) g y.viable)))
    by (inr (inr (t, more, others, r, g))) = absurd (y.first t others r (viable-front d y.front more t (subst (λ q. IsViable d (words_of q)) g x.viable)))

refusals : (r s : Refusal) → r.rule ≡ s.rule → r.place ≡ s.place → r ≡ s
refusals r s i j = ap (λ q. record { rule = q; place = r.place }) i ∙ ap (λ q. record { rule = s.rule; place = q }) j

pub alike : (d : Dialect) (ts : Tokens) (end : Place) (r s : Refusal) → IsUngrammatical d ts end r → IsUngrammatical d ts end s → (r ≡ s) ⊎ ((r.rule ≡ G2) ⊎ (s.rule ≡ G2))
alike d ts end r s (unexpected n e x) (unexpected m f y) = inl (refusals r s (e ∙ sym f) (stops-once d ts end r.place s.place x y))
alike d ts end r s (unexpected n e x) (too_deep m f y) = inr (inr f)
alike d ts end r s (too_deep n e x) u = inr (inl e)

pub rule-of : (d : Dialect) (ts : Tokens) (end : Place) (r : Refusal) → IsUngrammatical d ts end r → (r.rule ≡ G1) ⊎ (r.rule ≡ G2)
rule-of d ts end r (unexpected n e x) = inl e
rule-of d ts end r (too_deep n e x) = inr e
