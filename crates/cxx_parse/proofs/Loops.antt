-- One turn of the loops of a program: what was found so far stands before what is still to come.
use Rattle.std.proofs.Common.{◌≡◌, ℕ, zero, suc, ◌<◌, List, [], ◌∷◌, ◌++◌, length, Some, None, refl, ap, ◌∙◌, arith, append-nil}
use Rattle.cxx_tree.specs.declared.program.Directive.{Directive}
use Rattle.cxx_tree.specs.ProgramTree.{DeclTree}
use Rattle.cxx_expr.specs.declared.stop.Stop.{Stop}
use Rattle.cxx_expr.specs.Tokens.{Tokens, next, after}
use Rattle.cxx_expr.specs.Outcome.{Outcome, done, failed, Parse}
use Rattle.cxx_expr.specs.Descent.{front_of}
use Rattle.cxx_expr.proofs.Turns.{length-after, front_of-front_of}
use Rattle.cxx_parse.specs.Programs.{directive_next, directives_from, decls_from}

-- ---- directives

some-directive : (ts : Tokens) (x : Directive) → Some x ≡ directive_next (next ts) → 0 < length ts
some-directive [] x e = cc
some-directive (t ∷ ts) x e = omega arith

directives_from-last : (n : ℕ) (ts : Tokens) → length ts < n → None ≡ directive_next (next ts) → directives_from n ts ≡ done [] ts
unfolding directives_from
directives_from-last zero ts h e = absurd (omega arith)
directives_from-last (suc n) ts h e = rw (← e) refl

directives_from-more : (n : ℕ) (ts rest : Tokens) (x : Directive) → length ts < n → Some x ≡ directive_next (next ts) → rest ≡ after ts
    → (m : ℕ) × (length rest < m) × (directives_from n ts ≡ front_of (x ∷ []) (directives_from m rest))
unfolding directives_from
directives_from-more zero ts rest x h e a = absurd (omega arith)
directives_from-more (suc n) ts rest x h e a = (n, omega (arith, h, some-directive ts x e, length-after ts, ap length a), rw (← e, ← a) refl)

pub directives-last : (o : Outcome Tokens (List Directive)) (found : List Directive) (n : ℕ) (ts : Tokens)
    → o ≡ front_of found (directives_from n ts) → length ts < n → None ≡ directive_next (next ts) → o ≡ done found ts
directives-last o found n ts e h s = e ∙ ap (front_of found) (directives_from-last n ts h s) ∙ ap (λ xs. done xs ts) (append-nil found)

pub directives-more : (o : Outcome Tokens (List Directive)) (found more : List Directive) (n : ℕ) (ts rest : Tokens) (x : Directive)
    → o ≡ front_of found (directives_from n ts) → length ts < n → Some x ≡ directive_next (next ts) → rest ≡ after ts → found ++ x ∷ [] ≡ more
    → (m : ℕ) × (length rest < m) × (o ≡ front_of more (directives_from m rest))
directives-more o found more n ts rest x e h s a p =
    let turn = directives_from-more n ts rest x h s a in (
      turn.0,
      turn.1,
      e ∙ ap (front_of found) turn.2 ∙ front_of-front_of found (x ∷ []) (directives_from turn.0 rest) ∙ ap (λ xs. front_of xs (directives_from turn.0 rest)) p,
    )

-- ---- declarations

decls_from-fail : (part : Parse Tokens DeclTree) (n : ℕ) (ts rest : Tokens) (why : Stop) → length ts < n → (ts ≡ [] → ⊥) → part ts ≡ failed why rest → decls_from part n ts ≡ failed why rest
unfolding decls_from
decls_from-fail part zero ts rest why h e f = absurd (omega arith)
decls_from-fail part (suc n) [] rest why h e f = absurd (e refl)
decls_from-fail part (suc n) (t ∷ ts) rest why h e f = rw f refl

decls_from-last : (part : Parse Tokens DeclTree) (n : ℕ) (ts : Tokens) → length ts < n → ts ≡ [] → decls_from part n ts ≡ done [] ts
unfolding decls_from
decls_from-last part zero ts h e = absurd (omega arith)
decls_from-last part (suc n) [] h e = refl
decls_from-last part (suc n) (t ∷ ts) h e = cc

decls_from-more : (part : Parse Tokens DeclTree) (n : ℕ) (ts rest : Tokens) (x : DeclTree) → length ts < n → (ts ≡ [] → ⊥) → part ts ≡ done x rest → length rest < length ts
    → (m : ℕ) × (length rest < m) × (decls_from part n ts ≡ front_of (x ∷ []) (decls_from part m rest))
unfolding decls_from
decls_from-more part zero ts rest x h e f lt = absurd (omega arith)
decls_from-more part (suc n) [] rest x h e f lt = absurd (e refl)
decls_from-more part (suc n) (t ∷ ts) rest x h e f lt = (n, omega (arith, h, lt), rw f refl)

pub decls-fail : (part : Parse Tokens DeclTree) (o : Outcome Tokens (List DeclTree)) (found : List DeclTree) (n : ℕ) (ts rest : Tokens) (why : Stop)
    → o ≡ front_of found (decls_from part n ts) → length ts < n → (ts ≡ [] → ⊥) → part ts ≡ failed why rest → o ≡ failed why rest
decls-fail part o found n ts rest why e h s f = e ∙ ap (front_of found) (decls_from-fail part n ts rest why h s f)

pub decls-last : (part : Parse Tokens DeclTree) (o : Outcome Tokens (List DeclTree)) (found : List DeclTree) (n : ℕ) (ts : Tokens)
    → o ≡ front_of found (decls_from part n ts) → length ts < n → ts ≡ [] → o ≡ done found ts
decls-last part o found n ts e h s = e ∙ ap (front_of found) (decls_from-last part n ts h s) ∙ ap (λ xs. done xs ts) (append-nil found)

pub decls-more : (part : Parse Tokens DeclTree) (o : Outcome Tokens (List DeclTree)) (found more : List DeclTree) (n : ℕ) (ts rest : Tokens) (x : DeclTree)
    → o ≡ front_of found (decls_from part n ts) → length ts < n → (ts ≡ [] → ⊥) → part ts ≡ done x rest → length rest < length ts → found ++ x ∷ [] ≡ more
    → (m : ℕ) × (length rest < m) × (o ≡ front_of more (decls_from part m rest))
decls-more part o found more n ts rest x e h s f lt p =
    let turn = decls_from-more part n ts rest x h s f lt in (
      turn.0,
      turn.1,
      e ∙ ap (front_of found) turn.2 ∙ front_of-front_of found (x ∷ []) (decls_from part turn.0 rest) ∙ ap (λ xs. front_of xs (decls_from part turn.0 rest)) p,
    )
