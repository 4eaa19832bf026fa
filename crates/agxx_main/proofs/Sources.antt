-- A program with aspect files has an answer, and one alone.
use Rattle.std.proofs.Common.{◌≡◌, ℕ, suc, ◌<◌, ◌≤◌, List, [], ◌∷◌, ◌++◌, length, Option, Some, None, ◌⊎◌, inl, inr, refl, sym, ap, ◌∙◌, subst, arith}
use Rattle.agxx_base.specs.Sizes.{largest_text}
use Rattle.agxx_base.specs.declared.fault.Refusal.{Refusal}
use Rattle.agxx_base.specs.declared.kind.Mode.TheVariants as mode
use Rattle.agxx_base.specs.declared.place.Place.{Place}
use Rattle.agxx_base.specs.declared.rule.Rule.TheVariants.{U1, W1}
use Rattle.cxx_lex.specs.Laws.{IsAlwaysOne}
use Rattle.cxx_lex.specs.Tokens.{Token, HasTokens, RefusedAt}
use Rattle.cxx_lex.proofs.Readings.{one_refusal, never_both}
use Rattle.cxx_stmt.specs.declared.dialect.Dialect.{Dialect}
use Rattle.cxx_tree.specs.ProgramTree.{ProgramTree}
use Rattle.cxx_parse.specs.Numbering.{dialect_in, words_in}
use Rattle.cxx_parse.specs.Parsed.{IsParsed, IsReadAs}
use Rattle.cxx_parse.proofs.Decided.{parsed-or-refused, never-both, alike, rule-of}
use Rattle.cxx_normal.specs.Normal.{with_main, normal_among}
use Rattle.cxx_types.specs.Violations.{refusal_of}
use Rattle.flip_plan.specs.Plans.{PlanMeaning}
use Rattle.guards.specs.declared.guard.Guard.{Guard}
use Rattle.guard_rules.specs.Violations.{refusal_of_guards}
use Rattle.ah_parse.specs.declared.aspect.GuardAspect.{GuardAspect}
use Rattle.ah_parse.specs.GuardFiles.{IsGuardFile, taken_after, names_in, guards_of}
use Rattle.ah_parse.proofs.Decided.{guard-file-or-none, one-guard-file}
use Rattle.protect.specs.GeneratedNames.{with_generated}
use Rattle.agxx_main.specs.declared.answer.Answer.{Answer}
use Rattle.agxx_main.specs.Answers.{refused, at_beginning, names_in as names_of_tokens, IsRefusalIn}
use Rattle.agxx_main.specs.RunAnswers.{woven_answer, source_answer}
use Rattle.agxx_main.specs.Laws.{IsAlike, same}
use Rattle.agxx_main.specs.Weaving as w
use Rattle.agxx_main.specs.Weaving.{Sheet, Sources, Ending, Guarded, unguarded, guarded, GuardsAll, Sized, too_large, fits, by_guards, by_names, IsWeavingAnswer, IsGuardsAnswer, IsNormalAnswer, IsProgramAnswer, IsGuardedAnswer, IsSourceAnswer, refused_program, refused_source, woven_text, woven_name, written, writes, runs, runs_source}
use Rattle.agxx_main.proofs.Opens.{within}
use Rattle.agxx_main.proofs.Texts.{has-text, one-text, same-tokens, same-program, alike-refusals}

-- ---- what becomes of a woven text

-- there is an answer, and one alone
pub record IsSettled (ending : Ending) : Type 0 where
  pub some : (s : Sources) (names : List (List ℕ)) (q : ProgramTree) (text : List ℕ) → (a : Answer) × ending s names q text a
  pub one : (s : Sources) (names : List (List ℕ)) (q : ProgramTree) (text : List ℕ) (a b : Answer) → ending s names q text a → ending s names q text b → IsAlike a b

pub writes-settled : IsSettled writes
writes-settled = record {
  some = λ s names q text. (written text, refl);
  one = λ s names q text a b e f. same (e ∙ sym f);
}

pub runs-settled : IsAlwaysOne → (plan : PlanMeaning) → IsSettled (runs plan)
runs-settled always plan = record {
  some = λ s names q text. has-text always mode.Woven (woven_answer plan) woven_name text;
  one = λ s names q text a b. one-text mode.Woven (woven_answer plan) woven_name text a b;
}

pub source-settled : (plan : PlanMeaning) → IsSettled (runs_source plan)
source-settled plan = record {
  some = λ s names q text. (source_answer plan s.program.name names q, refl);
  one = λ s names q text a b e f. same (e ∙ sym f);
}

module _ (ending : Ending) (settled : IsSettled ending) (s : Sources) where
  -- ---- there is an answer

  some-weaving : (names : List (List ℕ)) (guards : List Guard) (q : ProgramTree) → (a : Answer) × IsWeavingAnswer s ending names guards q a
  some-weaving names guards q = by (within (length (woven_text names guards q)) largest_text)
    where
      by : (length (woven_text names guards q) ≤ largest_text) ⊎ (largest_text < length (woven_text names guards q)) → (a : Answer) × IsWeavingAnswer s ending names guards q a
      by (inl l) = let e = settled.some s (with_generated names guards q) q (woven_text names guards q) in (e.0, fits l e.1)
      by (inr l) = (refused_program s (at_beginning W1), too_large l refl)

  some-guards : (names : List (List ℕ)) (guards : List Guard) (q : ProgramTree) (o : Option Refusal) → (a : Answer) × by_guards s ending names guards q o a
  some-guards names guards q None = some-weaving names guards q
  some-guards names guards q (Some r) = (refused_source s r, refl)

  some-names : (names : List (List ℕ)) (guards : List Guard) (q : ProgramTree) (o : Option Refusal) → (a : Answer) × by_names s ending names guards q o a
  some-names names guards q None = some-guards names guards q (refusal_of_guards names guards q)
  some-names names guards q (Some r) = (refused_program s r, refl)

  some-program : (names : List (List ℕ)) (aspects : List GuardAspect) (q : ProgramTree) → (a : Answer) × IsProgramAnswer s ending names aspects q a
  some-program names aspects q =
      some-names (with_main names) (guards_of (with_main names) aspects) (normal_among (with_main names) q) (refusal_of (with_main names) mode.Source (normal_among (with_main names) q))

  some-guarded : (tokens : List Token) (end : Place) (aspects : List GuardAspect) → (a : Answer) × IsGuardedAnswer s ending tokens end aspects a
  some-guarded tokens end aspects = by (parsed-or-refused mode.Source [] tokens end)
    where
      by : ((q : ProgramTree) × IsParsed mode.Source (names_of_tokens tokens) tokens end q × IsReadAs mode.Source (names_of_tokens tokens) tokens end q) ⊎ ((refusal : Refusal) × IsRefusalIn mode.Source tokens end refusal)
          → (a : Answer) × IsGuardedAnswer s ending tokens end aspects a
      by (inl (q, p, r)) = let e = some-program (names_of_tokens tokens) aspects q in (e.0, w.program q (p, r) e.1)
      by (inr r) = (refused_program s r.0, w.no_program r.0 r.1 refl)

some-all : (number : ℕ) (taken : List (List ℕ)) (sheets : List Sheet) (Then : List GuardAspect → Answer → Type 0) → ((aspects : List GuardAspect) → (a : Answer) × Then aspects a) → (a : Answer) × GuardsAll number taken sheets Then a
some-all number taken [] Then each = each []
some-all number taken (sheet ∷ sheets) Then each =
    by (guard-file-or-none number taken sheet.text)
    (λ aspects. some-all (suc number) (taken_after taken aspects) sheets (λ rest. Then (aspects ++ rest)) (λ rest. each (aspects ++ rest)))
  where
    by : ((aspects : List GuardAspect) × IsGuardFile number taken sheet.text aspects) ⊎ ((aspects : List GuardAspect) → IsGuardFile number taken sheet.text aspects → ⊥)
        → ((aspects : List GuardAspect) → (a : Answer) × GuardsAll (suc number) (taken_after taken aspects) sheets (λ rest. Then (aspects ++ rest)) a) → (a : Answer) × GuardsAll number taken (sheet ∷ sheets) Then a
    by (inl (aspects, is)) rest = let e = rest aspects in (e.0, guarded aspects is e.1)
    by (inr none) rest = (refused sheet.name (at_beginning U1), unguarded none refl)

pub some-source : IsAlwaysOne → (ending : Ending) → IsSettled ending → (s : Sources) → (a : Answer) × IsSourceAnswer s ending a
some-source always ending settled s = by (always mode.Source 0 s.program.text)
  where
    by : ((ts : List Token) × (end : Place) × HasTokens mode.Source 0 s.program.text ts end) ⊎ ((refusal : Refusal) × RefusedAt mode.Source 0 s.program.text refusal) → (a : Answer) × IsSourceAnswer s ending a
    by (inl t) =
        let e = some-all 1 (names_in t.0) s.aspects (IsGuardedAnswer s ending t.0 t.1) (some-guarded ending settled s t.0 t.1) in
        (e.0, w.tokens t.0 t.1 t.2 e.1)
    by (inr r) = (refused_program s r.0, w.no_tokens r.0 r.1 refl)

-- ---- it is one

module _ (ending : Ending) (settled : IsSettled ending) (s : Sources) where
  one-weaving : (names : List (List ℕ)) (guards : List Guard) (q : ProgramTree) (a b : Answer) → IsWeavingAnswer s ending names guards q a → IsWeavingAnswer s ending names guards q b → IsAlike a b
  one-weaving names guards q a b (too_large l e) (too_large m f) = same (e ∙ sym f)
  one-weaving names guards q a b (too_large l e) (fits m f) = absurd (omega (arith, l, m))
  one-weaving names guards q a b (fits l e) (too_large m f) = absurd (omega (arith, l, m))
  one-weaving names guards q a b (fits l e) (fits m f) = settled.one s (with_generated names guards q) q (woven_text names guards q) a b e f

  one-guards : (names : List (List ℕ)) (guards : List Guard) (q : ProgramTree) (o : Option Refusal) (a b : Answer) → by_guards s ending names guards q o a → by_guards s ending names guards q o b → IsAlike a b
  one-guards names guards q None a b x y = one-weaving names guards q a b x y
  one-guards names guards q (Some r) a b x y = same (x ∙ sym y)

  one-names : (names : List (List ℕ)) (guards : List Guard) (q : ProgramTree) (o : Option Refusal) (a b : Answer) → by_names s ending names guards q o a → by_names s ending names guards q o b → IsAlike a b
  one-names names guards q None a b x y = one-guards names guards q (refusal_of_guards names guards q) a b x y
  one-names names guards q (Some r) a b x y = same (x ∙ sym y)

  one-program : (names : List (List ℕ)) (aspects : List GuardAspect) (q : ProgramTree) (a b : Answer) → IsProgramAnswer s ending names aspects q a → IsProgramAnswer s ending names aspects q b → IsAlike a b
  one-program names aspects q a b x y =
      one-names (with_main names) (guards_of (with_main names) aspects) (normal_among (with_main names) q) (refusal_of (with_main names) mode.Source (normal_among (with_main names) q)) a b x y

  one-guarded : (ts : List Token) (end : Place) (aspects : List GuardAspect) (a b : Answer) → IsGuardedAnswer s ending ts end aspects a → IsGuardedAnswer s ending ts end aspects b → IsAlike a b
  one-guarded ts end aspects a b (w.no_program r n e) (w.no_program q m f) =
      let d : Dialect = dialect_in mode.Source (names_of_tokens ts) in
      let words = words_in (names_of_tokens ts) ts in
      alike-refusals s.program.name a b r q e f (rule-of d words end r n) (rule-of d words end q m) (alike d words end r q n m)
  one-guarded ts end aspects a b (w.no_program r n e) (w.program q p x) =
      absurd (never-both (dialect_in mode.Source (names_of_tokens ts)) (words_in (names_of_tokens ts) ts) end q r p.0 n)
  one-guarded ts end aspects a b (w.program q p x) (w.no_program r n e) =
      absurd (never-both (dialect_in mode.Source (names_of_tokens ts)) (words_in (names_of_tokens ts) ts) end q r p.0 n)
  one-guarded ts end aspects a b (w.program q p x) (w.program r o y) =
      let i : r ≡ q = same-program mode.Source ts end r q o p in
      one-program (names_of_tokens ts) aspects q a b x (subst (λ z. IsProgramAnswer s ending (names_of_tokens ts) aspects z b) i y)

one-all : (number : ℕ) (taken : List (List ℕ)) (sheets : List Sheet) (Then : List GuardAspect → Answer → Type 0) (a b : Answer) → ((aspects : List GuardAspect) (a b : Answer) → Then aspects a → Then aspects b → IsAlike a b) → GuardsAll number taken sheets Then a → GuardsAll number taken sheets Then b → IsAlike a b
one-all number taken [] Then a b each x y = each [] a b x y
one-all number taken (sheet ∷ sheets) Then a b each (unguarded n e) (unguarded m f) = same (e ∙ sym f)
one-all number taken (sheet ∷ sheets) Then a b each (unguarded n e) (guarded aspects is y) = absurd (n aspects is)
one-all number taken (sheet ∷ sheets) Then a b each (guarded aspects is x) (unguarded n e) = absurd (n aspects is)
one-all number taken (sheet ∷ sheets) Then a b each (guarded aspects is x) (guarded others are y) =
    let i : others ≡ aspects = one-guard-file number taken sheet.text others aspects are is in
    let y' : GuardsAll (suc number) (taken_after taken aspects) sheets (λ rest. Then (aspects ++ rest)) b = subst (λ z. GuardsAll (suc number) (taken_after taken z) sheets (λ rest. Then (z ++ rest)) b) i y in
    one-all (suc number) (taken_after taken aspects) sheets (λ rest. Then (aspects ++ rest)) a b (λ rest c d. each (aspects ++ rest) c d) x y'

pub one-source : (ending : Ending) → IsSettled ending → (s : Sources) (a b : Answer) → IsSourceAnswer s ending a → IsSourceAnswer s ending b → IsAlike a b
one-source ending settled s a b (w.no_tokens r t e) (w.no_tokens q u f) = same (e ∙ ap (refused_program s) (one_refusal mode.Source 0 s.program.text r q t u) ∙ sym f)
one-source ending settled s a b (w.no_tokens r t e) (w.tokens ts end u x) = absurd (never_both mode.Source 0 s.program.text ts end r u t)
one-source ending settled s a b (w.tokens ts end t x) (w.no_tokens r u e) = absurd (never_both mode.Source 0 s.program.text ts end r t u)
one-source ending settled s a b (w.tokens ts end t x) (w.tokens us last u y) =
    let i = same-tokens mode.Source 0 s.program.text us ts last end u t in
    let y' : GuardsAll 1 (names_in ts) s.aspects (IsGuardedAnswer s ending ts end) b =
    subst (λ z. GuardsAll 1 (names_in ts) s.aspects (IsGuardedAnswer s ending ts z) b) i.1
    (subst (λ z. GuardsAll 1 (names_in z) s.aspects (IsGuardedAnswer s ending z last) b) i.0 y) in
    one-all 1 (names_in ts) s.aspects (IsGuardedAnswer s ending ts end) a b (one-guarded ending settled s ts end) x y'
