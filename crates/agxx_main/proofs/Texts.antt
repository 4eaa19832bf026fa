-- The text of each program has an answer, and one alone.
use Rattle.std.proofs.Common.{◌≡◌, ℕ, List, [], Some, Result, Ok, Err, ◌⊎◌, inl, inr, refl, sym, ap, ◌∙◌, subst}
use Rattle.std.specs.Prelude.{IfOk, OnErr}
use Rattle.agxx_base.specs.declared.fault.Refusal.{Refusal}
use Rattle.agxx_base.specs.declared.kind.Mode.{Mode}
use Rattle.agxx_base.specs.declared.place.Place.{Place}
use Rattle.agxx_base.specs.declared.rule.Rule.TheVariants.{G2}
use Rattle.cxx_lex.specs.Laws.{IsAlwaysOne}
use Rattle.cxx_lex.specs.Tokens.{Token, HasTokens, RefusedAt}
use Rattle.cxx_stmt.specs.declared.dialect.Dialect.{Dialect}
use Rattle.cxx_tree.specs.ProgramTree.{ProgramTree}
use Rattle.cxx_parse.specs.Numbering.{dialect_in, words_in}
use Rattle.cxx_parse.specs.Parsed.{IsParsed, IsReadAs}
use Rattle.cxx_expr.specs.Outcome.{Outcome, done}
use Rattle.cxx_expr.specs.Tokens.{Tokens}
use Rattle.cxx_normal.specs.Normal.{with_main, normal_among}
use Rattle.agxx_base.specs.Refusals.{least}
use Rattle.cxx_types.specs.Violations.{violations_of, refusal_of}
use Rattle.cxx_lex.proofs.Readings.{one_reading, one_refusal, never_both}
use Rattle.cxx_parse.proofs.Decided.{parsed-or-refused, never-both, alike, rule-of}
use Rattle.agxx_main.specs.declared.answer.Answer.{Answer}
use Rattle.agxx_main.specs.Answers.{refused, names_in, Running, by_violation, normal_answer, program_answer, IsProgramIn, IsRefusalIn, IsTextAnswer, no_tokens, no_program, judged}
use Rattle.agxx_main.specs.declared.way.Way.{Way}
use Rattle.agxx_main.specs.declared.way.Way.TheVariants as way
use Rattle.agxx_main.specs.RunAnswers.{setting_of, run_answer, way_answer}
use Rattle.agxx_main.specs.Laws.{IsGrammarRule, IsAlike, same, deep}

-- what holds of a result where another thing does
pub if-ok : {T E : Type 0} (r : Result T E) (P Q : T → Type 0) → ((a : T) → P a → Q a) → IfOk r P → IfOk r Q
if-ok (Ok a) P Q f p = f a p
if-ok (Err e) P Q f p = tt

pub on-ok : {T E : Type 0} (r : Result T E) (P Q : T → Type 0) → IfOk r P → ((a : T) → P a → Q a) → IfOk r Q
on-ok r P Q p f = if-ok r P Q f p

pub on-err : {T E : Type 0} (r : Result T E) (P : Type 0) → P → OnErr r P
on-err (Ok a) P p = tt
on-err (Err e) P p = p

-- a program that violates no rule is run
pub accepted-answer : (mode : Mode) (run : Running) (file : List ℕ) (names : List (List ℕ)) (q p : ProgramTree) (answer : Answer) → violations_of names mode q ≡ [] → p ≡ q → answer ≡ run file names p → answer ≡ normal_answer mode run file names q
accepted-answer mode run file names q p answer v i e = e ∙ ap (run file names) i ∙ sym (ap (by_violation run file names q) (ap least v))

pub violated-answer : (mode : Mode) (run : Running) (file : List ℕ) (names : List (List ℕ)) (q : ProgramTree) (r : Refusal) (answer : Answer) → refusal_of names mode q ≡ Some r → answer ≡ refused file r → answer ≡ normal_answer mode run file names q
violated-answer mode run file names q r answer h e = e ∙ sym (ap (by_violation run file names q) h)

-- the same of the normal form of a program
pub normal-answer : (mode : Mode) (run : Running) (file : List ℕ) (names main : List (List ℕ)) (program q : ProgramTree) (answer : Answer) → names ≡ main → q ≡ normal_among names program
    → answer ≡ normal_answer mode run file names q → answer ≡ normal_answer mode run file main (normal_among main program)
normal-answer mode run file names main program q answer n i e = e ∙ ap (normal_answer mode run file names) i ∙ ap (λ x. normal_answer mode run file x (normal_among x program)) n

-- the names of a program's tokens are those that the normal form goes on from
pub program-answer : (mode : Mode) (run : Running) (file : List ℕ) (tokens : List Token) (program : ProgramTree) (old : List (List ℕ)) (answer : Answer) → old ≡ names_in tokens
    → answer ≡ normal_answer mode run file (with_main old) (normal_among (with_main old) program) → answer ≡ program_answer mode run file tokens program
program-answer mode run file tokens program old answer o e = e ∙ ap (λ x. normal_answer mode run file (with_main x) (normal_among (with_main x) program)) o

-- what a run answers, in the setting of names and a program
pub in-setting : (w : Way) (file : List ℕ) (names : List (List ℕ)) (q : ProgramTree) (answer : Answer) → answer ≡ run_answer w file (setting_of names q) → answer ≡ way_answer w file names q
in-setting (way.Woven plan) file names q answer e = e
in-setting (way.Source plan) file names q answer e = e

-- ---- each text has an answer

by-grammar : (mode : Mode) (run : Running) (file text : List ℕ) (tokens : List Token) (end : Place) → HasTokens mode 0 text tokens end
    → ((q : ProgramTree) × IsParsed mode (names_in tokens) tokens end q × IsReadAs mode (names_in tokens) tokens end q) ⊎ ((refusal : Refusal) × IsRefusalIn mode tokens end refusal) → (answer : Answer) × IsTextAnswer mode run file text answer
by-grammar mode run file text tokens end t (inl (q, p, r)) = (program_answer mode run file tokens q, judged tokens end q t (p, r) refl)
by-grammar mode run file text tokens end t (inr r) = (refused file r.0, no_program tokens end r.0 t r.1 refl)

by-tokens : (mode : Mode) (run : Running) (file text : List ℕ) → ((ts : List Token) × (end : Place) × HasTokens mode 0 text ts end) ⊎ ((refusal : Refusal) × RefusedAt mode 0 text refusal) → (answer : Answer) × IsTextAnswer mode run file text answer
by-tokens mode run file text (inl t) = by-grammar mode run file text t.0 t.1 t.2 (parsed-or-refused mode [] t.0 t.1)
by-tokens mode run file text (inr r) = (refused file r.0, no_tokens r.0 r.1 refl)

pub has-text : IsAlwaysOne → (mode : Mode) (run : Running) (file text : List ℕ) → (answer : Answer) × IsTextAnswer mode run file text answer
has-text always mode run file text = by-tokens mode run file text (always mode 0 text)

-- ---- a file has one answer, but for where it is told that it is too deep

pub same-tokens : (mode : Mode) (file : ℕ) (text : List ℕ) (ts us : List Token) (end last : Place) → HasTokens mode file text ts end → HasTokens mode file text us last → (ts ≡ us) × (end ≡ last)
same-tokens mode file text ts us end last a b = one_reading mode file text ts us end last a b

-- what is said of the tokens of a file, by other tokens of it
moved : {A : Type 0} (mode : Mode) (P : List Token → Place → A → Type 0) (file : ℕ) (text : List ℕ) (ts us : List Token) (end last : Place) (a : A) → HasTokens mode file text us last → HasTokens mode file text ts end → P us last a → P ts end a
moved mode P file text ts us end last a u t p =
    let s = same-tokens mode file text us ts last end u t in
    subst (λ q. P q end a) s.0 (subst (λ q. P us q a) s.1 p)

pub alike-refusals : (file : List ℕ) (a b : Answer) (r s : Refusal) → a ≡ refused file r → b ≡ refused file s → IsGrammarRule r.rule → IsGrammarRule s.rule → (r ≡ s) ⊎ ((r.rule ≡ G2) ⊎ (s.rule ≡ G2)) → IsAlike a b
alike-refusals file a b r s e f g h (inl i) = same (e ∙ ap (refused file) i ∙ sym f)
alike-refusals file a b r s e f g h (inr i) = deep file r s e f g h i

done-same : (q p : ProgramTree) → ◌≡◌ {A = Outcome Tokens ProgramTree} (done q []) (done p []) → q ≡ p
done-same q p e = cc

-- a program that is read of the same tokens is the same
pub same-program : (mode : Mode) (tokens : List Token) (end : Place) (q p : ProgramTree) → IsProgramIn mode tokens end q → IsProgramIn mode tokens end p → q ≡ p
same-program mode tokens end q p a b = done-same q p (sym a.1 ∙ b.1)

-- what is answered for a program and one that is read of the same text
one-answer : (mode : Mode) (run : Running) (file text : List ℕ) (ts us : List Token) (end last : Place) (q p : ProgramTree) (a b : Answer) → HasTokens mode 0 text ts end → HasTokens mode 0 text us last
    → IsProgramIn mode ts end q → IsProgramIn mode us last p → a ≡ program_answer mode run file ts q → b ≡ program_answer mode run file us p → a ≡ b
one-answer mode run file text ts us end last q p a b t u x y e f =
    let s : us ≡ ts = (same-tokens mode 0 text us ts last end u t).0 in
    let i : p ≡ q = same-program mode ts end p q (moved mode (IsProgramIn mode) 0 text ts us end last p u t y) x in
    e ∙ sym (λ k. program_answer mode run file (s k) (i k)) ∙ sym f

-- a text whose tokens are a program isn't refused by the grammar
program-or-none : (mode : Mode) (text : List ℕ) (ts us : List Token) (end last : Place) (q : ProgramTree) (r : Refusal) → HasTokens mode 0 text ts end → HasTokens mode 0 text us last → IsProgramIn mode ts end q → IsRefusalIn mode us last r → ⊥
program-or-none mode text ts us end last q r t u p n =
    never-both (dialect_in mode (names_in ts)) (words_in (names_in ts) ts) end q r p.0 (moved mode (IsRefusalIn mode) 0 text ts us end last r u t n)

pub one-text : (mode : Mode) (run : Running) (file text : List ℕ) (a b : Answer) → IsTextAnswer mode run file text a → IsTextAnswer mode run file text b → IsAlike a b
one-text mode run file text a b (no_tokens r t e) (no_tokens q u f) = same (e ∙ ap (refused file) (one_refusal mode 0 text r q t u) ∙ sym f)
one-text mode run file text a b (no_tokens r t e) (no_program ts end q u v f) = absurd (never_both mode 0 text ts end r u t)
one-text mode run file text a b (no_tokens r t e) (judged ts end q u p f) = absurd (never_both mode 0 text ts end r u t)
one-text mode run file text a b (no_program ts end r t u e) (no_tokens q v f) = absurd (never_both mode 0 text ts end q t v)
one-text mode run file text a b (no_program ts end r t u e) (no_program us last q v w f) =
    let d : Dialect = dialect_in mode (names_in ts) in
    let w' : IsRefusalIn mode ts end q = moved mode (IsRefusalIn mode) 0 text ts us end last q v t w in
    alike-refusals file a b r q e f (rule-of d (words_in (names_in ts) ts) end r u) (rule-of d (words_in (names_in ts) ts) end q w') (alike d (words_in (names_in ts) ts) end r q u w')
one-text mode run file text a b (no_program ts end r t u e) (judged us last q v p f) = absurd (program-or-none mode text us ts last end q r v t p u)
one-text mode run file text a b (judged ts end q t p e) (no_tokens r u f) = absurd (never_both mode 0 text ts end r t u)
one-text mode run file text a b (judged ts end q t p e) (no_program us last r u n f) = absurd (program-or-none mode text ts us end last q r t u p n)
one-text mode run file text a b (judged ts end q t p e) (judged us last r u x f) = same (one-answer mode run file text ts us end last q r a b t u p x e f)
