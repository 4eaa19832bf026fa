-- Opening files and plans: what is answered for them, and that it is one.
use Rattle.std.proofs.Common.{◌≡◌, ℕ, ◌+◌, ◌<◌, ◌≤◌, Bool, true, false, List, [], ◌∷◌, length, Option, Some, None, ◌⊎◌, inl, inr, refl, sym, ap, ◌∙◌, subst, arith}
use Rattle.std.specs.Prelude.{nat_le, IfSome, IsSomeAnd, replicate}
use Rattle.std.proofs.lemmas.Bool.Decides.{nat_tests}
use Rattle.std.proofs.lemmas.List.{length-replicate}
use Rattle.agxx_base.specs.Causes.{Rose}
use Rattle.agxx_base.specs.Files.{Listing, file_named}
use Rattle.agxx_base.specs.declared.fault.Refusal.{Refusal}
use Rattle.agxx_base.specs.declared.rule.Rule.TheVariants.{S1}
use Rattle.flip_plan.specs.Plans.{PlanMeaning}
use Rattle.flip_plan.specs.Reading.{plan_of}
use Rattle.agxx_base.specs.Refusals.{least}
use Rattle.flip_plan.specs.Rules.{violations_of_plan}
use Rattle.agxx_main.specs.declared.answer.Answer.{Answer}
use Rattle.agxx_calls.specs.declared.command.File.{File}
use Rattle.agxx_calls.specs.Commands.{limit_of}
use Rattle.agxx_main.specs.Answers.{refused, unreadable, at_beginning, IsClosed, Opens, closed, opened, OpensAll, Plans, refused_plan, accepted_plan}
use Rattle.agxx_main.specs.Outcome.{Gives, told, untold, failed, OpensInTurn}
use Rattle.agxx_main.specs.Laws.{IsAlike, same}

-- ---- there is an answer

le-true : (n m : ℕ) → nat_le n m ≡ true → n ≤ m
le-true n m e = grind (arith, nat_tests)

le-false : (n m : ℕ) → nat_le n m ≡ false → m < n
le-false n m e = grind (arith, nat_tests)

pub within : (n m : ℕ) → (n ≤ m) ⊎ (m < n)
within n m = by_test (nat_le n m) refl
  where
    by_test : (b : Bool) → nat_le n m ≡ b → (n ≤ m) ⊎ (m < n)
    by_test true e = inl (le-true n m e)
    by_test false e = inr (le-false n m e)

-- for each content of a file, where there is one for each text
pub some-opens : (file : List ℕ) (limit : ℕ) (Then : List ℕ → Answer → Type 0) → ((text : List ℕ) → (a : Answer) × Then text a) → (content : Option (List ℕ)) → (a : Answer) × Opens file limit content Then a
some-opens file limit Then each None = (unreadable file, closed refl)
some-opens file limit Then each (Some text) = by_size (within (length text) limit)
  where
    by_size : (length text ≤ limit) ⊎ (limit < length text) → (a : Answer) × Opens file limit (Some text) Then a
    by_size (inl s) = let e = each text in (e.0, opened text refl s e.1)
    by_size (inr s) = (refused file (at_beginning S1), closed (s, refl))

-- for each text of a plan, where there is one for each plan
pub some-plans : (file text : List ℕ) (Then : PlanMeaning → Answer → Type 0) → ((p : PlanMeaning) → (a : Answer) × Then p a) → (a : Answer) × Plans file text Then a
some-plans file text Then each = by_refusal (least (violations_of_plan 0 text)) refl
  where
    by_refusal : (o : Option Refusal) → least (violations_of_plan 0 text) ≡ o → (a : Answer) × Plans file text Then a
    by_refusal None e = let x = each (plan_of text) in (x.0, accepted_plan e x.1)
    by_refusal (Some r) e = (refused file r, refused_plan r e refl)

-- ---- it is one

one-closed : (file : List ℕ) (limit : ℕ) (content : Option (List ℕ)) (a b : Answer) → IsClosed file limit content a → IsClosed file limit content b → a ≡ b
one-closed file limit None a b x y = x ∙ sym y
one-closed file limit (Some text) a b x y = x.1 ∙ sym y.1

never-closed : (file : List ℕ) (limit : ℕ) (content : Option (List ℕ)) (text : List ℕ) (a : Answer) → IsClosed file limit content a → content ≡ Some text → length text ≤ limit → ⊥
never-closed file limit None text a x e s = cc
never-closed file limit (Some found) text a x e s =
    let i : found ≡ text = cc in
    let l : limit < length text = subst (λ t. limit < length t) i x.0 in omega arith

pub one-opens : (file : List ℕ) (limit : ℕ) (content : Option (List ℕ)) (Then : List ℕ → Answer → Type 0) (a b : Answer)
    → ((text : List ℕ) (a b : Answer) → Then text a → Then text b → IsAlike a b) → Opens file limit content Then a → Opens file limit content Then b → IsAlike a b
one-opens file limit content Then a b each (closed x) (closed y) = same (one-closed file limit content a b x y)
one-opens file limit content Then a b each (closed x) (opened text e s t) = absurd (never-closed file limit content text a x e s)
one-opens file limit content Then a b each (opened text e s t) (closed y) = absurd (never-closed file limit content text b y e s)
one-opens file limit content Then a b each (opened text e s t) (opened other f r u) =
    let i : other ≡ text = some-same other text (sym f ∙ e) in each text a b t (subst (λ x. Then x b) i u)
  where
    some-same : (x y : List ℕ) → ◌≡◌ {A = Option (List ℕ)} (Some x) (Some y) → x ≡ y
    some-same x y h = cc

pub one-plans : (file text : List ℕ) (Then : PlanMeaning → Answer → Type 0) (a b : Answer)
    → ((p : PlanMeaning) (a b : Answer) → Then p a → Then p b → IsAlike a b) → Plans file text Then a → Plans file text Then b → IsAlike a b
one-plans file text Then a b each (refused_plan r e x) (refused_plan q f y) =
    let i : r ≡ q = some-same r q (sym e ∙ f) in same (x ∙ ap (refused file) i ∙ sym y)
  where
    some-same : (r q : Refusal) → ◌≡◌ {A = Option Refusal} (Some r) (Some q) → r ≡ q
    some-same r q h = cc
one-plans file text Then a b each (refused_plan r e x) (accepted_plan f t) = absurd (none-some r (sym f ∙ e))
  where
    none-some : (r : Refusal) → ◌≡◌ {A = Option Refusal} None (Some r) → ⊥
    none-some r h = cc
one-plans file text Then a b each (accepted_plan e t) (refused_plan r f y) = absurd (none-some r (sym e ∙ f))
  where
    none-some : (r : Refusal) → ◌≡◌ {A = Option Refusal} None (Some r) → ⊥
    none-some r h = cc
one-plans file text Then a b each (accepted_plan e t) (accepted_plan f u) = each (plan_of text) a b t u

-- ---- what reading a file gave

pub text-given : (file text : List ℕ) (listed : Option Listing) (before now : ℕ) → IfSome listed (λ files. file_named file files ≡ Some text) → Gives listed before now file (Some text)
text-given file text None before now w = untold text refl refl
text-given file text (Some files) before now w = told files refl (sym w)

-- there are bytes of every number
longer : (n : ℕ) → (bytes : List ℕ) × (n < length bytes)
longer n = (replicate (n + 1) 0, omega (arith, length-replicate {A = ℕ} (n + 1) 0))

-- a file that is too large
abbrev pub LargeGiven : Option Listing → ℕ → ℕ → List ℕ → ℕ → Answer → Type 0
LargeGiven listed before now file limit answer = (content : Option (List ℕ)) × Gives listed before now file content × IsClosed file limit content answer

pub large-given : (file : List ℕ) (limit : ℕ) (listed : Option Listing) (before now : ℕ) (answer : Answer) → IfSome listed (λ files. IsSomeAnd (file_named file files) (λ bytes. limit < length bytes))
    → answer ≡ refused file (at_beginning S1) → LargeGiven listed before now file limit answer
large-given file limit None before now answer w e = let long = longer limit in (Some long.0, untold long.0 refl refl, (long.1, e))
large-given file limit (Some files) before now answer w e = (file_named file files, told files refl refl, go (file_named file files) w)
  where
    go : (o : Option (List ℕ)) → IsSomeAnd o (λ bytes. limit < length bytes) → IsClosed file limit o answer
    go None h = absurd h
    go (Some bytes) h = (h, e)

pub fault-given : (file : List ℕ) (limit : ℕ) (listed : Option Listing) (before now : ℕ) (answer : Answer) → Rose before now ⊎ IsSomeAnd listed (λ files. file_named file files ≡ None) → answer ≡ unreadable file → LargeGiven listed before now file limit answer
fault-given file limit listed before now answer (inl rose) e = (None, failed rose refl, e)
fault-given file limit None before now answer (inr w) e = absurd w
fault-given file limit (Some files) before now answer (inr w) e = (None, told files refl (sym w), e)

-- a count that rose, where it goes further, or went from less on
rose-later : (before now later : ℕ) → Rose before now → now ≤ later → Rose before later
rose-later before now later r s = omega arith

rose-earlier : (before start now : ℕ) → Rose start now → before ≤ start → Rose before now
rose-earlier before start now r s = grind arith

-- the list that is told is this one
same-list : (files other : Listing) → ◌≡◌ {A = Option Listing} (Some files) (Some other) → other ≡ files
same-list files other h = cc

no-list : (files : Listing) → ◌≡◌ {A = Option Listing} (Some files) None → ⊥
no-list files h = cc

-- what is given of a file that is told, where no fault comes
told-content : (files : Listing) (before now : ℕ) (file : List ℕ) (content : Option (List ℕ)) → (Rose before now → ⊥) → Gives (Some files) before now file content → content ≡ file_named file files
told-content files before now file content none (told other l e) = e ∙ ap (file_named file) (same-list files other l)
told-content files before now file content none (untold text l e) = absurd (no-list files l)
told-content files before now file content none (failed r e) = absurd (none r)

-- something is given of each file
pub some-given : (listed : Option Listing) (before now : ℕ) (file : List ℕ) → (content : Option (List ℕ)) × Gives listed before now file content
some-given None before now file = (Some [], untold [] refl refl)
some-given (Some files) before now file = (file_named file files, told files refl refl)

-- ---- files in their order

-- for each list of files, where there is one for their texts
pub some-opens-all : (listing : Listing) (files : List File) (Then : List (List ℕ) → Answer → Type 0) → ((texts : List (List ℕ)) → (a : Answer) × Then texts a) → (a : Answer) × OpensAll listing files Then a
some-opens-all listing [] Then each = each []
some-opens-all listing (f ∷ fs) Then each =
    some-opens f.name (limit_of f.kind) (λ text. OpensAll listing fs (λ texts. Then (text ∷ texts)))
    (λ text. some-opens-all listing fs (λ texts. Then (text ∷ texts)) (λ texts. each (text ∷ texts))) (file_named f.name listing)

pub one-opens-all : (listing : Listing) (files : List File) (Then : List (List ℕ) → Answer → Type 0) (a b : Answer)
    → ((texts : List (List ℕ)) (a b : Answer) → Then texts a → Then texts b → IsAlike a b) → OpensAll listing files Then a → OpensAll listing files Then b → IsAlike a b
one-opens-all listing [] Then a b each x y = each [] a b x y
one-opens-all listing (f ∷ fs) Then a b each x y =
    one-opens f.name (limit_of f.kind) (file_named f.name listing) (λ text. OpensAll listing fs (λ texts. Then (text ∷ texts))) a b
    (λ text a b. one-opens-all listing fs (λ texts. Then (text ∷ texts)) a b (λ texts a b. each (text ∷ texts) a b)) x y

-- the same while faults are counted
pub some-in-turn : (listed : Option Listing) (before now : ℕ) (files : List File) (Then : List (List ℕ) → Answer → Type 0) → before ≤ now
    → ((texts : List (List ℕ)) → (a : Answer) × Then texts a) → (a : Answer) × OpensInTurn listed before now files Then a
some-in-turn listed before now [] Then m each = let e = each [] in (e.0, (m, e.1))
some-in-turn listed before now (f ∷ fs) Then m each =
    let c = some-given listed before now f.name in
    let a = some-opens f.name (limit_of f.kind) (λ text. OpensInTurn listed now now fs (λ texts. Then (text ∷ texts)))
    (λ text. some-in-turn listed now now fs (λ texts. Then (text ∷ texts)) (omega arith) (λ texts. each (text ∷ texts))) c.0 in
    (a.0, (now, c.0, m, omega arith, c.1, a.1))

map-opens : (file : List ℕ) (limit : ℕ) (content : Option (List ℕ)) (Then Next : List ℕ → Answer → Type 0) (a : Answer)
    → ((text : List ℕ) → Then text a → Next text a) → Opens file limit content Then a → Opens file limit content Next a
map-opens file limit content Then Next a f (closed x) = closed x
map-opens file limit content Then Next a f (opened text e s t) = opened text e s (f text t)

pub map-in-turn : (listed : Option Listing) (before now : ℕ) (files : List File) (Then Next : List (List ℕ) → Answer → Type 0) (a : Answer)
    → ((texts : List (List ℕ)) → Then texts a → Next texts a) → OpensInTurn listed before now files Then a → OpensInTurn listed before now files Next a
map-in-turn listed before now [] Then Next a g x = (x.0, g [] x.1)
map-in-turn listed before now (f ∷ fs) Then Next a g x =
    let fold = map-opens f.name (limit_of f.kind) x.1 (λ text. OpensInTurn listed x.0 now fs (λ texts. Then (text ∷ texts))) (λ text. OpensInTurn listed x.0 now fs (λ texts. Next (text ∷ texts))) a
    (λ text. map-in-turn listed x.0 now fs (λ texts. Then (text ∷ texts)) (λ texts. Next (text ∷ texts)) a (λ texts. g (text ∷ texts))) x.5 in
    (x.0, x.1, x.2, x.3, x.4, fold)

-- where files are told and no fault comes, what is answered is what is answered for them
pub in-turn-told : (listing : Listing) (before now : ℕ) (files : List File) (Then : List (List ℕ) → Answer → Type 0) (a : Answer) → (Rose before now → ⊥)
    → OpensInTurn (Some listing) before now files Then a → OpensAll listing files Then a
in-turn-told listing before now [] Then a none x = x.1
in-turn-told listing before now (f ∷ fs) Then a none x =
    let c : x.1 ≡ file_named f.name listing = told-content listing before x.0 f.name x.1 (λ r. none (rose-later before x.0 now r x.3)) x.4 in
    let fold = map-opens f.name (limit_of f.kind) x.1 (λ text. OpensInTurn (Some listing) x.0 now fs (λ texts. Then (text ∷ texts))) (λ text. OpensAll listing fs (λ texts. Then (text ∷ texts))) a
    (λ text. in-turn-told listing x.0 now fs (λ texts. Then (text ∷ texts)) a (λ r. none (rose-earlier before x.0 now r x.2))) x.5 in
    subst (λ o. Opens f.name (limit_of f.kind) o (λ text. OpensAll listing fs (λ texts. Then (text ∷ texts))) a) c fold
