-- What is answered for programs with aspect files, as the code comes to it.
use Rattle.std.proofs.Common.{◌≡◌, ℕ, zero, suc, ◌+◌, ◌-◌, ◌<◌, ◌≤◌, List, [], ◌∷◌, ◌++◌, map, length, take, drop, slice_get, slice_index_or, Some, None, refl, sym, ap, ◌∙◌, subst, arith, append-nil, append_assoc}
use Rattle.std.specs.List.{All}
use Rattle.std.specs.Borrow.{Bor}
use Rattle.std.proofs.Math.Seq.{take-length}
use Rattle.std.proofs.lemmas.List.{length-map}
use Rattle.agxx_base.specs.Refusals.{least}
use Rattle.agxx_base.specs.Sizes.{largest_text}
use Rattle.agxx_base.specs.declared.fault.Refusal.{Refusal}
use Rattle.agxx_base.specs.declared.kind.Mode.TheVariants as mode
use Rattle.agxx_base.specs.declared.rule.Rule.TheVariants.{U1}
use Rattle.cxx_normal.specs.Normal.{with_main, normal_among}
use Rattle.cxx_print.specs.Programs.{text_of}
use Rattle.cxx_tree.specs.ProgramTree.{ProgramTree}
use Rattle.cxx_types.specs.Violations.{violations_of, refusal_of}
use Rattle.cxx_normal.specs.Numbers.{numbered_program}
use Rattle.cxx_types.specs.declared.typed.Typed.{Typed}
use Rattle.cxx_types.specs.Typing.{IsTypedOf}
use Rattle.guard_rules.specs.Violations.{refusal_of_guards, IfNumbered}
use Rattle.flip_plan.specs.Plans.{PlanMeaning, default_plan}
use Rattle.guards.specs.declared.guard.Guard.{Guard}
use Rattle.ah_parse.specs.declared.aspect.GuardAspect.{GuardAspect}
use Rattle.ah_parse.specs.GuardFiles.{IsGuardFile, guards_by, guards_of, taken_after}
use Rattle.protect.specs.GeneratedNames.{with_generated}
use Rattle.protect.specs.Protected.{protected}
use Rattle.agxx_calls.specs.declared.command.Command.{Command}
use Rattle.agxx_calls.specs.declared.command.File.{File}
use Rattle.agxx_main.specs.declared.answer.Answer.{Answer}
use Rattle.agxx_main.specs.declared.sheet.Sheet.{Sheet as Read}
use Rattle.agxx_main.specs.declared.weave.Use.{Use}
use Rattle.agxx_main.specs.declared.weave.Use.TheVariants as use_of
use Rattle.agxx_main.specs.Answers.{refused, at_beginning, IsTextAnswer}
use Rattle.agxx_main.specs.CallAnswers.{sheets_of, executes, executes_by, by_plan, IsAnswerOf}
use Rattle.agxx_main.specs.Replies.{seen, ending_of}
use Rattle.agxx_main.specs.RunAnswers.{woven_answer}
use Rattle.agxx_main.specs.Weaving.{Sheet, sheet_by, sources_at, Sources, Ending, Sized, joined, unguarded, guarded, GuardsAll, IsWeavingAnswer, IsGuardsAnswer, IsNormalAnswer, WhereNumbered, IsProgramAnswer, by_guards, by_names, refused_program, refused_source, woven_name}

-- ---- files by their order

rest-seen : (xs : List Read) (n : ℕ) → map seen (take (length xs - n) (drop n xs)) ≡ drop n (map seen xs)
rest-seen [] zero = refl
rest-seen [] (suc n) = let z : 0 - suc n ≡ 0 = omega arith in ap (λ k. map seen (take k [])) z
rest-seen (x ∷ xs) zero =
    let z : length (x ∷ xs) - 0 ≡ length (x ∷ xs) = omega arith in ap (λ k. map seen (take k (x ∷ xs))) z ∙ ap (map seen) (take-length (x ∷ xs))
rest-seen (x ∷ xs) (suc n) =
    let l : length (x ∷ xs) - suc n ≡ length xs - n = omega arith in
    ap (λ k. map seen (take k (drop n xs))) l ∙ rest-seen xs n

pub one-seen : (xs : List Read) (i : ℕ) (x d : Read) → i < length xs → x ≡ slice_index_or xs i d → sheet_by (slice_get (map seen xs) i) ≡ seen x
one-seen [] i x d l e = absurd (omega (arith, l))
one-seen (y ∷ ys) zero x d l e = ap seen (sym e)
one-seen (y ∷ ys) (suc i) x d l e = one-seen ys i x d (omega (arith, l)) e

pub sources-are : (xs : List Read) (i : ℕ) (x d : Read) → i < length xs → x ≡ slice_index_or xs i d
    → ◌≡◌ {A = Sources} (record { program = seen x; aspects = map seen (take (length xs - (i + 1)) (drop (i + 1) xs)) }) (sources_at (map seen xs) i)
sources-are xs i x d l e =
    let n : i + 1 ≡ suc i = omega arith in
    let a : map seen (take (length xs - (i + 1)) (drop (i + 1) xs)) ≡ drop (suc i) (map seen xs) = rest-seen xs (i + 1) ∙ ap (λ k. drop k (map seen xs)) n in
    rw (sym (one-seen xs i x d l e), a) refl

-- the length of the rest
pub rest_counted : (xs : List Read) (n : ℕ) → length (take (length xs - n) (drop n xs)) ≡ length xs - n
rest_counted [] zero = refl
rest_counted [] (suc n) = let z : 0 - suc n ≡ 0 = omega arith in ap (λ k. length {A = Read} (take k [])) z ∙ sym z
rest_counted (x ∷ xs) zero =
    let z : length (x ∷ xs) - 0 ≡ length (x ∷ xs) = omega arith in ap (λ k. length {A = Read} (take k (x ∷ xs))) z ∙ (ap length (take-length (x ∷ xs)) ∙ sym z)
rest_counted (x ∷ xs) (suc n) =
    let l : length (x ∷ xs) - suc n ≡ length xs - n = omega arith in
    ap (λ k. length (take k (drop n xs))) l ∙ (rest_counted xs n ∙ sym l)

abbrev pub IsShort : Sheet → Type 0
IsShort s = length s.text ≤ largest_text

-- of texts that are all short, one is, and so are the rest
pub one-short : (xs : List Read) (i : ℕ) (x d : Read) → i < length xs → x ≡ slice_index_or xs i d → All IsShort (map seen xs) → length x.text.now ≤ largest_text
one-short [] i x d l e h = absurd (omega (arith, l))
one-short (y ∷ ys) zero x d l e h = subst (λ z. length z.text.now ≤ largest_text) (sym e) (h 0 (seen y) (omega arith))
one-short (y ∷ ys) (suc i) x d l e h = one-short ys i x d (omega (arith, l)) e (λ k z m. h (suc k) z (omega (arith, m)))

pub later-short : (xs : List Sheet) (n : ℕ) → All IsShort xs → All IsShort (drop n xs)
later-short xs zero h = h
later-short [] (suc n) h = h
later-short (x ∷ xs) (suc n) h = later-short xs n (λ k z m. h (suc k) z (omega (arith, m)))

pub rest_short : (xs : List Read) (n : ℕ) → All IsShort (map seen xs) → All IsShort (map seen (take (length xs - n) (drop n xs)))
rest_short xs n h = subst (All IsShort) (sym (rest-seen xs n)) (later-short (map seen xs) n h)

-- ---- plans

pub by-default : (program : Sheet) (plans : List Read) (p : PlanMeaning) (a : Answer) → length plans < 1 → p ≡ default_plan → executes program p a → executes_by program (map seen plans) a
by-default program [] p a l e x = subst (λ q. executes program q a) e x
by-default program (plan ∷ plans) p a l e x = absurd (omega (arith, l))

pub by-file : (program : Sheet) (plans : List Read) (plan d : Read) (a : Answer) → 0 < length plans → plan ≡ slice_index_or plans 0 d → by_plan (seen plan) (executes program) a → executes_by program (map seen plans) a
by-file program [] plan d a l e x = absurd (omega (arith, l))
by-file program (y ∷ plans) plan d a l e x = subst (λ z. by_plan (seen z) (executes program) a) e x

-- ---- guards

guards-joined : (names : List (List ℕ)) (xs ys : List GuardAspect) → guards_of names (xs ++ ys) ≡ guards_of names xs ++ guards_of names ys
guards-joined names [] ys = refl
guards-joined names (x ∷ xs) ys = ap (λ g. guards_by names x ++ g) (guards-joined names xs ys) ∙ sym (append_assoc (guards_by names x) (guards_of names xs) (guards_of names ys))

pub guards_append : (names : List (List ℕ)) (xs ys : List GuardAspect) → guards_of names (xs ++ ys) ≡ guards_of names xs ++ guards_of names ys
guards_append = guards-joined

joined-append : (xs ys : List (List GuardAspect)) → joined (xs ++ ys) ≡ joined xs ++ joined ys
joined-append [] ys = refl
joined-append (x ∷ xs) ys = ap (λ g. x ++ g) (joined-append xs ys) ∙ sym (append_assoc x (joined xs) (joined ys))

joined-last : (files : List (List GuardAspect)) (aspects : List GuardAspect) (rest : List GuardAspect) → joined (files ++ aspects ∷ []) ++ rest ≡ joined files ++ (aspects ++ rest)
joined-last files aspects rest =
    ap (λ g. g ++ rest) (joined-append files (aspects ∷ []) ∙ ap (λ g. joined files ++ g) (append-nil aspects)) ∙ append_assoc (joined files) aspects rest

-- ---- aspect files, of which the first is taken

map-all : (number : ℕ) (taken : List (List ℕ)) (sheets : List Sheet) (P Q : List GuardAspect → Answer → Type 0) (a : Answer) → ((rest : List GuardAspect) → P rest a → Q rest a) → GuardsAll number taken sheets P a → GuardsAll number taken sheets Q a
map-all number taken [] P Q a f x = f [] x
map-all number taken (s ∷ ss) P Q a f (unguarded n e) = unguarded n e
map-all number taken (s ∷ ss) P Q a f (guarded aspects is x) =
    guarded aspects is (map-all (suc number) (taken_after taken aspects) ss (λ rest. P (aspects ++ rest)) (λ rest. Q (aspects ++ rest)) a (λ rest. f (aspects ++ rest)) x)

module _ (Then : List GuardAspect → Answer → Type 0) where
  pub none-left : (number : ℕ) (taken : List (List ℕ)) (left : List Read) (files : List (List GuardAspect)) (a : Answer) → length left < 1 → Then (joined files) a → GuardsAll number taken (map seen left) (λ rest. Then (joined files ++ rest)) a
  none-left number taken [] files a l x = subst (λ z. Then z a) (sym (append-nil (joined files))) x
  none-left number taken (s ∷ left) files a l x = absurd (omega (arith, l))

  pub first-none : (number : ℕ) (taken : List (List ℕ)) (left : List Read) (sheet d : Read) (files : List (List GuardAspect)) (a : Answer) → 0 < length left → sheet ≡ slice_index_or left 0 d
      → ((aspects : List GuardAspect) → IsGuardFile number taken sheet.text.now aspects → ⊥) → a ≡ refused sheet.name.now (at_beginning U1) → GuardsAll number taken (map seen left) (λ rest. Then (joined files ++ rest)) a
  first-none number taken [] sheet d files a l i n e = absurd (omega (arith, l))
  first-none number taken (s ∷ left) sheet d files a l i n e =
      unguarded (λ aspects is. n aspects (subst (λ z. IsGuardFile number taken z.text.now aspects) (sym i) is)) (e ∙ ap (λ (z : Read). refused z.name.now (at_beginning U1)) i)

  pub first-some : (number next : ℕ) (taken now : List (List ℕ)) (left : List Read) (sheet d : Read) (files pushed : List (List GuardAspect)) (aspects : List GuardAspect) (a : Answer) → 0 < length left → sheet ≡ slice_index_or left 0 d → next ≡ number + 1
      → IsGuardFile number taken sheet.text.now aspects → now ≡ taken_after taken aspects → pushed ≡ files ++ aspects ∷ []
      → GuardsAll next now (map seen (take (length left - 1) (drop 1 left))) (λ rest. Then (joined pushed ++ rest)) a
      → GuardsAll number taken (map seen left) (λ rest. Then (joined files ++ rest)) a
  first-some number next taken now [] sheet d files pushed aspects a l i m is t p x = absurd (omega (arith, l))
  first-some number next taken now (s ∷ left) sheet d files pushed aspects a l i m is t p x =
      let n : next ≡ suc number = m ∙ omega arith in
      let r : map seen (take (length (s ∷ left) - 1) left) ≡ map seen left = rest-seen (s ∷ left) 1 in
      let y : GuardsAll (suc number) (taken_after taken aspects) (map seen left) (λ rest. Then (joined (files ++ aspects ∷ []) ++ rest)) a =
      subst (λ z. GuardsAll z (taken_after taken aspects) (map seen left) (λ rest. Then (joined (files ++ aspects ∷ []) ++ rest)) a) n
      (subst (λ z. GuardsAll next z (map seen left) (λ rest. Then (joined (files ++ aspects ∷ []) ++ rest)) a) t
      (subst (λ z. GuardsAll next now z (λ rest. Then (joined (files ++ aspects ∷ []) ++ rest)) a) r
      (subst (λ z. GuardsAll next now (map seen (take (length (s ∷ left) - 1) left)) (λ rest. Then (joined z ++ rest)) a) p x))) in
      guarded aspects (subst (λ z. IsGuardFile number taken z.text.now aspects) i is)
      (map-all (suc number) (taken_after taken aspects) (map seen left) (λ rest. Then (joined (files ++ aspects ∷ []) ++ rest)) (λ rest. Then (joined files ++ (aspects ++ rest))) a
      (λ rest. subst (λ z. Then z a) (joined-last files aspects rest)) y)

-- ---- the program

pub ends-run : (u : Use) (plan : Bor PlanMeaning) (s : Sources) (names : List (List ℕ)) (q : ProgramTree) (text shown : List ℕ) (a : Answer) → u ≡ use_of.Run plan → shown ≡ text
    → IsTextAnswer mode.Woven (woven_answer plan.now) woven_name shown a → ending_of u s names q text a
ends-run u plan s names q text shown a e t x =
    subst (λ z. ending_of z s names q text a) (sym e) (subst (λ z. IsTextAnswer mode.Woven (woven_answer plan.now) woven_name z a) t x)

module _ (ending : Ending) (s : Sources) (guards : List Guard) where
  pub weaves : (names all : List (List ℕ)) (q woven : ProgramTree) (a : Answer) → all ≡ with_generated names guards q → woven ≡ protected all guards q
      → Sized s (text_of all woven) (ending s all q (text_of all woven)) a → IsWeavingAnswer s ending names guards q a
  weaves names all q woven a n t x =
      subst (λ z. Sized s (text_of z (protected z guards q)) (ending s z q (text_of z (protected z guards q))) a) n
      (subst (λ z. Sized s (text_of all z) (ending s all q (text_of all z)) a) t x)

  pub kept-guards : (names : List (List ℕ)) (q p : ProgramTree) (a : Answer) → refusal_of_guards names guards q ≡ None → p ≡ q → IsWeavingAnswer s ending names guards p a → IsGuardsAnswer s ending names guards q a
  kept-guards names q p a e i x =
      subst (λ o. by_guards s ending names guards q o a) (sym e) (subst (λ z. IsWeavingAnswer s ending names guards z a) i x)

  pub violated-guards : (names : List (List ℕ)) (q : ProgramTree) (r : Refusal) (a : Answer) → refusal_of_guards names guards q ≡ Some r → a ≡ refused_source s r → IsGuardsAnswer s ending names guards q a
  violated-guards names q r a e x = subst (λ o. by_guards s ending names guards q o a) (sym e) x

  pub accepted-names : (names : List (List ℕ)) (q : ProgramTree) (a : Answer) → violations_of names mode.Source q ≡ [] → IsGuardsAnswer s ending names guards q a → IsNormalAnswer s ending names guards q a
  accepted-names names q a v x = subst (λ o. by_names s ending names guards q o a) (sym (ap least v)) x

  pub violated-names : (names : List (List ℕ)) (q : ProgramTree) (r : Refusal) (a : Answer) → refusal_of names mode.Source q ≡ Some r → a ≡ refused_program s r → IsNormalAnswer s ending names guards q a
  violated-names names q r a e x = subst (λ o. by_names s ending names guards q o a) (sym e) x

-- other guards
pub moved-guards : (ending : Ending) (s : Sources) (names : List (List ℕ)) (q : ProgramTree) (guards others : List Guard) (a : Answer) → guards ≡ others → IsGuardsAnswer s ending names guards q a → IsGuardsAnswer s ending names others q a
moved-guards ending s names q guards others a e x = subst (λ z. IsGuardsAnswer s ending names z q a) e x

-- what is answered for the guards of a checked program is answered for the program
pub judged-by-guards : (ending : Ending) (s : Sources) (names : List (List ℕ)) (guards others : List Guard) (typed : Typed) (q : ProgramTree) (a : Answer)
    → IsTypedOf names mode.Source q typed → violations_of names mode.Source q ≡ [] → guards ≡ others
    → IfNumbered names typed (λ p. IsGuardsAnswer s ending names guards p a)
    → WhereNumbered q (λ p. IsNormalAnswer s ending names others p a)
judged-by-guards ending s names guards others typed q a t v e x raw n =
    let typed-raw : IsTypedOf names mode.Source (numbered_program raw) typed = subst (λ z. IsTypedOf names mode.Source z typed) n t in
    let answered : IsGuardsAnswer s ending names guards q a =
    subst (λ z. IsGuardsAnswer s ending names guards z a) (sym n) (x mode.Source raw typed-raw) in
    accepted-names ending s others names q a v (moved-guards ending s names q guards others a e answered)

pub program-answered : (ending : Ending) (s : Sources) (names main : List (List ℕ)) (aspects : List GuardAspect) (program q : ProgramTree) (a : Answer) → main ≡ with_main names → q ≡ normal_among main program
    → IsNormalAnswer s ending main (guards_of main aspects) q a → IsProgramAnswer s ending names aspects program a
program-answered ending s names main aspects program q a n i x =
    subst (λ z. IsNormalAnswer s ending z (guards_of z aspects) (normal_among z program) a) n
    (subst (λ z. IsNormalAnswer s ending main (guards_of main aspects) z a) i x)

-- ---- sheets of a command

pub moved-sheets : (c : Command) (sheets others : List Sheet) (a : Answer) → sheets ≡ others → IsAnswerOf c sheets a → IsAnswerOf c others a
moved-sheets c sheets others a e x = subst (λ z. IsAnswerOf c z a) e x

pub moved-sources : {A : Type 0} (P : Sources → A → Type 0) (s t : Sources) (a : A) → s ≡ t → P s a → P t a
moved-sources P s t a e x = subst (λ z. P z a) e x

pub sheets-counted : (files : List File) (texts : List (List ℕ)) → length texts ≡ length files → length (sheets_of files texts) ≡ length files
sheets-counted [] texts e = refl
sheets-counted (f ∷ fs) [] e = absurd (let z : 0 ≡ suc (length fs) = e in omega (arith, z))
sheets-counted (f ∷ fs) (t ∷ ts) e = let m : length ts ≡ length fs = omega (arith, e) in ap suc (sheets-counted fs ts m)

pub sheets-short : (files : List File) (texts : List (List ℕ)) → All (λ text. length text ≤ largest_text) texts → All IsShort (sheets_of files texts)
sheets-short [] texts h k d l = absurd (omega (arith, l))
sheets-short (f ∷ fs) [] h k d l = absurd (omega (arith, l))
sheets-short (f ∷ fs) (t ∷ ts) h zero d l = h 0 t (omega arith)
sheets-short (f ∷ fs) (t ∷ ts) h (suc k) d l = sheets-short fs ts (λ j z m. h (suc j) z (omega (arith, m))) k d (omega (arith, l))

pub seen-counted : (xs : List Read) (sheets : List Sheet) → map seen xs ≡ sheets → length xs ≡ length sheets
seen-counted xs sheets e = sym (length-map xs seen) ∙ ap length e
