-- What a call answers, by what opening its files gave.
use Rattle.std.proofs.Common.{◌≡◌, ◌≤◌, ◌<◌, ◌-◌, ℕ, List, [], ◌∷◌, ◌++◌, Option, length, take, drop, slice_index_or, ap, ◌∙◌, sym, subst, arith, append-nil, append_assoc}
use Rattle.std.proofs.Math.Seq.{take-length}
use Rattle.agxx_base.specs.Files.{Listing}
use Rattle.agxx_main.specs.declared.answer.Answer.{Answer}
use Rattle.agxx_calls.specs.declared.command.Call.{Call}
use Rattle.agxx_calls.specs.declared.command.File.{File}
use Rattle.agxx_main.specs.declared.files.Opened.TheVariants as result
use Rattle.agxx_calls.specs.Commands.{limit_of}
use Rattle.agxx_main.specs.Answers.{closed, opened}
use Rattle.agxx_main.specs.CallAnswers.{IsCallAnswer}
use Rattle.agxx_main.specs.Outcome.{Opening, OpensInTurn}
use Rattle.agxx_main.proofs.Opens.{map-in-turn}

-- all files were opened
none-left : (listed : Option Listing) (count : ℕ) (call : Call) (texts : List (List ℕ)) (a : Answer) → IsCallAnswer call texts a → OpensInTurn listed count count [] (λ rest. IsCallAnswer call (texts ++ rest)) a
none-left listed count call texts a t = (omega arith, subst (λ x. IsCallAnswer call x a) (sym (append-nil texts)) t)

-- the next one can't be opened
next-closed : (listed : Option Listing) (before now : ℕ) (file : File) (files : List File) (Then : List (List ℕ) → Answer → Type 0) (a : Answer) → before ≤ now
    → Opening listed before now file.name (limit_of file.kind) (result.Closed a) → OpensInTurn listed before now (file ∷ files) Then a
next-closed listed before now file files Then a m o = (now, o.content, m, omega arith, o.given, closed o.opened)

-- it was opened, and then the others
next-opened : (listed after : Option Listing) (before between now : ℕ) (file : File) (files : List File) (call : Call) (texts : List (List ℕ)) (text : List ℕ) (a : Answer)
    → after ≡ listed → before ≤ between → between ≤ now → Opening listed before between file.name (limit_of file.kind) (result.Text text)
    → OpensInTurn after between now files (λ rest. IsCallAnswer call ((texts ++ text ∷ []) ++ rest)) a
    → OpensInTurn listed before now (file ∷ files) (λ rest. IsCallAnswer call (texts ++ rest)) a
next-opened listed after before between now file files call texts text a i l m o t =
    let u : OpensInTurn listed between now files (λ rest. IsCallAnswer call ((texts ++ text ∷ []) ++ rest)) a = subst (λ x. OpensInTurn x between now files (λ rest. IsCallAnswer call ((texts ++ text ∷ []) ++ rest)) a) i t in
    let v = map-in-turn listed between now files (λ rest. IsCallAnswer call ((texts ++ text ∷ []) ++ rest)) (λ rest. IsCallAnswer call (texts ++ text ∷ rest)) a
    (λ rest. subst (λ x. IsCallAnswer call x a) (append_assoc texts (text ∷ []) rest)) u in
    (between, o.content, l, m, o.given, opened text o.opened.0 o.opened.1 v)

-- ---- the same of a list of files, of which the first is taken

pub all-opened : (listed : Option Listing) (count : ℕ) (call : Call) (texts : List (List ℕ)) (left : List File) (a : Answer) → length left < 1 → IsCallAnswer call texts a → OpensInTurn listed count count left (λ rest. IsCallAnswer call (texts ++ rest)) a
all-opened listed count call texts [] a l t = none-left listed count call texts a t
all-opened listed count call texts (file ∷ files) a l t = absurd (omega arith)

pub first-closed : (listed : Option Listing) (before now : ℕ) (left : List File) (file item : File) (limit : ℕ) (call : Call) (texts : List (List ℕ)) (a : Answer) → 0 < length left → file ≡ slice_index_or left 0 item → limit ≡ limit_of file.kind → before ≤ now
    → Opening listed before now file.name limit (result.Closed a) → OpensInTurn listed before now left (λ rest. IsCallAnswer call (texts ++ rest)) a
first-closed listed before now [] file item limit call texts a s e i m o = absurd (omega arith)
first-closed listed before now (f ∷ fs) file item limit call texts a s e i m o =
    let p : Opening listed before now file.name (limit_of file.kind) (result.Closed a) = subst (λ l. Opening listed before now file.name l (result.Closed a)) i o in
    next-closed listed before now f fs (λ rest. IsCallAnswer call (texts ++ rest)) a m (subst (λ x. Opening listed before now x.name (limit_of x.kind) (result.Closed a)) e p)

pub first-opened : (listed after : Option Listing) (before between now : ℕ) (left : List File) (file item : File) (limit : ℕ) (call : Call) (texts pushed : List (List ℕ)) (text : List ℕ) (a : Answer)
    → 0 < length left → file ≡ slice_index_or left 0 item → limit ≡ limit_of file.kind → pushed ≡ texts ++ text ∷ []
    → after ≡ listed → before ≤ between → between ≤ now → Opening listed before between file.name limit (result.Text text)
    → OpensInTurn after between now (take (length left - 1) (drop 1 left)) (λ rest. IsCallAnswer call (pushed ++ rest)) a
    → OpensInTurn listed before now left (λ rest. IsCallAnswer call (texts ++ rest)) a
first-opened listed after before between now [] file item limit call texts pushed text a s e i p j l m o t = absurd (omega arith)
first-opened listed after before between now (f ∷ fs) file item limit call texts pushed text a s e i p j l m o t =
    let len : length (f ∷ fs) - 1 ≡ length fs = omega arith in
    let rest : take (length (f ∷ fs) - 1) fs ≡ fs = ap (λ k. take k fs) len ∙ take-length fs in
    let u : OpensInTurn after between now fs (λ rest. IsCallAnswer call (pushed ++ rest)) a = subst (λ z. OpensInTurn after between now z (λ rest. IsCallAnswer call (pushed ++ rest)) a) rest t in
    let q : Opening listed before between file.name (limit_of file.kind) (result.Text text) = subst (λ k. Opening listed before between file.name k (result.Text text)) i o in
    next-opened listed after before between now f fs call texts text a j l m (subst (λ x. Opening listed before between x.name (limit_of x.kind) (result.Text text)) e q)
    (subst (λ z. OpensInTurn after between now fs (λ rest. IsCallAnswer call (z ++ rest)) a) p u)
