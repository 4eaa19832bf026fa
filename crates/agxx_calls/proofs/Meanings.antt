-- What follows from what words mean.
use Rattle.std.proofs.Common.{◌≡◌, ◌↔◌, ℕ, suc, ◌+◌, ◌-◌, ◌<◌, ◌≤◌, Bool, true, false, List, [], ◌∷◌, length, take, drop, slice_index_or, Option, Some, None, Result, Ok, Err, find, IsTrue, OnErr, MatchOption, refl, sym, ap, ◌∙◌, subst, arith}
use Rattle.std.proofs.Math.Seq.{take-length}
use Rattle.std.specs.Str.{bytes_eq}
use Rattle.agxx_calls.specs.declared.command.Call.{Call}
use Rattle.agxx_calls.specs.declared.command.Command.{Command}
use Rattle.agxx_calls.specs.declared.command.Command.TheVariants as command
use Rattle.agxx_calls.specs.declared.command.Kind.{Kind}
use Rattle.agxx_calls.specs.Commands.{word_of, kinds_of, more_of, most_of, AreNames, files_of, IsMeant, IsNone, Means, HasCall, IsUsage}

-- ---- a call has files as its command has

map-counted : (k : Kind) (words : List (List ℕ)) → length (files_of [] k words) ≡ length words
map-counted k [] = refl
map-counted k (word ∷ words) = ap suc (map-counted k words)

least-files : (kinds : List Kind) (more : Kind) (most : ℕ) (words : List (List ℕ)) → AreNames kinds more most words → length kinds ≤ length (files_of kinds more words)
least-files [] more most words n = omega arith
least-files (kind ∷ kinds) more most [] n = absurd n
least-files (kind ∷ kinds) more most (word ∷ words) n = let l = least-files kinds more most words n.1 in omega arith

most-files : (kinds : List Kind) (more : Kind) (most : ℕ) (words : List (List ℕ)) → AreNames kinds more most words → length (files_of kinds more words) ≤ length kinds + most
most-files [] more most words n = let l = map-counted more words in let m = n.0 in omega arith
most-files (kind ∷ kinds) more most [] n = absurd n
most-files (kind ∷ kinds) more most (word ∷ words) n = let l = most-files kinds more most words n.1 in omega arith

pub call-least : (words : List (List ℕ)) (call : Call) → Means words call → length (kinds_of call.command) ≤ length call.files
call-least [] call m = absurd m
call-least (word ∷ names) call m = subst (λ fs. length (kinds_of call.command) ≤ length fs) (sym m.1) (least-files (kinds_of call.command) (more_of call.command) (most_of call.command) names m.0.1)

pub call-most : (words : List (List ℕ)) (call : Call) → Means words call → length call.files ≤ length (kinds_of call.command) + most_of call.command
call-most [] call m = absurd m
call-most (word ∷ names) call m = subst (λ fs. length fs ≤ length (kinds_of call.command) + most_of call.command) (sym m.1) (most-files (kinds_of call.command) (more_of call.command) (most_of call.command) names m.0.1)

-- ---- words mean one call

-- each command is found by its word
abbrev commands : List Command
commands = command.Weave ∷ command.Exec ∷ command.Run ∷ command.Source ∷ []

abbrev found : List ℕ → Option Command
found word = find (λ c. bytes_eq (word_of c) word) commands

row-found : (c : Command) → found (word_of c) ≡ Some c
row-found command.Weave = refl
row-found command.Exec = refl
row-found command.Run = refl
row-found command.Source = refl

same-command : (a b : Command) → word_of a ≡ word_of b → a ≡ b
same-command a b w =
    let e : ◌≡◌ {A = Option Command} (Some a) (Some b) = sym (row-found a) ∙ (ap found w ∙ row-found b) in cc

pub one-call : (words : List (List ℕ)) (a b : Call) → Means words a → Means words b → (a.command ≡ b.command) × (a.files ≡ b.files)
one-call [] a b m n = absurd m
one-call (word ∷ names) a b m n =
    let c : a.command ≡ b.command = same-command a.command b.command (sym m.0.0 ∙ n.0.0) in
    (c, m.1 ∙ (ap (λ x. files_of (kinds_of x) (more_of x) names) c ∙ sym n.1))

-- ---- words of which no command is meant

pub none-usage : (word : List ℕ) (names : List (List ℕ)) → IsNone commands word names → IsUsage (word ∷ names)
none-usage word names n call m = not-meant call.command m.0
  where
    not-meant : (c : Command) → IsMeant c word names → ⊥
    not-meant command.Weave = n.0
    not-meant command.Exec = n.1.0
    not-meant command.Run = n.1.1.0
    not-meant command.Source = n.1.1.1.0

-- ---- lists of which the first is taken

pub later-none : (commands : List Command) (first : Command) (word : List ℕ) (names : List (List ℕ)) (b : Bool) (r : Option Command) → 0 < length commands
    → (IsTrue b ↔ IsMeant (slice_index_or commands 0 first) word names) → b ≡ false
    → MatchOption r (IsNone (take (length commands - 1) (drop 1 commands)) word names) (λ command. IsMeant command word names)
    → MatchOption r (IsNone commands word names) (λ command. IsMeant command word names)
later-none [] first word names b r l m e h = absurd (omega arith)
later-none (c ∷ cs) first word names b None l m e h =
    let len : length (c ∷ cs) - 1 ≡ length cs = omega arith in
    let rest : take (length (c ∷ cs) - 1) cs ≡ cs = ap (λ k. take k cs) len ∙ take-length cs in
    ((λ x. let t : false ≡ true = subst (λ z. z ≡ true) e (m.1 x) in cc), subst (λ z. IsNone z word names) rest h)
later-none (c ∷ cs) first word names b (Some x) l m e h = h

-- words whose first is the command's, and the others names of its files
has-call : (words : List (List ℕ)) (command : Command) → 0 < length words → (word item : List ℕ) → word ≡ slice_index_or words 0 item → IsMeant command word (take (length words - 1) (drop 1 words)) → HasCall words
has-call [] command l word item e m = absurd (omega arith)
has-call (w ∷ ws) command l word item e m =
    let len : length (w ∷ ws) - 1 ≡ length ws = omega arith in
    let rest : take (length (w ∷ ws) - 1) ws ≡ ws = ap (λ k. take k ws) len ∙ take-length ws in
    let meant : IsMeant command w ws = subst (λ z. IsMeant command w z) rest (subst (λ z. IsMeant command z (take (length (w ∷ ws) - 1) ws)) e m) in
    (record { command = command; files = files_of (kinds_of command) (more_of command) ws }, (meant, refl))

pub call-meant : {T E : Type 0} (r : Result T E) (words shown : List (List ℕ)) (command : Command) → shown ≡ words → 0 < length shown → (word item : List ℕ) → word ≡ slice_index_or shown 0 item
    → IsMeant command word (take (length shown - 1) (drop 1 shown)) → OnErr r (HasCall words)
call-meant (Ok x) words shown command i l word item e m = tt
call-meant (Err x) words shown command i l word item e m = subst HasCall i (has-call shown command l word item e m)
