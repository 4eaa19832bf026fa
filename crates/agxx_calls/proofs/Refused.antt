-- Where `clap` does not read words as they stand, they are no command.
use Rattle.std.proofs.Common.{◌≡◌, ◌≢◌, ◌∙◌, ◌==◌, ◌<◌, inl, inr, ℕ, zero, suc, Bool, true, false, List, [], ◌∷◌, Option, Some, None, MatchOption, codes, refl, sym, ap, subst, arith}
use Rattle.std.specs.Str.{IsAscii, bytes_eq}
use Rattle.std.proofs.lemmas.Slice.Eq.{bytes_eq-Decides}
use Rattle.std.proofs.lemmas.Str.{IsUtf8-from_ascii}
use Rattle.std.proofs.lemmas.Str.Ascii.{IsAscii-nil}
use Rattle.clap.specs.Words.{App, HasMatchesOf, Text, is_simple, subcommand_of, subcommand_rows_of, takes}
use Rattle.clap.specs.declared.error.kind.ErrorKind.{ErrorKind}
use Rattle.clap.specs.declared.error.kind.ErrorKind.TheVariants.{OutOfMemory}
use Rattle.clap.specs.declared.parser.matches.ArgMatches.{ArgMatches}
use Rattle.agxx_calls.specs.declared.command.Call.{Call}
use Rattle.agxx_calls.specs.declared.command.Command.{Command}
use Rattle.agxx_calls.specs.declared.command.Command.TheVariants as command
use Rattle.agxx_calls.specs.declared.command.Kind.{Kind}
use Rattle.agxx_calls.specs.declared.command.Kind.TheVariants as kind
use Rattle.agxx_calls.specs.Commands.{AreMore, AreNames, IsName, IsNameOf, IsUsage, Means, kinds_of, more_of, most_of, word_of}
use Rattle.agxx_calls.specs.Parse.{HasOtherWord, IsPlainWord, line_app, words_read}
use Rattle.agxx_calls.proofs.Parsed.{IsRead, line-simple}
use Rattle.agxx_calls.proofs.Walks.{ArePlain, read-weave, read-exec, read-run, read-source, taken-weave, taken-exec, taken-run, taken-source}

-- ---- a command's words are text, and no options

name-of : (k : Kind) (word : Text) → IsNameOf k word → IsName word
name-of kind.Woven word n = n.name
name-of kind.Source word n = n.name
name-of kind.Plan word n = n.name
name-of kind.Aspects word n = n.name

no-name : (k : Kind) → IsNameOf k [] → ⊥
no-name kind.Woven n = let l = n.more in absurd (omega arith)
no-name kind.Source n = let l = n.more in absurd (omega arith)
no-name kind.Plan n = let l = n.more in absurd (omega arith)
no-name kind.Aspects n = let l = n.more in absurd (omega arith)

more-plain : (k : Kind) (words : List Text) → AreMore k words → HasOtherWord words → ⊥
more-plain k [] n h = h
more-plain k (word ∷ words) n (inl bad) =
    let name = name-of k word n.0 in bad (name.no_option, name.text)
more-plain k (word ∷ words) n (inr rest) = more-plain k words n.1 rest

names-plain : (kinds : List Kind) (more : Kind) (most : ℕ) (words : List Text) → AreNames kinds more most words → HasOtherWord words → ⊥
names-plain [] more most words n h = more-plain more words n.1 h
names-plain (k ∷ kinds) more most [] n h = n
names-plain (k ∷ kinds) more most (word ∷ words) n (inl bad) =
    let name = name-of k word n.0 in bad (name.no_option, name.text)
names-plain (k ∷ kinds) more most (word ∷ words) n (inr rest) = names-plain kinds more most words n.1 rest

more-ascii : (b : ℕ) (bs : Text) → b < 128 → IsAscii bs → IsAscii (b ∷ bs)
more-ascii b bs l h zero = l
more-ascii b bs l h (suc i) = h i

exec-ascii : IsAscii (codes "exec")
exec-ascii = more-ascii 101 (codes "xec") (omega arith) (more-ascii 120 (codes "ec") (omega arith)
    (more-ascii 101 (codes "c") (omega arith) (more-ascii 99 [] (omega arith) IsAscii-nil)))

source-ascii : IsAscii (codes "source")
source-ascii = more-ascii 115 (codes "ource") (omega arith) (more-ascii 111 (codes "urce") (omega arith) (more-ascii 117 (codes "rce") (omega arith)
    (more-ascii 114 (codes "ce") (omega arith) (more-ascii 99 (codes "e") (omega arith) (more-ascii 101 [] (omega arith) IsAscii-nil)))))

weave-ascii : IsAscii (codes "weave")
weave-ascii = more-ascii 119 (codes "eave") (omega arith) (more-ascii 101 (codes "ave") (omega arith) (more-ascii 97 (codes "ve") (omega arith)
    (more-ascii 118 (codes "e") (omega arith) (more-ascii 101 [] (omega arith) IsAscii-nil))))

run-ascii : IsAscii (codes "run")
run-ascii = more-ascii 114 (codes "un") (omega arith) (more-ascii 117 (codes "n") (omega arith) (more-ascii 110 [] (omega arith) IsAscii-nil))

exec-plain : IsPlainWord (codes "exec")
exec-plain = ((λ e. cc), IsUtf8-from_ascii (codes "exec") exec-ascii)

source-plain : IsPlainWord (codes "source")
source-plain = ((λ e. cc), IsUtf8-from_ascii (codes "source") source-ascii)

weave-plain : IsPlainWord (codes "weave")
weave-plain = ((λ e. cc), IsUtf8-from_ascii (codes "weave") weave-ascii)

run-plain : IsPlainWord (codes "run")
run-plain = ((λ e. cc), IsUtf8-from_ascii (codes "run") run-ascii)

word-plain : (c : Command) → IsPlainWord (word_of c)
word-plain command.Weave = weave-plain
word-plain command.Exec = exec-plain
word-plain command.Run = run-plain
word-plain command.Source = source-plain

other-none : (words : List Text) → HasOtherWord words → IsUsage words
other-none [] h call m = m
other-none (word ∷ names) (inl bad) call m = bad (subst IsPlainWord (sym m.0.0) (word-plain call.command))
other-none (word ∷ names) (inr rest) call m = names-plain (kinds_of call.command) (more_of call.command) (most_of call.command) names m.0.1 rest

pub other-usage : {T : Type 0} (o : Option T) (words : List Text) (Q : T → Type 0) → MatchOption o (HasOtherWord words) Q → o ≡ None → IsUsage words
other-usage None words Q h e = other-none words h
other-usage (Some x) words Q h e = cc

-- ---- they are read as they stand

is-other : (x : ℕ) → Some x ≢ Some 45 → (x == 45) ≡ false
is-other x bad = go (x == 45) refl
  where
    go : (b : Bool) → (x == 45) ≡ b → (x == 45) ≡ false
    go false e = e
    go true e =
        let same : bytes_eq (x ∷ []) (45 ∷ []) ≡ true = rw e refl in
        let is : ◌≡◌ {A = List ℕ} (x ∷ []) (45 ∷ []) = (bytes_eq-Decides (x ∷ []) (45 ∷ [])).0 same in
        let x-is : x ≡ 45 = cc in
        absurd (bad (ap Some x-is))

more-read : (k : Kind) (words : List Text) → AreMore k words → ArePlain words
more-read k [] n = tt
more-read k ([] ∷ words) n = absurd (no-name k n.0)
more-read k ((x ∷ xs) ∷ words) n = (is-other x (name-of k (x ∷ xs) n.0).no_option, more-read k words n.1)

names-plain-too : (kinds : List Kind) (more : Kind) (most : ℕ) (words : List Text) → AreNames kinds more most words → ArePlain words
names-plain-too [] more most words n = more-read more words n.1
names-plain-too (k ∷ kinds) more most [] n = absurd n
names-plain-too (k ∷ kinds) more most ([] ∷ words) n = absurd (no-name k n.0)
names-plain-too (k ∷ kinds) more most ((x ∷ xs) ∷ words) n = (is-other x (name-of k (x ∷ xs) n.0).no_option, names-plain-too kinds more most words n.1)

plain-read : (c : Command) (x : ℕ) (xs : Text) (words : List Text) → ArePlain ((x ∷ xs) ∷ words) → IsRead (word_of c ∷ (x ∷ xs) ∷ words)
plain-read command.Weave x xs words p = (taken-weave x xs words p, read-weave x xs words p)
plain-read command.Exec x xs words p = (taken-exec x xs words p, read-exec x xs words p)
plain-read command.Run x xs words p = (taken-run x xs words p, read-run x xs words p)
plain-read command.Source x xs words p = (taken-source x xs words p, read-source x xs words p)

-- each command has a file
some-file : (c : Command) → AreNames (kinds_of c) (more_of c) (most_of c) [] → ⊥
some-file command.Weave n = n
some-file command.Exec n = n
some-file command.Run n = n
some-file command.Source n = n

names-read : (c : Command) (names : List Text) → AreNames (kinds_of c) (more_of c) (most_of c) names → IsRead (word_of c ∷ names)
names-read c [] n = absurd (some-file c n)
names-read c ([] ∷ names) n = absurd (names-plain-too (kinds_of c) (more_of c) (most_of c) ([] ∷ names) n)
names-read c ((x ∷ xs) ∷ names) n = plain-read c x xs names (names-plain-too (kinds_of c) (more_of c) (most_of c) ((x ∷ xs) ∷ names) n)

call-read : (words : List Text) (call : Call) → Means words call → IsRead words
call-read [] call m = absurd m
call-read (word ∷ names) call m = subst (λ w. IsRead (w ∷ names)) (sym m.0.0) (names-read call.command names m.0.1)

-- ---- so other words are no command

pub not-read : (app : App) (words : List Text) (m : ArgMatches) (got : Option (List Text)) → app ≡ line_app → HasMatchesOf app words m → got ≡ words_read (subcommand_rows_of m)
    → got ≢ Some words → IsUsage words
not-read app words m got a h g bad call means =
    let rows : subcommand_rows_of m ≡ subcommand_of line_app words = (h (ap is_simple a ∙ line-simple)).1 ∙ ap (λ x. subcommand_of x words) a in
    bad (g ∙ (ap words_read rows ∙ (call-read words call means).1))

pub refused : (app : App) (words : List Text) (kind : ErrorKind) → app ≡ line_app → (takes app words ≡ true → kind ≡ OutOfMemory) → kind ≢ OutOfMemory → IsUsage words
refused app words kind a h bad call means = bad (h (ap (λ x. takes x words) a ∙ (call-read words call means).0))
