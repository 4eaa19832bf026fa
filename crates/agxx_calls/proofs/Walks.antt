-- The walk of `clap` over the words of a command: the first is the subcommand's name, and the others go to its one argument.
use Rattle.std.proofs.Common.{◌≡◌, ◌∙◌, ◌==◌, ℕ, true, false, List, [], ◌∷◌, ◌++◌, Some, None, fold, codes, refl, sym, ap, append-nil, append_assoc}
use Rattle.std.specs.Prelude.{⊤}
use Rattle.clap.specs.Words.{Row, Rule, Text, new_rule, subcommand_of, takes}
use Rattle.clap.specs.Walk.{Names, Walk, positional, idle, walked, walk_from, nothing_held, finished, reading_by}
use Rattle.clap.specs.Simple.{Shape, built, names_of}
use Rattle.clap.specs.Takes.{walk_passes, settle_passes, turn_passes, level_passes}
use Rattle.clap.specs.declared.builder.action.ArgAction.TheVariants.{Append}
use Rattle.clap.specs.declared.builder.value_parser.ValueParser.TheVariants as parser
use Rattle.clap.specs.declared.parser.matches.ValueSource.TheVariants.{CommandLine}
use Rattle.clap.proofs.OnLiterals.{clap_on_literals}
use Rattle.agxx_calls.specs.Parse.{files_app, line_app, words_read}

-- words that are not empty and don't begin with `-`
abbrev pub ArePlain : List Text → Type 0
ArePlain [] = ⊤
ArePlain ([] ∷ words) = ⊥
ArePlain ((x ∷ xs) ∷ words) = ((x == 45) ≡ false) × ArePlain words

-- ---- in a subcommand

-- its argument, once it is built
abbrev files : Rule
files = record (new_rule (codes "files")) {
  action = Some Append;
  index = Some 1;
  parser = Some parser.String;
  range = Some (record { start_inclusive = 1; end_inclusive = 1 });
}

abbrev rules : List Rule
rules = files ∷ []

-- a subcommand, once it is built
abbrev shape : Text → Shape
shape word = record (files_app word).top {
  rules = rules;
  no_binary_name = true;
  disable_help_flag = true;
  disable_help_subcommand = true;
  is_built = true;
}

abbrev row : List Text → Row
row values = record { id = codes "files"; values = values; count = None; source = Some CommandLine; reading = reading_by files }

abbrev rows : List Text → List Row
rows [] = []
rows (v ∷ vs) = row (v ∷ vs) ∷ []

-- behind these values and a last one
abbrev going : List Text → Text → Walk
going vs last = record {
  held = record { rows = rows vs; pending = Some (codes "files", last ∷ []); skip = 0 };
  waiting = positional;
  position = 1;
  is_trailing = false;
  stopped = None;
}

first-value : (x : ℕ) (xs : Text) → (x == 45) ≡ false → walked rules [] (walk_from nothing_held) (x ∷ xs) ≡ going [] (x ∷ xs)
unfolding clap_on_literals
first-value x xs h = simp h refl

next-value : (vs : List Text) (last : Text) (x : ℕ) (xs : Text) → (x == 45) ≡ false → walked rules [] (going vs last) (x ∷ xs) ≡ going (vs ++ last ∷ []) (x ∷ xs)
unfolding clap_on_literals
next-value [] last x xs h = simp h refl
next-value (v ∷ vs) last x xs h = simp h refl

last-value : (vs : List Text) (last : Text) → finished rules (going vs last).held ≡ row (vs ++ last ∷ []) ∷ []
unfolding clap_on_literals
last-value [] last = refl
last-value (v ∷ vs) last = refl

values-go : (vs : List Text) (last : Text) (words : List Text) → ArePlain words → finished rules (fold (walked rules []) (going vs last) words).held ≡ row (vs ++ last ∷ words) ∷ []
values-go vs last [] p = last-value vs last
values-go vs last ([] ∷ words) p = absurd p
values-go vs last ((x ∷ xs) ∷ words) p =
    ap (λ w. finished rules (fold (walked rules []) w words).held) (next-value vs last x xs p.0)
    ∙ (values-go (vs ++ last ∷ []) (x ∷ xs) words p.1 ∙ ap (λ all. row all ∷ []) (append_assoc vs (last ∷ []) ((x ∷ xs) ∷ words)))

-- each of them passes
first-passes : (word : Text) (x : ℕ) (xs : Text) → (x == 45) ≡ false → turn_passes (shape word) [] (walk_from nothing_held) (x ∷ xs) ≡ true
unfolding clap_on_literals
first-passes word x xs h = simp h refl

next-passes : (word : Text) (vs : List Text) (last : Text) (x : ℕ) (xs : Text) → (x == 45) ≡ false → turn_passes (shape word) [] (going vs last) (x ∷ xs) ≡ true
unfolding clap_on_literals
next-passes word [] last x xs h = simp h refl
next-passes word (v ∷ vs) last x xs h = simp h refl

last-passes : (vs : List Text) (last : Text) → settle_passes rules false (going vs last).held ≡ true
unfolding clap_on_literals
last-passes [] last = refl
last-passes (v ∷ vs) last = refl

-- ---- at the top

-- the walk has met this subcommand, with these words behind it
abbrev stopped : Text → List Text → Walk
stopped name seen =
    record { held = nothing_held; waiting = idle; position = 1; is_trailing = false; stopped = Some (name, seen) }

stays : (names : Names) (name : Text) (seen words : List Text) → fold (walked [] names) (stopped name seen) words ≡ stopped name (seen ++ words)
unfolding clap_on_literals
stays names name seen [] = ap (stopped name) (sym (append-nil seen))
stays names name seen (word ∷ words) = stays names name (seen ++ word ∷ []) words ∙ ap (stopped name) (append_assoc seen (word ∷ []) words)

abbrev labels : Names
labels = names_of (built line_app)

pub subs-are : (built line_app).subs ≡ shape (codes "weave") ∷ shape (codes "exec") ∷ shape (codes "run") ∷ shape (codes "source") ∷ []
unfolding clap_on_literals
subs-are = refl

met : (word : Text) → walked [] labels (walk_from nothing_held) word ≡ stopped word [] → (words : List Text) → fold (walked [] labels) (walk_from nothing_held) (word ∷ words) ≡ stopped word words
met word first words = ap (λ w. fold (walked [] labels) w words) first ∙ stays labels word [] words

met-weave : walked [] labels (walk_from nothing_held) (codes "weave") ≡ stopped (codes "weave") []
unfolding clap_on_literals
met-weave = refl

met-exec : walked [] labels (walk_from nothing_held) (codes "exec") ≡ stopped (codes "exec") []
unfolding clap_on_literals
met-exec = refl

met-run : walked [] labels (walk_from nothing_held) (codes "run") ≡ stopped (codes "run") []
unfolding clap_on_literals
met-run = refl

met-source : walked [] labels (walk_from nothing_held) (codes "source") ≡ stopped (codes "source") []
unfolding clap_on_literals
met-source = refl

-- ---- the words are taken, and read as they stand

-- the rows of the subcommand's words
rows-are : (x : ℕ) (xs : Text) (words : List Text) → ArePlain ((x ∷ xs) ∷ words) → finished rules (fold (walked rules []) (walk_from nothing_held) ((x ∷ xs) ∷ words)).held ≡ row ((x ∷ xs) ∷ words) ∷ []
rows-are x xs words p = ap (λ w. finished rules (fold (walked rules []) w words).held) (first-value x xs p.0) ∙ values-go [] (x ∷ xs) words p.1

module _ (x : ℕ) (xs : Text) (words : List Text) (p : ArePlain ((x ∷ xs) ∷ words)) where
  pub read-weave : words_read (subcommand_of line_app (codes "weave" ∷ (x ∷ xs) ∷ words)) ≡ Some (codes "weave" ∷ (x ∷ xs) ∷ words)
  read-weave = rw (met (codes "weave") met-weave ((x ∷ xs) ∷ words), rows-are x xs words p) refl

  pub read-exec : words_read (subcommand_of line_app (codes "exec" ∷ (x ∷ xs) ∷ words)) ≡ Some (codes "exec" ∷ (x ∷ xs) ∷ words)
  read-exec = rw (met (codes "exec") met-exec ((x ∷ xs) ∷ words), rows-are x xs words p) refl

  pub read-run : words_read (subcommand_of line_app (codes "run" ∷ (x ∷ xs) ∷ words)) ≡ Some (codes "run" ∷ (x ∷ xs) ∷ words)
  read-run = rw (met (codes "run") met-run ((x ∷ xs) ∷ words), rows-are x xs words p) refl

  pub read-source : words_read (subcommand_of line_app (codes "source" ∷ (x ∷ xs) ∷ words)) ≡ Some (codes "source" ∷ (x ∷ xs) ∷ words)
  read-source = rw (met (codes "source") met-source ((x ∷ xs) ∷ words), rows-are x xs words p) refl

-- ---- the walks pass

values-pass : (word : Text) (vs : List Text) (last : Text) (words : List Text) → ArePlain words → walk_passes (shape word) [] (going vs last) words ≡ true
unfolding clap_on_literals
values-pass word vs last [] p = refl
values-pass word vs last ([] ∷ words) p = absurd p
values-pass word vs last ((x ∷ xs) ∷ words) p =
    rw (next-passes word vs last x xs p.0, next-value vs last x xs p.0) (values-pass word (vs ++ last ∷ []) (x ∷ xs) words p.1)

-- the last value passes too
ends-pass : (vs : List Text) (last : Text) (words : List Text) → ArePlain words → settle_passes rules false (fold (walked rules []) (going vs last) words).held ≡ true
ends-pass vs last [] p = last-passes vs last
ends-pass vs last ([] ∷ words) p = absurd p
ends-pass vs last ((x ∷ xs) ∷ words) p =
    ap (λ w. settle_passes rules false (fold (walked rules []) w words).held) (next-value vs last x xs p.0) ∙ ends-pass (vs ++ last ∷ []) (x ∷ xs) words p.1

stays-pass : (s : Shape) (names : Names) (name : Text) (seen words : List Text) → walk_passes s names (stopped name seen) words ≡ true
unfolding clap_on_literals
stays-pass s names name seen [] = refl
stays-pass s names name seen (word ∷ words) = stays-pass s names name (seen ++ word ∷ []) words

module _ (x : ℕ) (xs : Text) (words : List Text) (p : ArePlain ((x ∷ xs) ∷ words)) where
  walk-passes : (word : Text) → walk_passes (shape word) [] (walk_from nothing_held) ((x ∷ xs) ∷ words) ≡ true
  unfolding clap_on_literals
  walk-passes word = rw (first-passes word x xs p.0, first-value x xs p.0) (values-pass word [] (x ∷ xs) words p.1)

  end-passes : settle_passes rules false (fold (walked rules []) (walk_from nothing_held) ((x ∷ xs) ∷ words)).held ≡ true
  end-passes = ap (λ w. settle_passes rules false (fold (walked rules []) w words).held) (first-value x xs p.0) ∙ ends-pass [] (x ∷ xs) words p.1

  sub-passes : (word : Text) → level_passes (shape word) [] nothing_held ((x ∷ xs) ∷ words) false ≡ true
  sub-passes word = rw (walk-passes word, end-passes) refl

  top-weave : walk_passes (built line_app).top labels (walk_from nothing_held) (codes "weave" ∷ (x ∷ xs) ∷ words) ≡ true
  unfolding clap_on_literals
  top-weave = stays-pass (built line_app).top labels (codes "weave") [] ((x ∷ xs) ∷ words)

  pub taken-weave : takes line_app (codes "weave" ∷ (x ∷ xs) ∷ words) ≡ true
  taken-weave = rw (met (codes "weave") met-weave ((x ∷ xs) ∷ words), top-weave, sub-passes (codes "weave")) refl

  top-exec : walk_passes (built line_app).top labels (walk_from nothing_held) (codes "exec" ∷ (x ∷ xs) ∷ words) ≡ true
  unfolding clap_on_literals
  top-exec = stays-pass (built line_app).top labels (codes "exec") [] ((x ∷ xs) ∷ words)

  pub taken-exec : takes line_app (codes "exec" ∷ (x ∷ xs) ∷ words) ≡ true
  taken-exec = rw (met (codes "exec") met-exec ((x ∷ xs) ∷ words), top-exec, sub-passes (codes "exec")) refl

  top-run : walk_passes (built line_app).top labels (walk_from nothing_held) (codes "run" ∷ (x ∷ xs) ∷ words) ≡ true
  unfolding clap_on_literals
  top-run = stays-pass (built line_app).top labels (codes "run") [] ((x ∷ xs) ∷ words)

  pub taken-run : takes line_app (codes "run" ∷ (x ∷ xs) ∷ words) ≡ true
  taken-run = rw (met (codes "run") met-run ((x ∷ xs) ∷ words), top-run, sub-passes (codes "run")) refl

  top-source : walk_passes (built line_app).top labels (walk_from nothing_held) (codes "source" ∷ (x ∷ xs) ∷ words) ≡ true
  unfolding clap_on_literals
  top-source = stays-pass (built line_app).top labels (codes "source") [] ((x ∷ xs) ∷ words)

  pub taken-source : takes line_app (codes "source" ∷ (x ∷ xs) ∷ words) ≡ true
  taken-source = rw (met (codes "source") met-source ((x ∷ xs) ∷ words), top-source, sub-passes (codes "source")) refl
