-- The commands as `clap` has them.
use Rattle.std.specs.Prelude.{◌≢◌, ◌⊎◌, true, List, [], ◌∷◌, Option, Some, option_and_then, option_map}
use Rattle.std.specs.Prelude.{slice_get, codes}
use Rattle.std.specs.Str.{IsUtf8}
use Rattle.clap.specs.Words.{App, Row, Rule, Text, all_of, new_app, new_rule, with_rule, with_subcommand}
use Rattle.clap.specs.declared.builder.action.ArgAction.TheVariants.{Append}

-- ---- what `clap` is told

-- a command's files: one argument without a name, of as many values as there are
abbrev pub files_rule : Rule
files_rule = record (new_rule (codes "files")) { action = Some Append }

-- a command: its word, with its files
abbrev pub files_app : Text → App
files_app word = with_rule (new_app word) files_rule

-- a command line without help
abbrev pub bare_app : App
bare_app = record (new_app (codes "agxx")) {
  top = record (new_app (codes "agxx")).top {
    no_binary_name = true;
    disable_help_flag = true;
    disable_help_subcommand = true;
  };
}

abbrev pub with_command : Text → App → App
with_command word app = with_subcommand app (files_app word).top

-- the command line: one command
abbrev pub line_app : App
line_app = with_command (codes "source") (with_command (codes "run") (with_command (codes "exec") (with_command (codes "weave") bare_app)))

-- ---- what `clap` is given, and what it gives

-- a word that is text and no option
abbrev pub IsPlainWord : Text → Type 0
IsPlainWord word = (slice_get word 0 ≢ Some 45) × IsUtf8 word

-- some word is not
abbrev pub HasOtherWord : List Text → Type 0
HasOtherWord [] = ⊥
HasOtherWord (word ∷ words) = (IsPlainWord word → ⊥) ⊎ HasOtherWord words

-- the words that were read: the subcommand's name, and its values in order, where there are any
abbrev pub words_read : Option (Text × List Row) → Option (List Text)
words_read = option_and_then (λ p. option_map (λ values. p.0 ∷ values) (all_of (codes "files") p.1))
