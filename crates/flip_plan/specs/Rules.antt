-- Which rules the lines of a plan violate, and where.
use Rattle.std.specs.Prelude.{ℕ, ◌≡◌, ◌+◌, ◌-◌, ◌==◌, Bool, true, false, ◌||◌, nat_lt, if◌then◌else◌}
use Rattle.std.specs.Prelude.{List, [], ◌∷◌, ◌++◌, length, take, drop, Option, Some, None, is_none}
use Rattle.agxx_base.specs.Refusals.{least}
use Rattle.agxx_base.specs.declared.fault.Refusal.{Refusal}
use Rattle.agxx_base.specs.declared.rule.Rule.{Rule}
use Rattle.agxx_base.specs.declared.rule.Rule.TheVariants as rule
use Rattle.flip_plan.specs.declared.line.LineKind.{LineKind}
use Rattle.flip_plan.specs.declared.line.LineKind.TheVariants as kind
use Rattle.flip_plan.specs.declared.numbers.Item.{Item}
use Rattle.flip_plan.specs.declared.seen.Seen.{Seen}
use Rattle.flip_plan.specs.Texts.{Word, Line, lines_of}
use Rattle.flip_plan.specs.Numbers.{number, item_of}
use Rattle.flip_plan.specs.Kinds.{kind_of, ruled_as, first_column, behind}

-- A line has the rules of its kind, and a `free` line those of a `flip` line.

-- a rule is violated in this column of the line
abbrev pub refusal : Rule → Line → ℕ → Refusal
refusal violated line column = record { rule = violated; place = record { file = line.file; line = line.number; column = column } }

-- ---- F1: a first word that is none of `limit`, `turns`, `cycle`, `flip`, `free`, or a word behind the numbers of a line

abbrev pub at_each : Line → List Word → List Refusal
at_each line [] = []
at_each line (word ∷ words) = refusal rule.F1 line word.column ∷ at_each line words

abbrev pub strange_by : LineKind → Line → List Refusal
strange_by kind.Unknown line = refusal rule.F1 line (first_column line.words) ∷ []
strange_by kind.Limit line = at_each line (drop 1 (behind line.words))
strange_by kind.Flip line = at_each line (drop 4 (behind line.words))
strange_by _ line = []

unfoldable pub strange : Line → List Refusal
strange line = strange_by (ruled_as (kind_of line)) line

-- ---- F2: a malformed word, or too few words, which is told at the line's end

-- how many words follow the first at least
abbrev pub fewest : LineKind → ℕ
fewest kind.Limit = 1
fewest kind.Turns = 1
fewest kind.Cycle = 1
fewest kind.Flip = 4
fewest _ = 0

-- the words that have to be numbers or items
abbrev pub wanted : LineKind → List Word → List Word
wanted kind.Limit words = take 1 words
wanted kind.Flip words = take 4 words
wanted kind.Turns words = words
wanted kind.Cycle words = words
wanted _ words = []

abbrev pub is_malformed : LineKind → List ℕ → Bool
is_malformed kind.Turns text = is_none (item_of text)
is_malformed kind.Cycle text = is_none (item_of text)
is_malformed _ text = is_none (number text)

abbrev pub malformed_in : LineKind → Line → List Word → List Refusal
malformed_in k line [] = []
malformed_in k line (word ∷ words) = if is_malformed k word.text then refusal rule.F2 line word.column ∷ malformed_in k line words else malformed_in k line words

abbrev pub malformed_by : LineKind → Line → List Refusal
malformed_by k line =
    if nat_lt (length (behind line.words)) (fewest k) then refusal rule.F2 line line.end ∷ malformed_in k line (wanted k (behind line.words))
    else malformed_in k line (wanted k (behind line.words))

unfoldable pub malformed : Line → List Refusal
malformed line = malformed_by (ruled_as (kind_of line)) line

-- ---- F3: a number above its limit, or turns or lines of flips past a total

-- A limit and the moment of a flip are numbers of turns; then come object, word and bit of a flip.
abbrev pub greatest : LineKind → ℕ → ℕ
greatest kind.Flip index = if index == 0 then 99999999 else (if nat_lt index 3 then 65535 else 63)
greatest _ index = 100000000

abbrev pub is_above : ℕ → Option ℕ → Bool
is_above most None = false
is_above most (Some n) = nat_lt most n

-- the numbers of a line from an index on
abbrev pub large_numbers : LineKind → Line → ℕ → List Word → List Refusal
large_numbers k line index [] = []
large_numbers k line index (word ∷ words) =
    if is_above (greatest k index) (number word.text) then refusal rule.F3 line word.column ∷ large_numbers k line (index + 1) words
    else large_numbers k line (index + 1) words

-- how much room for turns an item leaves
abbrev pub room_past : ℕ → Option Item → ℕ
room_past room None = room
room_past room (Some item) = room - item.count

-- A thread above 63, or more turns than there is room for. Once an item has passed the total no room is left, so each item
-- behind it passes it too.
abbrev pub is_too_much : ℕ → Option Item → Bool
is_too_much room None = false
is_too_much room (Some item) = nat_lt 63 item.thread || nat_lt room item.count

abbrev pub is_too_often : Option Item → Bool
is_too_often None = false
is_too_often (Some item) = nat_lt 100000000 item.count

abbrev pub ahead_of_count : Option Item → ℕ
ahead_of_count None = 0
ahead_of_count (Some item) = item.ahead

-- a count above its limit is told at the N
abbrev pub large_count : Line → Word → Option Item → List Refusal
large_count line word item = if is_too_often item then refusal rule.F3 line (word.column + ahead_of_count item) ∷ [] else []

-- all else that an item violates is told at the item
abbrev pub large_item : Line → ℕ → Word → Option Item → List Refusal
large_item line room word item = if is_too_much room item then refusal rule.F3 line word.column ∷ large_count line word item else large_count line word item

-- items, where there is room for so many turns
abbrev pub large_items : Line → ℕ → List Word → List Refusal
large_items line room [] = []
large_items line room (word ∷ words) = large_item line room word (item_of word.text) ++ large_items line (room_past room (item_of word.text)) words

abbrev pub large_by : LineKind → Seen → Line → List Refusal
large_by kind.Limit seen line = large_numbers kind.Limit line 0 (take 1 (behind line.words))
large_by kind.Flip seen line =
    if seen.flip_room == 0 then refusal rule.F3 line (first_column line.words) ∷ large_numbers kind.Flip line 0 (take 4 (behind line.words))
    else large_numbers kind.Flip line 0 (take 4 (behind line.words))
large_by kind.Turns seen line = large_items line seen.turn_room (behind line.words)
large_by kind.Cycle seen line = large_items line seen.cycle_room (behind line.words)
large_by _ seen line = []

unfoldable pub large : Seen → Line → List Refusal
large seen line = large_by (ruled_as (kind_of line)) seen line

-- ---- F4: a second `limit` or `cycle`

abbrev pub repeated_by : LineKind → Seen → Line → List Refusal
repeated_by kind.Limit seen line = if seen.limit then refusal rule.F4 line (first_column line.words) ∷ [] else []
repeated_by kind.Cycle seen line = if seen.cycle then refusal rule.F4 line (first_column line.words) ∷ [] else []
repeated_by _ seen line = []

unfoldable pub repeated : Seen → Line → List Refusal
repeated seen line = repeated_by (ruled_as (kind_of line)) seen line

-- ---- F5: no `limit`

unfoldable pub unlimited : ℕ → Seen → List Refusal
unlimited file seen = if seen.limit then [] else (record { rule = rule.F5; place = record { file = file; line = 1; column = 1 } }) ∷ []

-- ---- all lines

-- what is known before the first line: there is room for 100,000,000 turns, 1,000,000 turns of the cycle and 100,000 flips
abbrev pub at_first : Seen
at_first = record { limit = false; cycle = false; turn_room = 100000000; cycle_room = 1000000; flip_room = 100000 }

abbrev pub room_behind : ℕ → List Word → ℕ
room_behind room [] = room
room_behind room (word ∷ words) = room_behind (room_past room (item_of word.text)) words

abbrev pub after_by : LineKind → Seen → Line → Seen
after_by kind.Limit seen line = record seen { limit = true }
after_by kind.Turns seen line = record seen { turn_room = room_behind seen.turn_room (behind line.words) }
after_by kind.Cycle seen line = record seen { cycle = true; cycle_room = room_behind seen.cycle_room (behind line.words) }
after_by kind.Flip seen line = record seen { flip_room = seen.flip_room - 1 }
after_by _ seen line = seen

-- what is known behind a line
unfoldable pub after : Seen → Line → Seen
after seen line = after_by (ruled_as (kind_of line)) seen line

unfoldable pub violations_in : Seen → Line → List Refusal
violations_in seen line = strange line ++ (malformed line ++ (large seen line ++ repeated seen line))

abbrev pub violations_from : ℕ → Seen → List Line → List Refusal
violations_from file seen [] = unlimited file seen
violations_from file seen (line ∷ lines) = violations_in seen line ++ violations_from file (after seen line) lines

-- all violations of a text
abbrev pub violations_of_plan : ℕ → List ℕ → List Refusal
violations_of_plan file text = violations_from file at_first (lines_of file text)

-- a refusal is the first of them by line, by column and at one place by rule
abbrev pub IsFirstViolation : ℕ → List ℕ → Refusal → Type 0
IsFirstViolation file text refusal = least (violations_of_plan file text) ≡ Some refusal
