-- What lines give at most.
use Rattle.std.proofs.Common.{◌≡◌, ℕ, ◌+◌, ◌^◌, ◌<◌, ◌≤◌, Bool, true, false, List, [], ◌∷◌, ◌++◌, length, length-append, drop, get_or, Option, Some, None, ap, subst, sym, ◌∙◌, arith}
use Rattle.std.specs.Prelude.{◌==◌, if◌then◌else◌}
use Rattle.std.specs.List.{list_all}
use Rattle.agxx_base.specs.Sizes.{largest_text}
use Rattle.agxx_base.proofs.Lists.{at-turn}
use Rattle.flip_plan.specs.declared.line.LineKind.{LineKind}
use Rattle.flip_plan.specs.declared.line.LineKind.TheVariants as kind
use Rattle.flip_plan.specs.declared.numbers.Item.{Item}
use Rattle.flip_plan.specs.declared.pieces.Separator.TheVariants as separator
use Rattle.flip_plan.specs.Kinds.{kind_of, behind}
use Rattle.flip_plan.specs.Numbers.{is_digit, value, number, once, times, item_in, item_of}
use Rattle.flip_plan.specs.Plans.{Run, PlanMeaning, total, one_each}
use Rattle.flip_plan.specs.Reading.{with_item, with_items, with_line, with_line_by, with_lines, with_flip, flip_of, nothing_planned, words_in, HasRoom, HasRoomFor}
use Rattle.flip_plan.specs.Texts.{Word, Line, parts, with_word, words_from, words_of, lines_from, lines_of, span}
use Rattle.flip_plan.proofs.Parts.{span_parts}

-- ---- an item gives fewer than 2^32 turns

abbrev count_of : Option Item → ℕ
count_of None = 0
count_of (Some item) = item.count

abbrev number_of : Option ℕ → ℕ
number_of None = 0
number_of (Some n) = n

number-by : (n : ℕ) (b : Bool) → n < 2 ^ 32 → number_of (if b then Some n else None) < 2 ^ 32
number-by n true l = l
number-by n false l = omega arith

number-few : (text : List ℕ) → number_of (number text) < 2 ^ 32
number-few [] = omega arith
number-few (b ∷ bs) = number-by (value (b ∷ bs)) (list_all is_digit (b ∷ bs)) (omega arith)

once-few : (o : Option ℕ) → count_of (once o) < 2 ^ 32
once-few None = omega arith
once-few (Some thread) = omega arith

often-few : (ahead thread count : ℕ) (b : Bool) → count < 2 ^ 32
    → count_of (if b then None else Some (record { thread = thread; count = count; ahead = ahead })) < 2 ^ 32
often-few ahead thread count true l = omega arith
often-few ahead thread count false l = l

times-few : (ahead : ℕ) (a b : Option ℕ) → number_of b < 2 ^ 32 → count_of (times ahead a b) < 2 ^ 32
times-few ahead None b l = omega arith
times-few ahead (Some thread) None l = omega arith
times-few ahead (Some thread) (Some count) l = often-few ahead thread count (count == 0) l

item-few : (ps : List (List ℕ)) → count_of (item_in ps) < 2 ^ 32
item-few [] = omega arith
item-few (thread ∷ []) = once-few (number thread)
item-few (thread ∷ count ∷ []) = times-few (length thread + 1) (number thread) (number count) (number-few count)
item-few (thread ∷ count ∷ more ∷ rest) = omega arith

-- ---- what is given by items

total-append : (runs : List Run) (run : Run) → total (runs ++ run ∷ []) ≡ total runs + run.count
total-append [] run = omega arith
total-append (r ∷ runs) run = omega (arith, total-append runs run)

total-with : (runs : List Run) (o : Option Item) → total (with_item runs o) ≡ total runs + count_of o
total-with runs None = omega arith
total-with runs (Some item) = total-append runs (record { thread = item.thread; count = item.count })

-- behind an item there is room for one less
pub room_behind_item : (runs : List Run) (text : List ℕ) (items : ℕ) → HasRoom runs (1 + items) → HasRoom (with_item runs (item_of text)) items
room_behind_item runs text items room =
    omega (arith, room, total-with runs (item_of text), item-few (parts separator.Star text))

room-behind-items : (runs : List Run) (words : List Word) (items : ℕ) → HasRoom runs (length words + items) → HasRoom (with_items runs words) items
room-behind-items runs [] items room = omega (arith, room)
room-behind-items runs (word ∷ words) items room =
    room-behind-items (with_item runs (item_of word.text)) words items (room_behind_item runs word.text (length words + items) (omega (arith, room)))

-- what a loop over items keeps
pub items_turn : (words : List Word) (i : ℕ) (word : Word) (runs new whole : List Run)
    → (with_items runs (drop i words) ≡ whole) × HasRoom runs (length (drop i words)) → i < length words → word ≡ get_or words i word → new ≡ with_item runs (item_of word.text)
    → (with_items new (drop (i + 1) words) ≡ whole) × HasRoom new (length (drop (i + 1) words))
items_turn words i word runs new whole before inside at is =
    let cut : drop i words ≡ word ∷ drop (i + 1) words = at-turn words i word inside at in
    let room : HasRoom runs (length (word ∷ drop (i + 1) words)) = subst (λ ws. HasRoom runs (length ws)) cut before.1 in (
      ap (λ rs. with_items rs (drop (i + 1) words)) is ∙ ap (with_items runs) (sym cut) ∙ before.0,
      subst (λ rs. HasRoom rs (length (drop (i + 1) words))) (sym is)
          (room_behind_item runs word.text (length (drop (i + 1) words)) (omega (arith, room))),
    )

total-both : (runs more : List Run) → total (runs ++ more) ≡ total runs + total more
total-both [] more = omega arith
total-both (r ∷ runs) more = omega (arith, total-both runs more)

total-one-each : (threads : List ℕ) → total (one_each threads) ≡ length threads
total-one-each [] = omega arith
total-one-each (thread ∷ threads) = omega (arith, total-one-each threads)

-- there is room for a turn where the turns so far are some of one of each thread
pub room_for_one : (runs more : List Run) (threads : List ℕ) → runs ++ more ≡ one_each threads → length threads < 2 ^ 32 → total runs + 1 < 2 ^ 64
room_for_one runs more threads is few =
    omega (arith, few, total-both runs more, ap total is, total-one-each threads)

-- ---- what is given by lines

pub behind_few : (words : List Word) → length (behind words) ≤ length words
behind_few [] = omega arith
behind_few (word ∷ words) = omega arith

less-room : (runs : List Run) (items fewer : ℕ) → fewer ≤ items → HasRoom runs items → HasRoom runs fewer
less-room runs items fewer l room = omega (arith, l, room)

room-behind-flip : (waits : Bool) (plan : PlanMeaning) (line : Line) (lines : List Line) → HasRoomFor plan (line ∷ lines) → HasRoomFor (with_flip waits plan (behind line.words)) lines
room-behind-flip waits plan line lines room = record {
  turns = omega (arith, room.turns);
  cycle = omega (arith, room.cycle);
  flips = omega (arith, room.flips, length-append plan.flips (flip_of (length plan.flips + 1) waits (behind line.words) ∷ []));
}

room-by : (k : LineKind) (plan : PlanMeaning) (line : Line) (lines : List Line) → HasRoomFor plan (line ∷ lines) → HasRoomFor (with_line_by k plan (behind line.words)) lines
room-by kind.Limit plan line lines room = record { turns = omega (arith, room.turns); cycle = omega (arith, room.cycle); flips = omega (arith, room.flips) }
room-by kind.Turns plan line lines room = record {
  turns = room-behind-items plan.turns (behind line.words) (words_in lines) (omega (arith, room.turns, behind_few line.words));
  cycle = omega (arith, room.cycle);
  flips = omega (arith, room.flips);
}
room-by kind.Cycle plan line lines room = record {
  turns = omega (arith, room.turns);
  cycle = room-behind-items plan.cycle (behind line.words) (words_in lines) (omega (arith, room.cycle, behind_few line.words));
  flips = omega (arith, room.flips);
}
room-by kind.Flip plan line lines room = room-behind-flip false plan line lines room
room-by kind.Free plan line lines room = room-behind-flip true plan line lines room
room-by kind.Passed plan line lines room = record { turns = omega (arith, room.turns); cycle = omega (arith, room.cycle); flips = omega (arith, room.flips) }
room-by kind.Unknown plan line lines room = record { turns = omega (arith, room.turns); cycle = omega (arith, room.cycle); flips = omega (arith, room.flips) }

-- behind a line there is room for what the lines behind it give
pub room_behind_line : (plan : PlanMeaning) (line : Line) (lines : List Line) → HasRoomFor plan (line ∷ lines) → HasRoomFor (with_line plan line) lines
unfolding with_line
room_behind_line plan line lines room = room-by (kind_of line) plan line lines room

-- for a line there is room where there is for it and others
pub room_for_line : (plan : PlanMeaning) (line : Line) (lines : List Line) → HasRoomFor plan (line ∷ lines) → HasRoomFor plan (line ∷ [])
room_for_line plan line lines room = record { turns = omega (arith, room.turns); cycle = omega (arith, room.cycle); flips = omega (arith, room.flips) }

-- what a loop over lines keeps
pub lines_turn : (lines rest : List Line) (line : Line) (plan new whole : PlanMeaning) → (with_lines plan lines ≡ whole) × HasRoomFor plan lines
    → lines ≡ line ∷ rest → new ≡ with_line plan line → (with_lines new rest ≡ whole) × HasRoomFor new rest
lines_turn lines rest line plan new whole before cut is = (
  ap (λ p. with_lines p rest) is ∙ ap (with_lines plan) (sym cut) ∙ before.0,
  subst (λ p. HasRoomFor p rest) (sym is) (room_behind_line plan line rest (subst (HasRoomFor plan) cut before.1)),
)

-- ---- what is given by a text

words-with : (column : ℕ) (part : List ℕ) (words : List Word) → length (with_word column part words) ≤ 1 + length words
words-with column [] words = omega arith
words-with column (b ∷ bs) words = omega arith

words-few : (column : ℕ) (ps : List (List ℕ)) → length (words_from column ps) ≤ span ps
words-few column [] = omega arith
words-few column (part ∷ rest) =
    omega (arith, words-with column part (words_from (column + length part + 1) rest), words-few (column + length part + 1) rest)

words-within : (text : List ℕ) → length (words_of text) ≤ length text + 1
words-within text = omega (arith, words-few 1 (parts separator.Blank text), span_parts separator.Blank text)

words-in-lines : (file n : ℕ) (texts : List (List ℕ)) → words_in (lines_from file n texts) ≤ span texts
words-in-lines file n [] = omega arith
words-in-lines file n (text ∷ texts) = omega (arith, words-within text, words-in-lines file (n + 1) texts)

lines-few : (file n : ℕ) (texts : List (List ℕ)) → length (lines_from file n texts) ≤ span texts
lines-few file n [] = omega arith
lines-few file n (text ∷ texts) = omega (arith, lines-few file (n + 1) texts)

-- before the first line there is room for what all lines give
pub room_at_first : (file : ℕ) (text : List ℕ) → length text ≤ largest_text → HasRoomFor nothing_planned (lines_of file text)
room_at_first file text fits =
    let words : words_in (lines_of file text) ≤ length text + 1 = omega (arith, words-in-lines file 1 (parts separator.Newline text), span_parts separator.Newline text) in
    let lines : length (lines_of file text) ≤ length text + 1 = omega (arith, lines-few file 1 (parts separator.Newline text), span_parts separator.Newline text) in
    record { turns = omega (arith, fits, words); cycle = omega (arith, fits, words); flips = omega (arith, fits, lines) }
