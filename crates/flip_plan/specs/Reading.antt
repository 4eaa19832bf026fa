-- The plan that a text is.
use Rattle.std.specs.Prelude.{ℕ, ◌+◌, ◌*◌, ◌^◌, ◌<◌, ◌==◌, Bool, true, false, if◌then◌else◌, List, [], ◌∷◌, ◌++◌, length, Option, Some, None}
use Rattle.flip_plan.specs.declared.line.LineKind.{LineKind}
use Rattle.flip_plan.specs.declared.line.LineKind.TheVariants as kind
use Rattle.flip_plan.specs.declared.numbers.Item.{Item}
use Rattle.flip_plan.specs.declared.flip.PlannedFlip.{PlannedFlip}
use Rattle.flip_plan.specs.Texts.{Word, Line, lines_of}
use Rattle.flip_plan.specs.Numbers.{number_at, item_of}
use Rattle.flip_plan.specs.Kinds.{kind_of, behind}
use Rattle.flip_plan.specs.Plans.{Run, PlanMeaning, total, default_cycle}

abbrev pub with_item : List Run → Option Item → List Run
with_item runs None = runs
with_item runs (Some item) = runs ++ (record { thread = item.thread; count = item.count }) ∷ []

-- turns, and behind them those of items
abbrev pub with_items : List Run → List Word → List Run
with_items runs [] = runs
with_items runs (word ∷ words) = with_items (with_item runs (item_of word.text)) words

-- the flip of a line, its number among these lines, and whether it waits
abbrev pub flip_of : ℕ → Bool → List Word → PlannedFlip
flip_of number waits words = record { moment = number_at words 0; object = record { 0 = number_at words 1 }; word = number_at words 2; bit = number_at words 3; number = number; waits = waits }

-- `flip` and `free` lines are numbered together
abbrev pub with_flip : Bool → PlanMeaning → List Word → PlanMeaning
with_flip waits plan words = record plan { flips = plan.flips ++ flip_of (length plan.flips + 1) waits words ∷ [] }

abbrev pub with_line_by : LineKind → PlanMeaning → List Word → PlanMeaning
with_line_by kind.Limit plan words = record plan { limit = number_at words 0 }
with_line_by kind.Turns plan words = record plan { turns = with_items plan.turns words }
with_line_by kind.Cycle plan words = record plan { cycle = with_items plan.cycle words }
with_line_by kind.Flip plan words = with_flip false plan words
with_line_by kind.Free plan words = with_flip true plan words
with_line_by _ plan words = plan

-- the plan with what a line gives
unfoldable pub with_line : PlanMeaning → Line → PlanMeaning
with_line plan line = with_line_by (kind_of line) plan (behind line.words)

abbrev pub with_lines : PlanMeaning → List Line → PlanMeaning
with_lines plan [] = plan
with_lines plan (line ∷ lines) = with_lines (with_line plan line) lines

abbrev pub nothing_planned : PlanMeaning
nothing_planned = record { limit = 0; turns = []; cycle = []; flips = [] }

-- where no line gives a cycle, there are no turns in it
abbrev pub cycle_or_default : List Run → List Run
cycle_or_default cycle = if total cycle == 0 then default_cycle else cycle

abbrev pub with_cycle : PlanMeaning → PlanMeaning
with_cycle plan = record plan { cycle = cycle_or_default plan.cycle }

-- the plan that a text without violations is
abbrev pub plan_of : List ℕ → PlanMeaning
plan_of text = with_cycle (with_lines nothing_planned (lines_of 0 text))

-- ---- what lines give at most

-- how many words lines have
abbrev pub words_in : List Line → ℕ
words_in [] = 0
words_in (line ∷ lines) = length line.words + words_in lines

-- the turns can be counted in 64 bits, also with those of so many items more
abbrev pub HasRoom : List Run → ℕ → Type 0
HasRoom runs items = total runs + 2 ^ 32 * items < 2 ^ 64

-- so can the turns and those of the cycle with what lines give, and the flips in 32 bits
pub record HasRoomFor (plan : PlanMeaning) (lines : List Line) : Type 0 where
  pub turns : HasRoom plan.turns (words_in lines)
  pub cycle : HasRoom plan.cycle (words_in lines)
  pub flips : length plan.flips + length lines < 2 ^ 32
