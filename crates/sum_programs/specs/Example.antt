-- A program of this kind, as an example of the machine has it.
use Rattle.std.specs.Prelude.{◌≡◌, ℕ, List, [], ◌∷◌, ◌++◌, codes}
use Rattle.cxx_core.specs.Examples.{at, node}
use Rattle.step_machine.specs.Item.{line_end}
use Rattle.step_machine.specs.Examples as machine
use Rattle.sum_programs.specs.SumPrograms.{Literal, Addend, Operand, Print, SumProgram, string, sum, int, tree_of, printed, steps_of}
use Rattle.sum_programs.specs.Laws.{setting_of, IsInLimits}

-- int main() {
--     std::cout << 2 + 3 << "\n";
--     return 0;
-- }
abbrev pub two : Literal
two = record { node = node 2; value = 2 }

abbrev pub plus_three : Addend
plus_three = record { node = node 2; sign = at 2; literal = record { node = node 2; value = 3 } }

abbrev pub text : Operand
text = string (record { at = at 2; bytes = line_end })

abbrev pub print : Print
print = record { at = at 2; operands = sum two (plus_three ∷ []) ∷ text ∷ [] }

abbrev pub example : SumProgram
example = record {
  at = at 1;
  directives = [];
  result = int;
  result_at = at 1;
  main_at = at 1;
  body_at = at 1;
  prints = print ∷ [];
  return_at = at 3;
  zero = node 3;
}

abbrev pub names : List (List ℕ)
names = codes "main" ∷ []

pub record ExampleIsOne : Type 0 where
  pub setting : machine.sum ≡ setting_of names (tree_of names example)
  pub limits : IsInLimits example
  pub output : printed example ≡ codes "5" ++ line_end
  pub steps : steps_of example ≡ 13
