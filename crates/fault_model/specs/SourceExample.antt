-- The source of the example: its run by the threads of source steps, where the protected object is exact, and its cost.
use Rattle.std.specs.Prelude.{◌≡◌, ℕ, List, [], ◌∷◌, ◌++◌, Some, None, codes}
use Rattle.step_machine.specs.Item.{line_end}
use Rattle.step_machine.specs.Setting.{Setting}
use Rattle.step_machine.specs.Start.{start}
use Rattle.step_machine.specs.Total.{Total, reading, next_of}
use Rattle.step_machine.specs.Examples as plain
use Rattle.step_machine.specs.Examples.{ends}
use Rattle.fault_model.specs.Exact.{Touch, touched, IsExact}
use Rattle.fault_model.specs.Cost.{Guards, copies, check_words, cost}
use Rattle.fault_model.specs.Example.{setting_with, class_cell, run_with}

abbrev pub source : Setting
source = setting_with plain.class_cell

-- a turn of each of these threads, one after the other
abbrev pub after_threads : Total → List ℕ → Total
after_threads m [] = m
after_threads m (t ∷ ts) = after_threads (next_of m t).0 ts

-- the source by the source steps of so many turns
abbrev pub source_after : ℕ → Total
source_after n = after_threads (reading (start source)) (run_with [] n).erased

-- the member, as thread 0 is about to put a value
abbrev pub the_member : Touch
the_member = record { object = Some 0; class = class_cell; name = 1 }

abbrev pub all_copies : Guards
all_copies class = Some copies

abbrev pub all_hamming : Guards
all_hamming class = Some check_words

pub record SourceFollows : Type 0 where
  pub touches : touched (run_with [] 191).total 0 ≡ Some the_member
  pub exact : IsExact (run_with [] 191).total (source_after 191) 0 class_cell
  pub output : (source_after 402).output ≡ codes "5" ++ line_end
  pub state : (source_after 402).state ≡ ends 0
  -- a part of one member, without levels and with one of two parameters
  pub cost_of_copies : cost source all_copies [] ≡ 1920
  pub cost_of_hamming : cost source all_hamming (2 ∷ 0 ∷ []) ≡ 2016
  pub cost_of_none : cost source (λ class. None) [] ≡ 0
