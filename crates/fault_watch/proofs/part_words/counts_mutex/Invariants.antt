use Rattle.std.proofs.Common.{◌≡◌, map, drop}
use Rattle.std.specs.List.{list_any}
use Rattle.cxx_core.specs.ProgramView.{class_core, name_core}
use Rattle.fault_model.specs.Parts.{is_counter}
use Rattle.fault_watch.proofs.part_words.counts_mutex.Given as goal

abbrev pub invariant-loop-name : goal.invariant-loop-name
invariant-loop-name l =
    list_any (is_counter l.setting (class_core l.class)) (map name_core (drop l.name-index l.names)) ≡
    list_any (is_counter l.setting (class_core l.class)) (map name_core l.class.mutexes)
