use Rattle.cxx_core.specs.ProgramView.{class_core}
use Rattle.fault_model.specs.Parts.{is_counter}
use Rattle.fault_watch.proofs.PartWords.{words-have, names-have}
use Rattle.fault_watch.proofs.part_words.declares_part.Goals as goal

pub returns-then-counts_word : goal.returns-then-counts_word
returns-then-counts_word c =
    let class = class_core c.args.class.now in
    words-have (is_counter c.args.setting.now class) class.words class.mutexes c.counts_word.result c.counts_word.ensures c.if-counts_word.true

pub returns-else-counts_word : goal.returns-else-counts_word
returns-else-counts_word c =
    let class = class_core c.args.class.now in
    names-have (is_counter c.args.setting.now class) class.words class.mutexes c.counts_word.result c.counts_mutex.result
    c.counts_word.ensures c.if-counts_word.false c.counts_mutex.ensures
