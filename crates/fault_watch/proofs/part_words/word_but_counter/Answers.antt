use Rattle.std.proofs.Common.{◌∙◌, sym, ap, map, drop, get_or, option_map, ◌+◌, arith}
use Rattle.cxx_core.specs.ProgramView.{class_core, word_core}
use Rattle.fault_watch.specs.PartWords.{shown, first_of}
use Rattle.fault_watch.proofs.PartWords.{is-first, isnt-first, kept, next-word, nothing}
use Rattle.fault_watch.proofs.part_words.word_but_counter.Goals as goal

pub returns-then-is_word : goal.returns-then-is_word
returns-then-is_word c =
    let s = c.args.setting.now in
    let class = class_core c.args.class.now in
    let words = c.as_slice-words.result.now in
    let i = c.loop-word.word-index in
    ap (option_map shown)
    (sym (sym c.loop-word.invariant
    ∙ ap (λ ws. first_of s c.args.number c.args.at (kept s c.args.number class c.args.at ws)) (next-word words i (omega arith))
    ∙ is-first s c.args.number class c.args.at (word_core (get_or words i nothing)) (map word_core (drop (i + 1) words)) (sym c.is_word.ensures ∙ c.if-is_word.true)))

pub loop-word-preserved : goal.loop-word-preserved
loop-word-preserved c =
    let s = c.args.setting.now in
    let class = class_core c.args.class.now in
    let words = c.as_slice-words.result.now in
    let i = c.loop-word.word-index in
    isnt-first s c.args.number class c.args.at (word_core (get_or words i nothing)) (map word_core (drop (i + 1) words)) (sym c.is_word.ensures ∙ c.if-is_word.false)
    ∙ ap (λ ws. first_of s c.args.number c.args.at (kept s c.args.number class c.args.at ws)) (sym (next-word words i (omega arith)))
    ∙ c.loop-word.invariant
