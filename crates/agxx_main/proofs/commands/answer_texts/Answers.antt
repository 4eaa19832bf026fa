use Rattle.std.proofs.Common.{◌≡◌, ◌∙◌, ap, ap₂, sym, subst, map, length}
use Rattle.std.specs.List.{All}
use Rattle.agxx_main.specs.CallAnswers.{HasFiles, sheets_of}
use Rattle.agxx_main.specs.Replies.{seen}
use Rattle.agxx_main.proofs.Weavings.{IsShort, sheets-counted, sheets-short, seen-counted}
use Rattle.agxx_main.proofs.commands.answer_texts.Goals as goal

pub answer_sheets-requires-clause-files : goal.answer_sheets-requires-clause-files
answer_sheets-requires-clause-files c =
    let s : map seen c.as_slice-3.result.now ≡ sheets_of c.args.call.now.files c.args.texts.now = ap (map seen) c.as_slice-3.ensures.value ∙ (c.in_ok-sheets.ensures ∙ ap₂ sheets_of c.as_slice.ensures c.as_slice-2.ensures) in
    let n : length c.as_slice-3.result.now ≡ length c.args.call.now.files = seen-counted c.as_slice-3.result.now (sheets_of c.args.call.now.files c.args.texts.now) s ∙ sheets-counted c.args.call.now.files c.args.texts.now c.requires.texts in
    subst (HasFiles c.args.call.now.command) (sym n) c.requires.files

pub answer_sheets-requires-clause-within : goal.answer_sheets-requires-clause-within
answer_sheets-requires-clause-within c =
    let s : map seen c.as_slice-3.result.now ≡ sheets_of c.args.call.now.files c.args.texts.now = ap (map seen) c.as_slice-3.ensures.value ∙ (c.in_ok-sheets.ensures ∙ ap₂ sheets_of c.as_slice.ensures c.as_slice-2.ensures) in
    subst (All IsShort) (sym s) (sheets-short c.args.call.now.files c.args.texts.now c.requires.within)
