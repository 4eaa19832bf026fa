use Rattle.std.proofs.Common.{length}
use Rattle.agxx_main.proofs.sheet.+add_sheets.Given as goal

abbrev pub decreases-add_sheets : goal.decreases-add_sheets
decreases-add_sheets l = length l.files.now
