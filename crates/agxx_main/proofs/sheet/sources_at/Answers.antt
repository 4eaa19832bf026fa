use Rattle.agxx_main.proofs.Weavings.{sources-are}
use Rattle.agxx_main.proofs.sheet.sources_at.Goals as goal

pub returns : goal.returns
returns c = sources-are c.args.sheets.now c.args.index c.index-sheets-index.result _ c.requires c.index-sheets-index.is
