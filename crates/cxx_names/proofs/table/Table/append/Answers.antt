use Rattle.std.proofs.Common.{rules, ◌≡◌}
use Rattle.indexmap.proofs.CallerLemmas.{insert_entry-new}
use Rattle.cxx_names.proofs.table.Table.append.Goals as goal

-- src/table.rt:63:5
pub returns : goal.returns
returns g c = search (rules, insert_entry-new)
