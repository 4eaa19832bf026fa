use Rattle.std.proofs.Common.{◌≡◌, ◌∙◌}
use Rattle.agxx_base.proofs.Readings.{read-on, shown-at}
use Rattle.agxx_base.specs.Cursor.{bytes_at}
use Rattle.agxx_base.proofs.memory_files.give.Goals as goal

pub returns-clause-left : goal.returns-clause-left
returns-clause-left c =
    let inside = rw c.in-Some.is at c.requires in
    let shown : c.bytes-bytes.result.now ≡ bytes_at c.args.files.now c.in-Some.cursor.file = c.bytes-bytes.ensures ∙ shown-at _ _ _ inside.0 c.index-files-cursor.is in
    rw c.in-Some.is (read-on c.in-Some.cursor.read c.fill-2.new.self.len (bytes_at c.args.files.now c.in-Some.cursor.file) c.bytes-bytes.result.now shown c.fill-2.ensures.len)
