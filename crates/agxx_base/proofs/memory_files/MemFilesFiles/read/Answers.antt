use Rattle.std.proofs.Common.{ap}
use Rattle.agxx_base.specs.MemFiles.{FilesState}
use Rattle.agxx_base.proofs.Readings.{reads-told}
use Rattle.agxx_base.proofs.memory_files.MemFilesFiles.read.Goals as goal

pub returns-clause-next : goal.returns-clause-next
returns-clause-next c =
    reads-told _ _ _ _ _ (ap (λ (m : FilesState). m.left) c.self.view_is) (rw c.deref.ensures.value at c.give.ensures.bytes) (rw c.deref.ensures.value at c.give.ensures.len) (rw c.deref.ensures.value at c.give.ensures.left)
