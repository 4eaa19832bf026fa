-- Numbers given anew change nothing else.
use Rattle.std.proofs.Common.{refl}
use Rattle.cxx_tree.specs.Blank.{blanks}
use Rattle.cxx_tree.proofs.Unseen.{program-unseen}
use Rattle.cxx_normal.specs.Numbers.{number_node}
use Rattle.cxx_normal.specs.Normal.{NumberingChangesNumbers}

pub program-alike : NumberingChangesNumbers
program-alike q = program-unseen number_node blanks (λ n k. refl) q 0
