use Rattle.cxx_normal.specs.Labels.{first_access}
use Rattle.cxx_normal.proofs.Relabelled.{access-relabelled}
use Rattle.cxx_normal.proofs.laws.labels_keep_access.Goals as goal

pub returns : goal.returns
returns c = λ class. access-relabelled class.at (first_access class.word) (first_access class.word) class.items
