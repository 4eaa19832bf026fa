use Rattle.cxx_tree.proofs.Mapped.{program-kept, program-composed}
use Rattle.cxx_tree.proofs.Tokens.{spell_program-same}
use Rattle.cxx_tree.proofs.laws.maps_compose.Goals as goal

pub returns : goal.returns
returns c = record {
  identity = program-kept;
  composition = program-composed;
  tokens = λ special m q. spell_program-same m special q;
}
