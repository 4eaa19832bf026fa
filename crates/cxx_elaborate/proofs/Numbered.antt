-- Functions that are put behind others with their numbers.
use Rattle.std.proofs.Common.{◌≡◌, refl, List, map}
use Rattle.std.specs.Prelude.{Option}
use Rattle.agxx_base.specs.declared.ids.NameId.{NameId}
use Rattle.cxx_tree.specs.declared.node.Placed.{Placed}
use Rattle.cxx_tree.specs.declared.program.Item.{Item}
use Rattle.cxx_tree.specs.ProgramTree.{item_tree}
use Rattle.cxx_core.specs.CoreProgram.{CoreFunction}
use Rattle.cxx_core.specs.Meanings.{Within}
use Rattle.cxx_core.specs.ElaboratedProgram.{items_functions}
use Rattle.cxx_elaborate.specs.Added.{followed, Adds}

pub adds_nothing : (functions : List CoreFunction) → Adds functions functions (λ rest. rest)
adds_nothing functions = record { each = λ rest. refl }

-- with what follows, what is added so far and what the items that are left add is what all add
pub record ItemsLeft (w : Within) (base : Option (Placed NameId)) (first so_far : List CoreFunction) (left all : List Item) : Type 0 where
  pub each : (rest : List CoreFunction) → followed so_far (items_functions w base (map item_tree left) rest) ≡ followed first (items_functions w base (map item_tree all) rest)
