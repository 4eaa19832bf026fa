-- The core forms of the examples are as written out.
use Rattle.std.proofs.Common.{refl}
use Rattle.cxx_core.specs.Examples.{ExamplesElaborate}
use Rattle.core_laws.specs.WiderExample.{WiderExampleElaborates}

pub elaborated : ExamplesElaborate
elaborated = record { of_shadowing = refl; of_objects = refl }

pub wider_elaborated : WiderExampleElaborates
wider_elaborated = refl
