-- The blocks of a part with check words name nothing but the words of their part, so what is said of blocks among other
-- threads is said of them.
use Rattle.agxx_base.specs.declared.ids.ClassId.{ClassId}
use Rattle.agxx_base.specs.declared.place.Place.{Place}
use Rattle.codec_laws.specs.OfPart.{PartStmts, IsWord}
use Rattle.hamming_blocks.specs.Blocks.{CheckedPart, part_words, repair_block, renew_block}

pub record HammingIsOfPart : Type 0 where
  pub repair : (at : Place) (class : ClassId) (p : CheckedPart)
      → PartStmts (IsWord class (part_words p)) (repair_block at class p)
  pub renew : (at : Place) (class : ClassId) (p : CheckedPart)
      → PartStmts (IsWord class (part_words p)) (renew_block at class p)
