-- The statements that are generated for a part with check words, in a function of the class, are the blocks in core
-- form.
use Rattle.std.specs.Prelude.{◌≡◌, ◌≢◌, ℕ, ◌<◌, List, [], map, length}
use Rattle.std.specs.List.{All}
use Rattle.agxx_base.specs.declared.ids.ClassId.{ClassId}
use Rattle.cxx_tree.specs.StmtTree.{listed_stmts}
use Rattle.cxx_core.specs.CoreProgram.{CoreWord}
use Rattle.cxx_core.specs.Meanings.{Within}
use Rattle.cxx_core.specs.ElaboratedStmt.{core_stmts}
use Rattle.codec.specs.declared.part.Part.{Part}
use Rattle.codec.specs.Part.{place_of}
use Rattle.hamming_gen.specs.HammingNames as gen
use Rattle.hamming_gen.specs.HammingTrees.{part_repair, part_renew}
use Rattle.hamming_gen.specs.declared.words.MemberWord.{MemberWord}
use Rattle.hamming_gen.specs.declared.words.CheckWord.{CheckWord}
use Rattle.hamming_gen.specs.declared.words.PartWords.{PartWords}
use Rattle.codec_laws.specs.Elaboration.{number_kind_of, IsMember}
use Rattle.hamming_blocks.specs.Blocks.{CheckedMember, Check, CheckedPart, part_words, local_names, AllDiffer, repair_block, renew_block}
use Rattle.hamming_blocks.specs.BlockRuns.{IsPart}

abbrev pub member_of : MemberWord → CheckedMember
member_of m = record {
  member = record { name = m.member.name.item.0; kind = number_kind_of m.member.type_name.item };
  position = m.position;
  word = m.word.0;
  fault = m.fault.0;
}

abbrev pub check_of : CheckWord → Check
check_of c = record { name = c.name.0; position = c.position; sum = c.sum.0; fault = c.fault.0 }

abbrev pub part_of : PartWords → CheckedPart
part_of w = record {
  members = map member_of w.members;
  checks = map check_of w.checks;
  parity = w.parity.0;
  total = w.total.0;
  uneven = w.uneven.0;
  beyond = w.beyond.0;
}

-- a part with the names that are generated for it
abbrev pub named_part : List (List ℕ) → Part → CheckedPart
named_part names p = part_of (gen.part_words names p)

-- each name means its member, the locals differ, and none has the name of a word
pub record AreFound (w : Within) (p : Part) (class : ClassId) (part : CheckedPart) : Type 0 where
  pub words : All (IsMember w (place_of p) class) (part_words part)
  pub locals : AllDiffer (local_names part)
  pub apart : All (λ name. All (λ (word : CoreWord). word.name ≢ name) (part_words part)) (local_names part)

pub record HammingElaborates : Type 0 where
  pub repair : (names : List (List ℕ)) (w : Within) (class : ClassId) (p : Part) → 0 < length p.members
      → AreFound w p class (named_part names p)
      → core_stmts w [] (listed_stmts (part_repair names p)) ≡ repair_block (place_of p) class (named_part names p)
  pub renew : (names : List (List ℕ)) (w : Within) (class : ClassId) (p : Part)
      → AreFound w p class (named_part names p)
      → core_stmts w [] (listed_stmts (part_renew names p)) ≡ renew_block (place_of p) class (named_part names p)
  -- the words stand where they do in a part whose locals differ
  pub part : (names : List (List ℕ)) (p : Part) → AllDiffer (local_names (named_part names p))
      → IsPart (named_part names p)
