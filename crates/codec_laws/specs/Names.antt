-- Names that are generated for a part are names of nothing else there.
use Rattle.std.specs.Prelude.{◌≡◌, ◌≢◌, ℕ, ◌*◌, ◌^◌, ◌<◌, false, List, ◌++◌, map, length, drop, codes}
use Rattle.std.specs.List.{All}
use Rattle.agxx_base.specs.Names.{IsDistinct}
use Rattle.agxx_base.specs.declared.kind.NumKind.{NumKind}
use Rattle.cxx_arith.specs.Kinds.{is_signed}
use Rattle.cxx_tree.specs.declared.program.Member.{Member}
use Rattle.cxx_tree.specs.declared.program.TypeName.{TypeName}
use Rattle.cxx_tree.specs.declared.program.TypeName.TheVariants as type_of
use Rattle.cxx_make.specs.Generated.{named, text_of}
use Rattle.codec.specs.declared.part.Part.{Part}
use Rattle.codec.specs.Part.{unsigned_of, member_names, member_texts}
use Rattle.codec.specs.Codes.{Code}
use Rattle.codec.specs.Copies.{copies}
use Rattle.entry_count.specs.PartCode.{part_texts}

-- a text that protection gives, and one that a program may have
abbrev pub IsGenerated : List ℕ → Type 0
IsGenerated text = (rest : List ℕ) × (text ≡ codes "__gop_" ++ rest)

abbrev pub IsPlain : List ℕ → Type 0
IsPlain text = (rest : List ℕ) → text ≢ codes "__gop_" ++ rest

abbrev pub member_kinds : Part → List NumKind
member_kinds p = map unsigned_of p.members

abbrev pub types_of : List Member → List TypeName
types_of ms = map (λ (m : Member). m.type_name.item) ms

pub record NamesDiffer (code : Code) : Type 0 where
  -- the texts of the names that are generated for a part
  pub generated : (class : List ℕ) (members : List (List ℕ))
      → All IsGenerated (code.extra_texts class members ++ (code.local_texts (length members) ++ part_texts class))
  -- no two are the same, and none is a member's, where those are a program's and differ
  pub distinct : (class : List ℕ) (members : List (List ℕ)) → length members < 2 ^ 32 → IsDistinct members
      → All IsPlain members
      → IsDistinct (members ++ (code.extra_texts class members ++
      (code.local_texts (length members) ++ part_texts class)))
  -- the members that are generated have these names, and the kinds of the added words, which have no sign
  pub names : (texts : List (List ℕ)) (p : Part)
      → member_names (code.members texts p) ≡ map (named texts)
      (code.extra_texts (text_of texts p.class.item) (member_texts texts p))
  pub kinds : (texts : List (List ℕ)) (p : Part)
      → types_of (code.members texts p) ≡ map type_of.Num (drop (length p.members) (code.kinds (member_kinds p)))
  pub unsigned : (p : Part) → All (λ k. is_signed k ≡ false) (code.kinds (member_kinds p))
  pub count : (texts : List (List ℕ)) (p : Part) → length (code.members texts p) ≡ code.extra_words (length p.members)

pub record CopiesNamesDiffer : Type 0 where
  pub two : (k : ℕ) → copies.extra_words k ≡ 2 * k
  pub differ : NamesDiffer copies
