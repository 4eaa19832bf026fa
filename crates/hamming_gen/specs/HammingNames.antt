-- The names that are generated for a part, their texts, and the part's words with the names of their locals.
use Rattle.std.specs.Prelude.{ℕ, suc, ◌^◌, List, [], ◌∷◌, ◌++◌, map, length, codes}
use Rattle.std.specs.Fmt.{decimal}
use Rattle.std.specs.List.{range_with_len}
use Rattle.agxx_base.specs.declared.ids.NameId.{NameId}
use Rattle.cxx_tree.specs.declared.program.Member.{Member}
use Rattle.cxx_make.specs.Generated.{text_of, named, named_after, numbered}
use Rattle.codec.specs.declared.part.Part.{Part}
use Rattle.hamming_gen.specs.Positions.{check_words, next_position}
use Rattle.hamming_gen.specs.declared.words.MemberWord.{MemberWord}
use Rattle.hamming_gen.specs.declared.words.CheckWord.{CheckWord}
use Rattle.hamming_gen.specs.declared.words.PartWords.{PartWords}

-- ---- texts

-- what stands before the class's name in that of the check word of this number
abbrev pub check_beginning : ℕ → List ℕ
check_beginning j = codes "__gop_h_" ++ (decimal j ++ codes "_")

abbrev pub check_text : List ℕ → ℕ → List ℕ
check_text class j = check_beginning j ++ class

-- those of so many check words
abbrev pub check_texts : List ℕ → ℕ → List (List ℕ)
check_texts class r = map (check_text class) (range_with_len 0 r)

abbrev pub parity_text : List ℕ → List ℕ
parity_text class = codes "__gop_p_" ++ class

-- a beginning with each number from this one on, so many
abbrev pub numbered_texts : List ℕ → ℕ → ℕ → List (List ℕ)
numbered_texts beginning i n = map (λ k. beginning ++ decimal k) (range_with_len i n)

-- the texts of the words that are added to k members
abbrev pub added_texts : List ℕ → ℕ → List (List ℕ)
added_texts class k = check_texts class (check_words k) ++ parity_text class ∷ []

-- the texts of the locals for sums, with k members and r check words
abbrev pub sum_texts : ℕ → ℕ → List (List ℕ)
sum_texts k r =
    numbered_texts (codes "__gop_x_") 1 k
    ++ (numbered_texts (codes "__gop_s_") 0 r
    ++ codes "__gop_q" ∷ codes "__gop_y" ∷ [])

-- the texts of the locals for faults
abbrev pub fault_texts : ℕ → ℕ → List (List ℕ)
fault_texts k r =
    numbered_texts (codes "__gop_e_") 1 k ++ (numbered_texts (codes "__gop_f_") 0 r ++ codes "__gop_b" ∷ [])

-- the texts of all locals for k members
abbrev pub local_texts : ℕ → List (List ℕ)
local_texts k = sum_texts k (check_words k) ++ fault_texts k (check_words k)

abbrev pub part_texts : List (List ℕ) → Part → List (List ℕ)
part_texts names p = added_texts (text_of names p.class.item) (length p.members) ++ local_texts (length p.members)

-- ---- names

module _ (names : List (List ℕ)) where
  abbrev pub check_name : NameId → ℕ → NameId
  check_name class j = named_after names (check_beginning j) class

  abbrev pub parity_name : NameId → NameId
  parity_name class = named_after names (codes "__gop_p_") class

  -- the member of this number, counted from 1, at this position
  abbrev pub member_word : ℕ → ℕ → Member → MemberWord
  member_word i p m = record {
    member = m;
    position = p;
    word = numbered names (codes "__gop_x_") i;
    fault = numbered names (codes "__gop_e_") i;
  }

  -- members from this number on, at this position and the next ones
  abbrev pub member_words : ℕ → ℕ → List Member → List MemberWord
  member_words i p [] = []
  member_words i p (m ∷ ms) = member_word i p m ∷ member_words (suc i) (next_position p) ms

  -- the check word of this number, counted from 0
  abbrev pub check_word : NameId → ℕ → CheckWord
  check_word class j = record {
    name = check_name class j;
    position = 2 ^ j;
    sum = numbered names (codes "__gop_s_") j;
    fault = numbered names (codes "__gop_f_") j;
  }

  abbrev pub part_words : Part → PartWords
  part_words p = record {
    members = member_words 1 3 p.members;
    checks = map (check_word p.class.item) (range_with_len 0 (check_words (length p.members)));
    parity = parity_name p.class.item;
    total = named names (codes "__gop_q");
    uneven = named names (codes "__gop_y");
    beyond = named names (codes "__gop_b");
  }
