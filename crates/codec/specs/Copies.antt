-- Two copies of each member: a bit is what at least two of three words have.
use Rattle.std.specs.Prelude.{ℕ, zero, suc, ◌+◌, ◌*◌, ◌^◌, ◌≡◌, ◌<◌, ◌⊎◌, bit_and, bit_or, bit_xor, false, List, [], ◌∷◌, ◌++◌, map, length, take, drop, codes, slice_get, slice_set, Some}
use Rattle.std.specs.Fmt.{decimal}
use Rattle.agxx_base.specs.declared.ids.NameId.{NameId}
use Rattle.cxx_arith.specs.Kinds.{width}
use Rattle.cxx_tree.specs.declared.operator.BinOp.TheVariants as op
use Rattle.cxx_tree.specs.declared.program.Member.{Member}
use Rattle.cxx_tree.specs.declared.program.TypeName.TheVariants as type_of
use Rattle.cxx_tree.specs.ExprTree.{ExprTree}
use Rattle.cxx_tree.specs.StmtTree.{StmtTree}
use Rattle.cxx_make.specs.Generated.{named_after, numbered}
use Rattle.cxx_make.specs.Made as made
use Rattle.codec.specs.Part.{unsigned_of, place_of}
use Rattle.codec.specs.Codes.{Code}
use Rattle.agxx_base.specs.declared.place.Place.{Place}

-- ---- what they mean

-- at each bit place what at least two of the numbers have there
abbrev pub majority : ℕ → ℕ → ℕ → ℕ
majority a b c = bit_or (bit_or (bit_and a b) (bit_and a c)) (bit_and b c)

abbrev pub majorities : List ℕ → List ℕ → List ℕ → List ℕ
majorities [] bs cs = []
majorities (a ∷ more) [] cs = []
majorities (a ∷ more) (b ∷ bs) [] = []
majorities (a ∷ more) (b ∷ bs) (c ∷ cs) = majority a b c ∷ majorities more bs cs

abbrev pub thrice : List ℕ → List ℕ
thrice v = v ++ (v ++ v)

-- of the words of k members: the members, the first copies and the second ones
abbrev pub voted : ℕ → List ℕ → List ℕ
voted k words = majorities (take k words) (take k (drop k words)) (drop (k + k) words)

-- one bit within the width of its word is inverted
pub record IsFlipped (widths : List ℕ) (before after : List ℕ) : Type 0 where
  pub word : ℕ
  pub bit : ℕ
  pub width : ℕ
  pub value : ℕ
  pub width_is : slice_get widths word ≡ Some width
  pub within : bit < width
  pub value_is : slice_get before word ≡ Some value
  pub after_is : after ≡ slice_set before word (bit_xor value (2 ^ bit))

-- at most one bit is inverted
abbrev pub IsSingle : List ℕ → List ℕ → List ℕ → Type 0
IsSingle widths before after = (after ≡ before) ⊎ IsFlipped widths before after

-- ---- what is generated

-- `(U(m) & copy)`
abbrev pub agreed : Place → Member → NameId → ExprTree
agreed at m copy =
    made.paren at (made.binary at op.BitAnd (made.cast at (unsigned_of m) (made.variable at m.name.item)) (made.variable at copy))

module _ (names : List (List ℕ)) where
  abbrev pub first_copy : Member → NameId
  first_copy m = named_after names (codes "__gop_c1_") m.name.item

  abbrev pub second_copy : Member → NameId
  second_copy m = named_after names (codes "__gop_c2_") m.name.item

  -- the local in which the value of the member of this number, counted from 1, is put
  abbrev pub vote : ℕ → NameId
  vote i = numbered names (codes "__gop_m_") i

  module _ (at : Place) where
    abbrev pub first_member : Member → Member
    first_member m = made.member at (type_of.Num (unsigned_of m)) (first_copy m)

    abbrev pub second_member : Member → Member
    second_member m = made.member at (type_of.Num (unsigned_of m)) (second_copy m)

    -- `(first & second)`
    abbrev pub copies_agreed : Member → ExprTree
    copies_agreed m = made.paren at (made.binary at op.BitAnd (made.variable at (first_copy m)) (made.variable at (second_copy m)))

    abbrev pub vote_of : Member → ExprTree
    vote_of m =
        made.binary at op.BitOr (made.binary at op.BitOr (agreed at m (first_copy m)) (agreed at m (second_copy m))) (copies_agreed m)

    abbrev pub vote_local : ℕ → Member → StmtTree
    vote_local i m = made.local at (type_of.Num (unsigned_of m)) (vote i) (vote_of m)

    -- the words of a member take the value of a local
    abbrev pub take_vote : NameId → Member → List StmtTree
    take_vote local m =
        made.assign at m.name.item (made.variable at local)
        ∷ made.assign at (first_copy m) (made.variable at local)
        ∷ made.assign at (second_copy m) (made.variable at local)
        ∷ []

    abbrev pub repair_member : ℕ → Member → List StmtTree
    repair_member i m = vote_local i m ∷ take_vote (vote i) m

    -- members from this number on
    abbrev pub repair_from : ℕ → List Member → List StmtTree
    repair_from i [] = []
    repair_from i (m ∷ ms) = repair_member i m ++ repair_from (suc i) ms

    abbrev pub renew_member : Member → List StmtTree
    renew_member m =
        made.assign at (first_copy m) (made.variable at m.name.item)
        ∷ made.assign at (second_copy m) (made.variable at m.name.item)
        ∷ []

    abbrev pub renew_each : List Member → List StmtTree
    renew_each [] = []
    renew_each (m ∷ ms) = renew_member m ++ renew_each ms

-- the texts of the locals from this number on, so many
abbrev pub vote_texts : ℕ → ℕ → List (List ℕ)
vote_texts i zero = []
vote_texts i (suc k) = (codes "__gop_m_" ++ decimal i) ∷ vote_texts (suc i) k

abbrev pub copies : Code
copies = record {
  encoded = λ kinds v. thrice v;
  repaired = λ kinds words. thrice (voted (length kinds) words);
  beyond = λ kinds words. false;
  IsDamage = λ kinds before after. IsSingle (map width (kinds ++ (kinds ++ kinds))) before after;
  extra_words = λ k. 2 * k;
  kinds = λ kinds. kinds ++ (kinds ++ kinds);
  extra_texts = λ class members. map (λ m. codes "__gop_c1_" ++ m) members ++ map (λ m. codes "__gop_c2_" ++ m) members;
  local_texts = λ k. vote_texts 1 k;
  members = λ names p. map (first_member names (place_of p)) p.members ++ map (second_member names (place_of p)) p.members;
  repair = λ names p. repair_from names (place_of p) 1 p.members;
  renew = λ names p. renew_each names (place_of p) p.members;
}
