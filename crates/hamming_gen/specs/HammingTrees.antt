-- The trees that are generated for a part with check words and a parity word.
use Rattle.std.specs.Prelude.{ℕ, Bool, not, nat_eq, bit_and, Option, Some, None, List, [], ◌∷◌, ◌++◌, map, length, if◌then◌else◌}
use Rattle.std.specs.List.{range_with_len}
use Rattle.agxx_base.specs.declared.ids.NameId.{NameId}
use Rattle.agxx_base.specs.declared.kind.NumKind.{NumKind}
use Rattle.agxx_base.specs.declared.kind.NumKind.TheVariants as kind
use Rattle.agxx_base.specs.declared.place.Place.{Place}
use Rattle.cxx_tree.specs.declared.operator.BinOp.{BinOp}
use Rattle.cxx_tree.specs.declared.operator.BinOp.TheVariants as op
use Rattle.cxx_tree.specs.declared.operator.UnOp.TheVariants as un
use Rattle.cxx_tree.specs.declared.program.Member.{Member}
use Rattle.cxx_tree.specs.declared.program.TypeName.TheVariants as type_of
use Rattle.cxx_tree.specs.ExprTree.{ExprTree}
use Rattle.cxx_tree.specs.StmtTree as s
use Rattle.cxx_tree.specs.StmtTree.{StmtTree}
use Rattle.cxx_make.specs.Made as made
use Rattle.codec.specs.declared.part.Part.{Part}
use Rattle.codec.specs.Part.{unsigned_of, place_of}
use Rattle.hamming_gen.specs.Positions.{check_words}
use Rattle.hamming_gen.specs.HammingNames.{check_name, parity_name, part_words}
use Rattle.hamming_gen.specs.declared.words.MemberWord.{MemberWord}
use Rattle.hamming_gen.specs.declared.words.CheckWord.{CheckWord}
use Rattle.hamming_gen.specs.declared.words.PartWords.{PartWords}

-- whether the check word at a power of two covers this position
abbrev pub covers : ℕ → ℕ → Bool
covers power position = not (nat_eq (bit_and position power) 0)

-- the words of the members that a check word covers
abbrev pub covered : ℕ → List MemberWord → List NameId
covered power [] = []
covered power (m ∷ ms) = if covers power m.position then m.word ∷ covered power ms else covered power ms

-- ---- lists of names

abbrev pub check_names : List CheckWord → List NameId
check_names cs = map (λ (c : CheckWord). c.name) cs

abbrev pub sum_names : List CheckWord → List NameId
sum_names cs = map (λ (c : CheckWord). c.sum) cs

-- all words but the parity
abbrev pub word_names : List CheckWord → List MemberWord → List NameId
word_names cs ms = check_names cs ++ map (λ (m : MemberWord). m.word) ms

-- all locals for faults
abbrev pub fault_names : List CheckWord → List MemberWord → List NameId
fault_names cs ms = map (λ (m : MemberWord). m.fault) ms ++ map (λ (c : CheckWord). c.fault) cs

-- the mask of a member's width, where that isn't 64
abbrev pub mask_of : NumKind → Option ℕ
mask_of kind.Bool = None
mask_of kind.I8 = None
mask_of kind.U8 = Some 255
mask_of kind.I16 = None
mask_of kind.U16 = Some 65535
mask_of kind.I32 = None
mask_of kind.U32 = Some 4294967295
mask_of kind.I64 = None
mask_of kind.U64 = None

module _ (at : Place) where
  -- ---- the words that are added

  abbrev pub word_member : NameId → Member
  word_member name = made.member at (type_of.Num kind.U64) name

  -- the members for so many check words, and for the parity
  abbrev pub added_members : List (List ℕ) → NameId → ℕ → List Member
  added_members names class r =
      map (λ j. word_member (check_name names class j)) (range_with_len 0 r)
      ++ word_member (parity_name names class) ∷ []

  -- ---- expressions

  -- `first op name op ..`
  abbrev pub joined : BinOp → ExprTree → List NameId → ExprTree
  joined o first [] = first
  joined o first (name ∷ names) = joined o (made.binary at o first (made.variable at name)) names

  -- `name op name op ..`, or 0 where there is no name
  abbrev pub all_joined : BinOp → List NameId → ExprTree
  all_joined o [] = made.number at kind.U64 0
  all_joined o (name ∷ names) = joined o (made.variable at name) names

  -- `~name`
  abbrev pub inverted : NameId → ExprTree
  inverted name = made.unary at un.Complement (made.variable at name)

  -- the sum of a check word where it covers a position, else the inverted sum
  abbrev pub agreeing : ℕ → CheckWord → ExprTree
  agreeing position c = if covers c.position position then made.variable at c.sum else inverted c.sum

  -- `first & sum & ~sum & ..`, by which of them cover a position
  abbrev pub matched : ExprTree → ℕ → List CheckWord → ExprTree
  matched first position [] = first
  matched first position (c ∷ cs) = matched (made.binary at op.BitAnd first (agreeing position c)) position cs

  -- `value & mask`
  abbrev pub masked : Option ℕ → ExprTree → ExprTree
  masked None value = value
  masked (Some mask) value = made.binary at op.BitAnd value (made.number at kind.U64 mask)

  -- `uint64_t(U(m))`
  abbrev pub extended : Member → ExprTree
  extended m = made.cast at kind.U64 (made.cast at (unsigned_of m) (made.variable at m.name.item))

  -- `one ^ other`
  abbrev pub differing : NameId → NameId → ExprTree
  differing one other = made.binary at op.BitXor (made.variable at one) (made.variable at other)

  -- ---- statements

  -- `uint64_t name = value;`
  abbrev pub word_local : NameId → ExprTree → StmtTree
  word_local name value = made.local at (type_of.Num kind.U64) name value

  abbrev pub extend : MemberWord → StmtTree
  extend m = word_local m.word (extended m.member)

  abbrev pub mend_member : MemberWord → StmtTree
  mend_member m = made.assign at m.member.name.item (differing m.word m.fault)

  abbrev pub mend_check : CheckWord → StmtTree
  mend_check c = made.assign at c.name (differing c.name c.fault)

  -- `std::abort();`
  abbrev pub stopped : List StmtTree
  stopped = s.abort at ∷ []

  module _ (words : PartWords) where
    -- the sum of a check word and the members that it covers
    abbrev pub sum_local : CheckWord → StmtTree
    sum_local c = word_local c.sum (joined op.BitXor (made.variable at c.name) (covered c.position words.members))

    -- the sum of all words
    abbrev pub total_local : StmtTree
    total_local =
        word_local words.total
        (joined op.BitXor (made.variable at words.parity) (word_names words.checks words.members))

    -- the bit places where some sum isn't 0
    abbrev pub uneven_local : StmtTree
    uneven_local = word_local words.uneven (all_joined op.BitOr (sum_names words.checks))

    -- the bit places where the word at this position is to be inverted
    abbrev pub fault_at : ℕ → ExprTree
    fault_at position = matched (made.variable at words.total) position words.checks

    abbrev pub member_fault : MemberWord → StmtTree
    member_fault m = word_local m.fault (masked (mask_of (unsigned_of m.member)) (fault_at m.position))

    abbrev pub check_fault : CheckWord → StmtTree
    check_fault c = word_local c.fault (fault_at c.position)

    -- the bit places that can't be repaired
    abbrev pub beyond_local : StmtTree
    beyond_local =
        word_local words.beyond (made.binary at op.BitAnd (made.variable at words.uneven)
        (made.unary at un.Complement (made.paren at (all_joined op.BitOr (fault_names words.checks words.members)))))

    -- where there is such a bit place, the program stops
    abbrev pub stop_beyond : StmtTree
    stop_beyond =
        made.when at (made.binary at op.NotEqual (made.variable at words.beyond) (made.number at kind.U64 0)) stopped

    abbrev pub mend_parity : StmtTree
    mend_parity =
        made.assign at words.parity (made.binary at op.BitXor (made.variable at words.parity)
        (made.paren at (made.binary at op.BitAnd (made.variable at words.total) (inverted words.uneven))))

    abbrev pub sum_locals : List StmtTree
    sum_locals = map extend words.members ++ (map sum_local words.checks ++ total_local ∷ uneven_local ∷ [])

    abbrev pub fault_locals : List StmtTree
    fault_locals =
        map member_fault words.members ++ (map check_fault words.checks ++ beyond_local ∷ stop_beyond ∷ [])

    abbrev pub mends : List StmtTree
    mends = map mend_member words.members ++ (map mend_check words.checks ++ mend_parity ∷ [])

    abbrev pub repair_words : List StmtTree
    repair_words = sum_locals ++ (fault_locals ++ mends)

    -- a check word takes the sum of the members that it covers
    abbrev pub renew_check : CheckWord → StmtTree
    renew_check c = made.assign at c.name (all_joined op.BitXor (covered c.position words.members))

    -- the parity takes the sum of all other words
    abbrev pub renew_parity : StmtTree
    renew_parity = made.assign at words.parity (all_joined op.BitXor (word_names words.checks words.members))

    abbrev pub renew_words : List StmtTree
    renew_words = map extend words.members ++ (map renew_check words.checks ++ renew_parity ∷ [])

-- ---- of a part

abbrev pub part_members : List (List ℕ) → Part → List Member
part_members names p = added_members (place_of p) names p.class.item (check_words (length p.members))

abbrev pub part_repair : List (List ℕ) → Part → List StmtTree
part_repair names p = repair_words (place_of p) (part_words names p)

abbrev pub part_renew : List (List ℕ) → Part → List StmtTree
part_renew names p = renew_words (place_of p) (part_words names p)
