-- The blocks that repair and renew a part with check words, in core form.
use Rattle.std.specs.Prelude.{◌≢◌, ℕ, Option, Some, None, List, [], ◌∷◌, ◌++◌, map, AllPairs, if◌then◌else◌}
use Rattle.agxx_base.specs.declared.ids.ClassId.{ClassId}
use Rattle.agxx_base.specs.declared.kind.NumKind.{NumKind}
use Rattle.agxx_base.specs.declared.kind.NumKind.TheVariants as num
use Rattle.agxx_base.specs.declared.place.Place.{Place}
use Rattle.cxx_tree.specs.declared.operator.BinOp.{BinOp}
use Rattle.cxx_tree.specs.declared.operator.BinOp.TheVariants as op
use Rattle.cxx_tree.specs.declared.operator.UnOp.TheVariants as un
use Rattle.cxx_names.specs.declared.types.ValueType.{ValueType}
use Rattle.cxx_names.specs.declared.types.ValueType.TheVariants as type
use Rattle.cxx_core.specs.CoreExpr as c
use Rattle.cxx_core.specs.CoreExpr.{CoreExpr}
use Rattle.cxx_core.specs.CoreStmt as cs
use Rattle.cxx_core.specs.CoreStmt.{CoreStmt, CoreStmts}
use Rattle.cxx_core.specs.CoreProgram.{CoreWord}
use Rattle.cxx_core.specs.StmtView.{listed_stmts}
use Rattle.codec.specs.Part.{unsigned_kind}
use Rattle.hamming_gen.specs.HammingTrees.{covers, mask_of}
use Rattle.codec_laws.specs.Blocks.{own_left, own}

-- ---- parts

-- a member, and the locals for its value in 64 bits and for which of its bits are to be inverted
pub record CheckedMember : Type 0 where
  pub member : CoreWord
  pub position : ℕ
  pub word : ℕ
  pub fault : ℕ

-- a check word, and the locals for its sum and for which of its bits are to be inverted
pub record Check : Type 0 where
  pub name : ℕ
  pub position : ℕ
  pub sum : ℕ
  pub fault : ℕ

-- a part, with the locals for the sum of all words, the bit places where some sum isn't 0, and those beyond repair
pub record CheckedPart : Type 0 where
  pub members : List CheckedMember
  pub checks : List Check
  pub parity : ℕ
  pub total : ℕ
  pub uneven : ℕ
  pub beyond : ℕ

abbrev pub kind_of : CheckedMember → NumKind
kind_of m = unsigned_kind m.member.kind

-- a word of 64 bits
abbrev pub word_of : ℕ → CoreWord
word_of name = record { name = name; kind = num.U64 }

abbrev pub check_of : Check → CoreWord
check_of c = word_of c.name

-- the words of a part: its members, the check words and the parity word
abbrev pub part_words : CheckedPart → List CoreWord
part_words p = map (λ (m : CheckedMember). m.member) p.members ++ (map check_of p.checks ++ word_of p.parity ∷ [])

-- the locals in the order of their declarations
abbrev pub local_names : CheckedPart → List ℕ
local_names p =
    map (λ (m : CheckedMember). m.word) p.members
    ++ (map (λ (c : Check). c.sum) p.checks
    ++ p.total ∷ p.uneven ∷ (map (λ (m : CheckedMember). m.fault) p.members
    ++ (map (λ (c : Check). c.fault) p.checks ++ p.beyond ∷ [])))

-- no two are the same
abbrev pub AllDiffer : List ℕ → Type 0
AllDiffer names = AllPairs (λ one other. one ≢ other) names

-- ---- expressions

abbrev pub word_type : ValueType
word_type = type.Number num.U64

abbrev pub number : ℕ → CoreExpr
number n = c.number (record { kind = num.U64; bits = n })

abbrev pub local : ℕ → CoreExpr
local name = c.read (c.variable (c.local name word_type))

module _ (at : Place) where
  abbrev pub both : BinOp → CoreExpr → CoreExpr → CoreExpr
  both o a b = c.binary at o word_type word_type a b

  abbrev pub inverted : CoreExpr → CoreExpr
  inverted a = c.unary at un.Complement word_type a

  -- `first op e op ..`
  abbrev pub joined : BinOp → CoreExpr → List CoreExpr → CoreExpr
  joined o first [] = first
  joined o first (e ∷ es) = joined o (both o first e) es

  -- `e op e op ..`, or 0 where there is none
  abbrev pub all_joined : BinOp → List CoreExpr → CoreExpr
  all_joined o [] = number 0
  all_joined o (e ∷ es) = joined o e es

  -- the words of the members that a check word covers
  abbrev pub covered : ℕ → List CheckedMember → List CoreExpr
  covered power [] = []
  covered power (m ∷ ms) = if covers power m.position then local m.word ∷ covered power ms else covered power ms

  -- the sum of a check word where it covers a position, else the inverted sum
  abbrev pub agreeing : ℕ → Check → CoreExpr
  agreeing position c = if covers c.position position then local c.sum else inverted (local c.sum)

  abbrev pub matched : CoreExpr → ℕ → List Check → CoreExpr
  matched first position [] = first
  matched first position (c ∷ cs) = matched (both op.BitAnd first (agreeing position c)) position cs

  abbrev pub masked : Option ℕ → CoreExpr → CoreExpr
  masked None value = value
  masked (Some mask) value = both op.BitAnd value (number mask)

  abbrev pub differing : CoreExpr → CoreExpr → CoreExpr
  differing one other = both op.BitXor one other

  -- ---- statements

  -- `uint64_t name = value;`
  abbrev pub word_local : ℕ → CoreExpr → CoreStmt
  word_local name value = cs.declare name word_type (Some (cs.value value))

  module _ (class : ClassId) where
    -- `uint64_t(U(m))`
    abbrev pub extended : CheckedMember → CoreExpr
    extended m =
        c.cast num.U64 (type.Number (kind_of m))
        (c.cast (kind_of m) (type.Number m.member.kind) (own at class m.member))

    abbrev pub extend : CheckedMember → CoreStmt
    extend m = word_local m.word (extended m)

    abbrev pub own_word : ℕ → CoreExpr
    own_word name = own at class (word_of name)

    abbrev pub assign : CoreWord → CoreExpr → CoreStmt
    assign w value = cs.assign (own_left at class w) value

    abbrev pub mend_member : CheckedMember → CoreStmt
    mend_member m = assign m.member (differing (local m.word) (local m.fault))

    abbrev pub mend_check : Check → CoreStmt
    mend_check c = assign (check_of c) (differing (own_word c.name) (local c.fault))

    module _ (p : CheckedPart) where
      -- all words but the parity
      abbrev pub all_words : List CoreExpr
      all_words =
          map (λ (c : Check). own_word c.name) p.checks ++ map (λ (m : CheckedMember). local m.word) p.members

      -- the sum of a check word and the members that it covers
      abbrev pub sum_local : Check → CoreStmt
      sum_local c = word_local c.sum (joined op.BitXor (own_word c.name) (covered c.position p.members))

      abbrev pub total_local : CoreStmt
      total_local = word_local p.total (joined op.BitXor (own_word p.parity) all_words)

      abbrev pub uneven_local : CoreStmt
      uneven_local =
          word_local p.uneven (all_joined op.BitOr (map (λ (c : Check). local c.sum) p.checks))

      -- the bit places where the word at this position is to be inverted
      abbrev pub fault_at : ℕ → CoreExpr
      fault_at position = matched (local p.total) position p.checks

      abbrev pub member_fault : CheckedMember → CoreStmt
      member_fault m = word_local m.fault (masked (mask_of (kind_of m)) (fault_at m.position))

      abbrev pub check_fault : Check → CoreStmt
      check_fault c = word_local c.fault (fault_at c.position)

      abbrev pub all_faults : List CoreExpr
      all_faults =
          map (λ (m : CheckedMember). local m.fault) p.members ++ map (λ (c : Check). local c.fault) p.checks

      -- the bit places that can't be repaired
      abbrev pub beyond_local : CoreStmt
      beyond_local =
          word_local p.beyond (both op.BitAnd (local p.uneven) (inverted (all_joined op.BitOr all_faults)))

      -- where there is such a bit place, the program stops
      abbrev pub stop_beyond : CoreStmt
      stop_beyond =
          cs.branch (both op.NotEqual (local p.beyond) (number 0)) (cs.more_stmts cs.abort cs.no_stmts) cs.no_stmts

      abbrev pub mend_parity : CoreStmt
      mend_parity =
          assign (word_of p.parity) (both op.BitXor (own_word p.parity)
          (both op.BitAnd (local p.total) (inverted (local p.uneven))))

      abbrev pub sum_locals : List CoreStmt
      sum_locals = map extend p.members ++ (map sum_local p.checks ++ total_local ∷ uneven_local ∷ [])

      abbrev pub fault_locals : List CoreStmt
      fault_locals = map member_fault p.members ++ (map check_fault p.checks ++ beyond_local ∷ stop_beyond ∷ [])

      abbrev pub mends : List CoreStmt
      mends = map mend_member p.members ++ (map mend_check p.checks ++ mend_parity ∷ [])

      abbrev pub repair_block : CoreStmts
      repair_block = listed_stmts (sum_locals ++ (fault_locals ++ mends))

      -- a check word takes the sum of the members that it covers
      abbrev pub renew_check : Check → CoreStmt
      renew_check c = assign (check_of c) (all_joined op.BitXor (covered c.position p.members))

      -- the parity takes the sum of all other words
      abbrev pub renew_parity : CoreStmt
      renew_parity = assign (word_of p.parity) (all_joined op.BitXor all_words)

      abbrev pub renew_block : CoreStmts
      renew_block =
          listed_stmts (map extend p.members ++ (map renew_check p.checks ++ renew_parity ∷ []))
