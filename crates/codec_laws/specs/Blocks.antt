-- The blocks that repair and renew two copies, in core form.
use Rattle.std.specs.Prelude.{ℕ, List, [], ◌∷◌, ◌++◌, map, Some}
use Rattle.agxx_base.specs.declared.ids.ClassId.{ClassId}
use Rattle.agxx_base.specs.declared.kind.NumKind.{NumKind}
use Rattle.agxx_base.specs.declared.place.Place.{Place}
use Rattle.cxx_tree.specs.declared.operator.BinOp.{BinOp}
use Rattle.cxx_tree.specs.declared.operator.BinOp.TheVariants as op
use Rattle.cxx_names.specs.declared.types.ValueType.TheVariants as type
use Rattle.cxx_core.specs.CoreExpr as c
use Rattle.cxx_core.specs.CoreExpr.{CoreExpr, CoreLeft, type_of}
use Rattle.cxx_core.specs.CoreStmt as cs
use Rattle.cxx_core.specs.CoreStmt.{CoreStmts}
use Rattle.cxx_core.specs.CoreProgram.{CoreWord}
use Rattle.cxx_core.specs.ElaboratedProgram.{type_or_null}
use Rattle.codec.specs.Part.{unsigned_kind}

-- a member with the names of its copies, and of the local that its vote is put in
pub record Copied : Type 0 where
  pub member : CoreWord
  pub first : ℕ
  pub second : ℕ
  pub vote : ℕ

abbrev pub kind_of : Copied → NumKind
kind_of m = unsigned_kind m.member.kind

-- the words of a part: the members, the first copies and the second ones
abbrev pub first_of : Copied → CoreWord
first_of m = record { name = m.first; kind = kind_of m }

abbrev pub second_of : Copied → CoreWord
second_of m = record { name = m.second; kind = kind_of m }

abbrev pub part_words : List Copied → List CoreWord
part_words ms = map (λ (m : Copied). m.member) ms ++ (map first_of ms ++ map second_of ms)

module _ (at : Place) (class : ClassId) where
  abbrev pub own_left : CoreWord → CoreLeft
  own_left w = c.member at c.own class w.name w.kind

  abbrev pub own : CoreWord → CoreExpr
  own w = c.read (own_left w)

  abbrev pub voted : Copied → CoreExpr
  voted m = c.read (c.variable (c.local m.vote (type.Number (kind_of m))))

  -- `U(m)`
  abbrev pub as_unsigned : Copied → CoreExpr
  as_unsigned m = c.cast (kind_of m) (type.Number m.member.kind) (own m.member)

  abbrev pub both : BinOp → CoreExpr → CoreExpr → CoreExpr
  both o a b = c.binary at o (type_or_null (type_of a)) (type_or_null (type_of b)) a b

  abbrev pub vote_of : Copied → CoreExpr
  vote_of m =
      both op.BitOr (both op.BitOr (both op.BitAnd (as_unsigned m) (own (first_of m)))
      (both op.BitAnd (as_unsigned m) (own (second_of m))))
      (both op.BitAnd (own (first_of m)) (own (second_of m)))

  abbrev pub repair_member : Copied → CoreStmts → CoreStmts
  repair_member m rest =
      cs.more_stmts (cs.declare m.vote (type.Number (kind_of m)) (Some (cs.value (vote_of m))))
      (cs.more_stmts (cs.assign (own_left m.member) (voted m))
      (cs.more_stmts (cs.assign (own_left (first_of m)) (voted m))
      (cs.more_stmts (cs.assign (own_left (second_of m)) (voted m)) rest)))

  abbrev pub repair_block : List Copied → CoreStmts
  repair_block [] = cs.no_stmts
  repair_block (m ∷ ms) = repair_member m (repair_block ms)

  abbrev pub renew_member : Copied → CoreStmts → CoreStmts
  renew_member m rest =
      cs.more_stmts (cs.assign (own_left (first_of m)) (own m.member))
      (cs.more_stmts (cs.assign (own_left (second_of m)) (own m.member)) rest)

  abbrev pub renew_block : List Copied → CoreStmts
  renew_block [] = cs.no_stmts
  renew_block (m ∷ ms) = renew_member m (renew_block ms)
