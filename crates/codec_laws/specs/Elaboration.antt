-- The statements that are generated for two copies, in a function of the class, are the blocks in core form.
use Rattle.std.specs.Prelude.{◌≡◌, ◌≢◌, ℕ, suc, List, [], ◌∷◌, Some}
use Rattle.agxx_base.specs.declared.ids.ClassId.{ClassId}
use Rattle.agxx_base.specs.declared.kind.NumKind.{NumKind}
use Rattle.agxx_base.specs.declared.kind.NumKind.TheVariants as kind
use Rattle.agxx_base.specs.declared.place.Place.{Place}
use Rattle.cxx_tree.specs.declared.program.Access.{Access}
use Rattle.cxx_tree.specs.declared.program.Member.{Member}
use Rattle.cxx_tree.specs.declared.program.TypeName.{TypeName}
use Rattle.cxx_tree.specs.declared.program.TypeName.TheVariants as type_of
use Rattle.cxx_tree.specs.StmtTree.{listed_stmts}
use Rattle.cxx_names.specs.declared.types.ValueType.TheVariants as type
use Rattle.cxx_names.specs.declared.types.Thing.TheVariants as thing
use Rattle.cxx_names.specs.declared.types.Variable.TheVariants as variable_of
use Rattle.cxx_core.specs.CoreProgram.{CoreWord}
use Rattle.cxx_core.specs.Meanings.{Within, variable_at}
use Rattle.cxx_core.specs.ElaboratedStmt.{core_stmts}
use Rattle.cxx_make.specs.Made as made
use Rattle.codec.specs.Copies.{first_copy, second_copy, vote, repair_from, renew_each}
use Rattle.codec_laws.specs.Blocks.{Copied, first_of, second_of, repair_block, renew_block}

-- the kind of a number type
abbrev pub number_kind_of : TypeName → NumKind
number_kind_of (type_of.Num k) = k
number_kind_of type_of.Int = kind.I32
number_kind_of type_of.Unsigned = kind.U32
number_kind_of t = kind.U64

module _ (names : List (List ℕ)) where
  -- a member, from number i on, with the names that are generated for it
  abbrev pub copied : ℕ → Member → Copied
  copied i m = record {
    member = record { name = m.name.item.0; kind = number_kind_of m.type_name.item };
    first = (first_copy names m).0;
    second = (second_copy names m).0;
    vote = (vote names i).0;
  }

  abbrev pub all_copied : ℕ → List Member → List Copied
  all_copied i [] = []
  all_copied i (m ∷ ms) = copied i m ∷ all_copied (suc i) ms

module _ (w : Within) (at : Place) (class : ClassId) where
  -- where no local is in scope a name means this member of the class
  abbrev pub IsMember : CoreWord → Type 0
  IsMember word =
      (access : Access) × (variable_at w [] (made.ref at (record { 0 = word.name }))
      ≡ Some (variable_of.Member class access (thing.Value (type.Number word.kind))))

  pub record AreMembers (m : Copied) : Type 0 where
    pub member : IsMember m.member
    pub first : IsMember (first_of m)
    pub second : IsMember (second_of m)

  -- a name is none of a member's and of its copies'
  pub record IsNewTo (name : ℕ) (m : Copied) : Type 0 where
    pub member : m.member.name ≢ name
    pub first : m.first ≢ name
    pub second : m.second ≢ name
    pub vote : m.vote ≢ name

  abbrev pub AllNewTo : ℕ → List Copied → Type 0
  AllNewTo name [] = Unit {0}
  AllNewTo name (m ∷ ms) = IsNewTo name m × AllNewTo name ms

  -- each name means its member, and each local is new to its own member and all that follow
  abbrev pub AreFound : List Copied → Type 0
  AreFound [] = Unit {0}
  AreFound (m ∷ ms) =
      AreMembers m × (m.member.name ≢ m.vote) × (m.first ≢ m.vote) × (m.second ≢ m.vote) × AllNewTo m.vote ms
      × AreFound ms

pub record CopiesElaborate : Type 0 where
  pub repair : (names : List (List ℕ)) (w : Within) (at : Place) (class : ClassId) (ms : List Member)
      → AreFound w at class (all_copied names 1 ms)
      → core_stmts w [] (listed_stmts (repair_from names at 1 ms)) ≡ repair_block at class (all_copied names 1 ms)
  pub renew : (names : List (List ℕ)) (w : Within) (at : Place) (class : ClassId) (ms : List Member)
      → AreFound w at class (all_copied names 1 ms)
      → core_stmts w [] (listed_stmts (renew_each names at ms)) ≡ renew_block at class (all_copied names 1 ms)
