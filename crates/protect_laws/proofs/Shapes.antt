-- What bodies and parts are made of, spelled out: other proofs go by these equations alone.
use Rattle.std.proofs.Common.{◌≡◌, ℕ, refl, false, if◌then◌else◌, List, [], ◌∷◌, ◌++◌, map, reverse, codes, Some}
use Rattle.agxx_base.specs.declared.ids.NameId.{NameId}
use Rattle.agxx_base.specs.declared.place.Place.{Place}
use Rattle.cxx_tree.specs.declared.program.TypeName.{TypeName}
use Rattle.cxx_tree.specs.ExprTree.{ExprTree}
use Rattle.cxx_tree.specs.StmtTree as s
use Rattle.cxx_tree.specs.StmtTree.{StmtTree, StmtTrees}
use Rattle.cxx_tree.specs.ProgramTree as p
use Rattle.cxx_normal.specs.Entry.{ends_with_return}
use Rattle.cxx_make.specs.Generated.{text_of, named, numbered}
use Rattle.cxx_make.specs.Made as made
use Rattle.guards.specs.declared.guard.GuardKind.{GuardKind}
use Rattle.codec.specs.declared.part.Part.{Part}
use Rattle.codec.specs.Codes.{Code, code_texts}
use Rattle.entry_count.specs.PartCode.{beginning, counter, mutex, repair, renew, enter, leave, part_members, part_functions}
use Rattle.entry_count.specs.Wrapping as w
use Rattle.protect.specs.Protected.{code_of, part_items}
use Rattle.protect.specs.GeneratedNames.{own_texts, texts_of_part}

abbrev pub calls : (NameId → NameId) → Place → List NameId → List StmtTree
calls of at classes = map (λ class. made.call at (of class)) classes

module _ (names : List (List ℕ)) where
  abbrev pub value_local : ℕ → NameId
  value_local i = numbered names (codes "__gop_r_") i

  module _ (parts : List NameId) where
    pub entering-is : (at : Place) → w.entering names parts at ≡ calls (enter names) at parts
    unfolding w.entering w.entering_one
    entering-is at = refl

    pub leaving-is : (at : Place) → w.leaving names parts at ≡ calls (leave names) at (reverse parts)
    unfolding w.leaving w.leaving_one
    leaving-is at = refl

    -- a value that is returned
    abbrev pub returns_value : TypeName → Place → ℕ → ExprTree → List StmtTree
    returns_value result at i value =
        made.local at result (value_local i) value ∷ (calls (leave names) at (reverse parts)
        ++ s.return at (Some (made.variable at (value_local i))) ∷ [])

    pub returning-is : (result : TypeName) (at : Place) (i : ℕ) (value : ExprTree)
        → w.returning names result parts at i value ≡ returns_value result at i value
    unfolding w.returning w.taken w.given w.value_name w.leaving w.leaving_one
    returning-is result at i value = refl

    pub end-is : (result : TypeName) (at : Place) (ts : StmtTrees) → w.at_end names result parts at ts
        ≡ (if ends_with_return false ts then [] else calls (leave names) at (reverse parts))
    unfolding w.at_end w.leaving w.leaving_one
    end-is result at ts = refl

  abbrev pub six_texts : List ℕ → List (List ℕ) → List (List ℕ)
  six_texts class rest =
      (codes "__gop_n_" ++ class) ∷ (codes "__gop_l_" ++ class) ∷ (codes "__gop_repair_" ++ class)
      ∷ (codes "__gop_renew_" ++ class)
      ∷ (codes "__gop_enter_" ++ class) ∷ (codes "__gop_leave_" ++ class) ∷ rest

  pub texts-are : (kind : GuardKind) (part : Part) → texts_of_part names (Some (kind, part))
      ≡ six_texts (text_of names part.class.item) (code_texts (code_of kind) names part)
  unfolding own_texts beginning
  texts-are kind part = refl

  -- the names of these texts
  module _ (class : NameId) where
    pub counter-is : counter names class ≡ named names (codes "__gop_n_" ++ text_of names class)
    unfolding beginning
    counter-is = refl

    pub mutex-is : mutex names class ≡ named names (codes "__gop_l_" ++ text_of names class)
    unfolding beginning
    mutex-is = refl

    pub repair-is : repair names class ≡ named names (codes "__gop_repair_" ++ text_of names class)
    unfolding beginning
    repair-is = refl

    pub renew-is : renew names class ≡ named names (codes "__gop_renew_" ++ text_of names class)
    unfolding beginning
    renew-is = refl

    pub enter-is : enter names class ≡ named names (codes "__gop_enter_" ++ text_of names class)
    unfolding beginning
    enter-is = refl

    pub leave-is : leave names class ≡ named names (codes "__gop_leave_" ++ text_of names class)
    unfolding beginning
    leave-is = refl

  pub items-are : (code : Code) (part : Part) → part_items code names part ≡ map p.member (part_members code names part)
      ++ map p.function (part_functions code names part)
  unfolding part_items
  items-are code part = refl
