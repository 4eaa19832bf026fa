-- A class with one member, worked out by hand: the words that its objects have under each code, by their names and kinds.
use Rattle.std.specs.Prelude.{◌≡◌, ℕ, List, [], ◌∷◌, map, codes, None}
use Rattle.agxx_base.specs.declared.ids.NameId.{NameId}
use Rattle.agxx_base.specs.declared.kind.NumKind.{NumKind}
use Rattle.agxx_base.specs.declared.kind.NumKind.TheVariants as num
use Rattle.agxx_base.specs.declared.place.Place.{Place}
use Rattle.cxx_tree.specs.declared.node.Placed.{Placed}
use Rattle.cxx_tree.specs.declared.program.ClassWord.TheVariants as word_of
use Rattle.cxx_tree.specs.declared.program.TypeName.TheVariants as type_of
use Rattle.cxx_tree.specs.ProgramTree as p
use Rattle.cxx_tree.specs.ProgramTree.{ProgramTree}
use Rattle.cxx_names.specs.Declarations.{declared}
use Rattle.cxx_layout.specs.declared.layouts.WordInfo.{WordInfo}
use Rattle.cxx_layout.specs.Layouts.{layouts}
use Rattle.cxx_make.specs.Generated.{text_of}
use Rattle.guards.specs.declared.guard.Guard.{Guard}
use Rattle.guards.specs.declared.guard.GuardKind.{GuardKind}
use Rattle.guards.specs.declared.guard.GuardKind.TheVariants as guard
use Rattle.protect.specs.GeneratedNames.{with_generated}
use Rattle.protect.specs.Protected.{protected}

abbrev pub place : Place
place = record { file = 0; line = 1; column = 1 }

abbrev pub named : ℕ → Placed NameId
named id = record { at = place; item = record { 0 = id } }

abbrev pub texts : List (List ℕ)
texts = codes "Cell" ∷ codes "v" ∷ []

-- `class Cell { uint32_t v; };`
abbrev pub cell : ProgramTree
cell = record {
  at = place;
  directives = [];
  decls = p.class (record {
    at = place;
    word = word_of.Class;
    name = named 0;
    base = None;
    items = p.member (record { type_name = record { at = place; item = type_of.Num num.U32 }; name = named 1 }) ∷ [];
  }) ∷ [];
}

abbrev pub guarded_by : GuardKind → List Guard
guarded_by kind = record { class = record { 0 = 0 }; kind = kind; at = place } ∷ []

-- the words of an object of each class, once the cell is guarded
abbrev pub words_under : GuardKind → List (List (List ℕ × NumKind))
words_under kind =
    let all = with_generated texts (guarded_by kind) cell in
    map (map (λ (w : WordInfo). (text_of all w.name, w.kind))) (layouts (declared all (protected all (guarded_by kind) cell)))

pub record CellHasItsWords : Type 0 where
  pub copies : words_under guard.Copies
      ≡ ((codes "v", num.U32) ∷ (codes "__gop_c1_v", num.U32) ∷ (codes "__gop_c2_v", num.U32)
      ∷ (codes "__gop_n_Cell", num.U32) ∷ []) ∷ []
  -- one member needs two check words
  pub check_words : words_under guard.Hamming
      ≡ ((codes "v", num.U32) ∷ (codes "__gop_h_0_Cell", num.U64) ∷ (codes "__gop_h_1_Cell", num.U64)
      ∷ (codes "__gop_p_Cell", num.U64) ∷ (codes "__gop_n_Cell", num.U32) ∷ []) ∷ []
