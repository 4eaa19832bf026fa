-- Codes over core programs: what words mean, by the unsigned kinds of the members, and the blocks that repair and renew
-- them. Each guarded class has a code of its own.
use Rattle.std.specs.Prelude.{ℕ, suc, ◌+◌, ◌*◌, Bool, true, false, List, [], ◌∷◌, ◌++◌, map, length, codes, Option}
use Rattle.agxx_base.specs.declared.ids.ClassId.{ClassId}
use Rattle.agxx_base.specs.declared.kind.NumKind.{NumKind}
use Rattle.agxx_base.specs.declared.place.Place.{Place}
use Rattle.cxx_core.specs.CoreProgram.{CoreWord}
use Rattle.cxx_core.specs.CoreStmt.{CoreStmts}
use Rattle.codec.specs.Copies.{thrice, voted, vote_texts}
use Rattle.fault_model.specs.Cost.{Code}
use Rattle.fault_model.specs.Cost.{copies as two}
use Rattle.codec_laws.specs.Blocks.{Copied, repair_block, renew_block}

-- where generated code stands, in a program without a text
abbrev pub nowhere : Place
nowhere = record { file = 0; line = 0; column = 0 }

-- the names of a part's added words, and of the locals of its blocks, by their order
pub record BlockNames : Type 0 where
  pub added : ℕ → ℕ
  pub local : ℕ → ℕ

pub record CoreCode : Type 0 where
  -- ---- what it means

  -- whether a part may be hit once in all, and not at each bit place once
  pub single : Bool
  -- of all words, the members' first
  pub kinds : List NumKind → List NumKind
  pub encoded : List NumKind → List ℕ → List ℕ
  pub repaired : List NumKind → List ℕ → List ℕ
  pub beyond : List NumKind → List ℕ → Bool
  -- ---- what is generated

  -- the texts of the names of the added words, by those of the class and of the members, and of the locals, by the number of
  -- members
  pub added_texts : List ℕ → List (List ℕ) → List (List ℕ)
  pub local_texts : ℕ → List (List ℕ)
  -- for a class with these members
  pub repair : ClassId → BlockNames → List CoreWord → CoreStmts
  pub renew : ClassId → BlockNames → List CoreWord → CoreStmts
  -- how much it adds to so many members, by which its cost is counted
  pub adds : Code

-- of a part with so many members: a block takes 28 times as many steps at most, and the part costs 64 times as many
abbrev pub size_of : CoreCode → ℕ → ℕ
size_of code k = (k + 4) * (code.adds k + 4)

-- the code of each guarded class
abbrev pub Codes : Type 0
Codes = ClassId → Option CoreCode

-- ---- two copies

-- the members of a class that has k of them, from number i on
abbrev pub copied_from : BlockNames → ℕ → ℕ → List CoreWord → List Copied
copied_from names k i [] = []
copied_from names k i (m ∷ ms) =
    record { member = m; first = names.added i; second = names.added (k + i); vote = names.local i }
    ∷ copied_from names k (suc i) ms

abbrev pub copied_of : BlockNames → List CoreWord → List Copied
copied_of names ms = copied_from names (length ms) 0 ms

abbrev pub copies : CoreCode
copies = record {
  single = true;
  kinds = λ kinds. kinds ++ (kinds ++ kinds);
  encoded = λ kinds v. thrice v;
  repaired = λ kinds words. thrice (voted (length kinds) words);
  beyond = λ kinds words. false;
  added_texts = λ class members.
      map (λ m. codes "__gop_c1_" ++ m) members ++ map (λ m. codes "__gop_c2_" ++ m) members;
  local_texts = λ k. vote_texts 1 k;
  repair = λ class names ms. repair_block nowhere class (copied_of names ms);
  renew = λ class names ms. renew_block nowhere class (copied_of names ms);
  adds = two;
}
