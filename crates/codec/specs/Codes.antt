-- What a code is: what its words mean, and the trees that are generated for it.
use Rattle.std.specs.Prelude.{ℕ, Bool, List, ◌++◌, length}
use Rattle.agxx_base.specs.declared.kind.NumKind.{NumKind}
use Rattle.cxx_tree.specs.declared.program.Member.{Member}
use Rattle.cxx_tree.specs.StmtTree.{StmtTree}
use Rattle.cxx_make.specs.Generated.{text_of}
use Rattle.codec.specs.declared.part.Part.{Part}
use Rattle.codec.specs.Part.{member_texts}

pub record Code : Type 1 where
  -- ---- what it means, over the unsigned kinds of the members

  -- all words, for the values of the members
  pub encoded : List NumKind → List ℕ → List ℕ
  -- the words that repair leaves
  pub repaired : List NumKind → List ℕ → List ℕ
  -- whether words can't be repaired
  pub beyond : List NumKind → List ℕ → Bool
  -- the second words are the first with damage that is repaired
  pub IsDamage : List NumKind → List ℕ → List ℕ → Type 0
  -- ---- what is generated, where names have these texts

  -- how many words are added to k members
  pub extra_words : ℕ → ℕ
  -- the kinds of all words, the members' first
  pub kinds : List NumKind → List NumKind
  -- the texts of the names of the added words, by those of the class and of the members
  pub extra_texts : List ℕ → List (List ℕ) → List (List ℕ)
  -- the texts of the names of the locals of repair and renewal, by the number of members
  pub local_texts : ℕ → List (List ℕ)
  pub members : List (List ℕ) → Part → List Member
  pub repair : List (List ℕ) → Part → List StmtTree
  pub renew : List (List ℕ) → Part → List StmtTree

-- the texts of the names that are generated for a part
abbrev pub code_texts : Code → List (List ℕ) → Part → List (List ℕ)
code_texts code names part =
    code.extra_texts (text_of names part.class.item) (member_texts names part) ++ code.local_texts (length part.members)
