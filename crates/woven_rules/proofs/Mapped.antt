-- Statements in which each `return` becomes others: what wrapping does to a body, and what leaves it as it is.
use Rattle.std.proofs.Common.{◌≡◌, refl, ap, ◌∙◌, ℕ, suc, ◌+◌, List, [], ◌∷◌, ◌++◌, Option, Some, None}
use Rattle.agxx_base.specs.declared.ids.NameId.{NameId}
use Rattle.agxx_base.specs.declared.place.Place.{Place}
use Rattle.cxx_tree.specs.declared.program.TypeName.{TypeName}
use Rattle.cxx_tree.specs.ExprTree.{ExprTree}
use Rattle.cxx_tree.specs.StmtTree as s
use Rattle.cxx_tree.specs.StmtTree.{StmtTree, StmtTrees, BlockTree, IfTree, ElseTree, listed_stmts}
use Rattle.entry_count.specs.Wrapping as w

-- what becomes of a `return` that so many returned values stand before
abbrev pub Returning : Type 0
Returning = ℕ → Place → Option ExprTree → List StmtTree

module _ (ret : Returning) where
  abbrev mutual
    pub mapped : ℕ → StmtTree → List StmtTree
    mapped k (s.block b) = s.block (mapped_block k b) ∷ []
    mapped k (s.local l) = s.local l ∷ []
    mapped k (s.simple i) = s.simple i ∷ []
    mapped k (s.branch i) = s.branch (mapped_if k i) ∷ []
    mapped k (s.while at condition body) = s.while at condition (mapped_block k body) ∷ []
    mapped k (s.for at start condition step body) = s.for at start condition step (mapped_block k body) ∷ []
    mapped k (s.return at value) = ret k at value
    mapped k (s.delete at pointer) = s.delete at pointer ∷ []
    mapped k (s.print q) = s.print q ∷ []
    mapped k (s.thread t) = s.thread t ∷ []
    mapped k (s.abort at) = s.abort at ∷ []

    pub mapped_stmts : ℕ → StmtTrees → List StmtTree
    mapped_stmts k s.no_stmts = []
    mapped_stmts k (s.more_stmts first rest) = mapped k first ++ mapped_stmts (k + w.returns_in first) rest

    pub mapped_block : ℕ → BlockTree → BlockTree
    mapped_block k (s.braces at stmts) = s.braces at (listed_stmts (mapped_stmts k stmts))

    pub mapped_if : ℕ → IfTree → IfTree
    mapped_if k (s.chooses at condition body otherwise) =
        s.chooses at condition (mapped_block k body) (mapped_else (k + w.returns_in_block body) otherwise)

    pub mapped_else : ℕ → ElseTree → ElseTree
    mapped_else k s.no_else = s.no_else
    mapped_else k (s.else_if i) = s.else_if (mapped_if k i)
    mapped_else k (s.else_block b) = s.else_block (mapped_block k b)

-- ---- wrapping

module _ (names : List (List ℕ)) (result : TypeName) (parts : List NameId) where
  abbrev pub wrapping : Returning
  wrapping k at None = w.leaving names parts at ++ s.return at None ∷ []
  wrapping k at (Some value) = w.returning names result parts at (suc k) value

  mutual
    pub wrapped-is : (k : ℕ) (t : StmtTree) → w.wrapped names result parts k t ≡ mapped wrapping k t
    wrapped-is k (s.block b) = ap (λ x. s.block x ∷ []) (block-is k b)
    wrapped-is k (s.local l) = refl
    wrapped-is k (s.simple i) = refl
    wrapped-is k (s.branch i) = ap (λ x. s.branch x ∷ []) (if-is k i)
    wrapped-is k (s.while at condition body) = ap (λ x. s.while at condition x ∷ []) (block-is k body)
    wrapped-is k (s.for at start condition step body) =
        ap (λ x. s.for at start condition step x ∷ []) (block-is k body)
    wrapped-is k (s.return at None) = refl
    wrapped-is k (s.return at (Some value)) = refl
    wrapped-is k (s.delete at pointer) = refl
    wrapped-is k (s.print q) = refl
    wrapped-is k (s.thread t) = refl
    wrapped-is k (s.abort at) = refl

    pub stmts-are : (k : ℕ) (ts : StmtTrees) → w.wrapped_stmts names result parts k ts ≡ mapped_stmts wrapping k ts
    stmts-are k s.no_stmts = refl
    stmts-are k (s.more_stmts first rest) =
        ap (λ x. x ++ w.wrapped_stmts names result parts (k + w.returns_in first) rest) (wrapped-is k first)
        ∙ ap (λ x. mapped wrapping k first ++ x) (stmts-are (k + w.returns_in first) rest)

    block-is : (k : ℕ) (b : BlockTree) → w.wrapped_block names result parts k b ≡ mapped_block wrapping k b
    block-is k (s.braces at ts) = ap (λ x. s.braces at (listed_stmts x)) (stmts-are k ts)

    if-is : (k : ℕ) (i : IfTree) → w.wrapped_if names result parts k i ≡ mapped_if wrapping k i
    if-is k (s.chooses at condition body otherwise) =
        ap (λ x. s.chooses at condition x (w.wrapped_else names result parts (k + w.returns_in_block body) otherwise))
        (block-is k body)
        ∙ ap (s.chooses at condition (mapped_block wrapping k body)) (else-is (k + w.returns_in_block body) otherwise)

    else-is : (k : ℕ) (x : ElseTree) → w.wrapped_else names result parts k x ≡ mapped_else wrapping k x
    else-is k s.no_else = refl
    else-is k (s.else_if i) = ap s.else_if (if-is k i)
    else-is k (s.else_block b) = ap s.else_block (block-is k b)

-- ---- nothing changes

abbrev pub list_of : StmtTrees → List StmtTree
list_of s.no_stmts = []
list_of (s.more_stmts first rest) = first ∷ list_of rest

pub listed-list : (ts : StmtTrees) → listed_stmts (list_of ts) ≡ ts
listed-list s.no_stmts = refl
listed-list (s.more_stmts first rest) = ap (s.more_stmts first) (listed-list rest)

abbrev pub leaving_alone : Returning
leaving_alone k at value = s.return at value ∷ []

mutual
  alone-is : (k : ℕ) (t : StmtTree) → mapped leaving_alone k t ≡ t ∷ []
  alone-is k (s.block b) = ap (λ x. s.block x ∷ []) (alone-block k b)
  alone-is k (s.local l) = refl
  alone-is k (s.simple i) = refl
  alone-is k (s.branch i) = ap (λ x. s.branch x ∷ []) (alone-if k i)
  alone-is k (s.while at condition body) = ap (λ x. s.while at condition x ∷ []) (alone-block k body)
  alone-is k (s.for at start condition step body) =
      ap (λ x. s.for at start condition step x ∷ []) (alone-block k body)
  alone-is k (s.return at value) = refl
  alone-is k (s.delete at pointer) = refl
  alone-is k (s.print q) = refl
  alone-is k (s.thread t) = refl
  alone-is k (s.abort at) = refl

  pub alone-stmts : (k : ℕ) (ts : StmtTrees) → mapped_stmts leaving_alone k ts ≡ list_of ts
  alone-stmts k s.no_stmts = refl
  alone-stmts k (s.more_stmts first rest) =
      ap (λ x. x ++ mapped_stmts leaving_alone (k + w.returns_in first) rest) (alone-is k first)
      ∙ ap (λ x. first ∷ x) (alone-stmts (k + w.returns_in first) rest)

  alone-block : (k : ℕ) (b : BlockTree) → mapped_block leaving_alone k b ≡ b
  alone-block k (s.braces at ts) =
      ap (λ x. s.braces at (listed_stmts x)) (alone-stmts k ts) ∙ ap (s.braces at) (listed-list ts)

  alone-if : (k : ℕ) (i : IfTree) → mapped_if leaving_alone k i ≡ i
  alone-if k (s.chooses at condition body otherwise) =
      ap (λ x. s.chooses at condition x (mapped_else leaving_alone (k + w.returns_in_block body) otherwise))
      (alone-block k body)
      ∙ ap (s.chooses at condition body) (alone-else (k + w.returns_in_block body) otherwise)

  alone-else : (k : ℕ) (x : ElseTree) → mapped_else leaving_alone k x ≡ x
  alone-else k s.no_else = refl
  alone-else k (s.else_if i) = ap s.else_if (alone-if k i)
  alone-else k (s.else_block b) = ap s.else_block (alone-block k b)
