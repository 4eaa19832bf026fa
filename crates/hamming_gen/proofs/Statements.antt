-- Statements that are made one behind another, and one list behind another.
use Rattle.std.proofs.Common.{◌≡◌, ℕ, ◌+◌, ◌<◌, sym, ap, ◌∙◌, List, [], ◌∷◌, ◌++◌, map, drop, length, append_assoc}
use Rattle.std.proofs.Math.ListN.{get_or}
use Rattle.std.proofs.lemmas.List.{at_drop_more, map-append}
use Rattle.cxx_tree.specs.declared.stmt.Stmt.{Stmt}
use Rattle.cxx_tree.specs.StmtTree.{StmtTree, stmt_tree}

-- two lists, and one statement behind them
pub two_and_last :
    (first more both all : List Stmt) (last : Stmt) (a b : List StmtTree) (tree : StmtTree) → map stmt_tree first ≡ a
    → map stmt_tree more ≡ b → both ≡ first ++ more → stmt_tree last ≡ tree → all ≡ both ++ last ∷ []
    → map stmt_tree all ≡ a ++ (b ++ tree ∷ [])
two_and_last first more both all last a b tree one two joined is pushed =
    let front : map stmt_tree ((first ++ more) ++ last ∷ [])
    ≡ map stmt_tree first ++ (map stmt_tree more ++ stmt_tree last ∷ [])
    = simp (map-append, append_assoc) in
    ap (map stmt_tree) pushed
    ∙ (ap (λ xs. map stmt_tree (xs ++ last ∷ [])) joined
    ∙ (front
    ∙ (ap (λ xs. xs ++ (map stmt_tree more ++ stmt_tree last ∷ [])) one
    ∙ (ap (λ xs. a ++ (xs ++ stmt_tree last ∷ [])) two ∙ ap (λ t. a ++ (b ++ t ∷ [])) is))))

-- the statement of the next item, and those of the items behind it
pub next_statement :
    {X : Type 0} (f : X → StmtTree) (xs : List X) (i : ℕ) (x : X)
    (stmt : Stmt) (here next : List Stmt) (whole : List StmtTree)
    → i < length xs → stmt_tree stmt ≡ f (get_or xs i x) → next ≡ here ++ stmt ∷ []
    → map stmt_tree here ++ map f (drop i xs) ≡ whole → map stmt_tree next ++ map f (drop (i + 1) xs) ≡ whole
next_statement f xs i x stmt here next whole inside is pushed all =
    let rest = map f (drop (i + 1) xs) in
    let front : map stmt_tree (here ++ stmt ∷ []) ++ rest ≡ map stmt_tree here ++ stmt_tree stmt ∷ rest
    = simp (map-append, append_assoc) in
    ap (λ ss. map stmt_tree ss ++ rest) pushed
    ∙ (front
    ∙ (ap (λ t. map stmt_tree here ++ t ∷ rest) is
    ∙ (sym (at_drop_more (λ ys. map stmt_tree here ++ map f ys) xs i x inside) ∙ all)))
