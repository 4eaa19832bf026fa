-- The part that was entered last, and the last statement of a body.
use Rattle.std.proofs.Common.{◌≡◌, ap, sym, ◌∙◌, Bool, ℕ, suc, ◌+◌, ◌-◌, ◌<◌, List, [], ◌∷◌, ◌++◌, map, reverse, length, slice_get, Some, codes, append_assoc, arith}
use Rattle.std.specs.Fmt.{decimal}
use Rattle.std.proofs.lemmas.List.{reverse-append}
use Rattle.agxx_base.specs.declared.ids.NameId.{NameId}
use Rattle.cxx_tree.specs.declared.stmt.Stmt.{Stmt}
use Rattle.cxx_tree.specs.StmtTree.{StmtTree, stmt_tree, stmts_tree}
use Rattle.cxx_normal.specs.Entry.{is_return, ends_with_return}
use Rattle.cxx_normal.proofs.Bodies as bodies
use Rattle.entry_count.specs.Wrapping.{value_texts}

pub leaving_last : (leave : NameId → StmtTree) (others : List NameId) (last : NameId) → map leave (reverse (others ++ last ∷ [])) ≡ leave last ∷ map leave (reverse others)
leaving_last leave others last = ap (map leave) (reverse-append others (last ∷ []))

pub last_return : (known : Bool) (ss : List Stmt) (last : Stmt) → slice_get ss (length ss - 1) ≡ Some last → ends_with_return known (stmts_tree ss) ≡ is_return (stmt_tree last)
last_return known ss last at = bodies.last_return known ss last at

one_up : (n : ℕ) → n + 1 ≡ suc n
one_up n = omega arith

one_less : (i k : ℕ) → i < k → k - i ≡ suc (k - (i + 1))
one_less i k inside = omega (arith, inside)

-- the texts so far, and those of the locals that are left
pub next_value :
    (i k : ℕ) (text : List ℕ) (front next whole : List (List ℕ)) → i < k → text ≡ codes "__gop_r_" ++ decimal (i + 1)
    → next ≡ front ++ text ∷ [] → front ++ value_texts (i + 1) (k - i) ≡ whole → next ++ value_texts (i + 1 + 1) (k - (i + 1)) ≡ whole
next_value i k text front next whole inside is step all =
    let left = k - (i + 1) in
    let rest = value_texts (suc (i + 1)) left in
    let joined : (front ++ text ∷ []) ++ rest ≡ front ++ text ∷ rest = simp append_assoc in
    ap (λ n. next ++ value_texts n left) (one_up (i + 1))
    ∙ (ap (λ xs. xs ++ rest) step ∙ (joined ∙ (ap (λ t. front ++ t ∷ rest) is
    ∙ (ap (λ n. front ++ value_texts (i + 1) n) (sym (one_less i k inside)) ∙ all))))
