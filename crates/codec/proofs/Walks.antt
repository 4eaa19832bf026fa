-- Members that are gone through in order: what is made so far, and then what is made of those that are left, is all.
use Rattle.std.proofs.Common.{◌≡◌, ℕ, suc, ◌+◌, ◌-◌, ◌<◌, sym, ap, ◌∙◌, List, [], ◌∷◌, ◌++◌, map, drop, length, codes, append_assoc, arith}
use Rattle.std.proofs.Math.ListN.{get_or}
use Rattle.std.proofs.lemmas.List.{at_drop_more, map-append}
use Rattle.std.specs.Fmt.{decimal}
use Rattle.agxx_base.specs.declared.ids.NameId.{NameId}
use Rattle.agxx_base.specs.declared.place.Place.{Place}
use Rattle.cxx_tree.specs.declared.program.Member.{Member}
use Rattle.cxx_tree.specs.declared.stmt.Stmt.{Stmt}
use Rattle.cxx_tree.specs.StmtTree.{StmtTree, stmt_tree}
use Rattle.codec.specs.Copies.{vote, vote_local, take_vote, repair_member, repair_from, renew_member, renew_each, vote_texts}

-- what follows what is made of the next one
one_more : {X : Type 0} (front made rest next whole : List X) → next ≡ front ++ made → front ++ (made ++ rest) ≡ whole → next ++ rest ≡ whole
one_more front made rest next whole step all =
    let front : (front ++ made) ++ rest ≡ front ++ (made ++ rest) = simp append_assoc in
    ap (λ xs. xs ++ rest) step ∙ (front ∙ all)

pub next_renewed :
    (names : List (List ℕ)) (at : Place) (ms : List Member) (i : ℕ) (m : Member) (front next whole : List StmtTree)
    → i < length ms → next ≡ front ++ renew_member names at (get_or ms i m)
    → front ++ renew_each names at (drop i ms) ≡ whole → next ++ renew_each names at (drop (i + 1) ms) ≡ whole
next_renewed names at ms i m front next whole inside step all =
    one_more front (renew_member names at (get_or ms i m)) (renew_each names at (drop (i + 1) ms)) next whole step
    (sym (at_drop_more (λ xs. front ++ renew_each names at xs) ms i m inside) ∙ all)

one_up : (n : ℕ) → n + 1 ≡ suc n
one_up n = omega arith

pub next_repaired :
    (names : List (List ℕ)) (at : Place) (ms : List Member) (i : ℕ) (m : Member) (front next whole : List StmtTree)
    → i < length ms → next ≡ front ++ repair_member names at (i + 1) (get_or ms i m)
    → front ++ repair_from names at (i + 1) (drop i ms) ≡ whole → next ++ repair_from names at (i + 1 + 1) (drop (i + 1) ms) ≡ whole
next_repaired names at ms i m front next whole inside step all =
    ap (λ n. next ++ repair_from names at n (drop (i + 1) ms)) (one_up (i + 1))
    ∙ one_more front (repair_member names at (i + 1) (get_or ms i m)) (repair_from names at (suc (i + 1)) (drop (i + 1) ms)) next whole step
    (sym (at_drop_more (λ xs. front ++ repair_from names at (i + 1) xs) ms i m inside) ∙ all)

one_less : (i k : ℕ) → i < k → k - i ≡ suc (k - (i + 1))
one_less i k inside = omega (arith, inside)

pub next_vote :
    (i k : ℕ) (text : List ℕ) (front next whole : List (List ℕ)) → i < k → text ≡ codes "__gop_m_" ++ decimal (i + 1)
    → next ≡ front ++ text ∷ [] → front ++ vote_texts (i + 1) (k - i) ≡ whole → next ++ vote_texts (i + 1 + 1) (k - (i + 1)) ≡ whole
next_vote i k text front next whole inside is step all =
    let left = k - (i + 1) in
    let more : front ++ text ∷ vote_texts (suc (i + 1)) left ≡ front ++ vote_texts (i + 1) (suc left)
    = ap (λ t. front ++ t ∷ vote_texts (suc (i + 1)) left) is in
    ap (λ n. next ++ vote_texts n left) (one_up (i + 1))
    ∙ one_more front (text ∷ []) (vote_texts (suc (i + 1)) left) next whole step
    (more ∙ (ap (λ n. front ++ vote_texts (i + 1) n) (sym (one_less i k inside)) ∙ all))

-- the local behind other statements, and the words that take its value
pub repaired :
    (names : List (List ℕ)) (at : Place) (i : ℕ) (m : Member) (local : NameId) (stmt : Stmt) (old mid new : List Stmt)
    → stmt_tree stmt ≡ vote_local names at i m → mid ≡ old ++ stmt ∷ [] → local ≡ vote names i
    → map stmt_tree new ≡ map stmt_tree mid ++ take_vote names at local m → map stmt_tree new ≡ map stmt_tree old ++ repair_member names at i m
repaired names at i m local stmt old mid new is pushed voted taken =
    let rest = take_vote names at (vote names i) m in
    let front : map stmt_tree (old ++ stmt ∷ []) ++ rest ≡ map stmt_tree old ++ stmt_tree stmt ∷ rest = simp (map-append, append_assoc) in
    taken
    ∙ (ap (λ xs. map stmt_tree xs ++ take_vote names at local m) pushed
    ∙ (ap (λ l. map stmt_tree (old ++ stmt ∷ []) ++ take_vote names at l m) voted
    ∙ (front ∙ ap (λ s. map stmt_tree old ++ s ∷ rest) is)))
