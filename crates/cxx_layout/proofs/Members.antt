-- Members of a class that are gone through in order.
use Rattle.std.proofs.Common.{◌≡◌, ℕ, ◌+◌, Bool, true, false, ◌||◌, sym, ap, ◌∙◌, List, ◌∷◌, ◌++◌, drop, Some, slice_get, append_assoc}
use Rattle.std.proofs.lemmas.List.{at_drop_more}
use Rattle.std.proofs.lemmas.Option.{slice_get_within, get_or_from_slice_get}
use Rattle.agxx_base.specs.declared.ids.ClassId.{ClassId}
use Rattle.cxx_names.specs.declared.declarations.MemberInfo.{MemberInfo}
use Rattle.cxx_names.specs.Declarations.{is_text}
use Rattle.cxx_layout.specs.declared.layouts.WordInfo.{WordInfo}
use Rattle.cxx_layout.specs.Layouts.{word_of, own_words}
use Rattle.cxx_layout.specs.Parts.{has_member}

-- an item, and what is left after it
drop_at : {X : Type 0} (xs : List X) (i : ℕ) (x : X) → slice_get xs i ≡ Some x → drop i xs ≡ x ∷ drop (i + 1) xs
drop_at xs i x e = at_drop_more (λ ys. ys) xs i x (slice_get_within xs i x e) ∙ ap (λ y. y ∷ drop (i + 1) xs) (get_or_from_slice_get xs i x x e)

pub next_words :
    (class : ClassId) (ms : List (ℕ × MemberInfo)) (i : ℕ) (m : ℕ × MemberInfo) (words next whole : List WordInfo)
    → slice_get ms i ≡ Some m → next ≡ words ++ word_of class m → words ++ own_words class (drop i ms) ≡ whole → next ++ own_words class (drop (i + 1) ms) ≡ whole
next_words class ms i m words next whole e step all =
    let rest = own_words class (drop (i + 1) ms) in
    let front : (words ++ word_of class m) ++ rest ≡ words ++ (word_of class m ++ rest) = simp append_assoc in
    ap (λ (ws : List WordInfo). ws ++ rest) step ∙ (front ∙ (ap (λ (xs : List (ℕ × MemberInfo)). words ++ own_words class xs) (sym (drop_at ms i m e)) ∙ all))

one_more : (names : List (List ℕ)) (text : List ℕ) (ms : List (ℕ × MemberInfo)) (i : ℕ) (m : ℕ × MemberInfo)
    → slice_get ms i ≡ Some m → has_member names text (drop i ms) ≡ is_text names m.0 text || has_member names text (drop (i + 1) ms)
one_more names text ms i m e = ap (λ (xs : List (ℕ × MemberInfo)). has_member names text xs) (drop_at ms i m e)

pub member_found : (names : List (List ℕ)) (text : List ℕ) (ms : List (ℕ × MemberInfo)) (i : ℕ) (m : ℕ × MemberInfo) (found whole : Bool)
    → slice_get ms i ≡ Some m → found ≡ is_text names m.0 text → found ≡ true → has_member names text (drop i ms) ≡ whole → true ≡ whole
member_found names text ms i m found whole e is h all =
    ap (λ (b : Bool). b || has_member names text (drop (i + 1) ms)) (sym h ∙ is) ∙ (sym (one_more names text ms i m e) ∙ all)

pub member_missed : (names : List (List ℕ)) (text : List ℕ) (ms : List (ℕ × MemberInfo)) (i : ℕ) (m : ℕ × MemberInfo) (found whole : Bool)
    → slice_get ms i ≡ Some m → found ≡ is_text names m.0 text → found ≡ false → has_member names text (drop i ms) ≡ whole → has_member names text (drop (i + 1) ms) ≡ whole
member_missed names text ms i m found whole e is h all =
    ap (λ (b : Bool). b || has_member names text (drop (i + 1) ms)) (sym h ∙ is) ∙ (sym (one_more names text ms i m e) ∙ all)
