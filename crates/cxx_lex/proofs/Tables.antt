-- Look-ups in tables of texts.
use Rattle.std.proofs.Common.{◌≡◌, ℕ, Bool, true, false, cond, List, [], ◌∷◌, length, Some, refl, sym, ap, ◌∙◌, subst, eq-eqb}
use Rattle.std.specs.Prelude.{◌==◌}
use Rattle.std.specs.Str.{bytes_eq}
use Rattle.std.specs.List.{list_all}
use Rattle.std.proofs.lemmas.Slice.Eq.{bytes_eq-Decides}
use Rattle.cxx_lex.specs.Words.{entry_of}
use Rattle.cxx_lex.specs.KeywordScan.{of_length}
use Rattle.cxx_lex.proofs.Runs.{both}

-- of a table only the entries of the text's length count
pub entry_of-length : {A : Type 0} (table : List (List ℕ × A)) (text : List ℕ) (n : ℕ) → length text ≡ n → entry_of (of_length n table) text ≡ entry_of table text
entry_of-length {A} [] text n e = refl
entry_of-length {A} (x ∷ es) text n e = go (length x.0 == n) refl (bytes_eq text x.0) refl (entry_of-length es text n e)
  where
    go : (k : Bool) → (length x.0 == n) ≡ k → (b : Bool) → bytes_eq text x.0 ≡ b → entry_of (of_length n es) text ≡ entry_of es text → entry_of (cond k (x ∷ of_length n es) (of_length n es)) text ≡ cond b (Some x.1) (entry_of es text)
    go true h true p q = rw p refl
    go true h false p q = rw p q
    go false h false p q = q
    go false h true p q =
        let s : text ≡ x.0 = (bytes_eq-Decides text x.0).0 p in
        let z : true ≡ false = sym (eq-eqb (length x.0) n (ap length (sym s) ∙ e)) ∙ h in cc

-- what each entry of a table passes, the one that is found does
pub entry-pass : {A : Type 0} (q : List ℕ × A → Bool) (table : List (List ℕ × A)) → list_all q table ≡ true → (text : List ℕ) (a : A) → entry_of table text ≡ Some a → q (text, a) ≡ true
entry-pass {A} q [] h text a e = cc
entry-pass {A} q (x ∷ es) h text a e = go (bytes_eq text x.0) refl e (entry-pass q es (both (q x) (list_all q es) h).1 text a)
  where
    go : (b : Bool) → bytes_eq text x.0 ≡ b → cond b (Some x.1) (entry_of es text) ≡ Some a → (entry_of es text ≡ Some a → q (text, a) ≡ true) → q (text, a) ≡ true
    go true p f next =
        let s : x.0 ≡ text = sym ((bytes_eq-Decides text x.0).0 p) in
        let t : x.1 ≡ a = cc in
        subst (λ z. q (z, a) ≡ true) s (subst (λ z. q (x.0, z) ≡ true) t (both (q x) (list_all q es) h).0)
    go false p f next = next f
