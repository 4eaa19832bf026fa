-- Comments and blanks at the front of a text.
use Rattle.std.proofs.Common.{◌≡◌, ℕ, suc, Bool, true, false, cond, List, [], ◌∷◌, ◌++◌, length, Option, Some, None, refl, sym, ap, ◌∙◌}
use Rattle.std.specs.Prelude.{◌==◌, ◌&&◌, ◌||◌, not}
use Rattle.std.proofs.lemmas.Bool.{eqb-true}
use Rattle.cxx_lex.specs.Bytes.{begins_with, is_in_line, has_pair, begins_comment}
use Rattle.cxx_lex.specs.declared.front.Front.TheVariants as front
use Rattle.cxx_lex.specs.Runs.{run, one_more, closes, close_len}
use Rattle.cxx_lex.specs.Tokens.{EndsLine}
use Rattle.cxx_lex.specs.Scan.{block_front, comment_front}
use Rattle.cxx_lex.proofs.Runs.{both, Stops}

and-false : (x : Bool) → (x && false) ≡ false
and-false true = refl
and-false false = refl

neither : (x y : Bool) → (x || y) ≡ false → (x ≡ false) × (y ≡ false)
neither true y e = cc
neither false y e = (refl, e)

closes-pair : (b : ℕ) (bs : List ℕ) → closes (b ∷ bs) ≡ (b == 42 && begins_with 47 bs)
closes-pair b [] = sym (and-false (b == 42))
closes-pair b (c ∷ cs) = refl

-- the end of a comment is at the end of its body
pub close-front : (body rest : List ℕ) → has_pair 42 47 body ≡ false → close_len (body ++ 42 ∷ 47 ∷ rest) ≡ Some (suc (suc (length body)))
close-front [] rest e = refl
close-front (b ∷ body) rest e =
    let n = neither (b == 42 && begins_with 47 body) (has_pair 42 47 body) e in
    rw (closes-pair b (body ++ 42 ∷ 47 ∷ rest) ∙ front body n.0) (ap one_more (close-front body rest n.1))
  where
    front : (body : List ℕ) → (b == 42 && begins_with 47 body) ≡ false → (b == 42 && begins_with 47 (body ++ 42 ∷ 47 ∷ rest)) ≡ false
    front [] e = and-false (b == 42)
    front (c ∷ cs) e = e

pub close-open : (body : List ℕ) → has_pair 42 47 body ≡ false → close_len body ≡ None
close-open [] e = refl
close-open (b ∷ body) e =
    let n = neither (b == 42 && begins_with 47 body) (has_pair 42 47 body) e in
    rw (closes-pair b body ∙ n.0) (ap one_more (close-open body n.1))

pub close-none : (text : List ℕ) → close_len text ≡ None → has_pair 42 47 text ≡ false
close-none [] e = refl
close-none (b ∷ bs) e = go (closes (b ∷ bs)) refl (close_len bs) refl e (close-none bs)
  where
    go : (x : Bool) → closes (b ∷ bs) ≡ x → (o : Option ℕ) → close_len bs ≡ o → cond x (Some 2) (one_more o) ≡ None → (close_len bs ≡ None → has_pair 42 47 bs ≡ false) → ((b == 42 && begins_with 47 bs) || has_pair 42 47 bs) ≡ false
    go true p o q f next = cc
    go false p None q f next = rw (sym (closes-pair b bs) ∙ p) (next q)
    go false p (Some n) q f next = cc

-- a comment's body and what stands behind it
pub record IsClosed (text : List ℕ) (n : ℕ) : Type 0 where
  pub body : List ℕ
  pub rest : List ℕ
  pub parts : text ≡ body ++ 42 ∷ 47 ∷ rest
  pub first : has_pair 42 47 body ≡ false
  pub len : n ≡ suc (suc (length body))

closed-shape : (b : ℕ) (bs : List ℕ) → closes (b ∷ bs) ≡ true → (rest : List ℕ) × (b ∷ bs ≡ 42 ∷ 47 ∷ rest)
closed-shape b [] e = cc
closed-shape b (c ∷ cs) e = let p = both (b == 42) (c == 47) e in (cs, ap (λ z. z ∷ c ∷ cs) (eqb-true b 42 p.0) ∙ ap (λ z. 42 ∷ z ∷ cs) (eqb-true c 47 p.1))

pub close-is : (text : List ℕ) (n : ℕ) → close_len text ≡ Some n → IsClosed text n
close-is [] n e = cc
close-is (b ∷ bs) n e = go (closes (b ∷ bs)) refl (close_len bs) refl e (close-is bs)
  where
    open_here : closes (b ∷ bs) ≡ false → (body rest : List ℕ) → bs ≡ body ++ 42 ∷ 47 ∷ rest → (b == 42 && begins_with 47 body) ≡ false
    open_here p [] rest e = and-false (b == 42)
    open_here p (c ∷ cs) rest e = ap (λ z. b == 42 && begins_with 47 z) (sym e) ∙ sym (closes-pair b bs) ∙ p

    go : (x : Bool) → closes (b ∷ bs) ≡ x → (o : Option ℕ) → close_len bs ≡ o → cond x (Some 2) (one_more o) ≡ Some n → ((m : ℕ) → close_len bs ≡ Some m → IsClosed bs m) → IsClosed (b ∷ bs) n
    go true p o q f next = let s = closed-shape b bs p in record { body = []; rest = s.0; parts = s.1; first = refl; len = let z : 2 ≡ n = cc in sym z }
    go false p None q f next = cc
    go false p (Some m) q f next =
        let i = next m q in record {
          body = b ∷ i.body;
          rest = i.rest;
          parts = ap (λ z. b ∷ z) i.parts;
          first = rw (open_here p i.body i.rest i.parts) i.first;
          len = let z : suc m ≡ n = cc in sym z ∙ ap suc i.len;
        }

pub ends-line : (rest : List ℕ) → Stops is_in_line rest → EndsLine rest
ends-line [] s = tt
ends-line (b ∷ bs) s = eqb-true b 10 (go (b == 10) s)
  where
    go : (x : Bool) → not x ≡ false → x ≡ true
    go true e = refl
    go false e = cc

pub line-stops : (rest : List ℕ) → EndsLine rest → Stops is_in_line rest
line-stops [] s = tt
line-stops (b ∷ bs) s = ap is_in_line s

-- where no comment begins none is found, and the other way round
choice : {A : Type 0} (x y z : Bool) (a b : A) → (x && (y || z)) ≡ false → cond x (cond y (Some a) (cond z (Some b) None)) None ≡ None
choice {A} true true z a b e = cc
choice {A} true false true a b e = cc
choice {A} true false false a b e = refl
choice {A} false y z a b e = refl

choice-back : {A : Type 0} (x y z : Bool) (a b : A) → cond x (cond y (Some a) (cond z (Some b) None)) None ≡ None → (x && (y || z)) ≡ false
choice-back {A} true true z a b e = cc
choice-back {A} true false true a b e = cc
choice-back {A} true false false a b e = refl
choice-back {A} false y z a b e = refl

pub comment-none : (text : List ℕ) → begins_comment text ≡ false → comment_front text ≡ None
comment-none [] e = refl
comment-none (b ∷ []) e = refl
comment-none (b ∷ c ∷ cs) e = choice (b == 47) (c == 47) (c == 42) (front.Gap (suc (suc (run is_in_line cs)))) (block_front (close_len cs)) e

pub comment-absent : (text : List ℕ) → comment_front text ≡ None → begins_comment text ≡ false
comment-absent [] e = refl
comment-absent (b ∷ []) e = refl
comment-absent (b ∷ c ∷ cs) e = choice-back (b == 47) (c == 47) (c == 42) (front.Gap (suc (suc (run is_in_line cs)))) (block_front (close_len cs)) e
