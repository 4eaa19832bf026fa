-- The top of a stack, by its place in the list in which it is kept.
use Rattle.std.proofs.Common.{◌≡◌, ℕ, ◌+◌, ◌-◌, ◌<◌, Bool, false, cond, List, [], ◌∷◌, ◌++◌, Option, Some, None, Result, Ok, Err, IfOk, OnOk, subst, length, reverse, get_or, set, refl, ap, sym, ◌∙◌, length-append, arith}
use Rattle.std.proofs.Math.Seq.{set-append_seam, get_or-append_seam}
use Rattle.std.proofs.lemmas.Grind.{reverse_onto}
use Rattle.std.proofs.lemmas.List.{reverse-append, reverse-reverse, length-reverse}
use Rattle.step_machine.specs.declared.datum.Datum.{Datum}
use Rattle.step_machine.specs.Frame.{Frame, pushed, depth_of}
use Rattle.step_machine.specs.Turn.{handed}
use Rattle.step_frame.specs.declared.work.Work.{Work}
use Rattle.step_frame.specs.Works.{item_of}
use Rattle.step_frame.specs.Threads.{are_some, with_item, Took, IsTaken}

module _ {X : Type 0} where
  last_place : (zs : List X) (y : X) → length (zs ++ y ∷ []) - 1 ≡ length zs
  last_place zs y = omega (arith, length-append zs (y ∷ []))

  last_is : (zs : List X) (y d : X) → get_or (zs ++ y ∷ []) (length (zs ++ y ∷ []) - 1) d ≡ y
  last_is zs y d = ap (λ n. get_or (zs ++ y ∷ []) n d) (last_place zs y) ∙ get_or-append_seam zs y [] d

  last_set : (zs : List X) (y w : X) → reverse (set (zs ++ y ∷ []) (length (zs ++ y ∷ []) - 1) w) ≡ w ∷ reverse zs
  last_set zs y w =
      ap (λ n. reverse (set (zs ++ y ∷ []) n w)) (last_place zs y) ∙ ap reverse (set-append_seam zs y [] w) ∙ reverse-append zs (w ∷ [])

  with_last : (xs ys : List X) (y : X) → reverse xs ≡ y ∷ ys → xs ≡ reverse ys ++ y ∷ []
  with_last xs ys y e = sym (reverse-reverse xs) ∙ ap reverse e ∙ reverse_onto ys y []

  none : (xs : List X) → reverse xs ≡ [] → length xs ≡ 0
  none xs e = sym (length-reverse xs) ∙ ap length e

  -- the last of a list, and the list with another last, by the reversed list
  pub top_is : (xs ys : List X) (y x : X) → reverse xs ≡ y ∷ ys → x ≡ get_or xs (length xs - 1) x → x ≡ y
  top_is xs ys y x e h = h ∙ ap (λ l. get_or l (length l - 1) x) (with_last xs ys y e) ∙ last_is (reverse ys) y x

  pub top_set : (xs ys : List X) (y w : X) → reverse xs ≡ y ∷ ys → reverse (set xs (length xs - 1) w) ≡ w ∷ ys
  top_set xs ys y w e =
      ap (λ l. reverse (set l (length l - 1) w)) (with_last xs ys y e) ∙ last_set (reverse ys) y w ∙ ap (λ l. w ∷ l) (reverse-reverse ys)

given_by : (xs top : List Frame) (v : Datum) (f : Frame) → 0 < length xs → f ≡ get_or xs (length xs - 1) f → reverse xs ≡ top
    → reverse (set xs (length xs - 1) (pushed v f)) ≡ handed (Some v) top
given_by xs [] v f p h e = let n = none xs e in absurd (omega arith)
given_by xs (y ∷ ys) v f p h e = top_set xs ys y (pushed v f) e ∙ ap (λ g. pushed v g ∷ ys) (top_is xs ys y f e h)

-- the frame on top, of so many, gets a value
pub given_ok : {A E : Type 0} (r : Result A E) (xs top : List Frame) (n : ℕ) (v : Datum) (f g : Frame) → n ≡ length xs → 0 < length xs → f ≡ get_or xs (n - 1) f
    → OnOk r (g ≡ pushed v f) → reverse xs ≡ top → OnOk r (reverse (set xs (n - 1) g) ≡ handed (Some v) top)
given_ok (Ok a) xs top n v f g e p h i t =
    ap (λ m. reverse (set xs (m - 1) g)) e ∙ ap (λ x. reverse (set xs (length xs - 1) x)) i ∙ given_by xs top v f p (h ∙ ap (λ m. get_or xs (m - 1) f) e) t
given_ok (Err e) xs top n v f g k p h i t = tt

taken_by : (xs top : List Frame) (f g : Frame) (taken : Option Work) → 0 < length xs → f ≡ get_or xs (length xs - 1) f → Took f g taken → reverse xs ≡ top
    → IsTaken top (reverse (set xs (length xs - 1) g)) taken
taken_by xs [] f g taken p h t e = let n = none xs e in absurd (omega arith)
taken_by xs (y ∷ ys) f g None p h t e =
    let i : f ≡ y = top_is xs ys y f e h in
    (top_set xs ys y g e ∙ ap (λ x. x ∷ ys) (t.0 ∙ i), ap (λ (x : Frame). are_some x.items) (sym i) ∙ t.1)
taken_by xs (y ∷ ys) f g (Some w) p h t e =
    let i : f ≡ y = top_is xs ys y f e h in
    ap (λ x. x ∷ ys) (sym i ∙ t) ∙ sym (ap (with_item (item_of w)) (top_set xs ys y g e))

-- the first item of the frame on top, of so many, is taken
pub taken_ok : {E : Type 0} (r : Result (Option Work) E) (xs top : List Frame) (n : ℕ) (f g : Frame) → n ≡ length xs → 0 < length xs → f ≡ get_or xs (n - 1) f
    → IfOk r (λ o. Took f g o) → reverse xs ≡ top → IfOk r (λ o. IsTaken top (reverse (set xs (n - 1) g)) o)
taken_ok (Ok o) xs top n f g e p h i t =
    subst (λ m. IsTaken top (reverse (set xs (m - 1) g)) o) (sym e) (taken_by xs top f g o p (h ∙ ap (λ m. get_or xs (m - 1) f) e) i t)
taken_ok (Err e) xs top n f g k p h i t = tt

-- another frame on top that counts as the one before does
recounted_by : (xs top : List Frame) (f g : Frame) → 0 < length xs → f ≡ get_or xs (length xs - 1) f → g.is_generated ≡ f.is_generated → reverse xs ≡ top
    → depth_of (reverse (set xs (length xs - 1) g)) ≡ depth_of top
recounted_by xs [] f g p h t e = let n = none xs e in absurd (omega arith)
recounted_by xs (y ∷ ys) f g p h t e =
    ap depth_of (top_set xs ys y g e) ∙ ap (λ b. cond b (depth_of ys) (depth_of ys + 1)) (t ∙ ap (λ (x : Frame). x.is_generated) (top_is xs ys y f e h))

pub recounted : (xs top : List Frame) (n : ℕ) (f g : Frame) → n ≡ length xs → 0 < length xs → f ≡ get_or xs (n - 1) f → g.is_generated ≡ f.is_generated → reverse xs ≡ top
    → depth_of (reverse (set xs (n - 1) g)) ≡ depth_of top
recounted xs top n f g e p h i t =
    ap (λ m. depth_of (reverse (set xs (m - 1) g))) e ∙ recounted_by xs top f g p (h ∙ ap (λ m. get_or xs (m - 1) f) e) i t
