-- Loops that number one part after another and put the copies behind each other.
use Rattle.std.proofs.Common.{◌≡◌, ℕ, suc, ◌+◌, ◌<◌, ◌≤◌, refl, ap, sym, ◌∙◌, List, [], ◌∷◌, ◌++◌, map, length, drop, get_or, add-one}
use Rattle.std.proofs.Math.Seq.{drop-cons}
use Rattle.std.proofs.lemmas.List.{append-nil, drop_all}
use Rattle.cxx_tree.specs.ExprTree as e
use Rattle.cxx_tree.specs.StmtTree as s
use Rattle.cxx_normal.specs.Numbers as n
use Rattle.cxx_normal.specs.Numbers.{Numbering}
use Rattle.cxx_normal.specs.Gives.{behind}

-- the item of a turn stands before what is left
pub at-turn : {U : Type 0} (xs : List U) (i : ℕ) (x : U) → i < length xs → x ≡ get_or xs i x → drop i xs ≡ x ∷ drop (i + 1) xs
at-turn xs i x inside at = rw add-one (drop-cons xs i x inside ∙ ap (λ y. y ∷ drop (suc i) xs) (sym at))

module _ {T A : Type 0} (tree : T → A) (number : Numbering A) where
  -- what was to be numbered is what the copies are, and behind them what is left
  abbrev pub IsNumbered : List A × ℕ → List T → List T → ℕ → Type 0
  IsNumbered whole copies left k = whole ≡ behind (map tree copies) (n.number_each number (map tree left) k)

  -- the whole are these parts, from this number on
  abbrev pub parts : List T → ℕ → List A × ℕ
  parts xs k = n.number_each number (map tree xs) k

  abbrev pub seen : List T × ℕ → List A × ℕ
  seen w = (map tree w.0, w.1)

  push-behind : (copies : List T) (copy : T) (w : List A × ℕ) → behind (map tree (copies ++ copy ∷ [])) w ≡ behind (map tree copies) (behind (tree copy ∷ []) w)
  push-behind [] copy w = refl
  push-behind (first ∷ more) copy w = ap (behind (tree first ∷ [])) (push-behind more copy w)

  pub each-turn : (whole : List A × ℕ) (xs : List T) (i : ℕ) (x copy : T) (copies new : List T) (k next : ℕ) → IsNumbered whole copies (drop i xs) k → i < length xs → x ≡ get_or xs i x → new ≡ copies ++ copy ∷ [] → (tree copy ≡ (number (tree x) k).0) × (next ≡ (number (tree x) k).1) → IsNumbered whole new (drop (i + 1) xs) next
  each-turn whole xs i x copy copies new k next is inside at pushed given =
      let left : drop i xs ≡ x ∷ drop (i + 1) xs = at-turn xs i x inside at in
      let one : n.number_each number (map tree (x ∷ drop (i + 1) xs)) k ≡ behind (tree copy ∷ []) (n.number_each number (map tree (drop (i + 1) xs)) next) = rw (given.0, given.1) in
      is ∙ (ap (λ ys. behind (map tree copies) (n.number_each number (map tree ys) k)) left ∙ (ap (behind (map tree copies)) one ∙ (sym (push-behind copies copy (n.number_each number (map tree (drop (i + 1) xs)) next)) ∙ ap (λ ys. behind (map tree ys) (n.number_each number (map tree (drop (i + 1) xs)) next)) (sym pushed))))

  pub each-done : (whole : List A × ℕ) (xs : List T) (i : ℕ) (copies : List T) (k : ℕ) → IsNumbered whole copies (drop i xs) k → length xs ≤ i → seen (copies, k) ≡ whole
  each-done whole xs i copies k is over = sym (is ∙ rw (drop_all i xs over, append-nil (map tree copies)))

pub behind-behind : {A : Type 0} (xs ys : List A) (w : List A × ℕ) → behind xs (behind ys w) ≡ behind (xs ++ ys) w
behind-behind [] ys w = refl
behind-behind (x ∷ xs) ys w = ap (behind (x ∷ [])) (behind-behind xs ys w)

pub each-append : {A : Type 0} (number : Numbering A) (xs ys : List A) (k : ℕ) → n.number_each number (xs ++ ys) k ≡ behind (n.number_each number xs k).0 (n.number_each number ys (n.number_each number xs k).1)
each-append number [] ys k = refl
each-append number (x ∷ xs) ys k = ap (behind ((number x k).0 ∷ [])) (each-append number xs ys (number x k).1)

-- loops in which each turn puts some parts behind the others
module _ {T U A : Type 0} (view : T → A) (number : Numbering A) (all : List U → List A) (one : U → List A) (step : (x : U) (xs : List U) → all (x ∷ xs) ≡ one x ++ all xs) where
  abbrev pub IsAdded : List A × ℕ → List T → List U → ℕ → Type 0
  IsAdded whole made left k = whole ≡ behind (map view made) (n.number_each number (all left) k)

  pub add-turn : (whole : List A × ℕ) (xs : List U) (i : ℕ) (x : U) (made new : List T) (k next : ℕ) → IsAdded whole made (drop i xs) k → i < length xs → x ≡ get_or xs i x → (map view new ≡ map view made ++ (n.number_each number (one x) k).0) × (next ≡ (n.number_each number (one x) k).1) → IsAdded whole new (drop (i + 1) xs) next
  add-turn whole xs i x made new k next is inside at given =
      let rest = drop (i + 1) xs in
      is ∙ (ap (λ ys. behind (map view made) (n.number_each number (all ys) k)) (at-turn xs i x inside at) ∙ (ap (λ ys. behind (map view made) (n.number_each number ys k)) (step x rest) ∙ (ap (behind (map view made)) (each-append number (one x) (all rest) k) ∙ (behind-behind (map view made) (n.number_each number (one x) k).0 (n.number_each number (all rest) (n.number_each number (one x) k).1) ∙ (ap (λ ys. behind ys (n.number_each number (all rest) (n.number_each number (one x) k).1)) (sym given.0) ∙ ap (λ m. behind (map view new) (n.number_each number (all rest) m)) (sym given.1))))))

  pub add-done : all [] ≡ [] → (whole : List A × ℕ) (xs : List U) (i : ℕ) (made : List T) (k : ℕ) → IsAdded whole made (drop i xs) k → length xs ≤ i → seen view number (made, k) ≡ whole
  add-done none whole xs i made k is over = sym (is ∙ rw (drop_all i xs over, none, append-nil (map view made)))

abbrev pub larger : {A B : Type 0} → (A → B) → A × ℕ → B × ℕ
larger make w = (make w.0, w.1)

pub listed-exprs : (ts : List e.ExprTree) (k : ℕ) → n.number_exprs (e.listed_exprs ts) k ≡ larger e.listed_exprs (n.number_each n.number_expr ts k)
listed-exprs [] k = refl
listed-exprs (t ∷ ts) k = rw (listed-exprs ts (n.number_expr t k).1)

pub listed-stmts : (ts : List s.StmtTree) (k : ℕ) → n.number_stmts (s.listed_stmts ts) k ≡ larger s.listed_stmts (n.number_each n.number_stmt ts k)
listed-stmts [] k = refl
listed-stmts (t ∷ ts) k = rw (listed-stmts ts (n.number_stmt t k).1)
