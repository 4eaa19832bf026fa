-- How a value is kept as a tree of numbers, and read back. A data type that holds itself gets its code by it.
use Rattle.std.specs.Prelude.{◌≡◌, ℕ, zero, suc, Bool, true, false, List, [], ◌∷◌, Option, Some, None, refl}
use mathlib.Core.Path.{◌∙◌}
use base.Stored.{Coded, Gv, gnil, gnum, gcons, num}
use denote.Struct.Codes.{itself}
use Rattle.std.specs.Coded.{code_by}

pub record Kept (A : Type 0) : Type 0 where
  pub write : A → Gv
  pub read : Gv → A
  pub same : (x : A) → read (write x) ≡ x

abbrev pub code_of : {A : Type 0} → Kept A → Coded A
code_of {A = A} k = code_by Gv itself k.write k.read k.same

abbrev pub first_part : Gv → Gv
first_part (gcons a b) = a
first_part _ = gnil

abbrev pub second_part : Gv → Gv
second_part (gcons a b) = b
second_part _ = gnil

abbrev pub kept_ℕ : Kept ℕ
kept_ℕ = record { write = gnum; read = num; same = λ n. refl }

-- what stands at a number of a list, or else something else
abbrev pub pick : {A : Type 0} → A → List A → ℕ → A
pick other [] n = other
pick other (x ∷ xs) zero = x
pick other (x ∷ xs) (suc n) = pick other xs n

abbrev pub bit : Bool → Gv
bit true = gnum 1
bit false = gnum 0

abbrev pub of_bit : Gv → Bool
of_bit g = pick false (false ∷ true ∷ []) (num g)

pub of-bit : (b : Bool) → of_bit (bit b) ≡ b
of-bit true = refl
of-bit false = refl

abbrev pub kept_bool : Kept Bool
kept_bool = record { write = bit; read = of_bit; same = of-bit }

module _ {A B : Type 0} where
  abbrev pub kept_by : Kept B → (to : A → B) (from : B → A) → ((x : A) → from (to x) ≡ x) → Kept A
  kept_by k to from back =
      record { write = λ x. k.write (to x); read = λ g. from (k.read g); same = λ x. (λ i. from (k.same (to x) i)) ∙ back x }

  abbrev pub kept× : Kept A → Kept B → Kept (A × B)
  kept× a b = record {
    write = λ p. gcons (a.write p.0) (b.write p.1);
    read = λ g. (a.read (first_part g), b.read (second_part g));
    same = λ p i. (a.same p.0 i, b.same p.1 i);
  }

module _ {A : Type 0} (k : Kept A) where
  abbrev pub write_option : Option A → Gv
  write_option None = gnil
  write_option (Some x) = gcons (k.write x) gnil

  abbrev pub read_option : Gv → Option A
  read_option (gcons x _) = Some (k.read x)
  read_option _ = None

  pub option-same : (o : Option A) → read_option (write_option o) ≡ o
  option-same None = refl
  option-same (Some x) = λ i. Some (k.same x i)

  abbrev pub kept_option : Kept (Option A)
  kept_option = record { write = write_option; read = read_option; same = option-same }

  abbrev pub write_list : List A → Gv
  write_list [] = gnil
  write_list (x ∷ xs) = gcons (k.write x) (write_list xs)

  abbrev pub read_list : Gv → List A
  read_list (gcons x xs) = k.read x ∷ read_list xs
  read_list _ = []

  pub list-same : (xs : List A) → read_list (write_list xs) ≡ xs
  list-same [] = refl
  list-same (x ∷ xs) = λ i. k.same x i ∷ list-same xs i

  abbrev pub kept_list : Kept (List A)
  kept_list = record { write = write_list; read = read_list; same = list-same }
