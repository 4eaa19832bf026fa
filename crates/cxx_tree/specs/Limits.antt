-- Which forms a text may have, and how large it may be.
use Rattle.std.specs.Prelude.{ℕ, suc, ◌≡◌, List, [], ◌∷◌}
use Rattle.agxx_base.specs.declared.kind.Mode.{Mode}
use Rattle.agxx_base.specs.declared.kind.Mode.TheVariants as mode

-- what is read: a program that a user wrote, a program that may have been woven, or an aspect file
pub data Grammar : Type 0 where
  written : Grammar
  woven : Grammar
  aspects : Grammar

abbrev pub grammar_of : Mode → Grammar
grammar_of mode.Source = written
grammar_of mode.Woven = woven

-- members of type `std::mutex` and `std::abort();` stand in woven programs alone
abbrev pub HasWovenForms : Grammar → Type 0
HasWovenForms woven = Unit {0}
HasWovenForms written = ⊥
HasWovenForms aspects = ⊥

-- `tjp->proceed()` and `tjp->result()` stand in aspect files alone
abbrev pub HasAdviceForms : Grammar → Type 0
HasAdviceForms aspects = Unit {0}
HasAdviceForms written = ⊥
HasAdviceForms woven = ⊥

-- how deep braces, parentheses and `else if` may nest, and how many operators a full expression may have
pub record Limits : Type 0 where
  pub nesting : ℕ
  pub operators : ℕ

abbrev pub limits_of : Grammar → Limits
limits_of written = record { nesting = 99; operators = 400 }
limits_of woven = record { nesting = 100; operators = 400 }
limits_of aspects = record { nesting = 99; operators = 400 }

-- one more brace, parenthesis or `else if` may open at this depth, and what stands in it has the depth that is left
abbrev pub Opens : ℕ → (ℕ → Type 0) → Type 0
Opens depth Holds = (below : ℕ) × (depth ≡ suc below) × Holds below

-- what holds of each part of a list
abbrev pub Every : {A : Type 0} → (A → Type 0) → List A → Type 0
Every Holds [] = Unit {0}
Every Holds (first ∷ rest) = Holds first × Every Holds rest
