-- Parts that the rules of statements and declarations share.
use Rattle.std.specs.Prelude.{ℕ, zero, suc, Bool, false, if◌then◌else◌, nat_eq, List, [], ◌∷◌, length, Option, Some, None}
use Rattle.agxx_base.specs.declared.place.Place.{Place}
use Rattle.agxx_base.specs.declared.vocabulary.Sign.{Sign}
use Rattle.agxx_base.specs.declared.vocabulary.Sign.TheVariants as sg
use Rattle.cxx_tree.specs.declared.node.Placed.{Placed}
use Rattle.cxx_tree.specs.declared.expr.Ref.{Ref}
use Rattle.cxx_tree.specs.Words as w
use Rattle.cxx_tree.specs.Words.{Word}
use Rattle.cxx_tree.specs.ExprTree.{ExprTree}
use Rattle.cxx_expr.specs.declared.stop.Stop.TheVariants.{Syntax, Deep}
use Rattle.cxx_expr.specs.Tokens.{Tokens, is_sign, next, sees, after}
use Rattle.cxx_expr.specs.Outcome.{done, failed, Parse, and_then, expect}
use Rattle.cxx_expr.specs.Lefts.{reference}
use Rattle.cxx_expr.specs.Descent.{front_of}
use Rattle.cxx_tree.specs.Fits.{expr_level}
use Rattle.cxx_expr.specs.Full.{full_level}

-- ---- what comes next

abbrev pub is_name : ℕ → Word → Bool
is_name n (w.name found) = nat_eq found n
is_name n _ = false

-- the name of this number comes next
abbrev pub sees_name : ℕ → Tokens → Bool
sees_name n [] = false
sees_name n (t ∷ ts) = is_name n t.item

abbrev pub sign_place : Sign → Option (Placed Word) → Option Place
sign_place s None = None
sign_place s (Some t) = if is_sign s t.item then Some t.at else None

-- where this sign stands, if it comes next
abbrev pub sign_at : Sign → Tokens → Option Place
sign_at s ts = sign_place s (next ts)

-- ---- a part and signs around it

-- a part that was read, with this sign behind it
abbrev pub ended_by : {A : Type 0} → Sign → A → Parse Tokens A
ended_by s part ts = and_then (expect s ts) (λ u. done part)

-- behind an opening sign, which comes next, if one more may be open
abbrev pub opens : {A : Type 0} → ℕ → (ℕ → Parse Tokens A) → Parse Tokens A
opens zero inner ts = failed Deep ts
opens (suc below) inner ts = inner below (after ts)

-- a part in parentheses
abbrev pub in_parens : {A : Type 0} → ℕ → (ℕ → Parse Tokens A) → Parse Tokens A
in_parens depth inner ts =
    if sees sg.OpenParen ts then opens depth (λ below ts. and_then (inner below ts) (ended_by sg.CloseParen)) ts else failed Syntax ts

-- a pair of parentheses with nothing in it
unfoldable pub no_parts : ℕ → Parse Tokens (Unit {0})
no_parts depth = in_parens depth (λ below. done tt)

-- a part that stands there unless this sign, which follows it, comes next
abbrev pub unless : {A : Type 0} → Sign → Parse Tokens A → Parse Tokens (Option A)
unless s part ts = if sees s ts then done None ts else and_then (part ts) (λ x. done (Some x))

-- ---- lists

-- the parts behind one: none, or a comma and more
abbrev pub others : {A : Type 0} → Parse Tokens (List A) → Parse Tokens (List A)
others more ts = if sees sg.Comma ts then more (after ts) else done [] ts

-- one part or more, with commas between. The number bounds the turns.
unfoldable pub some_from : {A : Type 0} → Parse Tokens A → ℕ → Parse Tokens (List A)
some_from part zero ts = failed Syntax ts
some_from part (suc n) ts = and_then (part ts) (λ x ts. front_of (x ∷ []) (others (λ ts. some_from part n ts) ts))

abbrev pub some : {A : Type 0} → Parse Tokens A → Parse Tokens (List A)
some part ts = some_from part (suc (length ts)) ts

-- none or more, up to a closing parenthesis
abbrev pub any : {A : Type 0} → Parse Tokens A → Parse Tokens (List A)
any part ts = if sees sg.CloseParen ts then done [] ts else some part ts

-- parts up to a closing brace, which is passed. The number bounds the turns.
unfoldable pub braced_from : {A : Type 0} → Parse Tokens A → ℕ → Parse Tokens (List A)
braced_from part zero ts = failed Syntax ts
braced_from part (suc n) ts =
    if sees sg.CloseBrace ts then done [] (after ts) else and_then (part ts) (λ x ts. front_of (x ∷ []) (braced_from part n ts))

abbrev pub braced : {A : Type 0} → Parse Tokens A → Parse Tokens (List A)
braced part ts = braced_from part (suc (length ts)) ts

-- Expressions of so many operators at most.
module _ (most : ℕ) where
  -- one full expression or more, with commas between
  unfoldable pub expressions : ℕ → Parse Tokens (List ExprTree)
  expressions depth = some (full_level most depth expr_level)

  -- arguments that are each a full expression, with their parentheses
  unfoldable pub arguments : ℕ → Parse Tokens (List ExprTree)
  arguments depth = in_parens depth (λ below ts. if sees sg.CloseParen ts then done [] ts else expressions below ts)

-- ---- references

abbrev pub ref_next : Option (Placed Word) → Parse Tokens Ref
ref_next None ts = failed Syntax ts
ref_next (Some t) ts = reference t.at ts

-- a reference to a name, where it stands
unfoldable pub placed_ref : Parse Tokens Ref
placed_ref ts = ref_next (next ts) ts
