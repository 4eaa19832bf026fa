-- Which forms the two modes have.
use Rattle.std.proofs.Common.{◌≡◌, true, refl}
use Rattle.agxx_base.specs.declared.kind.Mode.{Mode}
use Rattle.agxx_base.specs.declared.kind.Mode.TheVariants as mode_of
use Rattle.cxx_tree.specs.Limits.{grammar_of, HasWovenForms, HasAdviceForms}
use Rattle.cxx_stmt.specs.declared.dialect.Dialect.{Dialect}
use Rattle.cxx_stmt.specs.Dialect.{is_woven, grammar}

pub no_advice-in : (mode : Mode) → HasAdviceForms (grammar_of mode) → ⊥
no_advice-in mode_of.Source v = v
no_advice-in mode_of.Woven v = v

-- a program has no forms of advice
pub no_advice-of : (d : Dialect) → HasAdviceForms (grammar d) → ⊥
no_advice-of d v = no_advice-in d.mode v

pub is_woven-of : (mode : Mode) → HasWovenForms (grammar_of mode) → is_woven mode ≡ true
is_woven-of mode_of.Source v = absurd v
is_woven-of mode_of.Woven v = refl

pub woven_forms-of : (mode : Mode) → is_woven mode ≡ true → HasWovenForms (grammar_of mode)
woven_forms-of mode_of.Source e = cc
woven_forms-of mode_of.Woven e = tt
