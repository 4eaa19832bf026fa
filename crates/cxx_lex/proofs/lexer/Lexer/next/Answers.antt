use Rattle.std.proofs.Common.{◌≡◌, ℕ, false, take, length, refl, sym, ◌∙◌, eq-eqb}
use Rattle.std.specs.Prelude.{◌==◌}
use Rattle.std.proofs.lemmas.Bool.{eqb-true, false≢true}
use Rattle.cxx_lex.specs.Left.{left_of}
use Rattle.cxx_lex.proofs.Stepping.{begins, ends, gap-passed, token-passed, refusal-found}
use Rattle.cxx_lex.proofs.lexer.Lexer.next.Goals as goal

some : (n : ℕ) → false ≡ (n == 0) → n ≡ 0 → ⊥
some n e z = false≢true (e ∙ eq-eqb n 0 z)

pub gaps-init : goal.gaps-init
gaps-init c = begins c.args.self.now (left_of c.self.inside) c.self.view_is c.self.invariant

pub invariant_of-self : goal.invariant_of-self
invariant_of-self c = c.gaps.invariant.room

pub returns-then-is_empty : goal.returns-then-is_empty
returns-then-is_empty c = ends c.args.self.now (left_of c.gaps.self-inside) c.gaps.at c.gaps.left.now c.gaps.invariant (eqb-true (length c.gaps.left.now) 0 (sym c.if-is_empty.ensures))

pub gaps-preserved : goal.gaps-preserved
gaps-preserved c =
    gap-passed c.args.self.now (left_of c.gaps.self-inside) c.gaps.at c.place_past-at.result c.gaps.left.now c.split_at.result.0.now c.split_at.result.1.now c.in-Gap.len c.gaps.invariant (some _ c.if-is_empty.ensures)
    c.in-Gap.ensures.value c.split_at.ensures.front c.split_at.ensures.back c.place_past-at.ensures.value c.place_past-at.ensures.line c.place_past-at.ensures.column

pub returns-in-Token : goal.returns-in-Token
returns-in-Token c =
    token-passed c.args.self.now (left_of c.gaps.self-inside) c.gaps.at c.place_past-self-inside.result c.gaps.left.now c.split_at-in-Token.result.0.now c.split_at-in-Token.result.1.now c.in-Token.kind c.in-Token.len c.gaps.invariant
    (some _ c.if-is_empty.ensures) c.in-Token.ensures.value c.split_at-in-Token.ensures.front c.split_at-in-Token.ensures.back c.place_past-self-inside.ensures.value

pub invariant_of-self-in-Refused : goal.invariant_of-self-in-Refused
invariant_of-self-in-Refused c = c.gaps.invariant.room

pub returns-in-Refused : goal.returns-in-Refused
returns-in-Refused c =
    refusal-found c.args.self.now (left_of c.gaps.self-inside) c.gaps.at c.place_past-place.result c.gaps.left.now (take c.in-Refused.len c.gaps.left.now) c.in-Refused.rule c.in-Refused.len c.gaps.invariant (some _ c.if-is_empty.ensures) c.in-Refused.ensures.value refl c.place_past-place.ensures.value
