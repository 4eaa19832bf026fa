-- The normal form of a source is one of the same grammar.
use Rattle.std.proofs.Common.{ℕ, suc, List, refl, arith}
use Rattle.cxx_tree.specs.Limits.{Limits, written}
use Rattle.cxx_tree.specs.Fits.{FitsProgram}
use Rattle.cxx_tree.specs.ProgramTree.{ProgramTree}
use Rattle.cxx_tree.proofs.Larger.{program-larger}
use Rattle.cxx_normal.specs.Numbers.{number_node}
use Rattle.cxx_normal.specs.Normal.{rebuilt, normal_tree}
use Rattle.cxx_core.specs.ElaboratedProgram.{core_program}
use Rattle.normal_laws.proofs.Walked.{program-fits}
use Rattle.normal_laws.proofs.Fitting.{rebuilt-fits}
use Rattle.run_laws.specs.HaltFree.{HasNoAbort}
use Rattle.run_laws.proofs.Elaborated.{sources-are-free}

abbrev wider : Limits → Limits
wider limits = record { nesting = suc (suc limits.nesting); operators = limits.operators }

normal-fits : (main : ℕ) (limits : Limits) (q : ProgramTree) → FitsProgram written limits q → FitsProgram written (wider limits) (normal_tree main q)
normal-fits main limits q h =
    program-fits number_node written written (λ f. f) (λ f. f) (wider limits) (rebuilt main q) 0
    (rebuilt-fits written (wider limits) limits.nesting refl main q (program-larger written limits (wider limits) (omega arith) (omega arith) q h))

pub normal-is-free : (names : List (List ℕ)) (main : ℕ) (limits : Limits) (q : ProgramTree) → FitsProgram written limits q → HasNoAbort (core_program names (normal_tree main q))
normal-is-free names main limits q h = sources-are-free names (wider limits) (normal_tree main q) (normal-fits main limits q h)
