-- What was written of an output.
use Rattle.std.proofs.Common.{◌≡◌, ℕ, List, [], Option, None, Some, Err, refl, sym, ap, arith}
use Rattle.std.proofs.lemmas.List.{append-nil}
use Rattle.agxx_base.specs.Sink.{appended}
use Rattle.plan_runs.specs.declared.report.RunError.TheVariants.{Memory}
use Rattle.plan_runs.specs.Outputs.{WritesOutput}

nothing : (taken : Option (List ℕ)) → taken ≡ appended taken []
nothing None = refl
nothing (Some had) = ap Some (sym (append-nil had))

-- a run without memory writes nothing
pub writes_nothing : {T : Type 0} (taken : Option (List ℕ)) (output : List ℕ) (count : ℕ) → WritesOutput {T = T} taken taken output count count (Err Memory)
writes_nothing taken output count = record {
  later = omega arith;
  all = tt;
  prefix = (0, omega arith, nothing taken);
  fault = λ e. cc;
}
