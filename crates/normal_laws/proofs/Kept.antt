-- What a program keeps in its normal form.
use Rattle.std.proofs.Common.{refl, sym, subst, arith}
use Rattle.cxx_tree.specs.Limits.{written, woven, limits_of, Every}
use Rattle.cxx_tree.specs.Fits.{FitsProgram}
use Rattle.cxx_tree.proofs.Larger.{program-larger}
use Rattle.cxx_normal.specs.Numbers.{number_node}
use Rattle.cxx_tree.proofs.Tokens.{spelled_alike}
use Rattle.cxx_stmt.specs.Dialect.{special_of}
use Rattle.cxx_parse.specs.Numbering.{dialect_in}
use Rattle.cxx_normal.specs.Normal.{rebuilt, normal_tree}
use Rattle.cxx_normal.proofs.Blanked.{program-alike}
use Rattle.cxx_written.specs.Written.{IsWrittenWord}
use Rattle.normal_laws.specs.Kept.{NormalIsWritten, NormalFitsWoven}
use Rattle.normal_laws.proofs.Words.{rebuilt-all}
use Rattle.normal_laws.proofs.Walked.{program-fits}
use Rattle.normal_laws.proofs.Fitting.{rebuilt-fits}

-- numbers are not spelled
pub normal-is-written : NormalIsWritten
normal-is-written mode names main q is =
    let special = special_of (dialect_in mode names) in
    subst (Every (IsWrittenWord mode names)) (sym (spelled_alike special (normal_tree main q) (rebuilt main q) (program-alike (rebuilt main q)))) (rebuilt-all (IsWrittenWord mode names) special (λ k. tt) (λ x. tt) (omega arith) main (λ h. tt) q is)

-- the limits are made larger, then the rules applied, then the numbers given
pub normal-fits-woven : NormalFitsWoven
normal-fits-woven main q fits =
    let large = limits_of woven in
    let wider : FitsProgram written large q = program-larger written (limits_of written) large (omega arith) (omega arith) q fits in
    program-fits number_node written woven absurd absurd large (rebuilt main q) 0 (rebuilt-fits written large 98 refl main q wider)
