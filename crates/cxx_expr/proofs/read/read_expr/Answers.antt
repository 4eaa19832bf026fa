use Rattle.std.proofs.Common.{◌≡◌, ◌≢◌, length, ap, sym, subst, ◌∙◌, arith}
use Rattle.std.proofs.lemmas.List.{length-map}
use Rattle.cxx_tree.specs.ExprTree.{expr_tree}
use Rattle.cxx_expr.specs.declared.stop.Stop.TheVariants.{Syntax, Deep, Memory}
use Rattle.cxx_expr.specs.Tokens.{tokens_of, token_of, words_of}
use Rattle.cxx_expr.specs.Outcome.{failed}
use Rattle.cxx_expr.specs.Whole.{whole, IsExpr}
use Rattle.cxx_expr.proofs.Whole.{whole-done, whole-none, whole-stops}
use Rattle.cxx_expr.proofs.read.read_expr.Goals as goal

pub returns-in-Ok-clause-read : goal.returns-in-Ok-clause-read
returns-in-Ok-clause-read c = subst (λ ts. IsExpr c.args.depth (expr_tree c.in-Ok.found) (words_of ts)) c.new-parser.ensures (whole-done c.args.depth c.new-parser.result (expr_tree c.in-Ok.found) c.whole.new.self c.in-Ok.ensures.reads)

pub returns-in-Err-Syntax-clause-refused : goal.returns-in-Err-Syntax-clause-refused
returns-in-Err-Syntax-clause-refused c =
    let reads : Syntax ≢ Memory → whole c.args.depth c.new-parser.result ≡ failed Syntax c.whole.new.self = rw c.in-Err-Syntax.field-0-is at c.in-Err-Syntax.ensures.reads in
    let e = reads (λ q. cc) in
    let f : whole c.args.depth (tokens_of c.args.words.now) ≡ failed Syntax c.whole.new.self = ap (whole c.args.depth) (sym c.new-parser.ensures) ∙ e in
    let n : length (tokens_of c.args.words.now) ≡ length c.args.words.now = length-map c.args.words.now token_of in (
      whole-none c.args.depth (tokens_of c.args.words.now) Syntax c.whole.new.self f,
      whole-stops c.args.depth (tokens_of c.args.words.now) c.whole.new.self _ f (omega (arith, n, ap length c.new-parser.ensures, c.in-Err-Syntax.ensures.left, c.len.ensures)),
    )

pub returns-in-Err-Deep-clause-refused : goal.returns-in-Err-Deep-clause-refused
returns-in-Err-Deep-clause-refused c =
    let reads : Deep ≢ Memory → whole c.args.depth c.new-parser.result ≡ failed Deep c.whole.new.self = rw c.in-Err-Deep.field-0-is at c.in-Err-Deep.ensures.reads in
    let e = reads (λ q. cc) in
    let f : whole c.args.depth (tokens_of c.args.words.now) ≡ failed Deep c.whole.new.self = ap (whole c.args.depth) (sym c.new-parser.ensures) ∙ e in
    whole-none c.args.depth (tokens_of c.args.words.now) Deep c.whole.new.self f
