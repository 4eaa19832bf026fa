use Rattle.std.proofs.Common.{◌∷◌, ◌∙◌, ap, sym, codes, option_map, List, ℕ}
use Rattle.clap.specs.Words.{found_of, rows_of}
use Rattle.clap.proofs.WalkLemmas.{raw_values-rows}
use Rattle.agxx_calls.proofs.Parsed.{read-is}
use Rattle.agxx_calls.proofs.parse.read_words.Goals as goal

pub returns-in_err-values : goal.returns-in_err-values
returns-in_err-values c =
    let f = found_of c.in_ok-name.inside.now in
    let is = read-is c.args.matches.now c.in_ok-name.name.now (rows_of f) c.in_ok-name.ensures.name c.in_ok-name.ensures.rows in
    rw c.from_residual-in_err-values.ensures (sym (is ∙ ap (option_map (λ (values : List (List ℕ)). c.in_ok-name.name.now ∷ values)) (sym (raw_values-rows f (codes "files")) ∙ sym c.in_err-values.ensures)))

pub returns : goal.returns
returns c =
    let f = found_of c.in_ok-name.inside.now in
    let is = read-is c.args.matches.now c.in_ok-name.name.now (rows_of f) c.in_ok-name.ensures.name c.in_ok-name.ensures.rows in
    sym (is ∙ ap (option_map (λ (values : List (List ℕ)). c.in_ok-name.name.now ∷ values)) (sym (raw_values-rows f (codes "files")) ∙ sym c.in_ok-values.ensures))
