use Rattle.std.proofs.Common.{◌≡◌, ◌∷◌, ◌∙◌, List, ℕ, Some, None, map, true, refl}
use Rattle.clap.specs.Words.{app_of, kind_of}
use Rattle.clap.specs.declared.error.kind.ErrorKind.TheVariants.{OutOfMemory}
use Rattle.agxx_calls.proofs.Refused.{not-read, refused}
use Rattle.agxx_calls.proofs.parse.is_line.Goals as goal

pub returns-in-None : goal.returns-in-None
returns-in-None c f =
    not-read (app_of c.in_ok-line.line) (map (λ s. s.now) c.args.texts.now) c.in-Ok.matches None c.in_ok-line.ensures c.in-Ok.ensures.matches c.in-None.ensures (λ e. cc)

pub returns-in-Ok : goal.returns-in-Ok
returns-in-Ok c f =
    let words = map (λ s. s.now) c.args.texts.now in
    let got : List (List ℕ) = c.in-Some.name.now ∷ map (λ s. s.now) c.in-Some.values.now in
    let differs = c.are_words.ensures f in
    not-read (app_of c.in_ok-line.line) words c.in-Ok.matches (Some got) c.in_ok-line.ensures c.in-Ok.ensures.matches c.in-Some.ensures
    (λ e. let same : words ≡ got = cc in differs same)

pub returns : goal.returns
returns c f =
    refused (app_of c.in_ok-line.line) (map (λ s. s.now) c.args.texts.now) (kind_of c.in-Err.error) c.in_ok-line.ensures c.in-Err.ensures.passes
    (λ e. let k : c.kind.result ≡ OutOfMemory = c.kind.ensures ∙ e in
    let t : c.eq.result ≡ true = c.eq.ensures ∙ (rw k refl) in cc)
