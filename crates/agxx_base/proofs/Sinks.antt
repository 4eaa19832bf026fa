-- What sinks were given, in sequence.
use Rattle.std.proofs.Common.{◌≡◌, ℕ, ◌+◌, ◌-◌, ◌≤◌, List, [], ◌++◌, length, take, drop, Option, None, Some, Result, Ok, Err, refl, sym, ap, ◌∙◌, append_assoc, length-append, arith}
use Rattle.std.proofs.lemmas.List.{take-append-le, append-nil}
use Rattle.std.proofs.Math.Seq.{take-add, take-append-add}
use Rattle.agxx_base.proofs.Pieces.{take-take, behind}
use Rattle.agxx_base.specs.Causes.{Rose}
use Rattle.agxx_base.specs.Sink.{appended, WritesWhole}

-- bytes behind bytes
pub appended-appended : (taken : Option (List ℕ)) (xs ys : List ℕ) → appended (appended taken xs) ys ≡ appended taken (xs ++ ys)
appended-appended None xs ys = refl
appended-appended (Some had) xs ys = ap Some (append_assoc had xs ys)

-- a sink that has the first `done` bytes takes n of a piece that was cut behind these
pub appended-more : (had now next : Option (List ℕ)) (bytes piece : List ℕ) (done n : ℕ) → now ≡ appended had (take done bytes) → piece ≡ take 4096 (take (length bytes - done) (drop done bytes)) → n ≤ 4096 → next ≡ appended now (take n piece) → next ≡ appended had (take (done + n) bytes)
appended-more had now next bytes piece done n before cut few took =
    let same : take n piece ≡ take n (drop done bytes) = ap (take n) (cut ∙ ap (take 4096) (behind done bytes)) ∙ take-take n 4096 (drop done bytes) few in
    took ∙ ap (λ t. appended t (take n piece)) before ∙ appended-appended had (take done bytes) (take n piece) ∙ ap (λ xs. appended had (take done bytes ++ xs)) same ∙ ap (appended had) (sym (take-add done n bytes))

-- two lists of bytes written one after the other, the second at Ok of the first, were written as both together
pub writes-both : {T U E : Type 0} (had now next : Option (List ℕ)) (xs ys : List ℕ) (before middle after : ℕ) (first : T) (second : Result U E) → WritesWhole {E = E} had now xs before middle (Ok first) → WritesWhole now next ys middle after second → WritesWhole had next (xs ++ ys) before after second
writes-both had now next xs ys before middle after first (Ok u) one two = record {
  later = omega (arith, one.later, two.later);
  all = two.all ∙ ap (λ t. appended t ys) one.all ∙ appended-appended had xs ys;
  prefix = tt;
  failed = tt;
}
writes-both had now next xs ys before middle after first (Err e) one two =
    let part = two.prefix in
    record {
      later = omega (arith, one.later, two.later);
      all = tt;
      prefix = (length xs + part.0, omega (arith, part.1, length-append xs ys), part.2 ∙ ap (λ t. appended t (take part.0 ys)) one.all ∙ appended-appended had xs (take part.0 ys) ∙ ap (appended had) (sym (take-append-add xs ys part.0)));
      failed = rose (one.later) (two.failed);
    }
  where
    rose : before ≤ middle → Rose middle after → Rose before after
    rose a b = omega arith

-- what a first write that failed left is a prefix of both lists together
pub writes-first : {T U E : Type 0} (had now : Option (List ℕ)) (xs ys : List ℕ) (before after : ℕ) (e : E) → WritesWhole {T = T} had now xs before after (Err e) → WritesWhole {T = U} had now (xs ++ ys) before after (Err e)
writes-first had now xs ys before after e one =
    let part = one.prefix in
    let fits : part.0 ≤ length xs = part.1 in
    record {
      later = one.later;
      all = tt;
      prefix = (part.0, omega (arith, fits, length-append xs ys), part.2 ∙ ap (appended had) (sym (take-append-le part.0 xs ys fits)));
      failed = one.failed;
    }

-- nothing written is nothing appended
pub writes-nothing : {T E : Type 0} (had : Option (List ℕ)) (before : ℕ) (u : T) → WritesWhole {E = E} had had [] before before (Ok u)
writes-nothing None before u = record { later = omega arith; all = refl; prefix = tt; failed = tt }
writes-nothing (Some bytes) before u = record { later = omega arith; all = ap Some (sym (append-nil bytes)); prefix = tt; failed = tt }
