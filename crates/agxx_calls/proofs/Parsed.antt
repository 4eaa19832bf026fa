-- What `clap` makes of words.
use Rattle.std.proofs.Common.{◌≡◌, ◌∙◌, ◌-◌, ℕ, Bool, true, List, [], ◌∷◌, Option, Some, None, option_map, map, take, drop, length, codes, refl, sym, ap, subst, arith}
use Rattle.std.specs.Borrow.{Bor}
use Rattle.std.specs.Cmp.Lexicographic.{pointwise}
use Rattle.std.specs.Str.{bytes_eq}
use Rattle.std.proofs.Math.Seq.{take-length}
use Rattle.std.proofs.lemmas.Slice.Eq.{bytes_eq-Decides}
use Rattle.clap.specs.Words.{Row, Text, all_of, subcommand_name_of, subcommand_rows_of, subcommand_of, takes, is_simple}
use Rattle.clap.specs.declared.parser.matches.ArgMatches.{ArgMatches}
use Rattle.clap.proofs.OnLiterals.{clap_on_literals}
use Rattle.agxx_calls.specs.Parse.{line_app, words_read}

-- ---- texts that are the same are found to be

abbrev texts : List (Bor (List ℕ)) → List (List ℕ)
texts = map (λ s. s.now)

abbrev all-same : List (Bor (List ℕ)) → List (Bor (List ℕ)) → Bool
all-same = pointwise (λ x y. bytes_eq x.now y.now)

texts-same : (xs ys : List (Bor (List ℕ))) → texts xs ≡ texts ys → all-same xs ys ≡ true
texts-same [] [] e = refl
texts-same [] (y ∷ ys) e = cc
texts-same (x ∷ xs) [] e = cc
texts-same (x ∷ xs) (y ∷ ys) e =
    let first : x.now ≡ y.now = cc in
    let rest : texts xs ≡ texts ys = cc in
    rw ((bytes_eq-Decides x.now y.now).1 first, texts-same xs ys rest) refl

pub rest-same : (words values : List (Bor (List ℕ))) (name : List ℕ) → texts words ≡ name ∷ texts values
    → all-same (take (length words - 1) (drop 1 words)) values ≡ true
rest-same [] values name e = cc
rest-same (w ∷ ws) values name e =
    let len : length (w ∷ ws) - 1 ≡ length ws = omega arith in
    let rest : take (length (w ∷ ws) - 1) ws ≡ ws = ap (λ k. take k ws) len ∙ take-length ws in
    let same : texts ws ≡ texts values = cc in
    subst (λ z. all-same z values ≡ true) (sym rest) (texts-same ws values same)

-- ---- what a parse read

map-map : {X Y Z : Type 0} (f : Y → Z) (g : X → Y) (o : Option X) → option_map (λ x. f (g x)) o ≡ option_map f (option_map g o)
map-map f g None = refl
map-map f g (Some x) = refl

named : (m : ArgMatches) → subcommand_name_of m ≡ option_map (λ p. p.0) (subcommand_rows_of m)
named m = map-map (λ (p : Text × List Row). p.0) _ _

pair-is : (r : Option (Text × List Row)) (name : Text) (rows : List Row) → Some name ≡ option_map (λ p. p.0) r → Some rows ≡ option_map (λ p. p.1) r
    → words_read r ≡ option_map (λ values. name ∷ values) (all_of (codes "files") rows)
pair-is None name rows e f = cc
pair-is (Some p) name rows e f =
    let a : name ≡ p.0 = cc in
    let b : rows ≡ p.1 = cc in
    rw (a, b) refl

pub read-is : (m : ArgMatches) (name : Text) (rows : List Row) → Some name ≡ subcommand_name_of m → Some rows ≡ option_map (λ p. p.1) (subcommand_rows_of m)
    → words_read (subcommand_rows_of m) ≡ option_map (λ values. name ∷ values) (all_of (codes "files") rows)
read-is m name rows e f = pair-is (subcommand_rows_of m) name rows (e ∙ named m) f

-- ---- a command's words are read

pub line-simple : is_simple line_app ≡ true
unfolding clap_on_literals
line-simple = refl

-- a command's words are taken, and read as they stand
abbrev pub IsRead : List Text → Type 0
IsRead words = (takes line_app words ≡ true) × (words_read (subcommand_of line_app words) ≡ Some words)
