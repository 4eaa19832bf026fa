-- What the descent answers for all the words of a file, without it: by the spelling of trees.
use Rattle.std.proofs.Common.{◌≡◌, ℕ, zero, suc, ◌+◌, ◌-◌, ◌≤◌, List, [], ◌∷◌, ◌++◌, length, length-append, map, take, drop, ◌⊎◌, inl, inr, refl, sym, ap, ◌∙◌, subst, append-nil, append_assoc, get_or, arith}
use Rattle.std.proofs.lemmas.List.{append_cancel_right, take-append-drop, drop-map}
use Rattle.std.proofs.Math.Seq.{drop-append_seam}
use Rattle.std.specs.Prelude.{Result, IfOk, IfErr}
use Rattle.agxx_base.specs.declared.fault.Fault.{Fault}
use Rattle.agxx_base.specs.declared.fault.Refusal.{Refusal}
use Rattle.agxx_base.specs.declared.place.Place.{Place}
use Rattle.agxx_base.specs.declared.rule.Rule.TheVariants.{G1, G2}
use Rattle.cxx_tree.specs.declared.node.Placed.{Placed}
use Rattle.cxx_tree.specs.Words.{Word}
use Rattle.cxx_lex.specs.All.{IfRefused}
use Rattle.cxx_tree.specs.declared.program.Program.{Program}
use Rattle.cxx_tree.specs.ProgramTree.{ProgramTree, program_tree}
use Rattle.cxx_tree.specs.Limits.{Grammar, written, woven, aspects, Limits, limits_of}
use Rattle.cxx_tree.specs.Fits.{FitsProgram, IsProgram}
use Rattle.cxx_tree.specs.Blank.{blank_program}
use Rattle.cxx_tree.proofs.Larger.{program-larger}
use Rattle.cxx_expr.specs.declared.stop.Stop.{Stop}
use Rattle.cxx_expr.specs.declared.stop.Stop.TheVariants.{Syntax, Deep, Memory}
use Rattle.cxx_expr.specs.declared.word.Word.{Word as Given}
use Rattle.cxx_expr.specs.Tokens.{Tokens, tokens_of, token_of, words_of}
use Rattle.cxx_expr.specs.Outcome.{Outcome, done, failed}
use Rattle.cxx_expr.specs.Full.{most_operators}
use Rattle.cxx_expr.proofs.Good.{Good, Goods, head, words-append}
use Rattle.cxx_expr.proofs.States.{tokens}
use Rattle.cxx_stmt.specs.declared.dialect.Dialect.{Dialect}
use Rattle.cxx_stmt.specs.Dialect.{grammar, IsApart}
use Rattle.cxx_stmt.proofs.FullParts.{read-front}
use Rattle.cxx_parse.specs.Programs.{program}
use Rattle.cxx_parse.specs.Parsed.{spelled, Fits, IsNone, IsViable, place_of, StopsAt, IsPlaced, IsUngrammatical, unexpected, too_deep, file_start, IsProgramOf, IsDescent}
use Rattle.cxx_parse.proofs.FullPrograms.{read-program}
use Rattle.cxx_parse.proofs.GoodPrograms.{programs, good_program, program-ends, program-at}

abbrev limits : ℕ → ℕ → Limits
limits most depth = record { nesting = depth; operators = most }

no_place : Place
no_place = record { file = 0; line = 0; column = 0 }

abbrev unplaced : Word → Placed Word
unplaced word = record { at = no_place; item = word }

words-unplaced : (words : List Word) → words_of (map unplaced words) ≡ words
words-unplaced [] = refl
words-unplaced (word ∷ words) = ap (λ q. word ∷ q) (words-unplaced words)

module _ (d : Dialect) where
  -- each answer of the descent is right, and one with higher limits gives it again
  abbrev pub AreGood : Type 0
  AreGood = (most more depth deeper : ℕ) → most ≤ more → depth ≤ deeper → (at : Place) → Goods tokens (programs d most depth) (program most d depth at) (program more d deeper at)

  -- a program is read from tokens that spell it
  read-again : IsApart d → (most depth : ℕ) (at : Place) (q : ProgramTree) (ts : Tokens) → FitsProgram (grammar d) (limits most depth) q → words_of ts ≡ spelled d q
      → (found : ProgramTree) × (blank_program found ≡ blank_program q) × (program most d depth at ts ≡ done found [])
  read-again apart most depth at q ts v i =
      let r = read-front blank_program (program most d depth at) (spelled d q) (blank_program q) [] (read-program d apart most depth at q v) ts i in
      (r.0, r.1, ap (program most d depth at) (sym (append-nil ts)) ∙ r.2)

  pub spelling-unique : IsApart d → (a b : ProgramTree) → IsProgram (grammar d) a → IsProgram (grammar d) b → spelled d a ≡ spelled d b → blank_program a ≡ blank_program b
  spelling-unique apart a b (l, u) (m, v) same =
      let most : ℕ = l.operators + m.operators in
      let depth : ℕ = l.nesting + m.nesting in
      let ts : Tokens = map unplaced (spelled d a) in
      let i : words_of ts ≡ spelled d a = words-unplaced (spelled d a) in
      let r = read-again apart most depth no_place a ts (program-larger (grammar d) l (limits most depth) (omega arith) (omega arith) a u) i in
      let q = read-again apart most depth no_place b ts (program-larger (grammar d) m (limits most depth) (omega arith) (omega arith) b v) (i ∙ same) in
      let both : done r.0 [] ≡ done q.0 [] = sym r.2 ∙ q.2 in
      let one : r.0 ≡ q.0 = cc in
      sym r.1 ∙ ap blank_program one ∙ q.1

  module _ (apart : IsApart d) (good : AreGood) (most depth : ℕ) (at : Place) (ts : Tokens) where
    none : (why : Stop) (rest : Tokens) → program most d depth at ts ≡ failed why rest → (q : ProgramTree) → FitsProgram (grammar d) (limits most depth) q → spelled d q ≡ words_of ts → ⊥
    none why rest h q v s =
        let r = read-again apart most depth at q ts v (sym s) in
        let c : done r.0 [] ≡ failed why rest = sym r.2 ∙ h in
        cc

    -- a program of any size isn't refused as unexpected
    never : (rest : Tokens) → program most d depth at ts ≡ failed Syntax rest → (q : ProgramTree) → IsProgram (grammar d) q → spelled d q ≡ words_of ts → ⊥
    never rest h q (l, v) s =
        let more : ℕ = most + l.operators in
        let deeper : ℕ = depth + l.nesting in
        let o : Good tokens [] (programs d most depth) (λ x r. program more d deeper at x ≡ r) ts (failed Syntax rest) =
        subst (Good tokens [] (programs d most depth) (λ x r. program more d deeper at x ≡ r) ts) h (good most more depth deeper (omega arith) (omega arith) at ts) in
        let there : program more d deeper at ts ≡ failed Syntax rest = ap (program more d deeper at) o.whole ∙ o.again rest refl in
        let r = read-again apart more deeper at q ts (program-larger (grammar d) l (limits more deeper) (omega arith) (omega arith) q v) (sym s) in
        let c : done r.0 [] ≡ failed Syntax rest = sym r.2 ∙ there in
        cc

    abbrev GoodAt : ℕ → ℕ → Outcome Tokens ProgramTree → Type 0
    GoodAt more deeper o = Good tokens [] (programs d most depth) (λ q r. program more d deeper at q ≡ r) ts o

    good-at : (more deeper : ℕ) → most ≤ more → depth ≤ deeper → (o : Outcome Tokens ProgramTree) → program most d depth at ts ≡ o → GoodAt more deeper o
    good-at more deeper m n o h = subst (GoodAt more deeper) h (good most more depth deeper m n at ts)

    -- a program that is read has all the words
    fits-and-spelled : (q : ProgramTree) (rest : Tokens) → program most d depth at ts ≡ done q rest → rest ≡ [] → FitsProgram (grammar d) (limits most depth) q × (spelled d q ≡ words_of ts)
    fits-and-spelled q rest h ends =
        let g = good-at most depth (omega arith) (omega arith) (done q rest) h in
        (g.valid, g.text ∙ ap words_of (sym (g.whole ∙ ap (λ r. g.front ++ r) ends ∙ append-nil g.front)))

    -- no program goes on with a word at which the descent stops, with all limits
    dead : (front : Tokens) (t : Placed Word) → ((more deeper : ℕ) → most ≤ more → depth ≤ deeper → (others : Tokens) (q : ProgramTree) → program more d deeper at (front ++ t ∷ others) ≡ done q [] → ⊥)
        → IsViable d (words_of front ++ t.item ∷ []) → ⊥
    dead front t never (q, more_words, (l, v), s) =
        let more : ℕ = most + l.operators in
        let deeper : ℕ = depth + l.nesting in
        let others : Tokens = map unplaced more_words in
        let i : words_of (front ++ t ∷ others) ≡ spelled d q =
        words-append front (t ∷ others) ∙ ap (λ x. words_of front ++ t.item ∷ x) (words-unplaced more_words) ∙ sym (append_assoc (words_of front) (t.item ∷ []) more_words) ∙ sym s in
        let r = read-again apart more deeper at q (front ++ t ∷ others) (program-larger (grammar d) l (limits more deeper) (omega arith) (omega arith) q v) i in
        never more deeper (omega arith) (omega arith) others r.0 r.2

    as_viable : (front : List Word) → (front ≡ []) ⊎ ((b : ProgramTree) × (more : List Word) × IsProgram (grammar d) b × (spelled d b ≡ front ++ more)) → IsViable d front
    as_viable front (inl e) =
        (record { at = no_place; directives = []; decls = [] }, [], (limits 0 0, tt), ap (λ q. q ++ []) (sym e))
    as_viable front (inr v) = v

    stops : (rest : Tokens) (end : Place) → program most d depth at ts ≡ failed Syntax rest → StopsAt d ts end (place_of rest end)
    stops rest end h =
        let g = good-at most depth (omega arith) (omega arith) (failed Syntax rest) h in
        record {
          front = g.front;
          rest = rest;
          parts = g.whole;
          viable = as_viable (words_of g.front) g.viable;
          first = λ t others i. dead g.front t (λ more deeper m n tail q e.
              let o = good-at more deeper m n (failed Syntax rest) h in
              let begins : head (t ∷ tail) ≡ head rest = ap head (sym i) in
              let a : program more d deeper at (o.front ++ t ∷ tail) ≡ failed Syntax (t ∷ tail) = o.again (t ∷ tail) begins in
              let same : o.front ≡ g.front = append_cancel_right _ _ _ (sym o.whole ∙ g.whole) in
              let c : failed Syntax (t ∷ tail) ≡ done q [] = sym a ∙ ap (λ f. program more d deeper at (f ++ t ∷ tail)) same ∙ e in
              cc);
          place = refl;
        }

-- ---- where words are that are left

dropped : (front rest : Tokens) → drop (length (front ++ rest) - length rest) (front ++ rest) ≡ rest
dropped front rest =
    let n : length (front ++ rest) - length rest ≡ length front = omega (arith, length-append front rest) in
    ap (λ m. drop m (front ++ rest)) n ∙ drop-append_seam front rest

take-drop : (n : ℕ) (ts : Tokens) → ts ≡ take n ts ++ drop n ts
take-drop n ts = sym (take-append-drop n ts)

pub placed : (n : ℕ) (ts : Tokens) (end at : Place) → at ≡ place_of (drop n ts) end → IsPlaced ts end at
placed n ts end at e = (take n ts, drop n ts, take-drop n ts, e)

-- where the words stand that are left
pub place-left : (ws : List (Placed Given)) (n m : ℕ) (x : Placed Given) (end : Place) → 1 ≤ length (take m (drop n ws)) → (get_or (take m (drop n ws)) 0 x).at ≡ place_of (drop n (tokens_of ws)) end
place-left ws n m x end h = by (drop n ws) m h ∙ sym (ap (λ q. place_of q end) (drop-map token_of n ws))
  where
    by : (left : List (Placed Given)) (m : ℕ) → 1 ≤ length (take m left) → (get_or (take m left) 0 x).at ≡ place_of (tokens_of left) end
    by [] zero h = absurd (omega arith)
    by [] (suc m) h = absurd (omega arith)
    by (t ∷ ts) zero h = absurd (omega arith)
    by (t ∷ ts) (suc m) h = refl

-- ---- what is told of the words of a file

module _ (d : Dialect) (apart : IsApart d) (good : AreGood d) (depth : ℕ) (nesting : depth ≡ (limits_of (grammar d)).nesting) (at : Place) (ts : Tokens) where
  as_limits : (q : ProgramTree) → FitsProgram (grammar d) (limits most_operators depth) q ≡ Fits d q
  as_limits q = by (grammar d) nesting
    where
      by : (g : Grammar) → depth ≡ (limits_of g).nesting → FitsProgram (grammar d) (limits most_operators depth) q ≡ FitsProgram (grammar d) (limits_of g) q
      by written e = ap (λ n. FitsProgram (grammar d) (limits most_operators n) q) e
      by woven e = ap (λ n. FitsProgram (grammar d) (limits most_operators n) q) e
      by aspects e = ap (λ n. FitsProgram (grammar d) (limits most_operators n) q) e

  none-within : (why : Stop) (rest : Tokens) → program most_operators d depth at ts ≡ failed why rest → IsNone d (words_of ts)
  none-within why rest h q v s = none d apart good most_operators depth at ts why rest h q (subst (λ T. T) (sym (as_limits q)) v) s

  pub is-ungrammatical-syntax : (rest : Tokens) (end : Place) (refusal : Refusal) → program most_operators d depth at ts ≡ failed Syntax rest
      → refusal ≡ record { rule = G1; place = place_of (drop (length ts - length rest) ts) end } → IsUngrammatical d ts end refusal
  unfolding stops
  is-ungrammatical-syntax rest end refusal h e =
      let s = stops d apart good most_operators depth at ts rest end h in
      let left : drop (length ts - length rest) ts ≡ rest = ap (λ q. drop (length q - length rest) q) s.parts ∙ dropped s.front rest in
      let there : refusal.place ≡ place_of rest end = ap (λ r. r.place) e ∙ ap (λ q. place_of q end) left in
      unexpected (never d apart good most_operators depth at ts rest h) (ap (λ r. r.rule) e) (subst (StopsAt d ts end) (sym there) s)

  pub is-ungrammatical-deep : (rest : Tokens) (end : Place) (refusal : Refusal) → program most_operators d depth at ts ≡ failed Deep rest
      → refusal ≡ record { rule = G2; place = place_of (drop (length ts - length rest) ts) end } → IsUngrammatical d ts end refusal
  is-ungrammatical-deep rest end refusal h e =
      too_deep (none-within Deep rest h) (ap (λ r. r.rule) e) (placed (length ts - length rest) ts end refusal.place (ap (λ r. r.place) e))

  pub is-program : (ends : (q : ProgramTree) (rest : Tokens) → program most_operators d depth at ts ≡ done q rest → rest ≡ []) → (places : (q : ProgramTree) (rest : Tokens) → program most_operators d depth at ts ≡ done q rest → q.at ≡ at)
      → (q : ProgramTree) (rest : Tokens) (end : Place) → at ≡ file_start end → program most_operators d depth at ts ≡ done q rest → IsProgramOf d ts end q
  is-program ends places q rest end a h =
      let f = fits-and-spelled d apart good most_operators depth at ts q rest h (ends q rest h) in
      record { fits = subst (λ T. T) (as_limits q) f.0; spelling = f.1; at = places q rest h ∙ a }

most-operators : (g : Grammar) → (limits_of g).operators ≡ most_operators
most-operators written = refl
most-operators woven = refl
most-operators aspects = refl

-- each answer of the descent is right
are-good : (d : Dialect) → AreGood d
are-good d most more depth deeper le le' at = good_program d most more depth deeper le le' at

module _ (d : Dialect) (apart : IsApart d) (depth : ℕ) (nesting : depth ≡ (limits_of (grammar d)).nesting) (at : Place) (ts : Tokens) where
  pub read-done : (q : ProgramTree) (rest : Tokens) (end : Place) → at ≡ file_start end → program most_operators d depth at ts ≡ done q rest → IsProgramOf d ts end q
  read-done = is-program d apart (are-good d) depth nesting at ts (λ q rest e. program-ends most_operators depth d at ts rest q e) (λ q rest e. program-at most_operators depth d at ts rest q e)

  pub read-all : (q : ProgramTree) (rest : Tokens) (end : Place) → at ≡ file_start end → program most_operators d depth at ts ≡ done q rest → IsDescent d ts end q
  read-all q rest end a h =
      let ends : rest ≡ [] = program-ends most_operators depth d at ts rest q h in
      ap (λ m. program m d (limits_of (grammar d)).nesting (file_start end) ts) (most-operators (grammar d)) ∙ ap (λ n. program most_operators d n (file_start end) ts) (sym nesting) ∙ ap (λ p. program most_operators d depth p ts) (sym a)
      ∙ h ∙ ap (done q) ends

  pub read-syntax : (rest : Tokens) (end : Place) → program most_operators d depth at ts ≡ failed Syntax rest
      → IsUngrammatical d ts end (record { rule = G1; place = place_of (drop (length ts - length rest) ts) end })
  read-syntax rest end h = is-ungrammatical-syntax d apart (are-good d) depth nesting at ts rest end _ h refl

  pub read-deep : (rest : Tokens) (end : Place) → program most_operators d depth at ts ≡ failed Deep rest
      → IsUngrammatical d ts end (record { rule = G2; place = place_of (drop (length ts - length rest) ts) end })
  read-deep rest end h = is-ungrammatical-deep d apart (are-good d) depth nesting at ts rest end _ h refl

  pub never-memory : (rest : Tokens) → program most_operators d depth at ts ≡ failed Memory rest → ⊥
  never-memory rest h = good-at d apart (are-good d) most_operators depth at ts most_operators depth (omega arith) (omega arith) (failed Memory rest) h

-- ---- the same words, by their tokens

pub read-as-parsed : (Holds : Dialect → Tokens → Place → ProgramTree → Type 0) (d d' : Dialect) (ts ts' : Tokens) (end end' : Place) (r : Result Program Fault) → d ≡ d' → ts ≡ ts' → end ≡ end'
    → IfOk r (λ p. Holds d ts end (program_tree p)) → IfOk r (λ p. Holds d' ts' end' (program_tree p))
read-as-parsed Holds d d' ts ts' end end' r i j k h =
    subst (λ x. IfOk r (λ p. Holds x ts' end' (program_tree p))) i (subst (λ x. IfOk r (λ p. Holds d x end' (program_tree p))) j (subst (λ x. IfOk r (λ p. Holds d ts x (program_tree p))) k h))

pub refused-as-parsed : (d d' : Dialect) (ts ts' : Tokens) (end end' : Place) (r : Result Program Fault) → d ≡ d' → ts ≡ ts' → end ≡ end'
    → IfErr r (λ f. IfRefused f (IsUngrammatical d ts end)) → IfErr r (λ f. IfRefused f (IsUngrammatical d' ts' end'))
refused-as-parsed d d' ts ts' end end' r i j k h =
    subst (λ x. IfErr r (λ f. IfRefused f (IsUngrammatical x ts' end'))) i (subst (λ x. IfErr r (λ f. IfRefused f (IsUngrammatical d x end'))) j (subst (λ x. IfErr r (λ f. IfRefused f (IsUngrammatical d ts x))) k h))
