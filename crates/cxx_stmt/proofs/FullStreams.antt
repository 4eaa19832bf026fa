-- The spelling of each print, thread and `std::abort()` is read again.
use Rattle.std.proofs.Common.{◌≡◌, ◌≢◌, ℕ, zero, suc, ◌≤◌, ◌<◌, Bool, true, false, ◌&&◌, List, [], ◌∷◌, ◌++◌, length, length-append, map, refl, sym, ap, ◌∙◌, subst, arith}
use Rattle.std.specs.List.{flat_map}
use Rattle.agxx_base.specs.declared.place.Place.{Place}
use Rattle.agxx_base.specs.declared.vocabulary.Sign.TheVariants as sg
use Rattle.agxx_base.specs.declared.vocabulary.SpecialName.TheVariants as sn
use Rattle.cxx_tree.specs.declared.node.Placed.{Placed}
use Rattle.agxx_base.specs.declared.ids.NameId.{NameId}
use Rattle.cxx_tree.specs.declared.expr.Ref.{Ref}
use Rattle.cxx_tree.specs.Words as w
use Rattle.cxx_tree.specs.Words.{Word, separated, each_after_comma, in_parentheses}
use Rattle.cxx_tree.specs.ExprTree.{ExprTree, ExprTrees, listed_exprs}
use Rattle.cxx_tree.specs.StmtTree as s
use Rattle.cxx_tree.specs.StmtTree.{PrintedTree, PrintTree, ThreadTree, StmtTree}
use Rattle.cxx_tree.specs.Spelling.{spell_name, spell_ref, spell_quoted, spell_std, spell_expr, spell_each, spell_printed}
use Rattle.cxx_tree.specs.Limits.{HasWovenForms, Opens, Every}
use Rattle.cxx_tree.specs.Fits.{expr_level, sum_level, FitsEach, FitsArguments, FitsPrinted}
use Rattle.cxx_tree.specs.Blank.{no_place, blank_placed, blank_ref, blank_expr, blank_exprs, blank_printed, blank_print, blank_thread, blank_stmt}
use Rattle.cxx_expr.specs.Tokens.{Tokens, words_of, is_sign, sees}
use Rattle.cxx_expr.specs.Outcome.{done, Parse, and_then}
use Rattle.cxx_expr.specs.Lefts.{name}
use Rattle.cxx_expr.specs.Descent.{front_of}
use Rattle.cxx_expr.specs.Full.{full_level}
use Rattle.std.proofs.lemmas.Bool.{eq-eqb}
use Rattle.cxx_expr.proofs.Operators.{other-level}
use Rattle.cxx_expr.proofs.Fronts.{token, Ends, Ends-close}
use Rattle.cxx_stmt.specs.declared.dialect.Dialect.{Dialect}
use Rattle.cxx_stmt.specs.Dialect.{special_of, is_woven, grammar, IsApart}
use Rattle.cxx_stmt.specs.Parts.{in_parens, no_parts, others, expressions, placed_ref}
use Rattle.cxx_stmt.specs.Streams.{operands_from, abort, value, operand, operands, print, started, thread, std_stmt}
use Rattle.cxx_stmt.proofs.Modes.{no_advice-of, is_woven-of}
use Rattle.cxx_stmt.proofs.FullParts.{PlacesOf, laid, words-laid, laid-length, begins, begins-laid, IsRead, read-then, read-made, read-in_parens}
use Rattle.cxx_stmt.proofs.FullTypes.{is_first, read-name, read-ref}
use Rattle.cxx_stmt.proofs.FullExprs.{Ends-semicolon, Ends-shift, first-expr, behind_name, behind-sees, behind-expr, blank_listed, read-no_parts, read-full, read-more_exprs}

and-false : (a b : Bool) → b ≡ false → (a && b) ≡ false
and-false true b h = h
and-false false b h = refl

module _ (d : Dialect) (most depth : ℕ) where
  -- ---- an operand

  abbrev spell_operand : PrintedTree → List Word
  spell_operand (s.text q) = spell_quoted q
  spell_operand (s.endl at) = spell_std (special_of d) sn.Endl
  spell_operand (s.value v) = spell_expr (special_of d) v

  printed-operand : (x : PrintedTree) → spell_printed (special_of d) x ≡ w.sign sg.ShiftLeft ∷ spell_operand x
  printed-operand (s.text q) = refl
  printed-operand (s.endl at) = refl
  printed-operand (s.value v) = refl

  -- what may follow an operand
  abbrev EndsOperand : Tokens → Type 0
  EndsOperand ts = Ends sum_level ts × (word : Word) × (words : List Word) × (words_of ts ≡ word ∷ words) × (is_sign sg.ColonColon word ≡ false)

  ends_operand-semicolon : (at : Place) (ts : Tokens) → EndsOperand (token at (w.sign sg.Semicolon) ∷ ts)
  ends_operand-semicolon at ts = (Ends-semicolon sum_level at ts, w.sign sg.Semicolon, words_of ts, refl, refl)

  ends_operand-shift : (at : Place) (ts : Tokens) → EndsOperand (token at (w.sign sg.ShiftLeft) ∷ ts)
  ends_operand-shift at ts = (Ends-shift at ts, w.sign sg.ShiftLeft, words_of ts, refl, refl)

  operand-value : (ts : Tokens) → begins is_first (words_of ts) ≡ true → behind_name (is_sign sg.ColonColon) (words_of ts) ≡ false → operand most d depth ts ≡ value most depth ts
  unfolding operand
  operand-value [] h i = cc
  operand-value (t ∷ ts) h i = by_word t.at t.item h i
    where
      by_word : (at : Place) (word : Word) → is_first word ≡ true → behind_name (is_sign sg.ColonColon) (word ∷ words_of ts) ≡ false → operand most d depth (token at word ∷ ts) ≡ value most depth (token at word ∷ ts)
      by_word at (w.name n) h i = rw (and-false _ (sees sg.ColonColon ts) (behind-sees sg.ColonColon n ts i)) refl
      by_word at (w.number bits kind) h i = refl
      by_word at (w.keyword word) h i = refl
      by_word at (w.sign found) h i = refl
      by_word at _ h i = cc

  operand-endl : (p q r : Place) (ts : Tokens) → operand most d depth (token p (w.name d.std.0) ∷ token q (w.sign sg.ColonColon) ∷ token r (w.name d.endl.0) ∷ ts) ≡ done (s.endl p) ts
  unfolding operand
  operand-endl p q r ts = rw (eq-eqb d.std.0 d.std.0 refl, eq-eqb d.endl.0 d.endl.0 refl) refl

  read-operand : (x : PrintedTree) (rest : Tokens) → FitsPrinted (grammar d) most depth x → EndsOperand rest → IsRead blank_printed (operand most d depth) (spell_operand x) (blank_printed x) rest
  unfolding operand
  read-operand (s.text q) rest fits ends places = (s.text (record { at = places.0; bytes = q.bytes }), refl, refl)
  read-operand (s.endl at) rest fits ends places = (s.endl places.0, refl, operand-endl places.0 places.1.0 places.1.1.0 rest)
  read-operand (s.value v) rest fits ends places =
      let words : List Word = spell_expr (special_of d) v in
      let r = read-made blank_expr blank_printed (full_level most depth sum_level) s.value words (blank_expr v) (s.value (blank_expr v)) rest
      (read-full (special_of d) (grammar d) (no_advice-of d) most depth sum_level v rest fits ends.0) (λ found h. ap s.value h) places in
      let second : behind_name (is_sign sg.ColonColon) (words_of (laid words places rest)) ≡ false =
      ap (behind_name (is_sign sg.ColonColon)) (words-laid words places rest ∙ ap (λ q. words ++ q) ends.3) ∙ behind-expr (special_of d) (grammar d) depth sum_level v ends.1 ends.2 fits.0 ends.4 in
      (r.0, r.1, operand-value (laid words places rest) (begins-laid is_first words (first-expr (special_of d) v) places rest) second ∙ r.2)

  -- ---- prints

  abbrev printed : List PrintedTree → List Word
  printed xs = flat_map (spell_printed (special_of d)) xs

  ends-printed : (xs : List PrintedTree) (places : PlacesOf (printed xs)) (at : Place) (rest : Tokens) → EndsOperand (laid (printed xs) places (token at (w.sign sg.Semicolon) ∷ rest))
  ends-printed [] places at rest = ends_operand-semicolon at rest
  ends-printed (s.text q ∷ xs) places at rest = ends_operand-shift places.0 _
  ends-printed (s.endl p ∷ xs) places at rest = ends_operand-shift places.0 _
  ends-printed (s.value v ∷ xs) places at rest = ends_operand-shift places.0 _

  printed-length : (xs : List PrintedTree) → length xs ≤ length (printed xs)
  printed-length [] = omega arith
  printed-length (x ∷ xs) =
      omega (arith, printed-length xs, length-append (spell_printed (special_of d) x) (printed xs), ap length (printed-operand x))

  abbrev ArePrinted : Parse Tokens (List PrintedTree) → List Word → List PrintedTree → Tokens → Type 0
  ArePrinted parse words xs rest = IsRead (map blank_printed) parse words (map blank_printed xs) rest

  operands-turn : (x : PrintedTree) (xs : List PrintedTree) (n : ℕ) (at : Place) (rest : Tokens) → FitsPrinted (grammar d) most depth x
      → ArePrinted (operands_from (operand most d depth) n) (printed xs) xs (token at (w.sign sg.Semicolon) ∷ rest)
      → ArePrinted (operands_from (operand most d depth) (suc n)) (w.sign sg.ShiftLeft ∷ (spell_operand x ++ printed xs)) (x ∷ xs) (token at (w.sign sg.Semicolon) ∷ rest)
  unfolding operands_from
  operands-turn x xs n at rest fits N places =
      let end : Tokens = token at (w.sign sg.Semicolon) ∷ rest in
      let behind : PrintedTree → Parse Tokens (List PrintedTree) = λ x ts. front_of (x ∷ []) (operands_from (operand most d depth) n ts) in
      read-then blank_printed (map blank_printed) (operand most d depth) behind (spell_operand x) (printed xs) (blank_printed x) (map blank_printed (x ∷ xs)) end
      (λ places. read-operand x (laid (printed xs) places end) fits (ends-printed xs places at rest))
      (λ found e places. let r = N places in (found ∷ r.0, ap (λ q. q ∷ map blank_printed r.0) e ∙ ap (λ q. blank_printed x ∷ q) r.1, ap (front_of (found ∷ [])) r.2)) places.1

  operands-none : (n : ℕ) (at : Place) (rest : Tokens) → operands_from (operand most d depth) (suc n) (token at (w.sign sg.Semicolon) ∷ rest) ≡ done [] (token at (w.sign sg.Semicolon) ∷ rest)
  unfolding operands_from
  operands-none n at rest = refl

  read-operands_from : (xs : List PrintedTree) (n : ℕ) (at : Place) (rest : Tokens) → Every (FitsPrinted (grammar d) most depth) xs → length xs < n
      → ArePrinted (operands_from (operand most d depth) n) (printed xs) xs (token at (w.sign sg.Semicolon) ∷ rest)
  read-operands_from [] zero at rest fits h = absurd (omega (arith, h))
  read-operands_from [] (suc n) at rest fits h = λ places. ([], refl, operands-none n at rest)
  read-operands_from (x ∷ xs) zero at rest fits h = absurd (omega (arith, h))
  read-operands_from (x ∷ xs) (suc n) at rest fits h =
      subst (λ words. ArePrinted (operands_from (operand most d depth) (suc n)) words (x ∷ xs) (token at (w.sign sg.Semicolon) ∷ rest)) (sym (ap (λ q. q ++ printed xs) (printed-operand x)))
      (operands-turn x xs n at rest fits.0 (read-operands_from xs n at rest fits.1 (omega (arith, h))))

  operands-some : (ts : Tokens) → sees sg.ShiftLeft ts ≡ true → operands most d depth ts ≡ operands_from (operand most d depth) (suc (length ts)) ts
  unfolding operands
  operands-some ts h = rw h refl

  sees-printed : (x : PrintedTree) (xs : List PrintedTree) (places : PlacesOf (printed (x ∷ xs))) (rest : Tokens) → sees sg.ShiftLeft (laid (printed (x ∷ xs)) places rest) ≡ true
  sees-printed (s.text q) xs places rest = refl
  sees-printed (s.endl p) xs places rest = refl
  sees-printed (s.value v) xs places rest = refl

  read-operands : (xs : List PrintedTree) (at : Place) (rest : Tokens) → xs ≢ [] → Every (FitsPrinted (grammar d) most depth) xs → ArePrinted (operands most d depth) (printed xs) xs (token at (w.sign sg.Semicolon) ∷ rest)
  read-operands [] at rest some fits places = absurd (some refl)
  read-operands (x ∷ xs) at rest some fits places =
      let end : Tokens = token at (w.sign sg.Semicolon) ∷ rest in
      let words : List Word = printed (x ∷ xs) in
      let n : ℕ = length (laid words places end) in
      let r = read-operands_from (x ∷ xs) (suc n) at rest fits (omega (arith, laid-length words places end, printed-length (x ∷ xs))) places in
      (r.0, r.1, operands-some (laid words places end) (sees-printed x xs places end) ∙ r.2)

  read-print : (q : PrintTree) (from at : Place) (rest : Tokens) → q.operands ≢ [] → Every (FitsPrinted (grammar d) most depth) q.operands
      → IsRead blank_stmt (print most d depth from) (printed q.operands) (s.print (blank_print q)) (token at (w.sign sg.Semicolon) ∷ rest)
  unfolding print
  read-print q from at rest some fits =
      let made : Place → List PrintedTree → StmtTree = λ at xs. s.print (record { at = at; operands = xs }) in
      read-made (map blank_printed) blank_stmt (operands most d depth) (made from) (printed q.operands) (map blank_printed q.operands) (s.print (blank_print q)) (token at (w.sign sg.Semicolon) ∷ rest)
      (read-operands q.operands at rest some fits) (λ found h. ap (made no_place) h)

  -- ---- threads

  abbrev blank_started : Ref × List ExprTree → Ref × ExprTrees
  blank_started part = (blank_ref part.0, blank_listed part.1)

  read-started : (r : Ref) (xs : ExprTrees) (at : Place) (rest : Tokens) → FitsEach (grammar d) most depth xs
      → IsRead blank_started (started most depth) (separated (spell_ref r ∷ spell_each (special_of d) xs)) (blank_ref r, blank_exprs xs) (token at (w.sign sg.CloseParen) ∷ rest)
  unfolding started
  read-started r xs at rest fits =
      let end : Tokens = token at (w.sign sg.CloseParen) ∷ rest in
      let words : List Word = each_after_comma (spell_each (special_of d) xs) in
      let made : Ref → List ExprTree → Ref × List ExprTree = λ r xs. (r, xs) in
      read-then blank_ref blank_started placed_ref (λ r ts. and_then (others (expressions most depth) ts) (λ xs. done (made r xs))) (spell_ref r) words (blank_ref r) (blank_ref r, blank_exprs xs) end
      (λ places. read-ref r (laid words places end))
      (λ f e. read-made blank_listed blank_started (others (expressions most depth)) (made f) words (blank_exprs xs) (blank_ref r, blank_exprs xs) end
      (read-more_exprs (special_of d) (grammar d) (no_advice-of d) most depth xs end fits (Ends-close expr_level at rest) refl)
      (λ ys h. let pair : Ref → ExprTrees → Ref × ExprTrees = λ a b. (a, b) in ap (λ q. pair q (blank_listed ys)) e ∙ ap (pair (blank_ref r)) h))

-- ---- statements that begin with `std ::`

module _ (d : Dialect) (most depth : ℕ) where
  read-thread : (t : ThreadTree) (from : Place) (rest : Tokens) → FitsArguments (grammar d) most depth t.arguments
      → IsRead blank_stmt (thread most depth from) (spell_name t.name ++ in_parentheses (separated (spell_ref t.function ∷ spell_each (special_of d) t.arguments))) (s.thread (blank_thread t)) rest
  unfolding thread
  read-thread t from rest fits =
      let parts : List Word = separated (spell_ref t.function ∷ spell_each (special_of d) t.arguments) in
      let made : Place → Placed NameId → Ref × List ExprTree → StmtTree = λ at n part. s.thread (record { at = at; name = n; function = part.0; arguments = listed_exprs part.1 }) in
      let blanked : Placed NameId → Ref × ExprTrees → StmtTree = λ n part. s.thread (record { at = no_place; name = n; function = part.0; arguments = part.1 }) in
      read-then blank_placed blank_stmt name (λ n ts. and_then (in_parens depth (started most) ts) (λ part. done (made from n part))) (spell_name t.name) (in_parentheses parts) (blank_placed t.name) (s.thread (blank_thread t)) rest
      (λ places. read-name t.name (laid (in_parentheses parts) places rest))
      (λ n e. read-made (blank_started d most depth) blank_stmt (in_parens depth (started most)) (made from n) (in_parentheses parts) (blank_ref t.function, blank_exprs t.arguments) (s.thread (blank_thread t)) rest
      (read-in_parens (blank_started d most depth) depth (started most) (λ below. FitsEach (grammar d) most below t.arguments) parts (blank_ref t.function, blank_exprs t.arguments) rest fits
      (λ below v at. read-started d most below t.function t.arguments at rest v))
      (λ part h. ap (λ q. blanked q (blank_started d most depth part)) e ∙ ap (blanked (blank_placed t.name)) h))

  read-abort : (from at : Place) (rest : Tokens) → Opens depth (λ below. Unit {0}) → IsRead blank_stmt (abort depth from) (in_parentheses []) (s.abort no_place) rest
  unfolding abort
  read-abort from at rest fits =
      read-made (λ (u : Unit {0}). u) blank_stmt (no_parts depth) (λ u. s.abort from) (in_parentheses []) tt (s.abort no_place) rest (read-no_parts depth (λ below. Unit {0}) rest fits) (λ u e. refl)

  std-thread : (from p : Place) (ts : Tokens) → std_stmt most d depth from (token p (w.name d.thread.0) ∷ ts) ≡ thread most depth from ts
  unfolding std_stmt
  std-thread from p ts = rw (eq-eqb d.thread.0 d.thread.0 refl) refl

  module _ (apart : IsApart d) where
    std-print : (from p : Place) (ts : Tokens) → std_stmt most d depth from (token p (w.name d.cout.0) ∷ ts) ≡ print most d depth from ts
    unfolding std_stmt
    std-print from p ts = rw (other-level d.cout.0 d.thread.0 (λ same. apart.thread_cout (sym same)), eq-eqb d.cout.0 d.cout.0 refl) refl

    std-abort : (from p : Place) (ts : Tokens) → is_woven d.mode ≡ true → std_stmt most d depth from (token p (w.name d.abort.0) ∷ ts) ≡ abort depth from ts
    unfolding std_stmt
    std-abort from p ts woven =
        rw (other-level d.abort.0 d.thread.0 (λ same. apart.thread_abort (sym same)), other-level d.abort.0 d.cout.0 (λ same. apart.cout_abort (sym same)), woven, eq-eqb d.abort.0 d.abort.0 refl) refl

    -- what stands behind `std ::`
    abbrev pub IsStdRead : Place → List Word → StmtTree → Tokens → Type 0
    IsStdRead from words t rest = IsRead blank_stmt (std_stmt most d depth from) words (blank_stmt t) rest

    pub read-std_print : (q : PrintTree) (from at : Place) (rest : Tokens) → q.operands ≢ [] → Every (FitsPrinted (grammar d) most depth) q.operands
        → IsStdRead from (w.name d.cout.0 ∷ flat_map (spell_printed (special_of d)) q.operands) (s.print q) (token at (w.sign sg.Semicolon) ∷ rest)
    read-std_print q from at rest some fits places =
        let r = read-print d most depth q from at rest some fits places.1 in
        (r.0, r.1, std-print from places.0 _ ∙ r.2)

    pub read-std_thread : (t : ThreadTree) (from : Place) (rest : Tokens) → FitsArguments (grammar d) most depth t.arguments
        → IsStdRead from (w.name d.thread.0 ∷ (spell_name t.name ++ in_parentheses (separated (spell_ref t.function ∷ spell_each (special_of d) t.arguments)))) (s.thread t) rest
    read-std_thread t from rest fits places =
        let r = read-thread t from rest fits places.1 in
        (r.0, r.1, std-thread from places.0 _ ∙ r.2)

    pub read-std_abort : (from at : Place) (rest : Tokens) → HasWovenForms (grammar d) → Opens depth (λ below. Unit {0}) → IsStdRead from (w.name d.abort.0 ∷ in_parentheses []) (s.abort at) rest
    read-std_abort from at rest woven fits places =
        let r = read-abort from at rest fits places.1 in
        (r.0, r.1, std-abort from places.0 _ (is_woven-of d.mode woven) ∙ r.2)
