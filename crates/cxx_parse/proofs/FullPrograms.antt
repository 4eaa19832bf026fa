-- The spelling of each program is read again.
use Rattle.std.proofs.Common.{◌≡◌, ℕ, zero, suc, ◌≤◌, ◌<◌, true, List, [], ◌∷◌, ◌++◌, length, length-append, map, None, refl, ap, ◌∙◌, arith}
use Rattle.std.specs.List.{flat_map}
use Rattle.agxx_base.specs.declared.place.Place.{Place}
use Rattle.agxx_base.specs.declared.vocabulary.SpecialName.{SpecialName}
use Rattle.cxx_tree.specs.declared.program.Directive.{Directive}
use Rattle.cxx_tree.specs.declared.program.Directive.TheVariants as directive_of
use Rattle.cxx_tree.specs.Words as w
use Rattle.cxx_tree.specs.Words.{Word}
use Rattle.cxx_tree.specs.ProgramTree.{DeclTree, ProgramTree}
use Rattle.cxx_tree.specs.Spelling.{spell_directive, spell_decl, spell_program}
use Rattle.cxx_tree.specs.Limits.{Every}
use Rattle.cxx_tree.specs.Fits.{FitsDecl, FitsProgram}
use Rattle.cxx_tree.specs.Blank.{blank_decl, blank_program}
use Rattle.cxx_expr.specs.Tokens.{Tokens, next}
use Rattle.cxx_expr.specs.Outcome.{done, Parse, and_then}
use Rattle.cxx_expr.specs.Descent.{front_of}
use Rattle.cxx_stmt.specs.declared.dialect.Dialect.{Dialect}
use Rattle.cxx_stmt.specs.Dialect.{special_of, grammar, IsApart}
use Rattle.cxx_stmt.proofs.FullParts.{PlacesOf, laid, laid-length, begins, begins-append, begins-length, IsRead, read-then, read-made, read-front_of}
use Rattle.cxx_stmt.proofs.FullTypes.{is_first}
use Rattle.cxx_parse.specs.Declarations.{decl}
use Rattle.cxx_parse.specs.Programs.{directive_word, directive_next, directives_from, directives, decls_from, decls, program}
use Rattle.cxx_parse.proofs.FullDeclarations.{read-decl, first-decl}

-- ---- directives

no-directive-word : (word : Word) → is_first word ≡ true → directive_word word ≡ None
no-directive-word (w.name n) h = refl
no-directive-word (w.number bits kind) h = refl
no-directive-word (w.text bytes) h = refl
no-directive-word (w.keyword word) h = refl
no-directive-word (w.sign found) h = refl
no-directive-word (w.include header) h = cc
no-directive-word w.pragma h = cc

no-directive-next : (words : List Word) → begins is_first words ≡ true → (places : PlacesOf words) (rest : Tokens) → directive_next (next (laid words places rest)) ≡ None
no-directive-next [] h places rest = cc
no-directive-next (word ∷ words) h places rest = no-directive-word word h

-- no declaration begins as a directive does
no-directive : (special : SpecialName → ℕ) (xs : List DeclTree) (places : PlacesOf (flat_map (spell_decl special) xs))
    → directive_next (next (laid (flat_map (spell_decl special) xs) places [])) ≡ None
no-directive special [] places = refl
no-directive special (x ∷ xs) places =
    let more : List Word = flat_map (spell_decl special) xs in
    no-directive-next (spell_decl special x ++ more) (begins-append is_first (spell_decl special x) more (first-decl special x)) places []

read-directives_from : (ds : List Directive) (n : ℕ) (rest : Tokens) → directive_next (next rest) ≡ None → length ds < n
    → IsRead (λ (xs : List Directive). xs) (directives_from n) (flat_map spell_directive ds) ds rest
unfolding directives_from
read-directives_from [] zero rest e h places = absurd (omega (arith, h))
read-directives_from [] (suc n) rest e h places = ([], refl, rw e refl)
read-directives_from (x ∷ ds) zero rest e h places = absurd (omega (arith, h))
read-directives_from (directive_of.Include header ∷ ds) (suc n) rest e h places =
    let r = read-directives_from ds n rest e (omega (arith, h)) places.1 in
    (directive_of.Include header ∷ r.0, ap (λ q. directive_of.Include header ∷ q) r.1, ap (front_of (directive_of.Include header ∷ [])) r.2)
read-directives_from (directive_of.Pragma ∷ ds) (suc n) rest e h places =
    let r = read-directives_from ds n rest e (omega (arith, h)) places.1 in
    (directive_of.Pragma ∷ r.0, ap (λ q. directive_of.Pragma ∷ q) r.1, ap (front_of (directive_of.Pragma ∷ [])) r.2)

directive-words : (x : Directive) → length (spell_directive x) ≡ 1
directive-words (directive_of.Include header) = refl
directive-words directive_of.Pragma = refl

directives-length : (ds : List Directive) → length ds ≤ length (flat_map spell_directive ds)
directives-length [] = omega arith
directives-length (x ∷ ds) = omega (arith, directives-length ds, directive-words x, length-append (spell_directive x) (flat_map spell_directive ds))

read-directives : (ds : List Directive) (rest : Tokens) → directive_next (next rest) ≡ None → IsRead (λ (xs : List Directive). xs) directives (flat_map spell_directive ds) ds rest
read-directives ds rest e places =
    let words : List Word = flat_map spell_directive ds in
    read-directives_from ds (suc (length (laid words places rest))) rest e (omega (arith, laid-length words places rest, directives-length ds)) places

-- ---- declarations

decls-turn : (part : Parse Tokens DeclTree) (n : ℕ) (words : List Word) → begins is_first words ≡ true → (places : PlacesOf words) (rest : Tokens)
    → decls_from part (suc n) (laid words places rest) ≡ and_then (part (laid words places rest)) (λ x ts. front_of (x ∷ []) (decls_from part n ts))
unfolding decls_from
decls-turn part n [] h places rest = cc
decls-turn part n (word ∷ words) h places rest = refl

decls-none : (part : Parse Tokens DeclTree) (n : ℕ) → decls_from part (suc n) [] ≡ done [] []
unfolding decls_from
decls-none part n = refl

decls-length : (special : SpecialName → ℕ) (xs : List DeclTree) → length xs ≤ length (flat_map (spell_decl special) xs)
decls-length special [] = omega arith
decls-length special (x ∷ xs) =
    omega (arith, decls-length special xs, begins-length is_first (spell_decl special x) (first-decl special x), length-append (spell_decl special x) (flat_map (spell_decl special) xs))

module _ (d : Dialect) (apart : IsApart d) (most depth : ℕ) where
  abbrev spelled : DeclTree → List Word
  spelled = spell_decl (special_of d)

  abbrev IsOne : DeclTree → Type 0
  IsOne = FitsDecl (grammar d) most depth

  read-decls_from : (xs : List DeclTree) (n : ℕ) → Every IsOne xs → length xs < n → IsRead (map blank_decl) (decls_from (decl most d depth) n) (flat_map spelled xs) (map blank_decl xs) []
  read-decls_from [] zero v h places = absurd (omega (arith, h))
  read-decls_from [] (suc n) v h places = ([], refl, decls-none (decl most d depth) n)
  read-decls_from (x ∷ xs) zero v h places = absurd (omega (arith, h))
  read-decls_from (x ∷ xs) (suc n) v h places =
      let more : List Word = flat_map spelled xs in
      let r = read-front_of spelled IsOne blank_decl (decl most d depth) (λ ts. Unit {0}) (λ x rest v follows. read-decl d apart most depth x rest v)
      x xs more (decls_from (decl most d depth) n) []
      v.0 (λ places. tt) (read-decls_from xs n v.1 (omega (arith, h))) places in
      (r.0, r.1, decls-turn (decl most d depth) n (spelled x ++ more) (begins-append is_first (spelled x) more (first-decl (special_of d) x)) places [] ∙ r.2)

  read-decls : (xs : List DeclTree) → Every IsOne xs → IsRead (map blank_decl) (decls (decl most d depth)) (flat_map spelled xs) (map blank_decl xs) []
  read-decls xs v places =
      let words : List Word = flat_map spelled xs in
      read-decls_from xs (suc (length (laid words places []))) v (omega (arith, laid-length words places [], decls-length (special_of d) xs)) places

  -- ---- programs

  pub read-program : (at : Place) (q : ProgramTree) → FitsProgram (grammar d) (record { nesting = depth; operators = most }) q
      → IsRead blank_program (program most d depth at) (spell_program (special_of d) q) (blank_program q) []
  unfolding program
  read-program at q v =
      let made : List Directive → List DeclTree → ProgramTree = λ ds xs. record { at = at; directives = ds; decls = xs } in
      read-then (λ (xs : List Directive). xs) blank_program directives (λ ds ts. and_then (decls (decl most d depth) ts) (λ xs. done (made ds xs))) (flat_map spell_directive q.directives) (flat_map spelled q.decls)
      q.directives (blank_program q) []
      (λ places. read-directives q.directives _ (no-directive (special_of d) q.decls places))
      (λ ds e. read-made (map blank_decl) blank_program (decls (decl most d depth)) (made ds) (flat_map spelled q.decls) (map blank_decl q.decls) (blank_program q) [] (read-decls q.decls v) (λ xs h. cc))
