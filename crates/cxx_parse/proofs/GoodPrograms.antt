-- Programs are read right.
use Rattle.std.proofs.Common.{◌≡◌, ℕ, zero, suc, ◌+◌, ◌≤◌, ◌<◌, List, [], ◌∷◌, ◌++◌, length, length-append, Option, Some, None, refl, sym, ap, ◌∙◌, subst, append-nil, arith}
use Rattle.std.specs.List.{flat_map}
use Rattle.std.proofs.lemmas.List.{length-map}
use Rattle.agxx_base.specs.declared.place.Place.{Place}
use Rattle.cxx_tree.specs.declared.node.Placed.{Placed}
use Rattle.cxx_tree.specs.declared.program.Directive.{Directive}
use Rattle.cxx_tree.specs.Words as w
use Rattle.cxx_tree.specs.Words.{Word}
use Rattle.cxx_tree.specs.ProgramTree.{DeclTree, ProgramTree}
use Rattle.cxx_tree.specs.Spelling.{spell_directive, spell_program}
use Rattle.cxx_tree.specs.Fits.{FitsProgram, IsProgram}
use Rattle.cxx_expr.specs.Tokens.{Tokens, words_of, next}
use Rattle.cxx_expr.specs.Outcome.{Outcome, done, failed, Parse, and_then}
use Rattle.cxx_expr.specs.Descent.{front_of}
use Rattle.cxx_expr.proofs.Good.{Sort, Good, Goods, IsRead, head, good_done, good_shift, good_again, good_as, good_then}
use Rattle.cxx_expr.proofs.States.{tokens}
use Rattle.cxx_stmt.specs.declared.dialect.Dialect.{Dialect}
use Rattle.cxx_stmt.specs.Dialect.{special_of, grammar}
use Rattle.cxx_stmt.proofs.Sorts.{Kind, sort}
use Rattle.cxx_stmt.proofs.GoodParts.{Behind, behind_two, head-is}
use Rattle.cxx_parse.specs.Declarations.{decl}
use Rattle.cxx_parse.specs.Programs.{directive_word, directive_next, directives_by, directives_from, directives, decls_from, decls, program}
use Rattle.cxx_parse.proofs.Sorts as kind
use Rattle.cxx_parse.proofs.Sorts.{sequences}
use Rattle.cxx_parse.proofs.GoodDeclarations.{decl-words, good_decl}

-- ---- parts one behind another

-- a part that was read before the others, which a rule reads that has a number of turns
module _ {A : Type 0} (K : Kind A) (most depth : ℕ) (rule : ℕ → Parse Tokens (List A)) where
  abbrev Others : Tokens → Outcome Tokens (List A) → Type 0
  Others ts r = (m : ℕ) → length ts < m → rule m ts ≡ r

  abbrev Joined : A → Tokens → Outcome Tokens (List A) → Type 0
  Joined x ts r = (m : ℕ) → length ts < m → front_of (x ∷ []) (rule m ts) ≡ r

  good_joined : (x : A) → K.Fits most depth x → (ts : Tokens) (o : Outcome Tokens (List A)) → Good tokens [] (sort (sequences K) most depth) Others ts o
      → Good tokens (K.spelled x) (sort (sequences K) most depth) (Joined x) ts (front_of (x ∷ []) o)
  good_joined x v ts o g =
      good_then tokens (K.spelled x) (sort (sequences K) most depth) (sort (sequences K) most depth) Others (λ ys q r. done (x ∷ ys) q ≡ r) (Joined x)
      (λ ys front other r a f m lt. ap (front_of (x ∷ [])) (a m lt) ∙ f) (λ q us a m lt. ap (front_of (x ∷ [])) (a m lt)) [] (0, 0, tt)
      (λ ys u. (
        x ∷ ys,
        [],
        (
          most + u.0,
          depth + u.1,
          (
            K.grows most (most + u.0) depth (depth + u.1) (omega arith) (omega arith) x v,
            (sequences K).grows u.0 (most + u.0) u.1 (depth + u.1) (omega arith) (omega arith) ys u.2,
          ),
        ),
        sym (append-nil (K.spelled x ++ flat_map K.spelled ys)),
      ))
      (λ ys. done (x ∷ ys)) ts o g
      (λ ys q front u t e. good_done tokens (K.spelled x ++ flat_map K.spelled ys) (sort (sequences K) most depth) (λ q r. done (x ∷ ys) q ≡ r) q (x ∷ ys) (v, u) refl (λ other h. refl))

-- ---- directives

abbrev IsDirective : Word → Option Directive → Type 0
IsDirective word None = Unit {0}
IsDirective word (Some x) = spell_directive x ≡ word ∷ []

directive-word : (word : Word) → IsDirective word (directive_word word)
directive-word (w.include h) = refl
directive-word w.pragma = refl
directive-word _ = tt

abbrev more_directives : ℕ → Parse Tokens (List Directive)
more_directives n ts = directives_from n ts

no-directive : (m : ℕ) (q : Tokens) → length q < m → directive_next (next q) ≡ None → directives_from m q ≡ done [] q
unfolding directives_from
no-directive zero q lt e = absurd (omega arith)
no-directive (suc m) q lt e = rw e refl

a-directive : (x : Directive) (t : Placed Word) (m : ℕ) (q : Tokens) (r : Outcome Tokens (List Directive)) → directive_word t.item ≡ Some x → length (t ∷ q) < m
    → Joined kind.directives 0 0 more_directives x q r → directives_from m (t ∷ q) ≡ r
unfolding directives_from
a-directive x t zero q r e lt a = absurd (omega arith)
a-directive x t (suc m) q r e lt a = rw e (a m (omega (arith, lt)))

module _ (most depth : ℕ) where
  abbrev Directives : Sort (List Directive)
  Directives = sort (sequences kind.directives) most depth

  abbrev AgDirectives : Tokens → Outcome Tokens (List Directive) → Type 0
  AgDirectives = Others kind.directives most depth more_directives

  good_directives_end : (ts : Tokens) → directive_next (next ts) ≡ None → Good tokens [] Directives AgDirectives ts (done [] ts)
  good_directives_end ts e =
      good_done tokens [] Directives AgDirectives ts [] tt refl (λ other h m lt. no-directive m other lt (ap directive_next (head-is other ∙ h ∙ sym (head-is ts)) ∙ e))

  good_directive_by : (t : Placed Word) (rest : Tokens) (n : ℕ) → Good tokens [] Directives AgDirectives rest (directives_from n rest)
      → (o : Option Directive) → directive_word t.item ≡ o → IsDirective t.item o
      → Good tokens [] Directives AgDirectives (t ∷ rest) (directives_by o (λ ts. directives_from n ts) (t ∷ rest))
  good_directive_by t rest n g None e is = good_directives_end (t ∷ rest) e
  good_directive_by t rest n g (Some x) e is =
      good_shift tokens [] Directives (Joined kind.directives most depth more_directives x) AgDirectives t rest (front_of (x ∷ []) (directives_from n rest)) (λ q r a m lt. a-directive x t m q r e lt a)
      (subst (λ q. Good tokens q Directives (Joined kind.directives most depth more_directives x) rest (front_of (x ∷ []) (directives_from n rest))) is
      (good_joined kind.directives most depth more_directives x tt rest (directives_from n rest) g))

  good_directives_from : (n : ℕ) (ts : Tokens) → length ts < n → Good tokens [] Directives AgDirectives ts (directives_from n ts)
  unfolding directives_from
  good_directives_from zero ts h = absurd (omega arith)
  good_directives_from (suc n) [] h = good_directives_end [] refl
  good_directives_from (suc n) (t ∷ rest) h = good_directive_by t rest n (good_directives_from n rest (omega (arith, h))) (directive_word t.item) refl (directive-word t.item)

  good_directives : Behind [] (sequences kind.directives) most depth directives directives
  good_directives ts = record {
    good = good_again tokens [] Directives AgDirectives (λ q r. directives q ≡ r) ts (directives ts) (λ q r h a. a (suc (length q)) (omega arith)) (good_directives_from (suc (length ts)) ts (omega arith));
  }

-- ---- declarations up to the end

-- a rule of parts that have words takes some
module _ {A : Type 0} (K : Kind A) (words : (a : A) → 0 < length (K.spelled a)) where
  front-takes : (x : A) (front rest ts : Tokens) → K.spelled x ≡ words_of front → ts ≡ front ++ rest → length rest < length ts
  front-takes x front rest ts t e = omega (arith, words x, ap length t, length-map front (λ (q : Placed Word). q.item), ap length e, length-append front rest)

  takes : {most depth : ℕ} (p p' : Parse Tokens A) → Behind [] K most depth p p' → (ts : Tokens) (x : A) (rest : Tokens) → p ts ≡ done x rest → length rest < length ts
  takes {most = most} {depth = depth} p p' G ts x rest e = by_read (subst (Good tokens [] (sort K most depth) (λ q r. p' q ≡ r) ts) e (G ts).good)
    where
      by_read : IsRead tokens [] (sort K most depth) (λ q r. p' q ≡ r) ts x rest → length rest < length ts
      by_read g = front-takes x g.front rest ts g.text g.whole

module _ (K : Kind DeclTree) (words : (q : DeclTree) → 0 < length (K.spelled q)) (most more depth deeper : ℕ) (p p' : Parse Tokens DeclTree) (G : Behind [] K most depth p p') (again : Behind [] K more deeper p' p') where
  abbrev Decls : Sort (List DeclTree)
  Decls = sort (sequences K) most depth

  abbrev more_decls : ℕ → Parse Tokens (List DeclTree)
  more_decls m ts = decls_from p' m ts

  abbrev AgDecls : Tokens → Outcome Tokens (List DeclTree) → Type 0
  AgDecls = Others K most depth more_decls

  -- at a declaration
  abbrev AgDecl : Tokens → Outcome Tokens (List DeclTree) → Type 0
  AgDecl ts r = (m : ℕ) → length ts ≤ m → and_then (p' ts) (λ x ts. front_of (x ∷ []) (decls_from p' m ts)) ≡ r

  no-decl : (m : ℕ) (q : Tokens) → length q < m → head q ≡ None → decls_from p' m q ≡ done [] q
  unfolding decls_from
  no-decl zero q lt e = absurd (omega arith)
  no-decl (suc m) [] lt e = refl
  no-decl (suc m) (t ∷ q) lt e = cc

  a-decl : (t : Placed Word) (m : ℕ) (q : Tokens) (r : Outcome Tokens (List DeclTree)) → length q < m → head q ≡ Some t → AgDecl q r → decls_from p' m q ≡ r
  unfolding decls_from
  a-decl t zero q r lt e a = absurd (omega arith)
  a-decl t (suc m) [] r lt e a = cc
  a-decl t (suc m) (x ∷ q) r lt e a = a m (omega (arith, lt))

  good_decls_from : (n : ℕ) (ts : Tokens) → length ts < n → Good tokens [] Decls AgDecls ts (decls_from p n ts)
  unfolding decls_from
  good_decls_from zero ts h = absurd (omega arith)
  good_decls_from (suc n) [] h = good_done tokens [] Decls AgDecls [] [] tt refl (λ other e m lt. no-decl m other lt e)
  good_decls_from (suc n) (t ∷ rest) h =
      good_again tokens [] Decls AgDecl AgDecls (t ∷ rest) (and_then (p (t ∷ rest)) (λ x ts. front_of (x ∷ []) (decls_from p n ts))) (λ q r e a m lt. a-decl t m q r lt e a)
      (good_then tokens [] (sort K most depth) Decls (λ q r. p' q ≡ r) (Joined K most depth more_decls) AgDecl
      (λ x front other r a f m le. ap (λ o. and_then o (λ x ts. front_of (x ∷ []) (decls_from p' m ts))) a ∙ f m (omega (arith, le, takes K words p' p' again (front ++ other) x other a)))
      (λ q us a m le. ap (λ o. and_then o (λ x ts. front_of (x ∷ []) (decls_from p' m ts))) a)
      K.least K.is_least
      (λ x v. (x ∷ [], [], (v.0, v.1, (v.2, tt)), refl))
      (λ x ts. front_of (x ∷ []) (decls_from p n ts)) (t ∷ rest) (p (t ∷ rest)) (G (t ∷ rest)).good
      (λ x mid front v s e. good_joined K most depth more_decls x v mid (decls_from p n mid) (good_decls_from n mid (omega (arith, h, front-takes K words x front mid (t ∷ rest) s e)))))

  good_decls : Behind [] (sequences K) most depth (decls p) (decls p')
  good_decls ts = record {
    good = good_again tokens [] Decls AgDecls (λ q r. decls p' q ≡ r) ts (decls p ts) (λ q r h a. a (suc (length q)) (omega arith)) (good_decls_from (suc (length ts)) ts (omega arith));
  }

-- ---- programs

-- programs of a dialect: those within these limits, and those of any size
abbrev pub programs : Dialect → ℕ → ℕ → Sort ProgramTree
programs d most depth = record {
  spelled = spell_program (special_of d);
  IsOne = FitsProgram (grammar d) (record { nesting = depth; operators = most });
  IsSome = IsProgram (grammar d);
  is_some = λ q v. (record { nesting = depth; operators = most }, v);
}

module _ (d : Dialect) (most more depth deeper : ℕ) (le : most ≤ more) (le' : depth ≤ deeper) where
  good_parts : (at : Place) → Behind [] (kind.programs_within (special_of d) (grammar d)) most depth (program most d depth at) (program more d deeper at)
  unfolding program
  good_parts at =
      behind_two (sequences kind.directives) (sequences (kind.decls (special_of d) (grammar d))) (λ ds xs. record { at = at; directives = ds; decls = xs }) (λ m i le le' ds xs u v. v) (λ ds xs. refl)
      (good_directives most depth)
      (good_decls (kind.decls (special_of d) (grammar d)) (decl-words (special_of d)) most more depth deeper (decl most d depth) (decl more d deeper)
      (good_decl d most more depth deeper le le') (good_decl d more more deeper deeper (omega arith) (omega arith)))

  -- Each answer of the parser is right, and one with larger limits gives it again.
  pub good_program : (at : Place) → Goods tokens (programs d most depth) (program most d depth at) (program more d deeper at)
  good_program at ts =
      good_as tokens [] (sort (kind.programs_within (special_of d) (grammar d)) most depth) (programs d most depth) (λ q r. program more d deeper at q ≡ r)
      (record { at = at; directives = []; decls = [] }) (most, depth, tt) (λ q v. v)
      (λ q v. (record { nesting = v.1; operators = v.0 }, v.2)) (λ q v. refl) ts (program most d depth at ts) (good_parts at ts).good

-- ---- a program ends where the words do

then-done : {A B : Type 0} (o : Outcome Tokens A) (f : A → Parse Tokens B) (b : B) (rest : Tokens) → and_then o f ≡ done b rest → (a : A) × (mid : Tokens) × (o ≡ done a mid) × (f a mid ≡ done b rest)
then-done (done a mid) f b rest e = (a, mid, refl, e)
then-done (failed why mid) f b rest e = cc

same_value : {A : Type 0} (a b : A) (x y : Tokens) → done a x ≡ done b y → a ≡ b
same_value a b x y e = cc

same_rest : {A : Type 0} (a b : A) (x y : Tokens) → done a x ≡ done b y → x ≡ y
same_rest a b x y e = cc

decls-end : (part : Parse Tokens DeclTree) (n : ℕ) (ts : Tokens) (xs : List DeclTree) (rest : Tokens) → decls_from part n ts ≡ done xs rest → rest ≡ []
unfolding decls_from
decls-end part zero ts xs rest e = cc
decls-end part (suc n) [] xs rest e = cc
decls-end part (suc n) (t ∷ ts) xs rest e =
    let x = then-done (part (t ∷ ts)) (λ x ts. front_of (x ∷ []) (decls_from part n ts)) xs rest e in
    let ys = then-done (decls_from part n x.1) (λ ys. done (x.0 ∷ ys)) xs rest x.3 in
    decls-end part n x.1 ys.0 rest (ys.2 ∙ ap (done ys.0) (same_rest (x.0 ∷ ys.0) xs ys.1 rest ys.3))

module _ (most depth : ℕ) (d : Dialect) (at : Place) (ts rest : Tokens) (q : ProgramTree) (e : program most d depth at ts ≡ done q rest) where
  parts : (ds : List Directive) × (mid : Tokens) × (xs : List DeclTree) × (decls (decl most d depth) mid ≡ done xs rest) × (q ≡ record { at = at; directives = ds; decls = xs })
  unfolding program
  parts =
      let ds = then-done (directives ts) (λ ds ts. and_then (decls (decl most d depth) ts) (λ xs. done (record { at = at; directives = ds; decls = xs }))) q rest e in
      let xs = then-done (decls (decl most d depth) ds.1) (λ xs. done (record { at = at; directives = ds.0; decls = xs })) q rest ds.3 in
      let made : ProgramTree = record { at = at; directives = ds.0; decls = xs.0 } in
      (ds.0, ds.1, xs.0, xs.2 ∙ ap (done xs.0) (same_rest made q xs.1 rest xs.3), sym (same_value made q xs.1 rest xs.3))

  pub program-ends : rest ≡ []
  program-ends = decls-end (decl most d depth) (suc (length parts.1)) parts.1 parts.2 rest parts.3

  pub program-at : q.at ≡ at
  program-at = ap (λ (q : ProgramTree). q.at) parts.4
