-- Declarations are read right.
use Rattle.std.proofs.Common.{◌≡◌, ℕ, ◌≤◌, ◌<◌, Bool, true, false, if◌then◌else◌, nat_eq, List, [], ◌∷◌, ◌++◌, length, Option, Some, None, inl, inr, refl, sym, ap, append-nil, length-append, arith}
use Rattle.std.proofs.lemmas.Bool.{eqb-true}
use Rattle.agxx_base.specs.declared.place.Place.{Place}
use Rattle.agxx_base.specs.declared.ids.NameId.{NameId}
use Rattle.agxx_base.specs.declared.vocabulary.Keyword.{Keyword}
use Rattle.agxx_base.specs.declared.vocabulary.Keyword.TheVariants as k
use Rattle.agxx_base.specs.declared.vocabulary.Sign.TheVariants as sg
use Rattle.agxx_base.specs.declared.vocabulary.SpecialName.{SpecialName}
use Rattle.cxx_tree.specs.declared.node.Placed.{Placed}
use Rattle.cxx_tree.specs.declared.program.TypeName.{TypeName}
use Rattle.cxx_tree.specs.declared.program.ClassWord.TheVariants as class_word_of
use Rattle.cxx_tree.specs.declared.program.Param.{Param}
use Rattle.cxx_tree.specs.Words as w
use Rattle.cxx_tree.specs.Words.{Word, separated, in_parentheses}
use Rattle.cxx_tree.specs.ExprTree as e
use Rattle.cxx_tree.specs.ExprTree.{ExprTree, listed_exprs}
use Rattle.cxx_tree.specs.ProgramTree as p
use Rattle.cxx_tree.specs.ProgramTree.{DeclTree}
use Rattle.cxx_tree.specs.Spelling.{spell_name, spell_type, spell_typed, spell_params, spell_decl}
use Rattle.cxx_tree.specs.Limits.{Grammar}
use Rattle.cxx_tree.specs.Fits.{IsPlainType, FitsParams, expr_level}
use Rattle.cxx_expr.specs.declared.stop.Stop.TheVariants.{Syntax}
use Rattle.cxx_expr.specs.Tokens.{Tokens, sees, after}
use Rattle.cxx_expr.specs.Outcome.{failed}
use Rattle.cxx_expr.proofs.Good.{sees-head}
use Rattle.cxx_stmt.specs.declared.dialect.Dialect.{Dialect}
use Rattle.cxx_stmt.specs.Dialect.{special_of, grammar}
use Rattle.cxx_stmt.specs.Parts.{expressions}
use Rattle.cxx_stmt.specs.Types.{word_type, pointer_to}
use Rattle.cxx_stmt.proofs.Sorts as part
use Rattle.cxx_stmt.proofs.Sorts.{sort, Begins, maybe, parens, somes}
use Rattle.cxx_stmt.proofs.GoodParts.{Here, Behind, here_if, here_past, here_sign, here_sort, behind_done, behind_fail, behind_part, behind_made, behind_next, behind_if_sign, behind_parens}
use Rattle.cxx_stmt.proofs.GoodTypes.{IsTypeWord, type-word, good_names, good_params}
use Rattle.cxx_stmt.proofs.Modes.{no_advice-of}
use Rattle.cxx_stmt.proofs.GoodArguments.{each-spelled, each-fits, good_expressions}
use Rattle.cxx_parse.specs.Declarations.{variable_of, variable, mutex, function_or_proto, typed_decl, decl_of_type, object_arguments, object_of, object, name_decl, decl_of_word, keyword_decl, decl_at, decl_next, decl}
use Rattle.cxx_parse.proofs.Sorts as kind
use Rattle.cxx_parse.proofs.GoodRules.{behind_text, behind_part_ended}
use Rattle.cxx_parse.proofs.GoodConstants.{good_initial}
use Rattle.cxx_parse.proofs.GoodClasses.{typed-words, good_mutex_name, good_body, good_class}

-- ---- arguments of objects

module _ (special : SpecialName → ℕ) (g : Grammar) where
  some-fits : (m n : ℕ) (xs : List ExprTree) → (parens (somes (part.fulls special g expr_level))).Fits m n xs → (kind.object_arguments special g).Fits m n xs
  some-fits m n [] v = absurd v.2
  some-fits m n (x ∷ xs) v = (v.0, v.1, (v.2.0, each-fits special g m v.0 xs v.2.1))

  some-spelled : (m n : ℕ) (xs : List ExprTree) → (parens (somes (part.fulls special g expr_level))).Fits m n xs
      → (kind.object_arguments special g).spelled xs ≡ (parens (somes (part.fulls special g expr_level))).spelled xs
  some-spelled m n [] v = absurd v.2
  some-spelled m n (x ∷ xs) v = ap (λ q. in_parentheses (separated q)) (each-spelled special g (x ∷ xs))

module _ (d : Dialect) (most more depth deeper : ℕ) (le : most ≤ more) (le' : depth ≤ deeper) where
  abbrev special : SpecialName → ℕ
  special = special_of d

  abbrev g : Grammar
  g = grammar d

  -- ---- variables and mutexes

  good_variable : (t : Placed TypeName) (n : Placed NameId) → IsPlainType t.item → Behind (spell_typed special t n) (kind.decls special g) most depth (variable t n) (variable t n)
  unfolding variable
  good_variable t n plain =
      behind_part_ended (maybe (kind.constants special)) sg.Semicolon (variable_of t n) (λ m i le le' value v. plain) (λ value. refl) (good_initial special)

  -- behind `std ::`
  good_mutex : (at : Place) → Behind (w.name d.std.0 ∷ w.sign sg.ColonColon ∷ []) (kind.decls special g) most depth (mutex d at) (mutex d at)
  unfolding mutex
  good_mutex at = behind_part_ended (kind.mutex_names special) sg.Semicolon (λ n. p.global (p.mutex at n)) (λ m i le le' n v. tt) (λ n. refl) (good_mutex_name d)

  -- ---- functions and prototypes

  good_function_or_proto : (t : Placed TypeName) (n : Placed NameId) (qs : List Param) → IsPlainType t.item → FitsParams depth qs
      → Behind (spell_typed special t n ++ spell_params special qs) (kind.decls special g) most depth (function_or_proto most d depth t n qs) (function_or_proto more d deeper t n qs)
  unfolding function_or_proto
  good_function_or_proto t n qs plain v =
      behind_if_sign sg.Semicolon (behind_done (p.proto (record { result = t; name = n; params = qs })) (plain, v) refl)
      (behind_made (kind.functions special g) p.free_function (λ m i le le' f u. u) (λ f. refl) (good_body d most more depth deeper le le' t n qs plain v))

  good_typed_decl : (t : Placed TypeName) (n : Placed NameId) → IsPlainType t.item → Behind (spell_typed special t n) (kind.decls special g) most depth (typed_decl most d depth t n) (typed_decl more d deeper t n)
  unfolding typed_decl
  good_typed_decl t n plain ts =
      here_if (sees sg.OpenParen) (sees-head sg.OpenParen)
      (λ e. behind_part (part.params special) (λ m i le le' qs v. (p.proto (record { result = t; name = n; params = qs }), w.sign sg.Semicolon ∷ [], (m, i, (plain, v)), refl))
      (good_params special most depth deeper le') (λ qs v. good_function_or_proto t n qs plain v) ts)
      (λ e. good_variable t n plain ts)

  good_decl_of_type : (t : Placed TypeName) → IsPlainType t.item → Behind (spell_type special t.item) (kind.decls special g) most depth (decl_of_type most d depth t) (decl_of_type more d deeper t)
  unfolding decl_of_type
  good_decl_of_type t plain =
      behind_part part.names (λ m i le le' n v. (variable_of t n None, w.sign sg.Semicolon ∷ [], (m, i, plain), ap (λ q. q ++ w.sign sg.Semicolon ∷ []) (append-nil (spell_typed special t n)))) good_names
      (λ n v. good_typed_decl t n plain)

  -- ---- objects

  good_object_arguments : Behind [] (kind.object_arguments special g) most depth (object_arguments most d depth) (object_arguments more d deeper)
  unfolding object_arguments
  good_object_arguments ts =
      here_if (sees sg.OpenParen) (sees-head sg.OpenParen)
      (λ e. here_sort (sort (parens (somes (part.fulls special g expr_level))) most depth) (λ xs v. some-fits special g most depth xs v) (λ xs v. (v.0, v.1, some-fits special g v.0 v.1 xs v.2))
      (λ xs v. some-spelled special g v.0 v.1 xs v.2)
      (behind_parens {K = somes (part.fulls special g expr_level)} (λ below. expressions most below) (λ below. expressions more below) le'
      (λ below under e e' le''. good_expressions special g (no_advice-of d) most more below under le le'') ts).good)
      (λ e. behind_done [] tt refl ts)

  good_object_of : (of n : Placed NameId) → Behind (spell_name of ++ spell_name n) (kind.decls special g) most depth (object_of most d depth of n) (object_of more d deeper of n)
  unfolding object_of
  good_object_of of n =
      behind_part_ended (kind.object_arguments special g) sg.Semicolon (λ xs. p.global (p.object (record { class = of; name = n; arguments = listed_exprs xs }))) (λ m i le le' xs v. v) (λ xs. refl)
      good_object_arguments

  -- how a name begins an object
  object_begins : (of n : Placed NameId) → Begins (kind.decls special g) (spell_name of ++ spell_name n)
  object_begins of n = (p.global (p.object (record { class = of; name = n; arguments = e.no_exprs })), w.sign sg.Semicolon ∷ [], (0, 0, tt), refl)

  good_object : (of : Placed NameId) → Behind (spell_name of) (kind.decls special g) most depth (object most d depth of) (object more d deeper of)
  unfolding object
  good_object of = behind_part part.names (λ m i le le' n v. object_begins of n) good_names (λ n v. good_object_of of n)

  -- ---- all of them

  name_begins : (n : Placed NameId) → Begins (kind.decls special g) (spell_name n)
  name_begins n = (p.global (p.object (record { class = n; name = n; arguments = e.no_exprs })), spell_name n ++ w.sign sg.Semicolon ∷ [], (0, 0, tt), refl)

  good_std_decl : (n : Placed NameId) (b : Bool) → nat_eq n.item.0 d.std.0 ≡ b → (ts : Tokens) → sees sg.ColonColon ts ≡ true
      → Here (spell_name n) (kind.decls special g) most depth (λ ts. if b then mutex d n.at (after ts) else failed Syntax ts) (λ ts. if b then mutex d n.at (after ts) else failed Syntax ts) ts
  good_std_decl n true is ts e =
      here_sign sg.ColonColon e (behind_text (ap (λ q. w.name q ∷ w.sign sg.ColonColon ∷ []) (sym (eqb-true n.item.0 d.std.0 is))) (good_mutex n.at) (after ts))
  good_std_decl n false is ts e = behind_fail (inr (name_begins n)) ts

  good_name_decl : (n : Placed NameId) → Behind (spell_name n) (kind.decls special g) most depth (name_decl most d depth n) (name_decl more d deeper n)
  unfolding name_decl
  good_name_decl n =
      behind_if_sign sg.Star (good_decl_of_type (pointer_to n) tt)
      (λ ts. here_if (sees sg.ColonColon) (sees-head sg.ColonColon) (good_std_decl n (nat_eq n.item.0 d.std.0) refl ts) (λ e. good_object n ts))

  good_decl_of_word : (at : Place) (word : Word) (o : Option TypeName) → IsTypeWord special word o → (ts : Tokens)
      → Here [] (kind.decls special g) most depth (decl_of_word most d depth at o) (decl_of_word more d deeper at o) (record { at = at; item = word } ∷ ts)
  good_decl_of_word at word (Some t) is ts = here_past (record { at = at; item = word }) (behind_text is.0 (good_decl_of_type (record { at = at; item = t }) is.1) ts)
  good_decl_of_word at word None is ts = behind_fail (inl refl) _

  good_keyword_decl : (at : Place) (word : Keyword) (ts : Tokens)
      → Here [] (kind.decls special g) most depth (keyword_decl most d depth at word) (keyword_decl more d deeper at word) (record { at = at; item = w.keyword word } ∷ ts)
  good_keyword_decl at k.Class ts = here_past (record { at = at; item = w.keyword k.Class }) (good_class d most more depth deeper le le' at class_word_of.Class ts)
  good_keyword_decl at k.Struct ts = here_past (record { at = at; item = w.keyword k.Struct }) (good_class d most more depth deeper le le' at class_word_of.Struct ts)
  good_keyword_decl at word ts = good_decl_of_word at (w.keyword word) (word_type word) (type-word special word) ts

  good_decl_at : (at : Place) (word : Word) (ts : Tokens) → Here [] (kind.decls special g) most depth (decl_at most d depth at word) (decl_at more d deeper at word) (record { at = at; item = word } ∷ ts)
  good_decl_at at (w.keyword word) ts = good_keyword_decl at word ts
  good_decl_at at (w.name n) ts = here_past (record { at = at; item = w.name n }) (good_name_decl (record { at = at; item = record { 0 = n } }) ts)
  good_decl_at at _ ts = behind_fail (inl refl) _

  pub good_decl : Behind [] (kind.decls special g) most depth (decl most d depth) (decl more d deeper)
  unfolding decl
  good_decl = behind_next (decl_next most d depth) (decl_next more d deeper) (behind_fail (inl refl) []) (λ t ts. good_decl_at t.at t.item ts)

-- ---- declarations have words

module _ (special : SpecialName → ℕ) where
  ended-words : (a : List Word) → 0 < length (a ++ w.sign sg.Semicolon ∷ [])
  ended-words a = omega (arith, length-append a (w.sign sg.Semicolon ∷ []))

  pub decl-words : (q : DeclTree) → 0 < length (spell_decl special q)
  decl-words (p.class c) = ended-words _
  decl-words (p.class_name c) = ended-words _
  decl-words (p.free_function f) = typed-words special f.result f.name _
  decl-words (p.proto f) = ended-words _
  decl-words (p.global (p.variable v)) = ended-words _
  decl-words (p.global (p.object o)) = omega arith
  decl-words (p.global (p.mutex at n)) = omega arith
