-- Functions and classes are read right.
use Rattle.std.proofs.Common.{◌≡◌, ℕ, zero, suc, ◌≤◌, ◌<◌, Bool, true, false, ◌&&◌, nat_eq, List, [], ◌∷◌, ◌++◌, length, length-append, Option, Some, None, inl, inr, refl, sym, ap, ◌∙◌, append_assoc, arith}
use Rattle.std.specs.List.{flat_map}
use Rattle.std.proofs.lemmas.Bool.{eqb-true}
use Rattle.agxx_base.specs.declared.place.Place.{Place}
use Rattle.agxx_base.specs.declared.ids.NameId.{NameId}
use Rattle.agxx_base.specs.declared.vocabulary.Keyword.{Keyword}
use Rattle.agxx_base.specs.declared.vocabulary.Keyword.TheVariants as k
use Rattle.agxx_base.specs.declared.vocabulary.Sign.{Sign}
use Rattle.agxx_base.specs.declared.vocabulary.Sign.TheVariants as sg
use Rattle.agxx_base.specs.declared.vocabulary.SpecialName.{SpecialName}
use Rattle.cxx_tree.specs.declared.node.Placed.{Placed}
use Rattle.cxx_tree.specs.declared.program.TypeName.{TypeName}
use Rattle.cxx_tree.specs.declared.program.TypeName.TheVariants as type_of
use Rattle.cxx_tree.specs.declared.program.Access.{Access}
use Rattle.cxx_tree.specs.declared.program.Access.TheVariants as access_of
use Rattle.cxx_tree.specs.declared.program.ClassWord.{ClassWord}
use Rattle.cxx_tree.specs.declared.program.Param.{Param}
use Rattle.cxx_tree.specs.Words as w
use Rattle.cxx_tree.specs.Words.{Word, optional, in_braces}
use Rattle.cxx_tree.specs.ExprTree.{listed_exprs}
use Rattle.cxx_tree.specs.ProgramTree as p
use Rattle.cxx_tree.specs.ProgramTree.{InitTree, ItemTree}
use Rattle.cxx_tree.specs.Spelling.{spell_name, spell_type, spell_typed, spell_params, spell_block, spell_label, spell_class_word, spell_public_base, spell_item}
use Rattle.cxx_tree.specs.Limits.{Grammar, HasWovenForms}
use Rattle.cxx_tree.specs.Fits.{IsPlainType, IsMemberType, FitsParams}
use Rattle.cxx_expr.specs.Tokens.{Tokens, sees, after}
use Rattle.cxx_expr.proofs.Good.{sees-head}
use Rattle.cxx_expr.proofs.Names.{default_name}
use Rattle.cxx_stmt.specs.declared.dialect.Dialect.{Dialect}
use Rattle.cxx_stmt.specs.Dialect.{special_of, is_woven, grammar}
use Rattle.cxx_stmt.specs.Parts.{opens, braced}
use Rattle.cxx_stmt.specs.Types.{word_type, pointer_to}
use Rattle.cxx_stmt.proofs.Sorts as part
use Rattle.cxx_stmt.proofs.Sorts.{Begins, maybe, parens, somes, some-every, blocks_of}
use Rattle.cxx_stmt.proofs.GoodParts.{Here, Behind, here_if, here_past, here_sign, behind_done, behind_fail, behind_part, behind_made, behind_map, behind_two, behind_three, behind_next, behind_ended, behind_if_sign, behind_if_name, good_no_parts}
use Rattle.cxx_stmt.proofs.GoodLists.{good_some, good_braced}
use Rattle.cxx_stmt.proofs.GoodTypes.{IsTypeWord, type-word, good_names, good_params}
use Rattle.cxx_stmt.proofs.Modes.{no_advice-of, woven_forms-of}
use Rattle.cxx_stmt.proofs.GoodStatements.{block_at_depth}
use Rattle.cxx_stmt.proofs.GoodArguments.{good_arguments}
use Rattle.cxx_parse.specs.Classes.{access_word, mutex_name, mutex_member, public_at, public_next, public_base, base, body_of, function_of, init, inits, ctor_body, ctor, dtor, typed_item, item_of_type, name_item, label_or_type, sign_item, item_at, item_next, item, items, class_items, class_of, class}
use Rattle.cxx_parse.proofs.Sorts as kind
use Rattle.cxx_parse.proofs.Sorts.{bases}
use Rattle.cxx_parse.proofs.GoodRules.{behind_text, behind_as, behind_part_ended}

-- ---- words

-- a word that is an access
abbrev IsAccessWord : Word → Option Access → Type 0
IsAccessWord word None = Unit {0}
IsAccessWord word (Some a) = spell_label a ≡ word ∷ w.sign sg.Colon ∷ []

access-word : (word : Keyword) → IsAccessWord (w.keyword word) (access_word word)
access-word k.Public = refl
access-word k.Protected = refl
access-word k.Private = refl
access-word _ = tt

plain-member : (g : Grammar) (t : TypeName) → IsPlainType t → IsMemberType g t
plain-member g (type_of.Num num) v = tt
plain-member g type_of.Int v = tt
plain-member g type_of.Unsigned v = tt
plain-member g type_of.Void v = tt
plain-member g (type_of.Pointer class) v = tt
plain-member g type_of.Mutex v = absurd v

-- ---- names of mutexes, and bases

pub good_mutex_name : {most depth : ℕ} (d : Dialect) → Behind [] (kind.mutex_names (special_of d)) most depth (mutex_name d) (mutex_name d)
unfolding mutex_name
good_mutex_name d = behind_if_name d.mutex.0 (behind_as part.names (λ n. n) (λ m n a v. tt) (λ m n a v. refl) good_names) (behind_fail (inl refl))

public_begins : Begins bases (w.sign sg.Colon ∷ [])
public_begins = (default_name, w.keyword k.Public ∷ w.name 0 ∷ [], (0, 0, tt), refl)

module _ {most depth : ℕ} where
  good_public_at : (at : Place) (word : Word) (ts : Tokens) → Here (w.sign sg.Colon ∷ []) bases most depth (public_at word) (public_at word) (record { at = at; item = word } ∷ ts)
  good_public_at at (w.keyword k.Public) ts = here_past (record { at = at; item = w.keyword k.Public }) (behind_as part.names (λ n. n) (λ m n a v. tt) (λ m n a v. refl) good_names ts)
  good_public_at at _ ts = behind_fail (inr public_begins) _

  good_public_base : Behind (w.sign sg.Colon ∷ []) bases most depth public_base public_base
  unfolding public_base
  good_public_base = behind_next public_next public_next (behind_fail (inr public_begins) []) (λ t ts. good_public_at t.at t.item ts)

  good_base : Behind [] (maybe bases) most depth base base
  unfolding base
  good_base = behind_if_sign sg.Colon (behind_made bases Some (λ m n le le' a v. tt) (λ a. refl) good_public_base) (behind_done None tt refl)

-- ---- items of classes have words

front-words : (a b : List Word) → 0 < length a → 0 < length (a ++ b)
front-words a b h = omega (arith, length-append a b)

module _ (special : SpecialName → ℕ) where
  type-words : (t : TypeName) → 0 < length (spell_type special t)
  type-words (type_of.Num num) = omega arith
  type-words type_of.Int = omega arith
  type-words type_of.Unsigned = omega arith
  type-words type_of.Void = omega arith
  type-words (type_of.Pointer class) = omega arith
  type-words type_of.Mutex = omega arith

  pub typed-words : (t : Placed TypeName) (n : Placed NameId) (behind : List Word) → 0 < length (spell_typed special t n ++ behind)
  typed-words t n behind = front-words (spell_typed special t n) behind (front-words (spell_type special t.item) (spell_name n) (type-words t.item))

  label-words : (a : Access) → 0 < length (spell_label a)
  label-words access_of.Public = omega arith
  label-words access_of.Protected = omega arith
  label-words access_of.Private = omega arith

  item-words : (i : ItemTree) → 0 < length (spell_item special i)
  item-words (p.label at access) = label-words access
  item-words (p.member m) = typed-words m.type_name m.name _
  item-words (p.function f) = typed-words f.result f.name _
  item-words (p.ctor c) = omega arith
  item-words (p.dtor x) = omega arith

module _ (d : Dialect) (most more depth deeper : ℕ) (le : most ≤ more) (le' : depth ≤ deeper) where
  abbrev special : SpecialName → ℕ
  special = special_of d

  abbrev g : Grammar
  g = grammar d

  -- ---- functions

  pub good_body : (t : Placed TypeName) (n : Placed NameId) (qs : List Param) → IsPlainType t.item → FitsParams depth qs
      → Behind (spell_typed special t n ++ spell_params special qs) (kind.functions special g) most depth (body_of most d depth t n qs) (body_of more d deeper t n qs)
  unfolding body_of
  good_body t n qs plain v =
      behind_map (part.blocks special g) (λ b. record { result = t; name = n; params = qs; body = b }) (λ m i le le' b u. (plain, (part.params special).grows most m depth i le le' qs v, u))
      (λ b. sym (append_assoc (spell_typed special t n) (spell_params special qs) (spell_block special b))) (block_at_depth d most more le depth deeper le')

  good_function : (t : Placed TypeName) (n : Placed NameId) → IsPlainType t.item → Behind (spell_typed special t n) (kind.functions special g) most depth (function_of most d depth t n) (function_of more d deeper t n)
  unfolding function_of
  good_function t n plain =
      behind_part (part.params special)
      (λ m i le le' qs v. (
        record { result = t; name = n; params = qs; body = (part.blocks special g).least },
        spell_block special (part.blocks special g).least,
        (m, i, (plain, v, (v.0, v.1, tt))),
        sym (append_assoc (spell_typed special t n) (spell_params special qs) (spell_block special (part.blocks special g).least)),
      ))
      (good_params special most depth deeper le') (λ qs v. good_body t n qs plain v)

  -- ---- constructors and destructors

  good_init : Behind [] (kind.inits special g) most depth (init most d depth) (init more d deeper)
  unfolding init
  good_init =
      behind_two part.names (part.arguments special g) (λ n xs. record { name = n; arguments = listed_exprs xs }) (λ m i le le' n xs u v. v) (λ n xs. refl)
      good_names (good_arguments special g (no_advice-of d) most more depth deeper le le')

  inits-spelled : (xs : List InitTree) (m i : ℕ) → (somes (kind.inits special g)).Fits m i xs → (kind.init_lists special g).spelled xs ≡ w.sign sg.Colon ∷ (somes (kind.inits special g)).spelled xs
  inits-spelled [] m i v = absurd v
  inits-spelled (x ∷ xs) m i v = refl

  good_inits : Behind [] (kind.init_lists special g) most depth (inits most d depth) (inits more d deeper)
  unfolding inits
  good_inits =
      behind_if_sign sg.Colon
      (behind_as (somes (kind.inits special g)) (λ i. i) (λ m i xs v. some-every ((kind.inits special g).Fits m i) xs v) (λ m i xs v. inits-spelled xs m i v)
      (good_some (kind.inits special g) most depth (init most d depth) (init more d deeper) good_init))
      (behind_done [] tt refl)

  good_ctor_body : (n : Placed NameId) (qs : List Param) → FitsParams depth qs
      → Behind (spell_name n ++ spell_params special qs) (kind.ctors special g) most depth (ctor_body most d depth n qs) (ctor_body more d deeper n qs)
  unfolding ctor_body
  good_ctor_body n qs v =
      behind_two (kind.init_lists special g) (part.blocks special g) (λ xs b. record { name = n; params = qs; inits = xs; body = b })
      (λ m i le le' xs b u x. ((part.params special).grows most m depth i le le' qs v, u, x)) (λ xs b. refl) good_inits (block_at_depth d most more le depth deeper le')

  good_ctor : (n : Placed NameId) → Behind (spell_name n) (kind.ctors special g) most depth (ctor most d depth n) (ctor more d deeper n)
  unfolding ctor
  good_ctor n =
      behind_part (part.params special)
      (λ m i le le' qs v. (record { name = n; params = qs; inits = []; body = (part.blocks special g).least }, spell_block special (part.blocks special g).least, (m, i, (v, tt, (v.0, v.1, tt))), refl))
      (good_params special most depth deeper le') (λ qs v. good_ctor_body n qs v)

  good_dtor : (at : Place) → Behind (w.sign sg.Tilde ∷ []) (kind.dtors special g) most depth (dtor most d depth at) (dtor more d deeper at)
  unfolding dtor
  good_dtor at =
      behind_three part.names (parens part.nothing) (part.blocks special g) (λ n u b. record { at = at; name = n; body = b }) (λ m i le le' n u b v x y. (x, y)) (λ n u b. refl)
      good_names (good_no_parts most depth deeper le') (block_at_depth d most more le depth deeper le')

  -- ---- items

  good_typed_item : (t : Placed TypeName) (n : Placed NameId) → IsPlainType t.item → Behind (spell_typed special t n) (kind.items special g) most depth (typed_item most d depth t n) (typed_item more d deeper t n)
  unfolding typed_item
  good_typed_item t n plain =
      behind_if_sign sg.Semicolon (behind_done (p.member (record { type_name = t; name = n })) (plain-member g t.item plain) refl)
      (behind_made (kind.functions special g) p.function (λ m i le le' f v. v) (λ f. refl) (good_function t n plain))

  good_item_of_type : (t : Placed TypeName) → IsPlainType t.item → Behind (spell_type special t.item) (kind.items special g) most depth (item_of_type most d depth t) (item_of_type more d deeper t)
  unfolding item_of_type
  good_item_of_type t plain =
      behind_part part.names (λ m i le le' n v. (p.member (record { type_name = t; name = n }), w.sign sg.Semicolon ∷ [], (m, i, plain-member g t.item plain), refl)) good_names
      (λ n v. good_typed_item t n plain)

  -- behind `std ::`
  good_mutex_member : (at : Place) → HasWovenForms g → Behind (w.name d.std.0 ∷ w.sign sg.ColonColon ∷ []) (kind.items special g) most depth (mutex_member d at) (mutex_member d at)
  unfolding mutex_member
  good_mutex_member at woven =
      behind_part_ended (kind.mutex_names special) sg.Semicolon (λ n. p.member (record { type_name = record { at = at; item = type_of.Mutex }; name = n })) (λ m i le le' n v. woven) (λ n. refl) (good_mutex_name d)

  abbrev mutex_test : Placed NameId → Tokens → Bool
  mutex_test n ts = is_woven d.mode && (nat_eq n.item.0 d.std.0 && sees sg.ColonColon ts)

  mutex-test : (woven is_std colons : Bool) → (woven && (is_std && colons)) ≡ true → (woven ≡ true) × (is_std ≡ true) × (colons ≡ true)
  mutex-test true true true e = (refl, refl, refl)
  mutex-test true true false e = cc
  mutex-test true false colons e = cc
  mutex-test false is_std colons e = cc

  good_mutex_item : (n : Placed NameId) (ts : Tokens) → mutex_test n ts ≡ true → Here (spell_name n) (kind.items special g) most depth (λ ts. mutex_member d n.at (after ts)) (λ ts. mutex_member d n.at (after ts)) ts
  good_mutex_item n ts e =
      let is = mutex-test (is_woven d.mode) (nat_eq n.item.0 d.std.0) (sees sg.ColonColon ts) e in
      here_sign sg.ColonColon is.2 (behind_text (ap (λ q. w.name q ∷ w.sign sg.ColonColon ∷ []) (sym (eqb-true n.item.0 d.std.0 is.1))) (good_mutex_member n.at (woven_forms-of d.mode is.0)) (after ts))

  -- how a name begins a constructor
  name_begins : (n : Placed NameId) → Begins (kind.items special g) (spell_name n)
  name_begins n =
      (p.ctor (record { name = n; params = []; inits = []; body = (part.blocks special g).least }), spell_params special [] ++ spell_block special (part.blocks special g).least, (0, 1, ((0, refl, tt), tt, (0, refl, tt))), refl)

  good_name_item : (n : Placed NameId) → Behind (spell_name n) (kind.items special g) most depth (name_item most d depth n) (name_item more d deeper n)
  unfolding name_item
  good_name_item n ts =
      here_if (sees sg.OpenParen) (sees-head sg.OpenParen) (λ e. behind_made (kind.ctors special g) p.ctor (λ m i le le' c v. v) (λ c. refl) (good_ctor n) ts)
      (λ e. behind_if_sign sg.Star (good_item_of_type (pointer_to n) tt)
      (λ ts. here_if (mutex_test n) (λ a b h. ap (λ q. is_woven d.mode && (nat_eq n.item.0 d.std.0 && q)) (sees-head sg.ColonColon a b h)) (good_mutex_item n ts) (λ e. behind_fail (inr (name_begins n)) ts)) ts)

  good_label_or_type : (at : Place) (word : Word) (o : Option Access) (u : Option TypeName) → IsAccessWord word o → IsTypeWord special word u → (ts : Tokens)
      → Here [] (kind.items special g) most depth (label_or_type most d depth at o u) (label_or_type more d deeper at o u) (record { at = at; item = word } ∷ ts)
  good_label_or_type at word (Some a) u is is' ts = here_past (record { at = at; item = word }) (behind_ended sg.Colon (p.label at a) tt is ts)
  good_label_or_type at word None (Some t) is is' ts = here_past (record { at = at; item = word }) (behind_text is'.0 (good_item_of_type (record { at = at; item = t }) is'.1) ts)
  good_label_or_type at word None None is is' ts = behind_fail (inl refl) _

  good_sign_item : (at : Place) (found : Sign) (ts : Tokens) → Here [] (kind.items special g) most depth (sign_item most d depth at found) (sign_item more d deeper at found) (record { at = at; item = w.sign found } ∷ ts)
  good_sign_item at sg.Tilde ts = here_past (record { at = at; item = w.sign sg.Tilde }) (behind_made (kind.dtors special g) p.dtor (λ m i le le' x v. v) (λ x. refl) (good_dtor at) ts)
  good_sign_item at _ ts = behind_fail (inl refl) _

  good_item_at : (at : Place) (word : Word) (ts : Tokens) → Here [] (kind.items special g) most depth (item_at most d depth at word) (item_at more d deeper at word) (record { at = at; item = word } ∷ ts)
  good_item_at at (w.keyword word) ts = good_label_or_type at (w.keyword word) (access_word word) (word_type word) (access-word word) (type-word special word) ts
  good_item_at at (w.name n) ts = here_past (record { at = at; item = w.name n }) (good_name_item (record { at = at; item = record { 0 = n } }) ts)
  good_item_at at (w.sign found) ts = good_sign_item at found ts
  good_item_at at _ ts = behind_fail (inl refl) _

  good_item : Behind [] (kind.items special g) most depth (item most d depth) (item more d deeper)
  unfolding item
  good_item = behind_next (item_next most d depth) (item_next more d deeper) (behind_fail (inl refl) []) (λ t ts. good_item_at t.at t.item ts)

-- ---- classes

module _ (d : Dialect) (most more depth deeper : ℕ) (le : most ≤ more) (le' : depth ≤ deeper) where
  good_opened : (below under : ℕ) → below ≤ under → Behind (w.sign sg.OpenBrace ∷ []) (kind.item_blocks (special_of d) (grammar d)) most (suc below) (braced (item most d below)) (braced (item more d under))
  good_opened below under le'' =
      behind_as (blocks_of (kind.items (special_of d) (grammar d))) suc (λ m i xs v. (i, refl, v)) (λ m i xs v. refl)
      (good_braced (kind.items (special_of d) (grammar d)) most below (item most d below) (item more d under) (λ i v. item-words (special_of d) i) (good_item d most more below under le le''))

  good_items : Behind [] (kind.item_blocks (special_of d) (grammar d)) most depth (items most d depth) (items more d deeper)
  unfolding items
  good_items ts = here_if (sees sg.OpenBrace) (sees-head sg.OpenBrace) (λ e. by_depth depth deeper le' e) (λ e. behind_fail (inl refl) ts)
    where
      by_depth : (depth deeper : ℕ) → depth ≤ deeper → sees sg.OpenBrace ts ≡ true
          → Here [] (kind.item_blocks (special_of d) (grammar d)) most depth (opens depth (λ below. braced (item most d below))) (opens deeper (λ below. braced (item more d below))) ts
      by_depth zero deeper le e = record { good = tt }
      by_depth (suc below) zero le e = absurd (omega arith)
      by_depth (suc below) (suc under) le e = here_sign sg.OpenBrace e (good_opened below under (omega arith) (after ts))

  module _ (at : Place) (word : ClassWord) (n : Placed NameId) where
    -- the words of a class up to its items
    abbrev class_front : Option (Placed NameId) → List Word
    class_front from = spell_class_word word ++ (spell_name n ++ optional spell_public_base from)

    front-split : (from : Option (Placed NameId)) → class_front from ≡ (spell_class_word word ++ spell_name n) ++ optional spell_public_base from
    front-split from = sym (append_assoc (spell_class_word word) (spell_name n) (optional spell_public_base from))

    class-split : (from : Option (Placed NameId)) (xs behind : List Word) → (spell_class_word word ++ (spell_name n ++ (optional spell_public_base from ++ xs))) ++ behind ≡ (class_front from ++ xs) ++ behind
    class-split from xs behind = ap (λ q. q ++ behind) (sym (append_assoc (spell_class_word word) (spell_name n ++ optional spell_public_base from) xs))

    good_class_items : (from : Option (Placed NameId)) → Behind (class_front from) (kind.decls (special_of d) (grammar d)) most depth (class_items most d depth at word n from) (class_items more d deeper at word n from)
    unfolding class_items
    good_class_items from =
        behind_part_ended (kind.item_blocks (special_of d) (grammar d)) sg.Semicolon (λ xs. p.class (record { at = at; word = word; name = n; base = from; items = xs })) (λ m i le le' xs v. v)
        (λ xs. class-split from (in_braces (flat_map (spell_item (special_of d)) xs)) (w.sign sg.Semicolon ∷ [])) good_items

    good_class_of : Behind (spell_class_word word ++ spell_name n) (kind.decls (special_of d) (grammar d)) most depth (class_of most d depth at word n) (class_of more d deeper at word n)
    unfolding class_of
    good_class_of =
        behind_if_sign sg.Semicolon (behind_done (p.class_name (record { at = at; word = word; name = n })) tt refl)
        (behind_part (maybe bases)
        (λ m i le le' from v. (
          p.class (record { at = at; word = word; name = n; base = from; items = [] }),
          in_braces [] ++ w.sign sg.Semicolon ∷ [],
          (m, suc i, (i, refl, tt)),
          class-split from (in_braces []) (w.sign sg.Semicolon ∷ []) ∙ append_assoc (class_front from) (in_braces []) (w.sign sg.Semicolon ∷ [])
              ∙ ap (λ q. q ++ (in_braces [] ++ w.sign sg.Semicolon ∷ [])) (front-split from),
        ))
        good_base
        (λ from v. behind_text (front-split from) (good_class_items from)))

  pub good_class : (at : Place) (word : ClassWord) → Behind (spell_class_word word) (kind.decls (special_of d) (grammar d)) most depth (class most d depth at word) (class more d deeper at word)
  unfolding class
  good_class at word =
      behind_part part.names (λ m i le le' n v. (p.class_name (record { at = at; word = word; name = n }), w.sign sg.Semicolon ∷ [], (m, i, tt), refl)) good_names
      (λ n v. good_class_of at word n)
