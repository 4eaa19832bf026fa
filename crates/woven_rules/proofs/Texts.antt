-- The table of names once generated names have numbers.
use Rattle.std.proofs.Common.{◌≡◌, ◌≢◌, refl, sym, ap, ◌∙◌, subst, ℕ, zero, suc, ◌<◌, arith, Bool, true, false, ◌||◌, List, [], ◌∷◌, ◌++◌, map, length, Option, Some, None, slice_get, codes}
use Rattle.std.specs.List.{flat_map}
use Rattle.std.specs.Option.{unwrap_or}
use Rattle.std.specs.Str.{bytes_eq}
use Rattle.std.proofs.Math.ListN.{get_or}
use Rattle.std.proofs.lemmas.List.Quantifiers.{all_pairs_push}
use Rattle.std.proofs.lemmas.Slice.Eq.{bytes_eq-Decides}
use Rattle.std.proofs.lemmas.Option.{none-some}
use Rattle.agxx_base.specs.Names.{IsDistinct, is_known, interned}
use Rattle.agxx_base.proofs.Interning.{interned-known, interned-new}
use Rattle.agxx_base.specs.declared.ids.NameId.{NameId}
use Rattle.cxx_tree.specs.declared.node.Placed.{Placed}
use Rattle.cxx_tree.specs.declared.program.Member.{Member}
use Rattle.cxx_tree.specs.Limits.{Every}
use Rattle.cxx_tree.specs.ProgramTree as p
use Rattle.cxx_tree.specs.ProgramTree.{ClassTree, DeclTree, ProgramTree}
use Rattle.cxx_distinct.specs.NamesIn as n
use Rattle.cxx_make.specs.Generated.{text_of, all_interned}
use Rattle.guards.specs.declared.guard.Guard.{Guard}
use Rattle.guards.specs.declared.guard.GuardKind.{GuardKind}
use Rattle.guards.specs.Guarding.{kind_of}
use Rattle.entry_count.specs.PartCode.{beginning, mutex_texts}
use Rattle.entry_count.specs.Wrapping.{value_texts}
use Rattle.protect.specs.GuardedParts as g
use Rattle.protect.specs.Protected.{code_of}
use Rattle.protect.specs.GeneratedNames.{own_texts, texts_of_part, texts_of_decl, most_in_decls, generated_texts, with_generated}
use Rattle.protect_laws.proofs.Exits.{front-of, back-of}
use Rattle.protect_laws.proofs.Interned.{all-known, kept-through, there}
use Rattle.protect_laws.proofs.Known.{every-by}
use Rattle.protect_laws.specs.Strip.{begins_generated, is_generated, AreKnown}
use Rattle.woven_rules.proofs.Named.{IsOwn}
use Rattle.woven_rules.proofs.Members.{members}
use Rattle.woven_rules.proofs.Inherits.{of-members}

-- ---- they stay distinct

not-known : (names : List (List ℕ)) (text : List ℕ) → is_known names text ≡ false → (k : ℕ) (x : List ℕ)
    → k < length names → get_or names k x ≢ text
not-known [] text e k x below = absurd (omega arith)
not-known (y ∷ ys) text e zero x below = by (bytes_eq text y) refl e
  where
    by : (b : Bool) → bytes_eq text y ≡ b → (b || is_known ys text) ≡ false → y ≢ text
    by true is f = absurd (cc f)
    by false is f = λ same. (let w : true ≡ false = sym ((bytes_eq-Decides text y).1 (sym same)) ∙ is in cc w)
not-known (y ∷ ys) text e (suc k) x below = by (λ f. not-known ys text f k x (omega arith)) (bytes_eq text y) e
  where
    by : (is_known ys text ≡ false → get_or ys k x ≢ text) → (b : Bool) → (b || is_known ys text) ≡ false
        → get_or ys k x ≢ text
    by rest true f = absurd (cc f)
    by rest false f = rest f

distinct-more : (names : List (List ℕ)) (text : List ℕ) → IsDistinct names → IsDistinct (interned names text)
distinct-more names text distinct = by (is_known names text) refl
  where
    by : (b : Bool) → is_known names text ≡ b → IsDistinct (interned names text)
    by true e = subst IsDistinct (sym (interned-known names text e)) distinct
    by false e =
        subst IsDistinct (sym (interned-new names text e))
        (all_pairs_push (λ one other. one ≢ other) names text distinct
        (λ k x below. not-known names text e k x below))

pub distinct-all : (names : List (List ℕ)) (texts : List (List ℕ)) → IsDistinct names
    → IsDistinct (all_interned names texts)
distinct-all names [] distinct = distinct
distinct-all names (text ∷ texts) distinct =
    distinct-all (interned names text) texts (distinct-more names text distinct)

-- ---- texts stay

within : (xs : List (List ℕ)) (k : ℕ) (x : List ℕ) → slice_get xs k ≡ Some x → k < length xs
within [] k x at = absurd (none-some x at)
within (y ∷ xs) zero x at = omega arith
within (y ∷ xs) (suc k) x at = let rest = within xs k x at in omega arith

module _ (names : List (List ℕ)) (texts : List (List ℕ)) where
  abbrev all : List (List ℕ)
  all = all_interned names texts

  pub slice-kept : (k : ℕ) → k < length names → slice_get all k ≡ slice_get names k
  slice-kept k below = let found = there names k below in kept-through names texts k found.0 found.1 ∙ sym found.1

  pub still-within : (k : ℕ) → k < length names → k < length all
  still-within k below = let found =
      there names k below in within all k found.0 (kept-through names texts k found.0 found.1)

  -- names of a program are its own
  pub owns : (ns : List (Placed NameId)) → Every (λ (x : Placed NameId). x.item.0 < length names) ns
      → Every (λ (x : Placed NameId). is_generated names x.item ≡ false) ns
      → Every (λ (x : Placed NameId). IsOwn names all x.item.0) ns
  owns [] below own = tt
  owns (x ∷ ns) below own =
      let same = slice-kept x.item.0 below.0 in
      ((ap (λ o. begins_generated (unwrap_or o [])) same ∙ own.0, same), owns ns below.1 own.1)

-- ---- the texts of a part are the same in both tables

module _ (all names : List (List ℕ)) where
  abbrev Same : Placed NameId → Type 0
  Same x = text_of all x.item ≡ text_of names x.item

  texts-same : (ms : List Member) → Every (λ (m : Member). text_of all m.name.item ≡ text_of names m.name.item) ms
      → map (text_of all) (map (λ (m : Member). m.name.item) ms) ≡ map (text_of names)
      (map (λ (m : Member). m.name.item) ms)
  texts-same [] same = refl
  texts-same (m ∷ ms) same =
      ap (λ t. t ∷ map (text_of all) (map (λ (m : Member). m.name.item) ms)) same.0
      ∙ ap (λ x. text_of names m.name.item ∷ x) (texts-same ms same.1)

  part-same : (class : Placed NameId) (kind : Option GuardKind) (ms : List Member) → Same class
      → Every (λ (m : Member). text_of all m.name.item ≡ text_of names m.name.item) ms
      → texts_of_part all (g.part_with class kind ms) ≡ texts_of_part names (g.part_with class kind ms)
  unfolding own_texts beginning
  part-same class None ms one same = refl
  part-same class (Some kind) [] one same = refl
  part-same class (Some kind) (m ∷ ms) one same =
      ap (λ (t : List ℕ). (codes "__gop_n_" ++ t) ∷ (codes "__gop_l_" ++ t) ∷ (codes "__gop_repair_" ++ t)
      ∷ (codes "__gop_renew_" ++ t) ∷ (codes "__gop_enter_" ++ t) ∷ (codes "__gop_leave_" ++ t)
      ∷ ((code_of kind).extra_texts t (map (text_of all) (map (λ (q : Member). q.name.item) (m ∷ ms)))
      ++ (code_of kind).local_texts (length (m ∷ ms)))) one
      ∙ ap (λ (ts : List (List ℕ)). let t = text_of names class.item in
      (codes "__gop_n_" ++ t) ∷ (codes "__gop_l_" ++ t) ∷ (codes "__gop_repair_" ++ t)
      ∷ (codes "__gop_renew_" ++ t) ∷ (codes "__gop_enter_" ++ t) ∷ (codes "__gop_leave_" ++ t)
      ∷ ((code_of kind).extra_texts t ts ++ (code_of kind).local_texts (length (m ∷ ms)))) (texts-same (m ∷ ms) same)

-- ---- all of them

module _ (names : List (List ℕ)) (guards : List Guard) (q : ProgramTree) where
  abbrev table : List (List ℕ)
  table = with_generated names guards q

  abbrev KnownText : List ℕ → Type 0
  KnownText text = is_known table text ≡ true

  generated : AreKnown table (generated_texts names guards q)
  generated = all-known names (generated_texts names guards q)

  abbrev rest : List (List ℕ)
  rest = mutex_texts ++ value_texts 1 (most_in_decls 0 q.decls)

  pub values-known : AreKnown table (value_texts 1 (most_in_decls 0 q.decls))
  values-known =
      back-of KnownText mutex_texts _
      (back-of KnownText (flat_map (texts_of_decl names guards) q.decls) rest generated)

  mutex-known : AreKnown table mutex_texts
  mutex-known =
      front-of KnownText mutex_texts _
      (back-of KnownText (flat_map (texts_of_decl names guards) q.decls) rest generated)

  pub lock-known : is_known table (codes "lock") ≡ true
  unfolding mutex_texts
  lock-known = mutex-known.0

  pub unlock-known : is_known table (codes "unlock") ≡ true
  unfolding mutex_texts
  unlock-known = mutex-known.1.0

  parts-known : AreKnown table (flat_map (texts_of_decl names guards) q.decls)
  parts-known = front-of KnownText (flat_map (texts_of_decl names guards) q.decls) rest generated

  -- the part of a class, of which this is known
  pub class-known : (k : ClassTree) → Every (λ (x : Placed NameId). x.item.0 < length names) (n.names_in_class k)
      → AreKnown table (texts_of_part names (g.part_of guards k))
      → AreKnown table (texts_of_part table (g.part_of guards k))
  class-known k below known =
      let same : (x : Placed NameId) → x.item.0 < length names → text_of table x.item ≡ text_of names x.item =
      λ x low. ap (λ o. unwrap_or o []) (slice-kept names (generated_texts names guards q) x.item.0 low) in
      let ms = of-members (λ (x : Placed NameId). text_of table x.item ≡ text_of names x.item) k.items
      (every-by (λ (x : Placed NameId). x.item.0 < length names)
      (λ (x : Placed NameId). text_of table x.item ≡ text_of names x.item) same
      (n.names_in_each n.names_in_item k.items)
      (back-of (λ (x : Placed NameId). x.item.0 < length names) (n.names_in_base_of k.base) _ below.1)) in
      subst (AreKnown table) (sym (part-same table names k.name (kind_of guards k.name.item) (members k.items)
      (same k.name below.0) ms)) known

  -- the parts of all classes are known
  abbrev pub PartsKnown : List DeclTree → Type 0
  PartsKnown [] = Unit {0}
  PartsKnown (p.class k ∷ ds) = AreKnown table (texts_of_part names (g.part_of guards k)) × PartsKnown ds
  PartsKnown (p.class_name k ∷ ds) = PartsKnown ds
  PartsKnown (p.free_function f ∷ ds) = PartsKnown ds
  PartsKnown (p.proto f ∷ ds) = PartsKnown ds
  PartsKnown (p.global x ∷ ds) = PartsKnown ds

  parts-by : (ds : List DeclTree) → AreKnown table (flat_map (texts_of_decl names guards) ds) → PartsKnown ds
  parts-by [] known = tt
  parts-by (p.class k ∷ ds) known = (
    front-of KnownText (texts_of_part names (g.part_of guards k)) _ known,
    parts-by ds
        (back-of KnownText (texts_of_part names (g.part_of guards k)) _ known),
  )
  parts-by (p.class_name k ∷ ds) known = parts-by ds known
  parts-by (p.free_function f ∷ ds) known = parts-by ds known
  parts-by (p.proto f ∷ ds) known = parts-by ds known
  parts-by (p.global x ∷ ds) known = parts-by ds known

  pub all-parts-known : PartsKnown q.decls
  all-parts-known = parts-by q.decls parts-known
