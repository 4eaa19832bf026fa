-- The words of the parts of protected classes.
use Rattle.std.proofs.Common.{◌≡◌, ℕ, refl, ap, subst, ◌∙◌, Bool, true, false, not, ◌&&◌, if◌then◌else◌, List, [], ◌∷◌, ◌++◌, map, filter, Option, Some, None}
use Rattle.std.specs.List.{flat_map}
use Rattle.std.proofs.lemmas.List.{append-nil}
use Rattle.std.proofs.lemmas.List.Elements.{filter-append}
use Rattle.agxx_base.specs.Names.{is_known}
use Rattle.agxx_base.specs.declared.ids.NameId.{NameId}
use Rattle.cxx_tree.specs.declared.node.Placed.{Placed}
use Rattle.cxx_tree.specs.declared.program.Member.{Member}
use Rattle.cxx_tree.specs.Limits.{Every}
use Rattle.cxx_tree.specs.ProgramTree as p
use Rattle.cxx_tree.specs.ProgramTree.{ClassTree, DeclTree}
use Rattle.cxx_names.specs.declared.declarations.Declared.{Declared}
use Rattle.cxx_names.specs.Declarations as d
use Rattle.cxx_layout.specs.Parts.{part_name}
use Rattle.cxx_distinct.specs.NamesIn as n
use Rattle.cxx_make.specs.Generated.{text_of}
use Rattle.guards.specs.declared.guard.Guard.{Guard}
use Rattle.guards.specs.declared.guard.GuardKind.{GuardKind}
use Rattle.guards.specs.Guarding.{kind_of}
use Rattle.codec.specs.declared.part.Part.{Part}
use Rattle.codec.specs.Part.{place_of}
use Rattle.entry_count.specs.PartCode.{counter_member, lock_member}
use Rattle.protect.specs.GuardedParts as g
use Rattle.protect.specs.Protected as z
use Rattle.protect.specs.GeneratedNames.{texts_of_part, texts_of_decl}
use Rattle.protect_laws.specs.Strip.{AreKnown}
use Rattle.protect_laws.specs.Guarded.{class_in, Pairwise, extra_members, is_word, is_part_word, HasItsWords, WordsAreAdded}
use Rattle.protect_laws.proofs.Exits.{front-of, back-of}
use Rattle.protect_laws.proofs.StripStmts.{NotGenerated, front, back}
use Rattle.protect_laws.proofs.Known.{every-by}
use Rattle.protect_laws.proofs.CodeNames.{members-are-part-words}
use Rattle.protect_laws.proofs.Shapes.{texts-are}
use Rattle.protect_laws.proofs.Members.{Own, other-text, known-counter, members-own, members-added}

module _ (names : List (List ℕ)) where
  abbrev Known : List ℕ → Type 0
  Known text = is_known names text ≡ true

  module _ (class : NameId) where
    abbrev IsPartWord : Member → Type 0
    IsPartWord m = is_part_word names class m ≡ true

    abbrev counter_text : List ℕ
    counter_text = part_name (text_of names class)

    -- ---- members of the source

    words-kept : (ms : List Member) → Every (λ (m : Member). d.is_text names m.name.item.0 counter_text ≡ false) ms
        → filter (is_part_word names class) ms ≡ filter is_word ms
    words-kept [] all = refl
    words-kept (m ∷ ms) all = rw (all.0) (by (is_word m) (words-kept ms all.1))
      where
        by : (b : Bool) → filter (is_part_word names class) ms ≡ filter is_word ms
            → (if b && not false then m ∷ filter (is_part_word names class) ms else filter (is_part_word names class)
            ms) ≡ (if b then m ∷ filter is_word ms else filter is_word ms)
        by true rest = ap (λ x. m ∷ x) rest
        by false rest = rest

    source-words : (ms : List Member) → Every (Own names) ms → filter (is_part_word names class) ms ≡ filter is_word ms
    source-words ms own =
        words-kept ms (every-by (Own names) (λ (m : Member). d.is_text names m.name.item.0 counter_text ≡ false)
        (λ m one. other-text names m.name.item counter_text refl one) ms own)

    -- ---- members that the code adds

    all-kept : (ms : List Member) → Every IsPartWord ms → filter (is_part_word names class) ms ≡ ms
    all-kept [] all = refl
    all-kept (m ∷ ms) all = rw (all.0) (ap (λ x. m ∷ x) (all-kept ms all.1))

  -- ---- all of them

  extra-words : (kind : GuardKind) (part : Part) → AreKnown names (texts_of_part names (Some (kind, part)))
      → filter (is_part_word names part.class.item) (extra_members names (Some (kind, part)))
      ≡ (z.code_of kind).members names part
  extra-words kind part all =
      let class = part.class.item in
      let known = subst (AreKnown names) (texts-are names kind part) all in
      let added = (z.code_of kind).members names part in
      let one = all-kept class added (members-are-part-words names kind part known.1.1.1.1.1.1) in
      let counter = counter_member names (place_of part) class in
      let lock = lock_member names (place_of part) class in
      let none : filter (is_part_word names class) (counter ∷ lock ∷ []) ≡ [] =
      rw (known-counter names class known.0) refl in
      filter-append (is_part_word names class) added (counter ∷ lock ∷ [])
      ∙ ap (λ x. x ++ filter (is_part_word names class) (counter ∷ lock ∷ [])) one ∙ ap (λ x. added ++ x) none
      ∙ append-nil added

  words-by : (c woven : ClassTree) (kind : Option GuardKind) (members : List Member) → woven.name ≡ c.name
      → g.members_of woven ≡ g.members_of c ++ extra_members names (g.part_with c.name kind members)
      → Every (Own names) (g.members_of c) → AreKnown names (texts_of_part names (g.part_with c.name kind members))
      → HasItsWords names c woven (g.part_with c.name kind members)
  words-by c woven None members name all own known = tt
  words-by c woven (Some kind) [] name all own known = tt
  words-by c woven (Some kind) (m ∷ ms) name all own known =
      let of_part = extra_members names (g.part_with c.name (Some kind) (m ∷ ms)) in
      let test = is_part_word names c.name.item in
      ap (λ (x : Placed NameId). filter (is_part_word names x.item) (g.members_of woven)) name ∙ ap (filter test) all
      ∙ filter-append test (g.members_of c) of_part ∙ ap (λ x. x ++ filter test of_part)
      (source-words c.name.item (g.members_of c) own) ∙ ap (λ x. filter is_word (g.members_of c) ++ x)
      (extra-words kind (record { class = c.name; members = m ∷ ms }) known)

  module _ (guards : List Guard) (x : Declared) (lists : List (List NameId)) where
    class-words : (c : ClassTree) → NotGenerated names (n.names_in_class c)
        → AreKnown names (texts_of_part names (g.part_of guards c))
        → HasItsWords names c (z.protected_class names guards x lists c) (g.part_of guards c)
    class-words c own known =
        words-by c (z.protected_class names guards x lists c) (kind_of guards c.name.item) (g.members_of c) refl
        (members-added names guards x lists c) (members-own names c.items
        (back names (n.names_in_base_of c.base) _ own.1)) known

    classes-words : (ds : List DeclTree) → NotGenerated names (n.names_in_each n.names_in_decl ds)
        → AreKnown names (flat_map (texts_of_decl names guards) ds)
        → Pairwise (λ c woven. HasItsWords names c woven (g.part_of guards c)) (flat_map class_in ds)
        (flat_map class_in (map (z.protected_decl names guards x lists) ds))
    classes-words [] own known = tt
    classes-words (p.class c ∷ ds) own known =
        let texts = texts_of_part names (g.part_of guards c) in (
          class-words c (front names (n.names_in_class c) _ own) (front-of Known texts _ known),
          classes-words ds
              (back names (n.names_in_class c) _ own) (back-of Known texts _ known),
        )
    classes-words (p.class_name c ∷ ds) own known = classes-words ds own known
    classes-words (p.free_function f ∷ ds) own known = classes-words ds (back names (n.names_in_function f) _ own) known
    classes-words (p.proto f ∷ ds) own known = classes-words ds own known
    classes-words (p.global y ∷ ds) own known = classes-words ds (back names (n.names_in_global y) _ own) known

pub words-are-added : WordsAreAdded
words-are-added names guards q own known =
    let source = d.declared names q in
    let texts = front-of (λ text. is_known names text ≡ true) (flat_map (texts_of_decl names guards) q.decls) _ known in
    classes-words names guards source (g.guarded_parts guards source) q.decls own texts
