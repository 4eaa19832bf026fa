-- Protected programs with all that was generated dropped.
use Rattle.std.proofs.Common.{◌≡◌, ℕ, refl, ap, ◌∙◌, arith, true, List, [], ◌∷◌, ◌++◌, map}
use Rattle.std.specs.List.{flat_map}
use Rattle.std.proofs.lemmas.Grind.{flat_map-append}
use Rattle.agxx_base.specs.Names.{is_known}
use Rattle.agxx_base.specs.declared.ids.NameId.{NameId}
use Rattle.cxx_tree.specs.Limits.{Every}
use Rattle.cxx_tree.specs.Blank.{blank_program}
use Rattle.cxx_tree.specs.ProgramTree as p
use Rattle.cxx_tree.specs.ProgramTree.{FunctionTree, ClassTree, DeclTree, ProgramTree}
use Rattle.cxx_names.specs.declared.declarations.Declared.{Declared}
use Rattle.cxx_names.specs.Declarations.{declared}
use Rattle.cxx_distinct.specs.NamesIn as n
use Rattle.cxx_normal.specs.Numbers.{numbered_program}
use Rattle.cxx_normal.specs.Directives.{all_includes}
use Rattle.cxx_normal.specs.Declarations.{ordered}
use Rattle.cxx_normal.specs.Normal.{rebuilt_decl, rebuilt_class}
use Rattle.guards.specs.declared.guard.Guard.{Guard}
use Rattle.entry_count.specs.PartCode.{mutex_texts}
use Rattle.protect.specs.GuardedParts as g
use Rattle.protect.specs.Protected as z
use Rattle.protect.specs.GeneratedNames.{texts_of_part, texts_of_decl, most_in_decls, generated_texts, with_generated}
use Rattle.protect_laws.specs.Strip.{AreKnown, stripped_item, stripped_class, stripped_decl, StrippedIsNormal, StrippedIsSource}
use Rattle.protect_laws.proofs.Exits.{front-of, back-of}
use Rattle.protect_laws.proofs.StripStmts.{NotGenerated, front, back, block-plain}
use Rattle.protect_laws.proofs.Known.{values-told}
use Rattle.protect_laws.proofs.Guarded.{parts-named}
use Rattle.protect_laws.proofs.Returns.{ReturnsWithin, DeclWithin, decls-within}
use Rattle.protect_laws.proofs.StripClasses.{items-left, added-left}
use Rattle.protect_laws.proofs.Interned.{generated-known, still-none}

module _ (main : ℕ) (names : List (List ℕ)) (guards : List Guard) (q : ProgramTree)
    (known : AreKnown names (generated_texts names guards q)) where
  abbrev most : ℕ
  most = most_in_decls 0 q.decls

  abbrev found : Declared
  found = declared names q

  abbrev lists : List (List NameId)
  lists = g.guarded_parts guards found

  parts-known : AreKnown names (flat_map (texts_of_decl names guards) q.decls)
  parts-known = front-of (λ text. is_known names text ≡ true) (flat_map (texts_of_decl names guards) q.decls) _ known

  class-left : (c : ClassTree) → Every (ReturnsWithin most) c.items → NotGenerated names (n.names_in_class c)
      → AreKnown names (texts_of_part names (g.part_of guards c))
      → rebuilt_class (stripped_class names (z.protected_class names guards found lists c)) ≡ rebuilt_class c
  class-left c within own texts =
      let parts = g.parts_named found lists c.name.item in
      let values = back-of (λ text. is_known names text ≡ true) mutex_texts _
      (back-of (λ text. is_known names text ≡ true) (flat_map (texts_of_decl names guards) q.decls) _ known) in
      let items = items-left names parts most (parts-named names guards q parts-known c.name.item)
      (values-told names most values) c.items within (back names (n.names_in_base_of c.base) _ own.1) in
      let other = z.added names c (g.part_of guards c) in
      let left = flat_map-append (stripped_item names) (map (z.wrapped_item names parts) c.items) other
      ∙ ap (λ x. x ++ flat_map (stripped_item names) other) items in
      ap (λ x. rebuilt_class (record c { items = x })) left ∙ added-left names c (g.part_of guards c) texts

  function-left : (f : FunctionTree) → NotGenerated names (n.names_in_function f)
      → stripped_decl names (p.free_function f) ≡ p.free_function f ∷ []
  function-left f own =
      let others = back names (n.names_in_type f.result) _ own in
      let body = back names (n.names_in_params f.params) _ others.1 in
      rw (others.0) (ap (λ b. p.free_function (record f { body = b }) ∷ []) (block-plain names f.body body))

  decls-left : (ds : List DeclTree) → Every (DeclWithin most) ds
      → NotGenerated names (n.names_in_each n.names_in_decl ds)
      → AreKnown names (flat_map (texts_of_decl names guards) ds)
      → map (rebuilt_decl main) (flat_map (stripped_decl names) (z.protected_decls names guards found ds))
      ≡ map (rebuilt_decl main) ds
  decls-left [] within own texts = refl
  decls-left (p.class c ∷ ds) within own texts =
      let of_class = texts_of_part names (g.part_of guards c) in
      let one = class-left c within.0 (front names (n.names_in_class c) _ own)
      (front-of (λ text. is_known names text ≡ true) of_class _ texts) in
      let rest = decls-left ds within.1 (back names (n.names_in_class c) _ own)
      (back-of (λ text. is_known names text ≡ true) of_class _ texts) in
      ap (λ x. p.class x ∷ map (rebuilt_decl main) (flat_map (stripped_decl names)
      (z.protected_decls names guards found ds))) one ∙ ap (λ x. p.class (rebuilt_class c) ∷ x) rest
  decls-left (p.class_name c ∷ ds) within own texts = ap (λ x. p.class_name c ∷ x) (decls-left ds within.1 own texts)
  decls-left (p.free_function f ∷ ds) within own texts =
      let one = function-left f (front names (n.names_in_function f) _ own) in
      let rest = decls-left ds within.1 (back names (n.names_in_function f) _ own) texts in
      ap (λ x. map (rebuilt_decl main) (x ++ flat_map (stripped_decl names) (z.protected_decls names guards found ds)))
      one ∙ ap (λ x. rebuilt_decl main (p.free_function f) ∷ x) rest
  decls-left (p.proto f ∷ ds) within own texts = ap (λ x. p.proto f ∷ x) (decls-left ds within.1 own texts)
  decls-left (p.global x ∷ ds) within own texts =
      ap (λ y. p.global x ∷ y) (decls-left ds within.1 (back names (n.names_in_global x) _ own) texts)

pub stripped-is-normal : StrippedIsNormal
stripped-is-normal main names guards q own known =
    let most = most_in_decls 0 q.decls in
    ap (λ ds. numbered_program (record { at = q.at; directives = all_includes; decls = ordered main ds }))
    (decls-left main names guards q known q.decls (decls-within 0 most q.decls (omega arith)) own
    (parts-known main names guards q known))

pub stripped-is-source : StrippedIsSource
stripped-is-source main names guards q texts own normal =
    let all = with_generated names guards q in
    let left = stripped-is-normal main all guards q (still-none names guards q texts own)
    (generated-known names guards q texts) in
    ap blank_program left ∙ normal
