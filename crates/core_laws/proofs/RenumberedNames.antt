-- What a program declares keeps where its nodes are numbered anew.
use Rattle.std.proofs.Common.{◌≡◌, ◌∙◌, ℕ, suc, refl, List, [], ◌∷◌, ◌++◌}
use Rattle.cxx_tree.specs.ProgramTree as p
use Rattle.cxx_normal.specs.Numbers as n
use Rattle.cxx_names.specs.declared.declarations.Declared.{Declared}
use Rattle.cxx_names.specs.Tables.{with_name}
use Rattle.cxx_names.specs.Declarations as d

item-kept : (s : _) (x : p.ItemTree) (m : ℕ) → d.with_item s (n.number_item x m).0 ≡ d.with_item s x
item-kept s (p.label at access) m = refl
item-kept s (p.member x) m = refl
item-kept s (p.function f) m = refl
item-kept s (p.ctor f) m = refl
item-kept s (p.dtor f) m = refl

items-kept : (s : _) (xs : List p.ItemTree) (m : ℕ) → d.with_items s (n.number_each n.number_item xs m).0 ≡ d.with_items s xs
items-kept s [] m = refl
items-kept s (x ∷ xs) m =
    (λ i. d.with_items (item-kept s x m i) (n.number_each n.number_item xs (n.number_item x m).1).0)
    ∙ items-kept (d.with_item s x) xs (n.number_item x m).1

class-items-kept : (known : Declared) (x : p.ClassTree) (m : ℕ) → d.class_items known (n.number_class x m).0 ≡ d.class_items known x
class-items-kept known x m =
    items-kept (record { info = d.class_begun known x; shown = d.default_access x.word; count = 0; numbered = known.numbered }) x.items m

class-kept : (known : Declared) (x : p.ClassTree) (m : ℕ) → d.with_class known (n.number_class x m).0 ≡ d.with_class known x
class-kept known x m =
    let items = class-items-kept known x m in
    λ i. record known {
      first = with_name known.first x.name.item.0 known.count;
      class_names = with_name known.class_names x.name.item.0 (d.next_class known);
      classes = known.classes ++ (items i).info ∷ [];
      numbered = (items i).numbered;
      count = suc known.count;
    }

global-kept : (known : Declared) (x : p.GlobalTree) (m : ℕ) → d.with_global known (n.number_global x m).0 ≡ d.with_global known x
global-kept known (p.variable v) m = refl
global-kept known (p.object o) m = refl
global-kept known (p.mutex at name) m = refl

module _ (names : List (List ℕ)) where
  decl-kept : (known : Declared) (x : p.DeclTree) (m : ℕ) → d.with_decl names known (n.number_decl x m).0 ≡ d.with_decl names known x
  decl-kept known (p.class x) m = class-kept known x m
  decl-kept known (p.class_name x) m = refl
  decl-kept known (p.free_function f) m = refl
  decl-kept known (p.proto f) m = refl
  decl-kept known (p.global g) m = global-kept known g m

  pub decls-kept : (known : Declared) (xs : List p.DeclTree) (m : ℕ) → d.with_decls names known (n.number_each n.number_decl xs m).0 ≡ d.with_decls names known xs
  decls-kept known [] m = refl
  decls-kept known (x ∷ xs) m =
      (λ i. d.with_decls names (decl-kept known x m i) (n.number_each n.number_decl xs (n.number_decl x m).1).0)
      ∙ decls-kept (d.with_decl names known x) xs (n.number_decl x m).1

  pub declared-kept : (q : p.ProgramTree) → d.declared names (n.numbered_program q) ≡ d.declared names q
  declared-kept q = decls-kept d.empty q.decls 0
