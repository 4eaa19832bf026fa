-- Declarations in order, as the code makes them.
use Rattle.std.proofs.Common.{◌≡◌, ℕ, refl, ap, sym, ◌∙◌, Bool, true, false, List, ◌++◌, map, append_assoc}
use Rattle.std.specs.List.{flat_map}
use Rattle.cxx_tree.specs.ProgramTree as p
use Rattle.cxx_tree.specs.ProgramTree.{DeclTree, decl_tree}
use Rattle.cxx_normal.specs.Entry.{is_main, returning}
use Rattle.cxx_normal.specs.Gives.{behind}
use Rattle.cxx_normal.specs.Numbers.{number_each, number_decl}
use Rattle.cxx_normal.specs.Declarations.{forward, prototype, kept, ordered}
use Rattle.cxx_normal.specs.Normal.{rebuilt_decl}
use Rattle.cxx_normal.proofs.Lists.{flat_map-map}
use Rattle.cxx_normal.proofs.Idempotent.{ordered-behind}

module _ (main : ℕ) where
  forward-rebuilt : (d : DeclTree) → forward (rebuilt_decl main d) ≡ forward d
  forward-rebuilt (p.class c) = refl
  forward-rebuilt (p.class_name c) = refl
  forward-rebuilt (p.free_function f) = refl
  forward-rebuilt (p.proto f) = refl
  forward-rebuilt (p.global g) = refl

  prototype-rebuilt : (d : DeclTree) → prototype main (rebuilt_decl main d) ≡ prototype main d
  prototype-rebuilt (p.class c) = refl
  prototype-rebuilt (p.class_name c) = refl
  prototype-rebuilt (p.free_function f) = by (is_main main f) refl
    where
      by : (b : Bool) → is_main main f ≡ b → prototype main (p.free_function (returning main f)) ≡ prototype main (p.free_function f)
      by true e = rw (e, e)
      by false e = rw (e, e)
  prototype-rebuilt (p.proto f) = refl
  prototype-rebuilt (p.global g) = refl

  -- forward declarations, prototypes and the others put behind each other are all in order
  pub decls-made : (ds : List DeclTree) (k : ℕ) (forwards prototypes last : List DeclTree) (next : ℕ) → forwards ≡ flat_map forward ds → prototypes ≡ forwards ++ flat_map (prototype main) ds
      → (last ≡ prototypes ++ (number_each number_decl (flat_map kept (map (rebuilt_decl main) ds)) k).0) × (next ≡ (number_each number_decl (flat_map kept (map (rebuilt_decl main) ds)) k).1)
      → (last ≡ (number_each number_decl (ordered main (map (rebuilt_decl main) ds)) k).0) × (next ≡ (number_each number_decl (ordered main (map (rebuilt_decl main) ds)) k).1)
  decls-made ds k forwards prototypes last next first second third =
      let others = number_each number_decl (flat_map kept (map (rebuilt_decl main) ds)) k in
      let all : number_each number_decl (ordered main (map (rebuilt_decl main) ds)) k ≡ behind forwards (behind (flat_map (prototype main) ds) others) = ordered-behind main (map (rebuilt_decl main) ds) k ∙ rw (flat_map-map forward (rebuilt_decl main) forward-rebuilt ds, flat_map-map (prototype main) (rebuilt_decl main) prototype-rebuilt ds, ← first) in
      let front : last ≡ forwards ++ (flat_map (prototype main) ds ++ others.0) = third.0 ∙ (ap (λ xs. xs ++ others.0) second ∙ append_assoc forwards (flat_map (prototype main) ds) others.0) in
      (front ∙ sym (ap (λ w. w.0) all), third.1 ∙ sym (ap (λ w. w.1) all))
