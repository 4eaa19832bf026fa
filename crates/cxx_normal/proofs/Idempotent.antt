-- The normal form twice.
use Rattle.std.proofs.Common.{◌≡◌, ℕ, refl, ap, ◌∙◌, Bool, true, false, if◌then◌else◌, List, [], ◌∷◌, ◌++◌, map}
use Rattle.std.specs.List.{flat_map}
use Rattle.std.proofs.lemmas.Grind.{flat_map-append}
use Rattle.std.proofs.lemmas.List.{append-nil}
use Rattle.cxx_tree.specs.Limits.{Every}
use Rattle.cxx_tree.specs.ProgramTree as p
use Rattle.cxx_tree.specs.ProgramTree.{FunctionTree, DeclTree, ProgramTree}
use Rattle.cxx_normal.specs.Gives.{behind}
use Rattle.cxx_normal.specs.Numbers as n
use Rattle.cxx_normal.specs.Entry.{is_main}
use Rattle.cxx_normal.specs.Declarations.{forward, prototype, prototype_of, kept, ordered}
use Rattle.cxx_normal.specs.Normal.{rebuilt_decl, normal_tree, NormalIsIdempotent}
use Rattle.cxx_normal.proofs.Lists.{flat_map-nil, flat_map-numbered, flat_map-flat_map, every-append, every-flat_map, IsStill, each-behind}
use Rattle.cxx_normal.proofs.Settled.{IsSettled, map-settled}
use Rattle.cxx_normal.proofs.ClassTwice.{class-rebuilt}
use Rattle.cxx_normal.proofs.Returned.{function-returned}
use Rattle.cxx_normal.proofs.Twice.{decls-twice}

-- what a pass takes from declarations of one sort only
none-of : {A B C : Type 0} (f : A → List B) (g : C → List A) → ((x : C) → flat_map f (g x) ≡ []) → (xs : List C) → flat_map f (flat_map g xs) ≡ []
none-of f g none xs = flat_map-flat_map f g (λ x. []) none xs ∙ flat_map-nil (λ x. []) (λ x. refl) xs

forward-numbered : (d : DeclTree) (k : ℕ) → forward (n.number_decl d k).0 ≡ forward d
forward-numbered (p.class c) k = refl
forward-numbered (p.class_name c) k = refl
forward-numbered (p.free_function f) k = refl
forward-numbered (p.proto f) k = refl
forward-numbered (p.global g) k = refl

-- a declaration that stays among the others
abbrev IsKept : DeclTree → Type 0
IsKept d = (k : ℕ) → kept (n.number_decl d k).0 ≡ (n.number_decl d k).0 ∷ []

keeps : (ds : List DeclTree) → Every IsKept ds → (k : ℕ) → flat_map kept (n.number_each n.number_decl ds k).0 ≡ (n.number_each n.number_decl ds k).0
keeps [] every k = refl
keeps (d ∷ ds) every k = rw (every.0 k) (ap (λ rest. (n.number_decl d k).0 ∷ rest) (keeps ds every.1 (n.number_decl d k).1))

forward-still : (d : DeclTree) → Every (IsStill n.number_decl) (forward d)
forward-still (p.class c) = ((λ k. refl), tt)
forward-still (p.class_name c) = tt
forward-still (p.free_function f) = tt
forward-still (p.proto f) = tt
forward-still (p.global g) = tt

kept-kept : (d : DeclTree) → Every IsKept (kept d)
kept-kept (p.class c) = ((λ k. refl), tt)
kept-kept (p.class_name c) = tt
kept-kept (p.free_function f) = ((λ k. refl), tt)
kept-kept (p.proto f) = tt
kept-kept (p.global g) = ((λ k. refl), tt)

forward-forward : (d : DeclTree) → flat_map forward (forward d) ≡ []
forward-forward (p.class c) = refl
forward-forward (p.class_name c) = refl
forward-forward (p.free_function f) = refl
forward-forward (p.proto f) = refl
forward-forward (p.global g) = refl

kept-forward : (d : DeclTree) → flat_map kept (forward d) ≡ []
kept-forward (p.class c) = refl
kept-forward (p.class_name c) = refl
kept-forward (p.free_function f) = refl
kept-forward (p.proto f) = refl
kept-forward (p.global g) = refl

forward-kept : (d : DeclTree) → flat_map forward (kept d) ≡ forward d
forward-kept (p.class c) = refl
forward-kept (p.class_name c) = refl
forward-kept (p.free_function f) = refl
forward-kept (p.proto f) = refl
forward-kept (p.global g) = refl

module _ (main : ℕ) where
  prototype-numbered : (d : DeclTree) (k : ℕ) → prototype main (n.number_decl d k).0 ≡ prototype main d
  prototype-numbered (p.class c) k = refl
  prototype-numbered (p.class_name c) k = refl
  prototype-numbered (p.free_function f) k = refl
  prototype-numbered (p.proto f) k = refl
  prototype-numbered (p.global g) k = refl

  prototype-forward : (d : DeclTree) → flat_map (prototype main) (forward d) ≡ []
  prototype-forward (p.class c) = refl
  prototype-forward (p.class_name c) = refl
  prototype-forward (p.free_function f) = refl
  prototype-forward (p.proto f) = refl
  prototype-forward (p.global g) = refl

  prototype-kept : (d : DeclTree) → flat_map (prototype main) (kept d) ≡ prototype main d
  prototype-kept (p.class c) = refl
  prototype-kept (p.class_name c) = refl
  prototype-kept (p.free_function f) = append-nil _
  prototype-kept (p.proto f) = refl
  prototype-kept (p.global g) = refl

  -- what a pass finds among prototypes
  among-prototypes : {A : Type 0} (f : DeclTree → List A) → ((q : FunctionTree) → f (p.proto (prototype_of q)) ≡ []) → (d : DeclTree) → flat_map f (prototype main d) ≡ []
  among-prototypes f none (p.class c) = refl
  among-prototypes f none (p.class_name c) = refl
  among-prototypes f none (p.free_function q) = by (is_main main q)
    where
      by : (b : Bool) → flat_map f (if b then [] else p.proto (prototype_of q) ∷ []) ≡ []
      by true = refl
      by false = rw (none q)
  among-prototypes f none (p.proto q) = refl
  among-prototypes f none (p.global g) = refl

  every-prototype : (Holds : DeclTree → Type 0) → ((q : FunctionTree) → Holds (p.proto (prototype_of q))) → (d : DeclTree) → Every Holds (prototype main d)
  every-prototype Holds one (p.class c) = tt
  every-prototype Holds one (p.class_name c) = tt
  every-prototype Holds one (p.free_function q) = by (is_main main q)
    where
      by : (b : Bool) → Every Holds (if b then [] else p.proto (prototype_of q) ∷ [])
      by true = tt
      by false = (one q, tt)
  every-prototype Holds one (p.proto q) = tt
  every-prototype Holds one (p.global g) = tt

  every-forward : (d : DeclTree) → Every (IsSettled n.number_decl (rebuilt_decl main)) (forward d)
  every-forward (p.class c) = ((λ k. refl), tt)
  every-forward (p.class_name c) = tt
  every-forward (p.free_function f) = tt
  every-forward (p.proto f) = tt
  every-forward (p.global g) = tt

  decl-rebuilt : (d : DeclTree) → IsSettled n.number_decl (rebuilt_decl main) (rebuilt_decl main d)
  decl-rebuilt (p.class c) k = ap p.class (class-rebuilt c k)
  decl-rebuilt (p.class_name c) k = refl
  decl-rebuilt (p.free_function f) k = ap p.free_function (function-returned main f k)
  decl-rebuilt (p.proto f) k = refl
  decl-rebuilt (p.global g) k = refl

  kept-rebuilt : (ds : List DeclTree) → Every (IsSettled n.number_decl (rebuilt_decl main)) (flat_map kept (map (rebuilt_decl main) ds))
  kept-rebuilt [] = tt
  kept-rebuilt (d ∷ ds) = every-append (IsSettled n.number_decl (rebuilt_decl main)) _ _ (one d) (kept-rebuilt ds)
    where
      one : (x : DeclTree) → Every (IsSettled n.number_decl (rebuilt_decl main)) (kept (rebuilt_decl main x))
      one (p.class c) = (decl-rebuilt (p.class c), tt)
      one (p.class_name c) = tt
      one (p.free_function f) = (decl-rebuilt (p.free_function f), tt)
      one (p.proto f) = tt
      one (p.global g) = (decl-rebuilt (p.global g), tt)

  module _ (ds : List DeclTree) where
    abbrev forwards : List DeclTree
    forwards = flat_map forward ds

    abbrev prototypes : List DeclTree
    prototypes = flat_map (prototype main) ds

    abbrev others : List DeclTree
    others = flat_map kept ds

    abbrev renumbered : ℕ → List DeclTree
    renumbered k = (n.number_each n.number_decl others k).0

    -- forward declarations have no nodes
    pub ordered-behind : (k : ℕ) → n.number_each n.number_decl (ordered main ds) k ≡ behind forwards (behind prototypes (n.number_each n.number_decl others k))
    ordered-behind k =
        each-behind n.number_decl forwards (prototypes ++ others) (every-flat_map (IsStill n.number_decl) forward forward-still ds) k ∙ ap (behind forwards) (each-behind n.number_decl prototypes others (every-flat_map (IsStill n.number_decl) (prototype main) (every-prototype (IsStill n.number_decl) (λ q m. refl)) ds) k)

    ordered-numbered : (k : ℕ) → (n.number_each n.number_decl (ordered main ds) k).0 ≡ forwards ++ (prototypes ++ renumbered k)
    ordered-numbered k = ap (λ w. w.0) (ordered-behind k)

    -- a pass over declarations in order
    over : {A : Type 0} (f : DeclTree → List A) → ((d : DeclTree) → flat_map f (forward d) ≡ []) → ((q : FunctionTree) → f (p.proto (prototype_of q)) ≡ []) → (k : ℕ) → flat_map f (forwards ++ (prototypes ++ renumbered k)) ≡ flat_map f (renumbered k)
    over f none other k =
        flat_map-append f forwards (prototypes ++ renumbered k) ∙ rw (none-of f forward none ds, flat_map-append f prototypes (renumbered k), none-of f (prototype main) (among-prototypes f other) ds)

    ordered-again : (k : ℕ) → ordered main (forwards ++ (prototypes ++ renumbered k)) ≡ forwards ++ (prototypes ++ renumbered k)
    ordered-again k =
        let one : flat_map forward (forwards ++ (prototypes ++ renumbered k)) ≡ forwards = over forward forward-forward (λ q. refl) k ∙ (flat_map-numbered forward n.number_decl forward-numbered others k ∙ flat_map-flat_map forward kept forward forward-kept ds) in
        let other : flat_map (prototype main) (forwards ++ (prototypes ++ renumbered k)) ≡ prototypes = over (prototype main) prototype-forward (λ q. refl) k ∙ (flat_map-numbered (prototype main) n.number_decl prototype-numbered others k ∙ flat_map-flat_map (prototype main) kept (prototype main) prototype-kept ds) in
        let last : flat_map kept (forwards ++ (prototypes ++ renumbered k)) ≡ renumbered k = over kept kept-forward (λ q. refl) k ∙ keeps others (every-flat_map IsKept kept kept-kept ds) k in
        rw (one, other, last)

  module _ (source : List DeclTree) where
    abbrev rebuilt : List DeclTree
    rebuilt = map (rebuilt_decl main) source

    settled : Every (IsSettled n.number_decl (rebuilt_decl main)) (ordered main rebuilt)
    settled =
        let Holds = IsSettled n.number_decl (rebuilt_decl main) in
        every-append Holds (forwards rebuilt) (prototypes rebuilt ++ others rebuilt) (every-flat_map Holds forward every-forward rebuilt) (every-append Holds (prototypes rebuilt) (others rebuilt) (every-flat_map Holds (prototype main) (every-prototype Holds (λ q m. refl)) rebuilt) (kept-rebuilt source))

    decls-again : (k : ℕ) → ordered main (map (rebuilt_decl main) (n.number_each n.number_decl (ordered main rebuilt) k).0) ≡ (n.number_each n.number_decl (ordered main rebuilt) k).0
    decls-again k =
        ap (ordered main) (map-settled n.number_decl (rebuilt_decl main) (ordered main rebuilt) settled k) ∙ rw (ordered-numbered rebuilt k) (ordered-again rebuilt k)

pub normal-twice : NormalIsIdempotent
normal-twice main q =
    ap (λ decls. record (normal_tree main q) { decls = (n.number_each n.number_decl decls 0).0 }) (decls-again main q.decls 0) ∙ ap (λ (w : List DeclTree × ℕ). record (normal_tree main q) { decls = w.0 }) (decls-twice (ordered main (map (rebuilt_decl main) q.decls)) 0)
