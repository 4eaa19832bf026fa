-- A program in normal form is protected into one in normal form.
use Rattle.std.proofs.Common.{◌≡◌, ℕ, refl, sym, ap, subst, ◌∙◌, Bool, true, false, if◌then◌else◌, List, [], ◌∷◌, ◌++◌, map}
use Rattle.std.specs.List.{flat_map}
use Rattle.std.proofs.lemmas.List.{map-append}
use Rattle.agxx_base.specs.Names.{is_known}
use Rattle.agxx_base.specs.declared.ids.NameId.{NameId}
use Rattle.cxx_tree.specs.ProgramTree as p
use Rattle.cxx_tree.specs.ProgramTree.{DeclTree}
use Rattle.cxx_names.specs.declared.declarations.Declared.{Declared}
use Rattle.cxx_names.specs.Declarations.{declared}
use Rattle.cxx_distinct.specs.NamesIn as n
use Rattle.cxx_normal.specs.Numbers as k
use Rattle.cxx_normal.specs.Numbers.{numbered_program}
use Rattle.cxx_normal.specs.Entry.{is_main}
use Rattle.cxx_normal.specs.Declarations.{forward, prototype, prototype_of, kept, ordered}
use Rattle.cxx_normal.specs.Normal.{rebuilt_class, rebuilt_decl, normal_tree}
use Rattle.cxx_normal.proofs.ClassTwice.{class-rebuilt}
use Rattle.cxx_normal.proofs.Returned.{function-returned}
use Rattle.cxx_normal.proofs.Idempotent.{ordered-behind}
use Rattle.guards.specs.declared.guard.Guard.{Guard}
use Rattle.protect.specs.GuardedParts as g
use Rattle.protect.specs.Protected as z
use Rattle.protect.specs.GeneratedNames.{texts_of_part, texts_of_decl}
use Rattle.protect_laws.specs.Strip.{AreKnown}
use Rattle.protect_laws.specs.Normal.{ProtectedIsNormal}
use Rattle.protect_laws.proofs.Exits.{front-of, back-of}
use Rattle.protect_laws.proofs.StripStmts.{NotGenerated, front, back}
use Rattle.protect_laws.proofs.NormalClass.{class-normal}

-- what a pass takes from declarations, the first of which have nothing for it
module _ {A : Type 0} (pass : DeclTree → List A) where
  over-forwards : ((c : _) → pass (p.class_name c) ≡ []) → (ds : List DeclTree) (rest : List DeclTree)
      → flat_map pass (flat_map forward ds ++ rest) ≡ flat_map pass rest
  over-forwards none [] rest = refl
  over-forwards none (p.class c ∷ ds) rest = rw (none _) (over-forwards none ds rest)
  over-forwards none (p.class_name c ∷ ds) rest = over-forwards none ds rest
  over-forwards none (p.free_function f ∷ ds) rest = over-forwards none ds rest
  over-forwards none (p.proto f ∷ ds) rest = over-forwards none ds rest
  over-forwards none (p.global y ∷ ds) rest = over-forwards none ds rest

  over-prototypes : (main : ℕ) → ((f : _) → pass (p.proto f) ≡ []) → (ds : List DeclTree) (rest : List DeclTree)
      → flat_map pass (flat_map (prototype main) ds ++ rest) ≡ flat_map pass rest
  over-prototypes main none [] rest = refl
  over-prototypes main none (p.class c ∷ ds) rest = over-prototypes main none ds rest
  over-prototypes main none (p.class_name c ∷ ds) rest = over-prototypes main none ds rest
  over-prototypes main none (p.free_function f ∷ ds) rest = by (is_main main f) (over-prototypes main none ds rest)
    where
      by : (b : Bool) → flat_map pass (flat_map (prototype main) ds ++ rest) ≡ flat_map pass rest
          → flat_map pass (((if b then [] else p.proto (prototype_of f) ∷ []) ++ flat_map (prototype main) ds) ++ rest)
          ≡ flat_map pass rest
      by true later = later
      by false later = rw (none (prototype_of f)) later
  over-prototypes main none (p.proto f ∷ ds) rest = over-prototypes main none ds rest
  over-prototypes main none (p.global y ∷ ds) rest = over-prototypes main none ds rest

-- what keeps forward declarations and prototypes keeps those that stand before others
module _ (change : DeclTree → DeclTree) where
  keeps-forwards : ((c : _) → change (p.class_name c) ≡ p.class_name c) → (ds : List DeclTree)
      → map change (flat_map forward ds) ≡ flat_map forward ds
  keeps-forwards same [] = refl
  keeps-forwards same (p.class c ∷ ds) = rw (same _, keeps-forwards same ds) refl
  keeps-forwards same (p.class_name c ∷ ds) = keeps-forwards same ds
  keeps-forwards same (p.free_function f ∷ ds) = keeps-forwards same ds
  keeps-forwards same (p.proto f ∷ ds) = keeps-forwards same ds
  keeps-forwards same (p.global y ∷ ds) = keeps-forwards same ds

  keeps-prototypes : (main : ℕ) → ((f : _) → change (p.proto f) ≡ p.proto f) → (ds : List DeclTree)
      → map change (flat_map (prototype main) ds) ≡ flat_map (prototype main) ds
  keeps-prototypes main same [] = refl
  keeps-prototypes main same (p.class c ∷ ds) = keeps-prototypes main same ds
  keeps-prototypes main same (p.class_name c ∷ ds) = keeps-prototypes main same ds
  keeps-prototypes main same (p.free_function f ∷ ds) = by (is_main main f) (keeps-prototypes main same ds)
    where
      by : (b : Bool) → map change (flat_map (prototype main) ds) ≡ flat_map (prototype main) ds
          → map change ((if b then [] else p.proto (prototype_of f) ∷ []) ++ flat_map (prototype main) ds)
          ≡ (if b then [] else p.proto (prototype_of f) ∷ []) ++ flat_map (prototype main) ds
      by true later = later
      by false later = rw (same (prototype_of f), later) refl
  keeps-prototypes main same (p.proto f ∷ ds) = keeps-prototypes main same ds
  keeps-prototypes main same (p.global y ∷ ds) = keeps-prototypes main same ds

module _ (main : ℕ) (names : List (List ℕ)) (guards : List Guard) (x : Declared) (lists : List (List NameId)) where
  abbrev woven : DeclTree → DeclTree
  woven d = z.protected_decl names guards x lists d

  -- the declarations that stay among others, rebuilt and numbered
  abbrev others : List DeclTree → ℕ → List DeclTree
  others ds j = (k.number_each k.number_decl (flat_map kept (map (rebuilt_decl main) ds)) j).0

  abbrev IsOwn : List DeclTree → Type 0
  IsOwn ds = NotGenerated names (n.names_in_each n.names_in_decl ds)

  abbrev HasTextsOf : List DeclTree → Type 0
  HasTextsOf ds = AreKnown names (flat_map (texts_of_decl names guards) ds)

  forwards-woven : (ds : List DeclTree) (j : ℕ) → flat_map forward (map woven (others ds j))
      ≡ flat_map forward (map (rebuilt_decl main) ds)
  forwards-woven [] j = refl
  forwards-woven (p.class c ∷ ds) j =
      ap (λ rest. forward (p.class (rebuilt_class c)) ++ rest)
      (forwards-woven ds (k.number_decl (p.class (rebuilt_class c)) j).1)
  forwards-woven (p.class_name c ∷ ds) j = forwards-woven ds j
  forwards-woven (p.free_function f ∷ ds) j =
      forwards-woven ds (k.number_decl (rebuilt_decl main (p.free_function f)) j).1
  forwards-woven (p.proto f ∷ ds) j = forwards-woven ds j
  forwards-woven (p.global y ∷ ds) j = forwards-woven ds (k.number_decl (p.global y) j).1

  prototypes-woven : (ds : List DeclTree) (j : ℕ) → flat_map (prototype main) (map woven (others ds j))
      ≡ flat_map (prototype main) (map (rebuilt_decl main) ds)
  prototypes-woven [] j = refl
  prototypes-woven (p.class c ∷ ds) j = prototypes-woven ds (k.number_decl (p.class (rebuilt_class c)) j).1
  prototypes-woven (p.class_name c ∷ ds) j = prototypes-woven ds j
  prototypes-woven (p.free_function f ∷ ds) j =
      ap (λ rest. prototype main (rebuilt_decl main (p.free_function f)) ++ rest)
      (prototypes-woven ds (k.number_decl (rebuilt_decl main (p.free_function f)) j).1)
  prototypes-woven (p.proto f ∷ ds) j = prototypes-woven ds j
  prototypes-woven (p.global y ∷ ds) j = prototypes-woven ds (k.number_decl (p.global y) j).1

  kept-woven : (ds : List DeclTree) (j : ℕ) → flat_map kept (map woven (others ds j)) ≡ map woven (others ds j)
  kept-woven [] j = refl
  kept-woven (p.class c ∷ ds) j =
      ap (λ rest. woven (k.number_decl (p.class (rebuilt_class c)) j).0 ∷ rest)
      (kept-woven ds (k.number_decl (p.class (rebuilt_class c)) j).1)
  kept-woven (p.class_name c ∷ ds) j = kept-woven ds j
  kept-woven (p.free_function f ∷ ds) j =
      ap (λ rest. (k.number_decl (rebuilt_decl main (p.free_function f)) j).0 ∷ rest)
      (kept-woven ds (k.number_decl (rebuilt_decl main (p.free_function f)) j).1)
  kept-woven (p.proto f ∷ ds) j = kept-woven ds j
  kept-woven (p.global y ∷ ds) j =
      ap (λ rest. (k.number_decl (p.global y) j).0 ∷ rest) (kept-woven ds (k.number_decl (p.global y) j).1)

  rebuilt-woven : (ds : List DeclTree) (j : ℕ) → IsOwn (others ds j) → HasTextsOf (others ds j)
      → map (rebuilt_decl main) (map woven (others ds j)) ≡ map woven (others ds j)
  rebuilt-woven [] j own known = refl
  rebuilt-woven (p.class c ∷ ds) j own known =
      let d = (k.number_class (rebuilt_class c) j).0 in
      let next = (k.number_decl (p.class (rebuilt_class c)) j).1 in
      let texts = texts_of_part names (g.part_of guards d) in
      let one = class-normal names guards x lists d (class-rebuilt c j) (front names (n.names_in_class d) _ own)
      (front-of (λ text. is_known names text ≡ true) texts _ known) in
      let rest = rebuilt-woven ds next (back names (n.names_in_class d) _ own)
      (back-of (λ text. is_known names text ≡ true) texts _ known) in
      ap (λ y. p.class y ∷ map (rebuilt_decl main) (map woven (others ds next))) one
      ∙ ap (λ y. woven (p.class d) ∷ y) rest
  rebuilt-woven (p.class_name c ∷ ds) j own known = rebuilt-woven ds j own known
  rebuilt-woven (p.free_function f ∷ ds) j own known =
      let d = (k.number_decl (rebuilt_decl main (p.free_function f)) j).0 in
      let next = (k.number_decl (rebuilt_decl main (p.free_function f)) j).1 in
      let rest = rebuilt-woven ds next (back names (n.names_in_decl d) _ own) known in
      ap (λ y. p.free_function y ∷ map (rebuilt_decl main) (map woven (others ds next))) (function-returned main f j)
      ∙ ap (λ y. d ∷ y) rest
  rebuilt-woven (p.proto f ∷ ds) j own known = rebuilt-woven ds j own known
  rebuilt-woven (p.global y ∷ ds) j own known =
      let d = (k.number_decl (p.global y) j).0 in
      let next = (k.number_decl (p.global y) j).1 in
      ap (λ rest. d ∷ rest) (rebuilt-woven ds next (back names (n.names_in_decl d) _ own) known)

  -- ---- forward declarations and prototypes have no names that count

  own-forwards : (ds rest : List DeclTree) → IsOwn (flat_map forward ds ++ rest) → IsOwn rest
  own-forwards [] rest own = own
  own-forwards (p.class c ∷ ds) rest own = own-forwards ds rest own
  own-forwards (p.class_name c ∷ ds) rest own = own-forwards ds rest own
  own-forwards (p.free_function f ∷ ds) rest own = own-forwards ds rest own
  own-forwards (p.proto f ∷ ds) rest own = own-forwards ds rest own
  own-forwards (p.global y ∷ ds) rest own = own-forwards ds rest own

  own-prototypes : (ds rest : List DeclTree) → IsOwn (flat_map (prototype main) ds ++ rest) → IsOwn rest
  own-prototypes [] rest own = own
  own-prototypes (p.class c ∷ ds) rest own = own-prototypes ds rest own
  own-prototypes (p.class_name c ∷ ds) rest own = own-prototypes ds rest own
  own-prototypes (p.free_function f ∷ ds) rest own = by (is_main main f) (own-prototypes ds rest) own
    where
      by : (b : Bool) → (IsOwn (flat_map (prototype main) ds ++ rest) → IsOwn rest)
          → IsOwn (((if b then [] else p.proto (prototype_of f) ∷ []) ++ flat_map (prototype main) ds) ++ rest)
          → IsOwn rest
      by true later own = later own
      by false later own = later own
  own-prototypes (p.proto f ∷ ds) rest own = own-prototypes ds rest own
  own-prototypes (p.global y ∷ ds) rest own = own-prototypes ds rest own

  -- ---- all declarations of a program

  module _ (ds : List DeclTree) where
    abbrev rebuilt : List DeclTree
    rebuilt = map (rebuilt_decl main) ds

    abbrev forwards : List DeclTree
    forwards = flat_map forward rebuilt

    abbrev prototypes : List DeclTree
    prototypes = flat_map (prototype main) rebuilt

    abbrev normals : List DeclTree
    normals = (k.number_each k.number_decl (ordered main rebuilt) 0).0

    normals-are : normals ≡ forwards ++ (prototypes ++ others ds 0)
    normals-are = ap (λ w. w.0) (ordered-behind main rebuilt 0)

    abbrev last : List DeclTree
    last = map woven (others ds 0)

    abbrev all : List DeclTree
    all = forwards ++ (prototypes ++ last)

    woven-are : map woven normals ≡ all
    woven-are =
        ap (map woven) normals-are ∙ map-append woven forwards (prototypes ++ others ds 0)
        ∙ ap (λ y. y ++ map woven (prototypes ++ others ds 0)) (keeps-forwards woven (λ c. refl) rebuilt)
        ∙ ap (λ y. forwards ++ y) (map-append woven prototypes (others ds 0)
        ∙ ap (λ y. y ++ last) (keeps-prototypes woven main (λ f. refl) rebuilt))

    ordered-all : ordered main all ≡ all
    ordered-all =
        let one : flat_map forward all ≡ forwards = over-forwards forward (λ c. refl) rebuilt (prototypes ++ last)
        ∙ over-prototypes forward main (λ f. refl) rebuilt last ∙ forwards-woven ds 0 in
        let two : flat_map (prototype main) all ≡ prototypes =
        over-forwards (prototype main) (λ c. refl) rebuilt (prototypes ++ last)
        ∙ over-prototypes (prototype main) main (λ f. refl) rebuilt last ∙ prototypes-woven ds 0 in
        let three : flat_map kept all ≡ last = over-forwards kept (λ c. refl) rebuilt (prototypes ++ last)
        ∙ over-prototypes kept main (λ f. refl) rebuilt last ∙ kept-woven ds 0 in
        ap (λ y. y ++ (flat_map (prototype main) all ++ flat_map kept all)) one
        ∙ ap (λ y. forwards ++ (y ++ flat_map kept all)) two ∙ ap (λ y. forwards ++ (prototypes ++ y)) three

    module _ (own : IsOwn normals) (known : HasTextsOf normals) where
      own-others : IsOwn (others ds 0)
      own-others =
          own-prototypes rebuilt (others ds 0) (own-forwards rebuilt (prototypes ++ others ds 0)
          (subst IsOwn normals-are own))

      known-others : HasTextsOf (others ds 0)
      known-others =
          let pass = texts_of_decl names guards in
          subst (AreKnown names) (ap (flat_map pass) normals-are
          ∙ over-forwards pass (λ c. refl) rebuilt (prototypes ++ others ds 0)
          ∙ over-prototypes pass main (λ f. refl) rebuilt (others ds 0)) known

      rebuilt-all : map (rebuilt_decl main) all ≡ all
      rebuilt-all =
          let rb = rebuilt_decl main in
          map-append rb forwards (prototypes ++ last) ∙ ap (λ y. y ++ map rb (prototypes ++ last))
          (keeps-forwards rb (λ c. refl) rebuilt) ∙ ap (λ y. forwards ++ y)
          (map-append rb prototypes last ∙ ap (λ y. y ++ map rb last) (keeps-prototypes rb main (λ f. refl) rebuilt)
          ∙ ap (λ y. prototypes ++ y) (rebuilt-woven ds 0 own-others known-others))

      pub decls-normal : ordered main (map (rebuilt_decl main) (map woven normals)) ≡ map woven normals
      decls-normal =
          ap (λ y. ordered main (map (rebuilt_decl main) y)) woven-are ∙ ap (ordered main) rebuilt-all ∙ ordered-all
          ∙ sym woven-are

pub protected-is-normal : ProtectedIsNormal
protected-is-normal main names guards source own known =
    let q = normal_tree main source in
    let d = declared names q in
    let texts = front-of (λ text. is_known names text ≡ true) (flat_map (texts_of_decl names guards) q.decls) _ known in
    ap (λ ds. numbered_program (record q { decls = ds }))
    (decls-normal main names guards d (g.guarded_parts guards d) source.decls own texts)
