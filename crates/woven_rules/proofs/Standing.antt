-- Where items that are added to a class stand in its tables.
use Rattle.std.proofs.Common.{◌≡◌, ◌≢◌, refl, sym, ◌∙◌, ℕ, suc, false, List, [], ◌∷◌, ◌++◌, Some, None}
use Rattle.cxx_tree.specs.declared.program.Access.{Access}
use Rattle.cxx_tree.specs.declared.program.Member.{Member}
use Rattle.cxx_tree.specs.Limits.{Every}
use Rattle.cxx_tree.specs.ProgramTree as tree
use Rattle.cxx_tree.specs.ProgramTree.{FunctionTree, ItemTree}
use Rattle.cxx_names.specs.declared.declarations.ClassInfo.{ClassInfo}
use Rattle.cxx_names.specs.declared.declarations.MemberInfo.{MemberInfo}
use Rattle.cxx_names.specs.declared.declarations.Signature.{Signature}
use Rattle.cxx_names.specs.Declarations as d
use Rattle.cxx_names.specs.Tables.{named}
use Rattle.woven_rules.proofs.Tables.{named-new, named-other}

-- an item has another name
abbrev pub Avoids : ℕ → ItemTree → Type 0
Avoids g (tree.label at a) = Unit {0}
Avoids g (tree.member m) = g ≢ m.name.item.0
Avoids g (tree.function f) = g ≢ f.name.item.0
Avoids g (tree.ctor k) = Unit {0}
Avoids g (tree.dtor k) = Unit {0}

-- what a name stands for in a class, before and behind items of other names
abbrev pub IsKept : ℕ → ClassInfo → ClassInfo → Type 0
IsKept g y z =
    (named z.items g ≡ named y.items g) × (named z.members g ≡ named y.members g)
    × (named z.methods g ≡ named y.methods g)

abbrev pub behind : ClassInfo → Access → ℕ → ℕ → List ItemTree → ClassInfo
behind y shown count n is = (d.with_items (record { info = y; shown = shown; count = count; numbered = n }) is).info

module _ (y : ClassInfo) (shown : Access) (count n : ℕ) where
  abbrev pub member_behind : Member → ClassInfo
  member_behind m = (d.with_member (record { info = y; shown = shown; count = count; numbered = n }) m).info

  abbrev pub function_behind : FunctionTree → ClassInfo
  function_behind f = (d.with_method (record { info = y; shown = shown; count = count; numbered = n }) f).info

  abbrev pub ctor_behind : tree.CtorTree → ClassInfo
  ctor_behind k = (d.with_ctor (record { info = y; shown = shown; count = count; numbered = n }) k.params).info

  abbrev pub dtor_behind : ClassInfo
  dtor_behind = (d.with_dtor (record { info = y; shown = shown; count = count; numbered = n })).info

pub kept : (g : ℕ) (is : List ItemTree) → Every (Avoids g) is → (y : ClassInfo) (shown : Access) (count n : ℕ)
    → IsKept g y (behind y shown count n is)
kept g [] avoid y shown count n = (refl, refl, refl)
kept g (tree.label at a ∷ is) avoid y shown count n = kept g is avoid.1 y a (suc count) n
kept g (tree.member m ∷ is) avoid y shown count n =
    let rest = kept g is avoid.1 (member_behind y shown count n m) shown (suc count) n in (
      rest.0 ∙ named-other y.items m.name.item.0 count g avoid.0,
      rest.1 ∙ named-other y.members m.name.item.0 (record { type_name = m.type_name.item; access = shown }) g
          avoid.0,
      rest.2,
    )
kept g (tree.function f ∷ is) avoid y shown count n =
    let rest = kept g is avoid.1 (function_behind y shown count n f) shown (suc count) (suc n) in (
      rest.0 ∙ named-other y.items f.name.item.0 count g avoid.0,
      rest.1,
      rest.2 ∙ named-other y.methods f.name.item.0 (d.signature n f.result.item f.params shown false) g avoid.0,
    )
kept g (tree.ctor k ∷ is) avoid y shown count n =
    kept g is avoid.1 (ctor_behind y shown count n k) shown (suc count) (suc n)
kept g (tree.dtor k ∷ is) avoid y shown count n =
    kept g is avoid.1 (dtor_behind y shown count n) shown (suc count) (suc n)

-- ---- items that are new

abbrev pub AreNew : ClassInfo → List ItemTree → Type 0
AreNew y [] = Unit {0}
AreNew y (tree.label at a ∷ is) = AreNew y is
AreNew y (tree.member m ∷ is) =
    ((named y.items m.name.item.0 ≡ None) × (named y.members m.name.item.0 ≡ None) × Every (Avoids m.name.item.0) is)
    × AreNew y is
AreNew y (tree.function f ∷ is) =
    ((named y.items f.name.item.0 ≡ None) × (named y.methods f.name.item.0 ≡ None) × Every (Avoids f.name.item.0) is)
    × AreNew y is
AreNew y (tree.ctor k ∷ is) = ⊥
AreNew y (tree.dtor k ∷ is) = ⊥

new-member : (y : ClassInfo) (shown : Access) (count n : ℕ) (m : Member) (is : List ItemTree)
    → Every (Avoids m.name.item.0) is → AreNew y is → AreNew (member_behind y shown count n m) is
new-member y shown count n m [] avoid new = tt
new-member y shown count n m (tree.label at a ∷ is) avoid new = new-member y shown count n m is avoid.1 new
new-member y shown count n m (tree.member q ∷ is) avoid new = (
  (
    named-other y.items m.name.item.0 count q.name.item.0 (λ e. avoid.0 (sym e)) ∙ new.0.0,
    named-other y.members m.name.item.0 (record { type_name = m.type_name.item; access = shown }) q.name.item.0
        (λ e. avoid.0 (sym e)) ∙ new.0.1,
    new.0.2,
  ),
  new-member y shown count n m is avoid.1 new.1,
)
new-member y shown count n m (tree.function f ∷ is) avoid new = (
  (named-other y.items m.name.item.0 count f.name.item.0 (λ e. avoid.0 (sym e)) ∙ new.0.0, new.0.1, new.0.2),
  new-member y shown count n m is avoid.1 new.1,
)
new-member y shown count n m (tree.ctor k ∷ is) avoid new = absurd new
new-member y shown count n m (tree.dtor k ∷ is) avoid new = absurd new

new-function : (y : ClassInfo) (shown : Access) (count n : ℕ) (g : FunctionTree) (is : List ItemTree)
    → Every (Avoids g.name.item.0) is → AreNew y is → AreNew (function_behind y shown count n g) is
new-function y shown count n g [] avoid new = tt
new-function y shown count n g (tree.label at a ∷ is) avoid new = new-function y shown count n g is avoid.1 new
new-function y shown count n g (tree.member q ∷ is) avoid new = (
  (named-other y.items g.name.item.0 count q.name.item.0 (λ e. avoid.0 (sym e)) ∙ new.0.0, new.0.1, new.0.2),
  new-function y shown count n g is avoid.1 new.1,
)
new-function y shown count n g (tree.function f ∷ is) avoid new = (
  (
    named-other y.items g.name.item.0 count f.name.item.0 (λ e. avoid.0 (sym e)) ∙ new.0.0,
    named-other y.methods g.name.item.0 (d.signature n g.result.item g.params shown false) f.name.item.0
        (λ e. avoid.0 (sym e)) ∙ new.0.1,
    new.0.2,
  ),
  new-function y shown count n g is avoid.1 new.1,
)
new-function y shown count n g (tree.ctor k ∷ is) avoid new = absurd new
new-function y shown count n g (tree.dtor k ∷ is) avoid new = absurd new

-- ---- where they stand

-- a member or function stands at this place, with this access
abbrev pub MemberStands : ClassInfo → Access → ℕ → Member → Type 0
MemberStands z shown count m =
    (named z.items m.name.item.0 ≡ Some count)
    × (named z.members m.name.item.0 ≡ Some (record { type_name = m.type_name.item; access = shown }))

abbrev pub FunctionStands : ClassInfo → Access → ℕ → FunctionTree → Type 0
FunctionStands z shown count f =
    (named z.items f.name.item.0 ≡ Some count)
    × ((number : ℕ) × (named z.methods f.name.item.0 ≡ Some
    (d.signature number f.result.item f.params shown false)))

abbrev pub Stand : ClassInfo → Access → ℕ → List ItemTree → Type 0
Stand z shown count [] = Unit {0}
Stand z shown count (tree.label at a ∷ is) = Stand z a (suc count) is
Stand z shown count (tree.member m ∷ is) = MemberStands z shown count m × Stand z shown (suc count) is
Stand z shown count (tree.function f ∷ is) = FunctionStands z shown count f × Stand z shown (suc count) is
Stand z shown count (tree.ctor k ∷ is) = ⊥
Stand z shown count (tree.dtor k ∷ is) = ⊥

pub stand : (is : List ItemTree) (y : ClassInfo) (shown : Access) (count n : ℕ) → AreNew y is
    → Stand (behind y shown count n is) shown count is
stand [] y shown count n new = tt
stand (tree.label at a ∷ is) y shown count n new = stand is y a (suc count) n new
stand (tree.member m ∷ is) y shown count n new =
    let entry : MemberInfo = record { type_name = m.type_name.item; access = shown } in
    let still = kept m.name.item.0 is new.0.2 (member_behind y shown count n m) shown (suc count) n in (
      (
        still.0 ∙ named-new y.items m.name.item.0 count new.0.0,
        still.1
            ∙ named-new y.members m.name.item.0 entry new.0.1,
      ),
      stand is (member_behind y shown count n m) shown (suc count) n (new-member y shown count n m is new.0.2 new.1),
    )
stand (tree.function f ∷ is) y shown count n new =
    let entry : Signature = d.signature n f.result.item f.params shown false in
    let still = kept f.name.item.0 is new.0.2 (function_behind y shown count n f) shown (suc count) (suc n) in (
      (
        still.0 ∙ named-new y.items f.name.item.0 count new.0.0,
        (n, still.2 ∙ named-new y.methods f.name.item.0 entry new.0.1),
      ),
      stand is (function_behind y shown count n f) shown (suc count) (suc n)
          (new-function y shown count n f is new.0.2 new.1),
    )
stand (tree.ctor k ∷ is) y shown count n new = absurd new
stand (tree.dtor k ∷ is) y shown count n new = absurd new

-- ---- items one after another

-- the access, the count and the number behind items
abbrev pub shown_behind : ClassInfo → Access → ℕ → ℕ → List ItemTree → Access
shown_behind y shown count n is =
    (d.with_items (record { info = y; shown = shown; count = count; numbered = n }) is).shown

abbrev pub count_behind : ClassInfo → Access → ℕ → ℕ → List ItemTree → ℕ
count_behind y shown count n is =
    (d.with_items (record { info = y; shown = shown; count = count; numbered = n }) is).count

abbrev pub number_behind : ClassInfo → Access → ℕ → ℕ → List ItemTree → ℕ
number_behind y shown count n is =
    (d.with_items (record { info = y; shown = shown; count = count; numbered = n }) is).numbered

pub behind-both : (is others : List ItemTree) (y : ClassInfo) (shown : Access) (count n : ℕ)
    → behind y shown count n (is ++ others) ≡ behind (behind y shown count n is) (shown_behind y shown count n is)
    (count_behind y shown count n is) (number_behind y shown count n is) others
behind-both [] others y shown count n = refl
behind-both (tree.label at a ∷ is) others y shown count n = behind-both is others y a (suc count) n
behind-both (tree.member m ∷ is) others y shown count n =
    behind-both is others (member_behind y shown count n m) shown (suc count) n
behind-both (tree.function f ∷ is) others y shown count n =
    behind-both is others (function_behind y shown count n f) shown (suc count) (suc n)
behind-both (tree.ctor k ∷ is) others y shown count n =
    behind-both is others (ctor_behind y shown count n k) shown (suc count) (suc n)
behind-both (tree.dtor k ∷ is) others y shown count n =
    behind-both is others (dtor_behind y shown count n) shown (suc count) (suc n)
