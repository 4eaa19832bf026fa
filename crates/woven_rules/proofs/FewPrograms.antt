-- In a protected program there are not too many of anything but, maybe, of names.
use Rattle.std.proofs.Common.{◌≡◌, ◌≢◌, refl, sym, subst, ℕ, suc, ◌<◌, ◌≤◌, arith, Bool, true, false, List, [], ◌∷◌, ◌++◌, map, Option, Some, None, is_some}
use Rattle.agxx_base.specs.declared.ids.NameId.{NameId}
use Rattle.agxx_base.specs.declared.kind.Mode.TheVariants as mode
use Rattle.cxx_tree.specs.declared.node.Placed.{Placed}
use Rattle.cxx_tree.specs.declared.program.Const.{Const}
use Rattle.cxx_tree.specs.declared.program.TypeName.{TypeName}
use Rattle.cxx_tree.specs.ProgramTree as tree
use Rattle.cxx_tree.specs.ProgramTree.{FunctionTree, ItemTree, ClassTree, DeclTree, GlobalTree}
use Rattle.cxx_names.specs.declared.declarations.ClassInfo.{ClassInfo}
use Rattle.cxx_types.specs.declared.programs.DeclsSeen.{DeclsSeen}
use Rattle.cxx_names.specs.Declarations as d
use Rattle.cxx_types.specs.Counts.{most}
use Rattle.cxx_types.specs.Classes as classes
use Rattle.cxx_types.specs.Programs as programs
use Rattle.cxx_types.specs.Programs.{outside}
use Rattle.cxx_types.specs.Expressions.{count}
use Rattle.cxx_types.specs.declared.classes.ItemsSeen.{ItemsSeen}
use Rattle.cxx_rules.specs.Sites.{Site}
use Rattle.cxx_rules.specs.Types as typed
use Rattle.cxx_rules.specs.Forms as form
use Rattle.cxx_rules.specs.StmtForms as f
use Rattle.cxx_rules.specs.ProgramForms as p
use Rattle.guards.specs.Guarding.{kind_of}
use Rattle.protect.specs.GuardedParts as g
use Rattle.protect.specs.Protected as z
use Rattle.woven_rules.proofs.Counting.{IsFew, AreFew, few-front, few-back, not-limit, body-low}
use Rattle.woven_rules.proofs.FewForms.{few-both, counted-few, few-arguments, few-body, short-body}
use Rattle.woven_rules.proofs.FewWrapped.{IsBegun, params-few, function-few, ctor-few, dtor-few}
use Rattle.woven_rules.proofs.FewAdded.{added-few}
use Rattle.woven_rules.proofs.Members.{members}
use Rattle.woven_rules.proofs.Found as found
use Rattle.woven_rules.proofs.World.{Setting, source_of, woven_of, weave, parts_of, added_to, ClassFacts, guard_in, site, IsFound, Facts}
use Rattle.woven_rules.proofs.Inherits.{before_info, after_info, wider}
use Rattle.woven_rules.proofs.OwnItems.{shown, added-is}
use Rattle.woven_rules.proofs.AddedRight.{none-added}

next-one : (k high : ℕ) → k ≤ high → k ≢ high → suc k ≤ high
next-one k high low other = omega arith

abbrev Few : List form.Form → Type 0
Few fs = AreFew (most mode.Source) fs

abbrev StillFew : List form.Form → Type 0
StillFew fs = AreFew (most mode.Woven) fs

-- ---- items

abbrev IsLowSeen : ItemsSeen → Type 0
IsLowSeen seen = (seen.members ≤ 240) × (seen.methods ≤ 200)

module _ (names : List (List ℕ)) (parts : List NameId) (w v : Site) (begun : IsBegun w) (also : IsBegun v)
    (base : Option (Placed NameId)) (x y : ClassInfo) where
  next-low : (i : ItemTree) (seen : ItemsSeen) → IsLowSeen seen → Few (p.forms_of_item w base x seen i)
      → IsLowSeen (classes.next_seen i seen)
  next-low (tree.label at a) seen low few = low
  next-low (tree.member q) seen low few = (
    next-one seen.members 240 low.0 (not-limit (most mode.Source) form.members seen.members q.name.at few.0),
    low.1,
  )
  next-low (tree.function h) seen low few = (
    low.0,
    next-one seen.methods 200 low.1
        (not-limit (most mode.Source) form.methods seen.methods h.name.at few.0),
  )
  next-low (tree.ctor k) seen low few = low
  next-low (tree.dtor k) seen low few = low

  item-few : (i : ItemTree) (seen : ItemsSeen) → IsLowSeen seen → Few (p.forms_of_item w base x seen i)
      → StillFew (p.forms_of_item v base y seen (z.wrapped_item names parts i))
  item-few (tree.label at a) seen low few = tt
  item-few (tree.member q) seen low few =
      let below : seen.members < 1000 = (let a = low.0 in omega arith) in
      (counted-few (most mode.Woven) form.members seen.members q.name.at below, (refl, (refl, (refl, (refl, tt)))))
  item-few (tree.function h) seen low few =
      let below : seen.methods < 5000 = (let a = low.1 in omega arith) in (
        counted-few (most mode.Woven) form.methods seen.methods h.name.at below,
        (
          refl,
          (
            refl,
            function-few names parts (p.in_function w h.result.item) (p.in_function v h.result.item) begun
                also h few.1.1.1,
          ),
        ),
      )
  item-few (tree.ctor k) seen low few =
      ctor-few names parts (p.in_lifecycle w) (p.in_lifecycle v) begun also base x y seen.has_ctor k few
  item-few (tree.dtor k) seen low few =
      dtor-few names parts (p.in_lifecycle w) (p.in_lifecycle v) begun also base x y seen.has_dtor k few

  next-same : (i : ItemTree) (seen : ItemsSeen)
      → classes.next_seen (z.wrapped_item names parts i) seen ≡ classes.next_seen i seen
  next-same (tree.label at a) seen = refl
  next-same (tree.member q) seen = refl
  next-same (tree.function h) seen = refl
  next-same (tree.ctor k) seen = refl
  next-same (tree.dtor k) seen = refl

  items-few : (is others : List ItemTree) (seen : ItemsSeen) → IsLowSeen seen
      → Few (p.forms_of_items w base x seen is)
      → ((u : ItemsSeen) → IsLowSeen u → StillFew (p.forms_of_items v base y u others))
      → StillFew (p.forms_of_items v base y seen (map (z.wrapped_item names parts) is ++ others))
  items-few [] others seen low few last = last seen low
  items-few (i ∷ is) others seen low few last =
      let here = few-front (most mode.Source) (p.forms_of_item w base x seen i) _ few in
      few-both (most mode.Woven) (p.forms_of_item v base y seen (z.wrapped_item names parts i)) _
      (item-few i seen low here)
      (subst (λ u. StillFew (p.forms_of_items v base y u (map (z.wrapped_item names parts) is ++ others)))
      (sym (next-same i seen))
      (items-few is others (classes.next_seen i seen) (next-low i seen low here)
      (few-back (most mode.Source) (p.forms_of_item w base x seen i) _ few) last))

-- ---- functions and globals that stay

same-function-few : (w v : Site) → IsBegun w → IsBegun v → (h : FunctionTree) → Few (p.forms_of_function w h)
    → StillFew (p.forms_of_function v h)
same-function-few w v begun also h few =
    let inner = p.with_params w h.params in
    let body = few-back (most mode.Source) (p.forms_of_params w 0 h.params) _ few.1 in
    let w1 = begun.0 in
    let w2 = begun.1 in
    let v1 = also.0 in
    let v2 = also.1 in
    let low = body-low (most mode.Source) inner h.body (omega arith, omega arith) body in
    let low1 = low.0 in
    let low2 = low.1 in (
      refl,
      few-both (most mode.Woven) (p.forms_of_params v 0 h.params) _
          (params-few w v 0 h.params (few-front (most mode.Source) (p.forms_of_params w 0 h.params) _ few.1))
          (few-body (most mode.Woven) (p.with_params v h.params) h.body (omega arith, omega arith)
          (short-body (most mode.Source) inner h.body body)),
    )

constant-few : (v : Site) (t : TypeName) (o : Option (Placed Const))
    → StillFew (f.forms_of_optional (p.forms_of_constant v t) o)
constant-few v t None = tt
constant-few v t (Some k) = (refl, tt)

global-few : (v : Site) (x : GlobalTree) → StillFew (p.forms_of_global v x)
global-few v (tree.variable q) = (refl, constant-few v q.type_name.item q.initial)
global-few v (tree.object o) = (
  refl,
  (
    refl,
    few-arguments (most mode.Woven) v (typed.creatable v o.class (count o.arguments)).params
        o.arguments,
  ),
)
global-few v (tree.mutex at name) = tt

-- ---- declarations

abbrev IsLowDecls : DeclsSeen → Type 0
IsLowDecls seen = (seen.classes ≤ 256) × ((seen.functions ≤ 1000) × (seen.globals ≤ 1000))

module _ (s : Setting) (f' : Facts s) where
  abbrev pub woven_site : Site
  woven_site =
      record { names = s.names; declared = woven_of s; context = outside 0; scope = []; locals = 0; returns = 0 }

  -- what is added to a class
  last-few : (class : ℕ) (k : ClassTree) (c : IsFound s class k) (v : Site) → IsBegun v → (u : ItemsSeen)
      → IsLowSeen u → StillFew (p.forms_of_items v k.base (after_info s f' class k c) u (added_to s k))
  last-few class k c v also u low = by (is_some (g.part_of s.guards k)) refl
    where
      by : (b : Bool) → is_some (g.part_of s.guards k) ≡ b
          → StillFew (p.forms_of_items v k.base (after_info s f' class k c) u (added_to s k))
      by true some =
          subst (λ is. StillFew (p.forms_of_items v k.base (after_info s f' class k c) u is))
          (sym (added-is s f' class k c some))
          (added-few s.names k.name (members k.items) (c.also.few some) (guard_in s k) v also k.base
          (after_info s f' class k c) k.at (shown s f' class k c) u low.0 low.1)
      by false none =
          subst (λ is. StillFew (p.forms_of_items v k.base (after_info s f' class k c) u is))
          (sym (none-added s f' class k c 0 0 0 (kind_of s.guards k.name.item) (members k.items) none)) tt

  class-few : (seen : DeclsSeen) (k : ClassTree) (c : IsFound s seen.classes k)
      → Few (p.forms_of_class (p.in_class (site s) seen) k (d.class_at (source_of s) (record { 0 = seen.classes })))
      → StillFew (p.forms_of_class (p.in_class woven_site seen) (weave s k)
      (d.class_at (woven_of s) (record { 0 = seen.classes })))
  class-few seen k c few =
      let x = before_info s f' seen.classes k c in
      let y = after_info s f' seen.classes k c in
      let w = p.in_class (site s) seen in
      let v = p.in_class woven_site seen in
      let h = subst (λ o. Few (p.forms_of_class w k o)) c.source_is few in
      let same = wider s f' seen.classes k c in
      let counted : IsFew (most mode.Woven) (form.counted form.ancestors y.ancestors y.name.at) =
      subst (λ j. IsFew (most mode.Woven) (form.counted form.ancestors j y.name.at)) (sym same.ancestors)
      (subst (λ (name : Placed NameId). IsFew (most mode.Woven) (form.counted form.ancestors x.ancestors name.at))
      (sym same.name) h.1.0) in
      subst (λ o. StillFew (p.forms_of_class v (weave s k) o)) (sym c.woven_is) (
        refl,
        (
          counted,
          items-few s.names (parts_of s k) w v (refl, refl) (refl, refl) k.base x y k.items (added_to s k)
              classes.none_seen (omega arith, omega arith) h.1.1
              (λ u low. last-few seen.classes k c v (refl, refl) u low),
        ),
      )

  abbrev woven_decl : DeclTree → DeclTree
  woven_decl = found.woven_decl s.before s.names (weave s) (ClassFacts s)

  next-decl : (x : DeclTree) (seen : DeclsSeen) → programs.next_seen (woven_decl x) seen ≡ programs.next_seen x seen
  next-decl (tree.class k) seen = refl
  next-decl (tree.class_name k) seen = refl
  next-decl (tree.free_function h) seen = refl
  next-decl (tree.proto h) seen = refl
  next-decl (tree.global h) seen = refl

  abbrev AllFound : ℕ → List DeclTree → Type 0
  AllFound class ds = found.AllFound s.before s.names (weave s) (ClassFacts s) (site s) (woven_of s) class ds

  one-few : (x : DeclTree) (ds : List DeclTree) (seen : DeclsSeen) → IsLowDecls seen → AllFound seen.classes (x ∷ ds)
      → Few (p.forms_of_decl (site s) seen x)
      → StillFew (p.forms_of_decl woven_site seen (woven_decl x))
      × (IsLowDecls (programs.next_seen x seen) × AllFound (programs.next_seen x seen).classes ds)
  one-few (tree.class k) ds seen low all few =
      let below : seen.classes < 320 = (let a = low.0 in omega arith) in (
        (
          counted-few (most mode.Woven) form.classes seen.classes k.name.at below,
          (refl, class-few seen k all.0 few.1.1),
        ),
        (
          (
            next-one seen.classes 256 low.0 (not-limit (most mode.Source) form.classes seen.classes k.name.at few.0),
            low.1,
          ),
          all.1,
        ),
      )
  one-few (tree.class_name k) ds seen low all few = (tt, (low, all))
  one-few (tree.free_function h) ds seen low all few =
      let below : seen.functions < 6000 = (let a = low.1.0 in omega arith) in (
        (
          counted-few (most mode.Woven) form.functions seen.functions h.name.at below,
          (
            refl,
            same-function-few (p.in_function (p.in_decl (site s) seen.index) h.result.item)
                (p.in_function (p.in_decl woven_site seen.index) h.result.item) (refl, refl) (refl, refl) h few.1.1,
          ),
        ),
        (
          (
            low.0,
            (
              next-one seen.functions 1000 low.1.0
                  (not-limit (most mode.Source) form.functions seen.functions h.name.at few.0),
              low.1.1,
            ),
          ),
          all,
        ),
      )
  one-few (tree.proto h) ds seen low all few = (tt, (low, all))
  one-few (tree.global x) ds seen low all few =
      let below : seen.globals < 1100 = (let a = low.1.1 in omega arith) in (
        (
          counted-few (most mode.Woven) form.globals seen.globals (programs.global_place x).at below,
          (refl, global-few (p.in_decl woven_site seen.index) x),
        ),
        (
          (
            low.0,
            (
              low.1.0,
              next-one seen.globals 1000 low.1.1
                  (not-limit (most mode.Source) form.globals seen.globals (programs.global_place x).at few.0),
            ),
          ),
          all,
        ),
      )

  pub decls-few : (ds : List DeclTree) (seen : DeclsSeen) → IsLowDecls seen → AllFound seen.classes ds
      → Few (p.forms_of_decls (site s) seen ds) → StillFew (p.forms_of_decls woven_site seen (map woven_decl ds))
  decls-few [] seen low all few = tt
  decls-few (x ∷ ds) seen low all few =
      let one = one-few x ds seen low all (few-front (most mode.Source) (p.forms_of_decl (site s) seen x) _ few) in
      few-both (most mode.Woven) (p.forms_of_decl woven_site seen (woven_decl x)) _ one.0
      (subst (λ u. StillFew (p.forms_of_decls woven_site u (map woven_decl ds))) (sym (next-decl x seen))
      (decls-few ds (programs.next_seen x seen) one.1.0 one.1.1
      (few-back (most mode.Source) (p.forms_of_decl (site s) seen x) _ few)))
