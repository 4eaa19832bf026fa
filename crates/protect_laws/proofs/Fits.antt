-- Protected programs keep the limits.
use Rattle.std.proofs.Common.{◌≤◌, ℕ, suc, ◌+◌, refl, sym, ap, subst, arith, Bool, true, false, if◌then◌else◌, List, [], ◌∷◌, ◌++◌, map, length, reverse, Option, Some, None}
use Rattle.std.specs.List.{range_with_len, flat_map}
use Rattle.agxx_base.specs.declared.ids.NameId.{NameId}
use Rattle.agxx_base.specs.declared.place.Place.{Place}
use Rattle.cxx_tree.specs.declared.program.Access.TheVariants as access_of
use Rattle.cxx_tree.specs.declared.program.Member.{Member}
use Rattle.cxx_tree.specs.declared.program.TypeName.{TypeName}
use Rattle.cxx_tree.specs.declared.program.TypeName.TheVariants as type_of
use Rattle.cxx_tree.specs.Limits.{woven, Every}
use Rattle.cxx_tree.specs.Fits as f
use Rattle.cxx_tree.specs.ExprTree.{ExprTree}
use Rattle.cxx_tree.specs.StmtTree as s
use Rattle.cxx_tree.specs.StmtTree.{StmtTree, StmtTrees, BlockTree, IfTree, ElseTree, listed_stmts}
use Rattle.cxx_tree.specs.ProgramTree as p
use Rattle.cxx_tree.specs.ProgramTree.{ItemTree, ClassTree, DeclTree}
use Rattle.cxx_tree.proofs.Larger as l
use Rattle.cxx_names.specs.declared.declarations.Declared.{Declared}
use Rattle.cxx_names.specs.Declarations as d
use Rattle.cxx_normal.specs.Labels.{same_access}
use Rattle.cxx_normal.specs.Entry.{ends_with_return}
use Rattle.cxx_normal.proofs.Lists.{every-append, every-map}
use Rattle.cxx_make.specs.Made as made
use Rattle.guards.specs.declared.guard.Guard.{Guard}
use Rattle.guards.specs.declared.guard.GuardKind.{GuardKind}
use Rattle.guards.specs.declared.guard.GuardKind.TheVariants as guard
use Rattle.codec.specs.declared.part.Part.{Part}
use Rattle.codec.specs.Codes.{Code}
use Rattle.codec.specs.Copies as copies
use Rattle.hamming_gen.specs.Positions.{check_words}
use Rattle.hamming_gen.specs.HammingNames.{check_name}
use Rattle.hamming_gen.specs.HammingTrees.{word_member}
use Rattle.hamming_gen.specs.Hamming.{hamming}
use Rattle.entry_count.specs.PartCode.{repair, renew, enter, leave, enter_body, leave_body, take_lock, free_lock, is_zero, counts, when_zero, repairs, renews, part_members, part_functions}
use Rattle.entry_count.specs.Wrapping as w
use Rattle.protect.specs.GuardedParts as g
use Rattle.protect.specs.Protected as z
use Rattle.protect_laws.specs.Guarded.{class_in}
use Rattle.protect_laws.specs.Kept.{HasFewMembers, ProtectedFitsWoven}
use Rattle.protect_laws.proofs.CheckWords as check
use Rattle.protect_laws.proofs.Shapes.{calls, entering-is, leaving-is, returning-is, end-is, value_local, items-are}

abbrev Fits : ℕ → StmtTree → Type 0
Fits d t = f.FitsStmt woven 400 d t

abbrev FitEach : ℕ → List StmtTree → Type 0
FitEach d ts = Every (Fits d) ts

listed-fit : (d : ℕ) (ts : List StmtTree) → FitEach d ts → f.FitsStmts woven 400 d (listed_stmts ts)
listed-fit d [] fits = tt
listed-fit d (t ∷ ts) fits = (fits.0, listed-fit d ts fits.1)

same : 400 ≤ 400
same = omega arith

one-deeper : (d : ℕ) → d ≤ suc d
one-deeper d = omega arith

calls-fit : (of : NameId → NameId) (at : Place) (d : ℕ) (classes : List NameId) → FitEach (suc d) (calls of at classes)
calls-fit of at d [] = tt
calls-fit of at d (class ∷ classes) = ((d, refl, tt), calls-fit of at d classes)

-- ---- wrapped bodies

module _ (names : List (List ℕ)) (result : TypeName) (plain : f.IsPlainType result) (parts : List NameId) where
  exit-fits : (d : ℕ) (at : Place) (value : Option ExprTree) → Fits (suc d) (s.return at value)
      → FitEach (suc d) (calls (leave names) at (reverse parts) ++ s.return at value ∷ [])
  exit-fits d at value fits =
      every-append (Fits (suc d)) (calls (leave names) at (reverse parts)) (s.return at value ∷ [])
      (calls-fit (leave names) at d (reverse parts)) (fits, tt)

  mutual
    stmt-fits : (d k : ℕ) (t : StmtTree) → Fits d t → FitEach (suc d) (w.wrapped names result parts k t)
    stmt-fits d k (s.block b) fits = (block-fits d k b fits, tt)
    stmt-fits d k (s.local x) fits = (l.local-larger woven 400 400 same d (suc d) (one-deeper d) x fits, tt)
    stmt-fits d k (s.simple i) fits = (l.simple-larger woven 400 400 same d (suc d) (one-deeper d) i fits, tt)
    stmt-fits d k (s.branch i) fits = (if-fits d k i fits, tt)
    stmt-fits d k (s.while at condition body) fits = (
      (l.condition-larger woven 400 400 same d (suc d) (one-deeper d) condition fits.0, block-fits d k body fits.1),
      tt,
    )
    stmt-fits d k (s.for at start condition step body) fits = (
      (
        (l.stmt-larger woven 400 400 same d (suc d) (one-deeper d) (s.for at start condition step body) fits).0,
        block-fits d k body fits.1,
      ),
      tt,
    )
    stmt-fits d k (s.return at None) fits =
        subst (λ xs. FitEach (suc d) (xs ++ s.return at None ∷ [])) (sym (leaving-is names parts at))
        (exit-fits d at None tt)
    stmt-fits d k (s.return at (Some value)) fits =
        subst (FitEach (suc d)) (sym (returning-is names parts result at (suc k) value)) (
          (plain, l.full-larger woven 400 400 same d (suc d) (one-deeper d) f.expr_level value fits),
          exit-fits d at
              (Some (made.variable at (value_local names (suc k)))) (tt, omega arith),
        )
    stmt-fits d k (s.delete at pointer) fits =
        (l.full-larger woven 400 400 same d (suc d) (one-deeper d) f.expr_level pointer fits, tt)
    stmt-fits d k (s.print q) fits = (l.stmt-larger woven 400 400 same d (suc d) (one-deeper d) (s.print q) fits, tt)
    stmt-fits d k (s.thread t) fits =
        (l.arguments-larger woven 400 400 same d (suc d) (one-deeper d) t.arguments fits, tt)
    stmt-fits d k (s.abort at) fits = (l.stmt-larger woven 400 400 same d (suc d) (one-deeper d) (s.abort at) fits, tt)

    stmts-fit : (d k : ℕ) (ts : StmtTrees) → f.FitsStmts woven 400 d ts
        → FitEach (suc d) (w.wrapped_stmts names result parts k ts)
    stmts-fit d k s.no_stmts fits = tt
    stmts-fit d k (s.more_stmts first rest) fits =
        every-append (Fits (suc d)) (w.wrapped names result parts k first)
        (w.wrapped_stmts names result parts (k + w.returns_in first) rest) (stmt-fits d k first fits.0)
        (stmts-fit d (k + w.returns_in first) rest fits.1)

    block-fits : (d k : ℕ) (b : BlockTree) → f.FitsBlock woven 400 d b
        → f.FitsBlock woven 400 (suc d) (w.wrapped_block names result parts k b)
    block-fits d k (s.braces at ts) (below, is, fits) = (
      suc below,
      ap suc is,
      listed-fit (suc below) (w.wrapped_stmts names result parts k ts)
          (stmts-fit below k ts fits),
    )

    if-fits : (d k : ℕ) (i : IfTree) → f.FitsIf woven 400 d i
        → f.FitsIf woven 400 (suc d) (w.wrapped_if names result parts k i)
    if-fits d k (s.chooses at condition body otherwise) (head, inner, other) = (
      l.condition-larger woven 400 400 same d (suc d) (one-deeper d) condition head,
      block-fits d k body inner,
      else-fits d (k + w.returns_in_block body) otherwise other,
    )

    else-fits : (d k : ℕ) (x : ElseTree) → f.FitsElse woven 400 d x
        → f.FitsElse woven 400 (suc d) (w.wrapped_else names result parts k x)
    else-fits d k s.no_else fits = tt
    else-fits d k (s.else_if i) (below, is, fits) = (suc below, ap suc is, if-fits below k i fits)
    else-fits d k (s.else_block b) fits = block-fits d k b fits

  end-fits : (d : ℕ) (at : Place) (ts : StmtTrees) → FitEach (suc d) (w.at_end names result parts at ts)
  end-fits d at ts = subst (FitEach (suc d)) (sym (end-is names parts result at ts)) (by (ends_with_return false ts))
    where
      by : (b : Bool) → FitEach (suc d) (if b then [] else calls (leave names) at (reverse parts))
      by true = tt
      by false = calls-fit (leave names) at d (reverse parts)

  entered-fits : (d : ℕ) (b : BlockTree) → f.FitsBlock woven 400 d b
      → f.FitsBlock woven 400 (suc d) (w.entered names result parts b)
  entered-fits d (s.braces at ts) (below, is, fits) =
      let Here = Fits (suc below) in
      let inner = every-append Here (w.wrapped_stmts names result parts 0 ts) (w.at_end names result parts at ts)
      (stmts-fit below 0 ts fits) (end-fits below at ts) in
      let front = subst (FitEach (suc below)) (sym (entering-is names parts at))
      (calls-fit (enter names) at below parts) in (
        suc below,
        ap suc is,
        listed-fit (suc below) _ (every-append Here (w.entering names parts at)
            (w.wrapped_stmts names result parts 0 ts ++ w.at_end names result parts at ts) front inner),
      )

body-fits : (names : List (List ℕ)) (result : TypeName) → f.IsPlainType result
    → (parts : List NameId) (d : ℕ) (b : BlockTree) → f.FitsBlock woven 400 d b
    → f.FitsBlock woven 400 (suc d) (w.wrapped_body names result parts b)
body-fits names result plain [] d b fits = l.block-larger woven 400 400 same d (suc d) (one-deeper d) b fits
body-fits names result plain (class ∷ classes) d b fits = entered-fits names result plain (class ∷ classes) d b fits

-- ---- items of a source

item-fits : (names : List (List ℕ)) (parts : List NameId) (d : ℕ) (item : ItemTree) → f.FitsItem woven 400 d item
    → f.FitsItem woven 400 (suc d) (z.wrapped_item names parts item)
item-fits names parts d (p.label at access) fits = tt
item-fits names parts d (p.member m) fits = fits
item-fits names parts d (p.function x) (plain, params, body) = (
  plain,
  l.params-larger woven 400 400 same d (suc d) (one-deeper d) x.params params,
  body-fits names x.result.item
      plain parts d x.body body,
)
item-fits names parts d (p.ctor c) (params, inits, body) =
    let larger = l.item-larger woven 400 400 same d (suc d) (one-deeper d) (p.ctor c) (params, inits, body) in
    (larger.0, larger.1, body-fits names type_of.Void tt parts d c.body body)
item-fits names parts d (p.dtor x) (opens, body) =
    let larger = l.item-larger woven 400 400 same d (suc d) (one-deeper d) (p.dtor x) (opens, body) in
    (larger.0, body-fits names type_of.Void tt parts d x.body body)

items-fit : (names : List (List ℕ)) (parts : List NameId) (d : ℕ) (items : List ItemTree)
    → Every (f.FitsItem woven 400 d) items → Every (f.FitsItem woven 400 (suc d))
    (map (z.wrapped_item names parts) items)
items-fit names parts d [] fits = tt
items-fit names parts d (item ∷ items) fits =
    (item-fits names parts d item fits.0, items-fit names parts d items fits.1)

-- ---- items that are added

module _ (names : List (List ℕ)) (at : Place) where
  repair-fits : (i : ℕ) (ms : List Member) → FitEach 98 (copies.repair_from names at i ms)
  repair-fits i [] = tt
  repair-fits i (m ∷ ms) =
      let expr : f.FitsExpr woven 98 10 (copies.vote_of names at m) = (
        omega arith,
        (
          omega arith,
          (97, refl, (omega arith, (tt, (96, refl, tt)), tt)),
          (97, refl, (omega arith, (tt, (96, refl, tt)), tt)),
        ),
        (97, refl, (omega arith, tt, tt)),
      ) in
      let taken : FitEach 98 (copies.take_vote names at (copies.vote names i) m) =
      ((tt, tt, (tt, omega arith)), ((tt, tt, (tt, omega arith)), ((tt, tt, (tt, omega arith)), tt))) in (
        (tt, (expr, omega arith)),
        every-append (Fits 98) (copies.take_vote names at (copies.vote names i) m)
            (copies.repair_from names at (suc i) ms) taken (repair-fits (suc i) ms),
      )

  renew-fits : (ms : List Member) → FitEach 98 (copies.renew_each names at ms)
  renew-fits [] = tt
  renew-fits (m ∷ ms) = ((tt, tt, (tt, omega arith)), ((tt, tt, (tt, omega arith)), renew-fits ms))

  enter-fits : (class : NameId) → FitEach 98 (enter_body names at class)
  unfolding enter_body take_lock free_lock is_zero counts when_zero repairs
  enter-fits class = (
    (97, refl, tt),
    (
      ((97, refl, ((omega arith, tt, tt), omega arith)), (97, refl, ((96, refl, tt), tt)), tt),
      ((tt, tt, ((omega arith, tt, tt), omega arith)), ((97, refl, tt), tt)),
    ),
  )

  leave-fits : (class : NameId) → FitEach 98 (leave_body names at class)
  unfolding leave_body take_lock free_lock is_zero counts when_zero renews
  leave-fits class = (
    (97, refl, tt),
    (
      (tt, tt, ((omega arith, tt, tt), omega arith)),
      (((97, refl, ((omega arith, tt, tt), omega arith)), (97, refl, ((96, refl, tt), tt)), tt), ((97, refl, tt), tt)),
    ),
  )

  procedure-fits : (name : NameId) (ts : List StmtTree) → FitEach 98 ts
      → f.FitsItem woven 400 99 (p.function (made.procedure at name ts))
  procedure-fits name ts fits = (tt, (98, refl, tt), (98, refl, listed-fit 98 ts fits))

members-fit : (ms : List Member) → Every (λ (m : Member). f.IsMemberType woven m.type_name.item) ms
    → Every (f.FitsItem woven 400 99) (map p.member ms)
members-fit [] fits = tt
members-fit (m ∷ ms) fits = (fits.0, members-fit ms fits.1)

-- a part with a code whose statements keep the limits
code-fits : (names : List (List ℕ)) (code : Code) (part : Part)
    → Every (λ (m : Member). f.IsMemberType woven m.type_name.item) (code.members names part)
    → FitEach 98 (code.repair names part) → FitEach 98 (code.renew names part)
    → Every (f.FitsItem woven 400 99) (z.part_items code names part)
code-fits names code part added repairs renews =
    let at = part.class.at in
    let members = every-append (λ (m : Member). f.IsMemberType woven m.type_name.item) (code.members names part) _ added
    (tt, (tt, tt)) in
    let repaired = procedure-fits names at (repair names part.class.item) _ repairs in
    let renewed = procedure-fits names at (renew names part.class.item) _ renews in
    let entered = procedure-fits names at (enter names part.class.item) _ (enter-fits names at part.class.item) in
    let left = procedure-fits names at (leave names part.class.item) _ (leave-fits names at part.class.item) in
    subst (Every (f.FitsItem woven 400 99)) (sym (items-are names code part))
    (every-append (f.FitsItem woven 400 99) (map p.member (part_members code names part))
    (map p.function (part_functions code names part))
    (members-fit (part_members code names part) members)
    (repaired, (renewed, (entered, (left, tt)))))

part-fits : (names : List (List ℕ)) (kind : GuardKind) (part : Part) → HasFewMembers (Some (kind, part))
    → Every (f.FitsItem woven 400 99) (z.part_items (z.code_of kind) names part)
part-fits names guard.Copies part few =
    let at = part.class.at in
    let HasType : Member → Type 0 = λ m. f.IsMemberType woven m.type_name.item in
    let first = every-map HasType (copies.first_member names at) (λ m. tt) part.members in
    let second = every-map HasType (copies.second_member names at) (λ m. tt) part.members in
    code-fits names copies.copies part (every-append HasType (map (copies.first_member names at) part.members)
    (map (copies.second_member names at) part.members) first second) (repair-fits names at 1 part.members)
    (renew-fits names at part.members)
part-fits names guard.Hamming part few =
    let HasType : Member → Type 0 = λ m. f.IsMemberType woven m.type_name.item in
    let js = range_with_len 0 (check_words (length part.members)) in
    let word : ℕ → Member = λ j. word_member part.class.at (check_name names part.class.item j) in
    code-fits names hamming part (every-append HasType (map word js) _ (every-map HasType word (λ j. tt) js) (tt, tt))
    (check.repair-fits names part few) (check.renew-fits names part few)

added-fit : (names : List (List ℕ)) (c : ClassTree) (part : Option (GuardKind × Part)) → HasFewMembers part
    → Every (f.FitsItem woven 400 99) (z.added names c part)
added-fit names c None few = tt
added-fit names c (Some (kind, part)) few =
    let shown = z.last_access (d.default_access c.word) c.items in
    every-append (f.FitsItem woven 400 99) (z.opening c.at shown) (z.part_items (z.code_of kind) names part)
    (by (same_access shown access_of.Public)) (part-fits names kind part few)
  where
    by : (b : Bool) → Every (f.FitsItem woven 400 99) (if b then [] else p.label c.at access_of.Public ∷ [])
    by true = tt
    by false = (tt, tt)

-- ---- declarations

module _ (names : List (List ℕ)) (guards : List Guard) (x : Declared) (lists : List (List NameId)) where
  class-fits : (c : ClassTree) → f.FitsDecl woven 400 99 (p.class c) → HasFewMembers (g.part_of guards c)
      → f.FitsDecl woven 400 100 (p.class (z.protected_class names guards x lists c))
  class-fits c (below, is, fits) few =
      let Here = f.FitsItem woven 400 (suc below) in
      let parts = g.parts_named x lists c.name.item in
      let added = subst (λ n. Every (f.FitsItem woven 400 n) (z.added names c (g.part_of guards c))) is
      (added-fit names c (g.part_of guards c) few) in (
        suc below,
        ap suc is,
        every-append Here (map (z.wrapped_item names parts) c.items)
            (z.added names c (g.part_of guards c)) (items-fit names parts below c.items fits) added,
      )

  decls-fit : (ds : List DeclTree) → Every (f.FitsDecl woven 400 99) ds
      → Every (λ (c : ClassTree). HasFewMembers (g.part_of guards c)) (flat_map class_in ds)
      → Every (f.FitsDecl woven 400 100) (map (z.protected_decl names guards x lists) ds)
  decls-fit [] fits few = tt
  decls-fit (p.class c ∷ ds) fits few = (class-fits c fits.0 few.0, decls-fit ds fits.1 few.1)
  decls-fit (p.class_name c ∷ ds) fits few = (tt, decls-fit ds fits.1 few)
  decls-fit (p.free_function y ∷ ds) fits few =
      (l.function-larger woven 400 400 same 99 100 (omega arith) y fits.0, decls-fit ds fits.1 few)
  decls-fit (p.proto y ∷ ds) fits few =
      (l.decl-larger woven 400 400 same 99 100 (omega arith) (p.proto y) fits.0, decls-fit ds fits.1 few)
  decls-fit (p.global y ∷ ds) fits few =
      (l.global-larger woven 400 400 same 99 100 (omega arith) y fits.0, decls-fit ds fits.1 few)

pub protected-fits-woven : ProtectedFitsWoven
protected-fits-woven names guards q fits few =
    decls-fit names guards (d.declared names q) (g.guarded_parts guards (d.declared names q)) q.decls fits few
