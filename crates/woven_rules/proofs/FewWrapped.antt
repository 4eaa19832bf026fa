-- Wrapped bodies have at most a local more for each returned value, and as many `return`s.
use Rattle.std.proofs.Common.{◌≡◌, refl, sym, subst, ℕ, suc, ◌+◌, ◌≤◌, arith, Bool, true, false, if◌then◌else◌, List, [], ◌∷◌, ◌++◌, reverse, Option, Some, None}
use Rattle.agxx_base.specs.declared.ids.NameId.{NameId}
use Rattle.agxx_base.specs.declared.place.Place.{Place}
use Rattle.agxx_base.specs.declared.kind.Mode.TheVariants as mode
use Rattle.cxx_tree.specs.declared.node.Placed.{Placed}
use Rattle.cxx_tree.specs.declared.program.Param.{Param}
use Rattle.cxx_tree.specs.declared.program.TypeName.{TypeName}
use Rattle.cxx_tree.specs.declared.program.TypeName.TheVariants as type_name
use Rattle.cxx_tree.specs.ExprTree as e
use Rattle.cxx_tree.specs.ExprTree.{ExprTree, ExprTrees}
use Rattle.cxx_tree.specs.StmtTree as st
use Rattle.cxx_tree.specs.StmtTree.{StmtTree, StmtTrees, BlockTree, IfTree, ElseTree, listed_stmts}
use Rattle.cxx_tree.specs.ProgramTree.{FunctionTree, InitTree, CtorTree, DtorTree}
use Rattle.cxx_normal.specs.Entry.{ends_with_return}
use Rattle.cxx_names.specs.declared.declarations.ClassInfo.{ClassInfo}
use Rattle.cxx_names.specs.declared.declarations.MemberInfo.{MemberInfo}
use Rattle.cxx_names.specs.Tables.{named, with_name}
use Rattle.cxx_types.specs.Counts.{most}
use Rattle.cxx_types.specs.Classes as classes
use Rattle.cxx_rules.specs.Sites.{Site}
use Rattle.cxx_rules.specs.Forms as form
use Rattle.cxx_rules.specs.StmtForms as f
use Rattle.cxx_rules.specs.ProgramForms as p
use Rattle.entry_count.specs.PartCode.{enter, leave}
use Rattle.entry_count.specs.Wrapping as wrap
use Rattle.protect.specs.Protected as z
use Rattle.woven_rules.proofs.Counting.{AreFew, few-front, few-back, block-values, body-low}
use Rattle.woven_rules.proofs.FewForms.{ShortStmt, ShortStmts, ShortBlock, ShortIf, ShortElse, few-both, few-expr, few-arguments, few-body, short-body}
use Rattle.cxx_make.specs.Made as made
use Rattle.woven_rules.proofs.WrappedRight.{value_at}
use Rattle.protect_laws.proofs.Shapes.{calls, entering-is, leaving-is, returning-is, end-is}

-- ---- lists of statements

abbrev pub Locals : List StmtTree → ℕ
Locals ts = f.locals_in_stmts (listed_stmts ts)

abbrev pub Returns : List StmtTree → ℕ
Returns ts = f.returns_in_stmts (listed_stmts ts)

abbrev pub Short : List StmtTree → Type 0
Short ts = ShortStmts (listed_stmts ts)

-- so many locals and `return`s at most, and short texts
abbrev pub Has : ℕ → ℕ → List StmtTree → Type 0
Has locals returns ts = (Locals ts ≤ locals) × (Returns ts ≤ returns) × Short ts

pub has-both : (xs ys : List StmtTree) (a b i j : ℕ) → Has a i xs → Has b j ys → Has (a + b) (i + j) (xs ++ ys)
has-both [] ys a b i j first rest = (let l = rest.0 in omega arith, (let r = rest.1 in omega arith), rest.2)
has-both (x ∷ xs) ys a b i j first rest =
    let l = first.0 in
    let r = first.1 in
    let later = has-both xs ys (Locals xs) b (Returns xs) j (omega arith, omega arith, first.2.1) rest in
    (let n = later.0 in omega arith, (let n = later.1 in omega arith), (first.2.0, later.2))

pub has-more : (xs : List StmtTree) (a b i j : ℕ) → a ≤ b → i ≤ j → Has a i xs → Has b j xs
has-more xs a b i j low few has = (let l = has.0 in omega arith, (let r = has.1 in omega arith), has.2)

calls-have : (of : NameId → NameId) (at : Place) (classes : List NameId) → Has 0 0 (calls of at classes)
calls-have of at [] = (omega arith, omega arith, tt)
calls-have of at (class ∷ classes) = let rest =
    calls-have of at classes in (let l = rest.0 in omega arith, (let r = rest.1 in omega arith), (tt, rest.2))

module _ (names : List (List ℕ)) (result : TypeName) (parts : List NameId) where
  return-has : (k : ℕ) (at : Place) (x : Option ExprTree)
      → Has (wrap.returns_in (st.return at x)) 1 (wrap.wrapped names result parts k (st.return at x))
  return-has k at None =
      subst (λ xs. Has 0 1 (xs ++ st.return at None ∷ [])) (sym (leaving-is names parts at))
      (has-both (calls (leave names) at (reverse parts)) (st.return at None ∷ []) 0 0 0 1
      (calls-have (leave names) at (reverse parts)) (omega arith, omega arith, (tt, tt)))
  return-has k at (Some x) =
      let last : List StmtTree = st.return at (Some (made.variable at (value_at names k))) ∷ [] in
      let rest =
      has-both (calls (leave names) at (reverse parts)) last 0 0 0 1 (calls-have (leave names) at (reverse parts))
      (omega arith, omega arith, (tt, tt)) in
      subst (Has 1 1) (sym (returning-is names parts result at (suc k) x))
      (let l = rest.0 in omega arith, (let r = rest.1 in omega arith), (tt, rest.2))

  mutual
    stmt-has : (k : ℕ) (t : StmtTree) → ShortStmt t
        → Has (f.locals_in t + wrap.returns_in t) (f.returns_in t) (wrap.wrapped names result parts k t)
    stmt-has k (st.block b) short = let rest =
        block-has k b short in (let l = rest.0 in omega arith, (let r = rest.1 in omega arith), (rest.2, tt))
    stmt-has k (st.local l) short = (omega arith, omega arith, (tt, tt))
    stmt-has k (st.simple i) short = (omega arith, omega arith, (tt, tt))
    stmt-has k (st.branch i) short = let rest =
        if-has k i short in (let l = rest.0 in omega arith, (let r = rest.1 in omega arith), (rest.2, tt))
    stmt-has k (st.while at x body) short = let rest =
        block-has k body short in (let l = rest.0 in omega arith, (let r = rest.1 in omega arith), (rest.2, tt))
    stmt-has k (st.for at first x i body) short = let rest =
        block-has k body short in (let l = rest.0 in omega arith, (let r = rest.1 in omega arith), (rest.2, tt))
    stmt-has k (st.return at None) short = return-has k at None
    stmt-has k (st.return at (Some x)) short = return-has k at (Some x)
    stmt-has k (st.delete at x) short = (omega arith, omega arith, (tt, tt))
    stmt-has k (st.print q) short = (omega arith, omega arith, (short, tt))
    stmt-has k (st.thread x) short = (omega arith, omega arith, (tt, tt))
    stmt-has k (st.abort at) short = (omega arith, omega arith, (tt, tt))

    stmts-have : (k : ℕ) (ts : StmtTrees) → ShortStmts ts
        → Has (f.locals_in_stmts ts + wrap.returns_in_stmts ts) (f.returns_in_stmts ts)
        (wrap.wrapped_stmts names result parts k ts)
    stmts-have k st.no_stmts short = (omega arith, omega arith, tt)
    stmts-have k (st.more_stmts first rest) short =
        let here =
        has-both (wrap.wrapped names result parts k first)
        (wrap.wrapped_stmts names result parts (k + wrap.returns_in first) rest)
        (f.locals_in first + wrap.returns_in first) (f.locals_in_stmts rest + wrap.returns_in_stmts rest)
        (f.returns_in first) (f.returns_in_stmts rest)
        (stmt-has k first short.0) (stmts-have (k + wrap.returns_in first) rest short.1) in
        (let l = here.0 in omega arith, here.1, here.2)

    block-has : (k : ℕ) (b : BlockTree) → ShortBlock b
        → (f.locals_in_block (wrap.wrapped_block names result parts k b) ≤ f.locals_in_block b + wrap.returns_in_block
        b) × (f.returns_in_block (wrap.wrapped_block names result parts k b) ≤ f.returns_in_block b)
        × ShortBlock (wrap.wrapped_block names result parts k b)
    block-has k (st.braces at ts) short = stmts-have k ts short

    if-has : (k : ℕ) (i : IfTree) → ShortIf i
        → (f.locals_in_if (wrap.wrapped_if names result parts k i) ≤ f.locals_in_if i + wrap.returns_in_if i)
        × (f.returns_in_if (wrap.wrapped_if names result parts k i) ≤ f.returns_in_if i)
        × ShortIf (wrap.wrapped_if names result parts k i)
    if-has k (st.chooses at x body otherwise) short =
        let one = block-has k body short.0 in
        let other = else-has (k + wrap.returns_in_block body) otherwise short.1 in (
          let l = one.0 in let r = other.0 in
              omega arith,
          (let l = one.1 in let r = other.1 in omega arith),
          (one.2, other.2),
        )

    else-has : (k : ℕ) (x : ElseTree) → ShortElse x
        → (f.locals_in_else (wrap.wrapped_else names result parts k x) ≤ f.locals_in_else x + wrap.returns_in_else x)
        × (f.returns_in_else (wrap.wrapped_else names result parts k x) ≤ f.returns_in_else x)
        × ShortElse (wrap.wrapped_else names result parts k x)
    else-has k st.no_else short = (omega arith, omega arith, tt)
    else-has k (st.else_if i) short = if-has k i short
    else-has k (st.else_block b) short = block-has k b short

  end-has : (at : Place) (ts : StmtTrees) → Has 0 0 (wrap.at_end names result parts at ts)
  end-has at ts = subst (Has 0 0) (sym (end-is names parts result at ts)) (by (ends_with_return false ts))
    where
      by : (b : Bool) → Has 0 0 (if b then [] else calls (leave names) at (reverse parts))
      by true = (omega arith, omega arith, tt)
      by false = calls-have (leave names) at (reverse parts)

  entered-has : (b : BlockTree) → ShortBlock b
      → (f.locals_in_block (wrap.entered names result parts b) ≤ f.locals_in_block b + wrap.returns_in_block b)
      × (f.returns_in_block (wrap.entered names result parts b) ≤ f.returns_in_block b)
      × ShortBlock (wrap.entered names result parts b)
  entered-has (st.braces at ts) short =
      let inner =
      has-both (wrap.wrapped_stmts names result parts 0 ts) (wrap.at_end names result parts at ts)
      (f.locals_in_stmts ts + wrap.returns_in_stmts ts) 0 (f.returns_in_stmts ts) 0 (stmts-have 0 ts short)
      (end-has at ts) in
      let front = subst (Has 0 0) (sym (entering-is names parts at)) (calls-have (enter names) at parts) in
      let whole =
      has-both (wrap.entering names parts at)
      (wrap.wrapped_stmts names result parts 0 ts ++ wrap.at_end names result parts at ts) 0
      (f.locals_in_stmts ts + wrap.returns_in_stmts ts + 0) 0 (f.returns_in_stmts ts + 0) front inner in
      (let l = whole.0 in omega arith, (let r = whole.1 in omega arith), whole.2)

body-has : (names : List (List ℕ)) (result : TypeName) (parts : List NameId) (b : BlockTree) → ShortBlock b
    → (f.locals_in_block (wrap.wrapped_body names result parts b) ≤ f.locals_in_block b + wrap.returns_in_block b)
    × (f.returns_in_block (wrap.wrapped_body names result parts b) ≤ f.returns_in_block b)
    × ShortBlock (wrap.wrapped_body names result parts b)
body-has names result [] b short = (omega arith, omega arith, short)
body-has names result (class ∷ classes) b short = entered-has names result (class ∷ classes) b short

-- ---- functions

-- outside of bodies
abbrev pub IsBegun : Site → Type 0
IsBegun w = (w.locals ≡ 0) × (w.returns ≡ 0)

pub body-few : (names : List (List ℕ)) (result : TypeName) (parts : List NameId) (w v : Site) → IsBegun w → IsBegun v
    → (b : BlockTree) → AreFew (most mode.Source) (f.forms_of_body w b)
    → AreFew (most mode.Woven) (f.forms_of_body v (wrap.wrapped_body names result parts b))
body-few names result parts w v begun also b few =
    let w1 = begun.0 in
    let w2 = begun.1 in
    let v1 = also.0 in
    let v2 = also.1 in
    let low = body-low (most mode.Source) w b (omega arith, omega arith) few in
    let low1 = low.0 in
    let low2 = low.1 in
    let values = block-values b in
    let has = body-has names result parts b (short-body (most mode.Source) w b few) in
    let has1 = has.0 in
    let has2 = has.1 in
    few-body (most mode.Woven) v (wrap.wrapped_body names result parts b) (omega arith, omega arith) has.2

pub params-few : (w v : Site) (index : ℕ) (qs : List Param) → AreFew (most mode.Source) (p.forms_of_params w index qs)
    → AreFew (most mode.Woven) (p.forms_of_params v index qs)
params-few w v index [] few = tt
params-few w v index (q ∷ qs) few =
    (refl, (few.1.0, (refl, (refl, params-few (p.with_param w q) (p.with_param v q) (suc index) qs few.1.1.1.1))))

pub function-few : (names : List (List ℕ)) (parts : List NameId) (w v : Site) → IsBegun w → IsBegun v
    → (g : FunctionTree) → AreFew (most mode.Source) (p.forms_of_function w g)
    → AreFew (most mode.Woven) (p.forms_of_function v (z.wrapped_function names parts g))
function-few names parts w v begun also g few = (
  refl,
  few-both (most mode.Woven) (p.forms_of_params v 0 g.params) _
      (params-few w v 0 g.params (few-front (most mode.Source) (p.forms_of_params w 0 g.params) _ few.1))
      (body-few names g.result.item parts (p.with_params w g.params) (p.with_params v g.params) begun also g.body
      (few-back (most mode.Source) (p.forms_of_params w 0 g.params) _ few.1)),
)

-- ---- initialisers

module _ (v : Site) (y : ClassInfo) where
  few-base-arguments : (xs : ExprTrees) → AreFew (most mode.Woven) (p.forms_of_base_arguments v xs)
  few-base-arguments e.no_exprs = tt
  few-base-arguments (e.more_exprs first rest) = (refl, few-base-arguments rest)

  few-values : (name : Placed NameId) (o : Option MemberInfo) (xs : ExprTrees)
      → AreFew (most mode.Woven) (p.forms_of_values v name o xs)
  few-values name None xs = few-arguments (most mode.Woven) v [] xs
  few-values name (Some m) e.no_exprs = tt
  few-values name (Some m) (e.more_exprs first rest) =
      few-both (most mode.Woven) (form.forms_of v first) _ (few-expr (most mode.Woven) v first)
      (refl, few-arguments (most mode.Woven) v [] rest)

  few-init : (i : InitTree) (is : Bool) → AreFew (most mode.Woven) (p.forms_of_init v y i is)
  few-init i true = (
    refl,
    few-both (most mode.Woven) (p.forms_of_base_arguments v i.arguments) _ (few-base-arguments i.arguments)
        (few-arguments (most mode.Woven) v (classes.base_params (classes.base_ctor_in v.declared y)) i.arguments),
  )
  few-init i false = (refl, few-values i.name (named y.members i.name.item.0) i.arguments)

  few-inits : (base : Option (Placed NameId)) (before : List (ℕ × ℕ)) (is : List InitTree)
      → AreFew (most mode.Woven) (p.forms_of_inits v base y before is)
  few-inits base before [] = tt
  few-inits base before (i ∷ is) = (
    refl,
    few-both (most mode.Woven) (p.forms_of_init v y i (classes.names_base base y i.name)) _
        (few-init i (classes.names_base base y i.name)) (few-inits base (with_name before i.name.item.0 0) is),
  )

  few-without : (name : Placed NameId) (is : Bool) → AreFew (most mode.Woven) (p.forms_without v y name is)
  few-without name true = tt
  few-without name false = (refl, tt)

-- ---- items

module _ (names : List (List ℕ)) (parts : List NameId) (w v : Site) (begun : IsBegun w) (also : IsBegun v)
    (base : Option (Placed NameId)) (x y : ClassInfo) where
  pub ctor-few : (is_second : Bool) (k : CtorTree) → AreFew (most mode.Source) (p.forms_of_ctor w base x is_second k)
      → AreFew (most mode.Woven) (p.forms_of_ctor v base y is_second (z.wrapped_ctor names parts k))
  ctor-few is_second k few =
      let m = most mode.Source in
      let l = most mode.Woven in
      let inner = p.with_params w k.params in
      let after = p.with_params v k.params in
      let rest1 = few-back m (p.forms_of_params w 0 k.params) _ few.1.1 in
      let rest2 = few-back m (p.forms_without inner x k.name (classes.initialises_base base x k.inits)) _ rest1 in
      let rest3 = few-back m (p.forms_of_inits inner base x [] k.inits) _ rest2 in (
        refl,
        (
          refl,
          few-both l (p.forms_of_params v 0 k.params) _
              (params-few w v 0 k.params (few-front m (p.forms_of_params w 0 k.params) _ few.1.1))
              (few-both l (p.forms_without after y k.name (classes.initialises_base base y k.inits)) _
              (few-without after y k.name (classes.initialises_base base y k.inits))
              (few-both l (p.forms_of_inits after base y [] k.inits) _ (few-inits after y base [] k.inits)
              (body-few names type_name.Void parts inner after begun also k.body rest3))),
        ),
      )

  pub dtor-few : (is_second : Bool) (k : DtorTree) → AreFew (most mode.Source) (p.forms_of_dtor w x is_second k)
      → AreFew (most mode.Woven) (p.forms_of_dtor v y is_second (z.wrapped_dtor names parts k))
  dtor-few is_second k few = (refl, (refl, body-few names type_name.Void parts w v begun also k.body few.1.1))
