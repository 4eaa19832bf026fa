-- In a program in which there are not too many of anything, functions have at most so many locals and `return`s.
use Rattle.std.proofs.Common.{◌≡◌, ◌≢◌, sym, ap, ◌∙◌, ℕ, max, ◌+◌, ◌≤◌, arith, Bool, true, false, not, nat_eq, List, [], ◌∷◌, ◌++◌, Option, Some, None}
use Rattle.agxx_base.specs.declared.ids.NameId.{NameId}
use Rattle.agxx_base.specs.declared.place.Place.{Place}
use Rattle.cxx_tree.specs.declared.node.Placed.{Placed}
use Rattle.cxx_tree.specs.Limits.{Every}
use Rattle.cxx_tree.specs.ExprTree.{ExprTree}
use Rattle.cxx_tree.specs.StmtTree as st
use Rattle.cxx_tree.specs.StmtTree.{LocalTree, StartTree, ThreadTree, StmtTree, StmtTrees, BlockTree, IfTree, ElseTree}
use Rattle.cxx_tree.specs.ProgramTree as tree
use Rattle.cxx_tree.specs.ProgramTree.{FunctionTree, ItemTree}
use Rattle.cxx_names.specs.declared.declarations.ClassInfo.{ClassInfo}
use Rattle.cxx_names.specs.LookUp.{free_signature}
use Rattle.cxx_types.specs.declared.limits.Counts.{Counts}
use Rattle.cxx_types.specs.declared.classes.ItemsSeen.{ItemsSeen}
use Rattle.cxx_types.specs.Classes as classes
use Rattle.cxx_rules.specs.Sites.{Site}
use Rattle.cxx_rules.specs.Forms as form
use Rattle.cxx_rules.specs.Forms.{Form}
use Rattle.cxx_rules.specs.StmtForms as f
use Rattle.cxx_rules.specs.ProgramForms as p
use Rattle.cxx_rules.specs.TooMany.{limit, too_many_at}
use Rattle.entry_count.specs.Wrapping as wrap
use Rattle.protect.specs.GeneratedNames.{returns_of, most_returns}
use Rattle.woven_rules.proofs.Tables.{same-number}
use Rattle.woven_rules.proofs.Right.{holds}

module _ (m : Counts) where
  -- there are not too many of anything
  abbrev pub IsFew : Form → Type 0
  IsFew form = too_many_at m form ≡ None

  abbrev pub AreFew : List Form → Type 0
  AreFew fs = Every IsFew fs

  pub few-front : (fs others : List Form) → AreFew (fs ++ others) → AreFew fs
  few-front [] others all = tt
  few-front (x ∷ fs) others all = (all.0, few-front fs others all.1)

  pub few-back : (fs others : List Form) → AreFew (fs ++ others) → AreFew others
  few-back [] others all = all
  few-back (x ∷ fs) others all = few-back fs others all.1

  pub not-limit : (kind : form.Kind) (k : ℕ) (at : Place) → IsFew (form.counted kind k at) → k ≢ limit m kind
  not-limit kind k at few same =
      let h = holds (not (nat_eq k (limit m kind))) at few in
      let w : nat_eq k (limit m kind) ≡ true = ap (λ x. nat_eq x (limit m kind)) same ∙ same-number (limit m kind) in
      let z : not true ≡ true = sym (ap not w) ∙ h in cc z

  -- ---- statements

  abbrev pub IsLow : Site → ℕ → ℕ → Type 0
  IsLow w locals returns = (w.locals + locals ≤ m.locals) × (w.returns + returns ≤ m.returns)

  one-more : (k most : ℕ) → k ≤ most → k ≢ most → k + 1 ≤ most
  one-more k most low other = omega arith

  local-low : (w : Site) (l : LocalTree) → IsLow w 0 0 → AreFew (f.forms_of_local w l) → IsLow w 1 0
  local-low w l low few =
      let later = few-back (f.forms_of_optional (f.forms_of_initial w l.type_name.item) l.initial) _ few.1 in
      (one-more w.locals m.locals (omega arith) (not-limit form.locals w.locals l.name.at later.1.1.0), low.1)

  start-low : (w : Site) (o : Option StartTree) → IsLow w 0 0 → AreFew (f.forms_of_optional (f.forms_of_start w) o)
      → IsLow w (f.locals_in_start o) 0
  start-low w None low few = low
  start-low w (Some (st.start_local l)) low few = local-low w l low few
  start-low w (Some (st.start_simple i)) low few = low

  return-low : (w : Site) (at : Place) (x : Option ExprTree) → IsLow w 0 0 → AreFew (f.forms_of_return w at x)
      → IsLow w 0 1
  return-low w at x low few =
      let later = few-back (f.forms_of_optional (form.forms_of w) x) _ few in
      (low.0, one-more w.returns m.returns (omega arith) (not-limit form.returns w.returns at later.1.0))

  thread-low : (w : Site) (outermost : Bool) (k : ThreadTree) → IsLow w 0 0 → AreFew (f.forms_of_thread w outermost k)
      → IsLow w 1 0
  thread-low w outermost k low few =
      let later =
      few-back (form.forms_of_arguments w (f.params_of (free_signature w.declared k.function.name.item.0))
      k.arguments) _ few.1.1.1 in
      (one-more w.locals m.locals (omega arith) (not-limit form.locals w.locals k.name.at later.1.1.0), low.1)

  mutual
    pub stmt-low : (w : Site) (outermost : Bool) (t : StmtTree) → IsLow w 0 0 → AreFew (f.forms_of_stmt w outermost t)
        → IsLow w (f.locals_in t) (f.returns_in t)
    stmt-low w outermost (st.block b) low few = block-low w b low few
    stmt-low w outermost (st.local l) low few = local-low w l low few
    stmt-low w outermost (st.simple i) low few = low
    stmt-low w outermost (st.branch i) low few = if-low w i low few
    stmt-low w outermost (st.while at e body) low few = block-low w body low (few-back (form.forms_of w e) _ few)
    stmt-low w outermost (st.for at first e i body) low few =
        let begun = start-low w first low (few-front (f.forms_of_optional (f.forms_of_start w) first) _ few) in
        let later = few-back (f.forms_of_optional (f.forms_of_start w) first) _ few in
        let last =
        few-back (f.forms_of_optional (f.forms_of_simple (f.behind_start w first)) i) _
        (few-back (f.forms_of_optional (form.forms_of (f.behind_start w first)) e) _ later) in
        let rest = block-low (f.behind_start w first) body (omega arith, begun.1) last in
        (omega arith, rest.1)
    stmt-low w outermost (st.return at x) low few = return-low w at x low few
    stmt-low w outermost (st.delete at x) low few = low
    stmt-low w outermost (st.print q) low few = low
    stmt-low w outermost (st.thread k) low few = thread-low w outermost k low few
    stmt-low w outermost (st.abort at) low few = low

    pub stmts-low : (w : Site) (outermost : Bool) (ts : StmtTrees) → IsLow w 0 0
        → AreFew (f.forms_of_stmts w outermost ts) → IsLow w (f.locals_in_stmts ts) (f.returns_in_stmts ts)
    stmts-low w outermost st.no_stmts low few = low
    stmts-low w outermost (st.more_stmts first rest) low few =
        let here = stmt-low w outermost first low (few-front (f.forms_of_stmt w outermost first) _ few) in
        let later =
        stmts-low (f.behind w first) outermost rest (omega arith, omega arith)
        (few-back (f.forms_of_stmt w outermost first) _ few) in
        (omega arith, omega arith)

    pub block-low : (w : Site) (b : BlockTree) → IsLow w 0 0 → AreFew (f.forms_of_block w b)
        → IsLow w (f.locals_in_block b) (f.returns_in_block b)
    block-low w (st.braces at ts) low few = stmts-low w false ts low few

    if-low : (w : Site) (i : IfTree) → IsLow w 0 0 → AreFew (f.forms_of_if w i)
        → IsLow w (f.locals_in_if i) (f.returns_in_if i)
    if-low w (st.chooses at e body otherwise) low few =
        let later = few-back (form.forms_of w e) _ few in
        let here = block-low w body low (few-front (f.forms_of_block w body) _ later) in
        let rest =
        else-low (f.further w (f.locals_in_block body) (f.returns_in_block body)) otherwise
        (omega arith, omega arith) (few-back (f.forms_of_block w body) _ later) in
        (omega arith, omega arith)

    else-low : (w : Site) (x : ElseTree) → IsLow w 0 0 → AreFew (f.forms_of_else w x)
        → IsLow w (f.locals_in_else x) (f.returns_in_else x)
    else-low w st.no_else low few = low
    else-low w (st.else_if i) low few = if-low w i low few
    else-low w (st.else_block b) low few = block-low w b low few

  pub body-low : (w : Site) (b : BlockTree) → IsLow w 0 0 → AreFew (f.forms_of_body w b)
      → IsLow w (f.locals_in_block b) (f.returns_in_block b)
  body-low w (st.braces at ts) low few = stmts-low w true ts low few

-- ---- returned values are among the `return`s

mutual
  values-few : (t : StmtTree) → wrap.returns_in t ≤ f.returns_in t
  values-few (st.block b) = block-values b
  values-few (st.local l) = omega arith
  values-few (st.simple i) = omega arith
  values-few (st.branch i) = if-values i
  values-few (st.while at e body) = block-values body
  values-few (st.for at first e i body) = block-values body
  values-few (st.return at None) = omega arith
  values-few (st.return at (Some x)) = omega arith
  values-few (st.delete at x) = omega arith
  values-few (st.print q) = omega arith
  values-few (st.thread k) = omega arith
  values-few (st.abort at) = omega arith

  stmts-values : (ts : StmtTrees) → wrap.returns_in_stmts ts ≤ f.returns_in_stmts ts
  stmts-values st.no_stmts = omega arith
  stmts-values (st.more_stmts first rest) = let here = values-few first in let later =
      stmts-values rest in omega arith

  pub block-values : (b : BlockTree) → wrap.returns_in_block b ≤ f.returns_in_block b
  block-values (st.braces at ts) = stmts-values ts

  if-values : (i : IfTree) → wrap.returns_in_if i ≤ f.returns_in_if i
  if-values (st.chooses at e body otherwise) = let here = block-values body in let later =
      else-values otherwise in omega arith

  else-values : (x : ElseTree) → wrap.returns_in_else x ≤ f.returns_in_else x
  else-values st.no_else = omega arith
  else-values (st.else_if i) = if-values i
  else-values (st.else_block b) = block-values b

-- ---- classes and programs

module _ (m : Counts) where
  abbrev Begun : Site → Type 0
  Begun w = (w.locals ≡ 0) × (w.returns ≡ 0)

  begun-low : (w : Site) → Begun w → IsLow m w 0 0
  begun-low w begun = let a = begun.0 in let b = begun.1 in (omega arith, omega arith)

  body-few : (w : Site) → Begun w → (b : BlockTree) → AreFew m (f.forms_of_body w b)
      → wrap.returns_in_block b ≤ m.returns
  body-few w begun b few =
      let low = body-low m w b (begun-low w begun) few in
      let values = block-values b in
      let zero_returns = begun.1 in
      omega arith

  function-few : (w : Site) → Begun w → (g : FunctionTree) → AreFew m (p.forms_of_function w g)
      → wrap.returns_in_block g.body ≤ m.returns
  function-few w begun g few =
      body-few (p.with_params w g.params) begun g.body (few-back m (p.forms_of_params w 0 g.params) _ few.1)

  item-few : (w : Site) → Begun w
      → (base : Option (Placed NameId)) (info : ClassInfo) (seen : ItemsSeen) (i : ItemTree)
      → AreFew m (p.forms_of_item w base info seen i) → returns_of i ≤ m.returns
  item-few w begun base info seen (tree.label at a) few = omega arith
  item-few w begun base info seen (tree.member q) few = omega arith
  item-few w begun base info seen (tree.function g) few =
      function-few (p.in_function w g.result.item) begun g few.1.1.1
  item-few w begun base info seen (tree.ctor k) few =
      let inner = p.with_params (p.in_lifecycle w) k.params in
      let rest1 = few-back m (p.forms_of_params (p.in_lifecycle w) 0 k.params) _ few.1.1 in
      let rest2 =
      few-back m (p.forms_without inner info k.name (classes.initialises_base base info k.inits)) _ rest1 in
      body-few inner begun k.body (few-back m (p.forms_of_inits inner base info [] k.inits) _ rest2)
  item-few w begun base info seen (tree.dtor k) few = body-few (p.in_lifecycle w) begun k.body few.1.1

  pub items-few : (w : Site) → Begun w
      → (base : Option (Placed NameId)) (info : ClassInfo) (seen : ItemsSeen) (is : List ItemTree)
      → AreFew m (p.forms_of_items w base info seen is) → Every (λ i. returns_of i ≤ m.returns) is
  items-few w begun base info seen [] few = tt
  items-few w begun base info seen (i ∷ is) few = (
    item-few w begun base info seen i (few-front m (p.forms_of_item w base info seen i) _ few),
    items-few w begun
        base info (classes.next_seen i seen) is (few-back m (p.forms_of_item w base info seen i) _ few),
  )

-- ---- the most values that a function returns

pub returns-above : (k : ℕ) (is : List ItemTree)
    → (k ≤ most_returns k is) × Every (λ i. returns_of i ≤ most_returns k is) is
returns-above k [] = (omega arith, tt)
returns-above k (i ∷ is) = let rest = returns-above (max k (returns_of i)) is in (omega arith, (omega arith, rest.1))

pub returns-below : (k most : ℕ) (is : List ItemTree) → k ≤ most → Every (λ i. returns_of i ≤ most) is
    → most_returns k is ≤ most
returns-below k most [] low few = low
returns-below k most (i ∷ is) low few =
    returns-below (max k (returns_of i)) most is (let here = few.0 in omega arith) few.1
