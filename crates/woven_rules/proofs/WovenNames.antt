-- The names that stand in wrapped bodies are those of the bodies, of functions of parts, and of locals for returned
-- values.
use Rattle.std.proofs.Common.{suc, sym, subst, ℕ, ◌+◌, ◌<◌, ◌≤◌, arith, Bool, true, false, if◌then◌else◌, List, [], ◌∷◌, ◌++◌, map, reverse, Option, Some, None}
use Rattle.agxx_base.specs.declared.ids.NameId.{NameId}
use Rattle.agxx_base.specs.declared.place.Place.{Place}
use Rattle.cxx_tree.specs.declared.node.Placed.{Placed}
use Rattle.cxx_tree.specs.declared.program.TypeName.{TypeName}
use Rattle.cxx_tree.specs.declared.program.TypeName.TheVariants as type_name
use Rattle.cxx_tree.specs.Limits.{Every}
use Rattle.cxx_tree.specs.ExprTree.{ExprTree}
use Rattle.cxx_tree.specs.StmtTree as s
use Rattle.cxx_tree.specs.StmtTree.{StmtTree, StmtTrees, BlockTree, IfTree, ElseTree, listed_stmts}
use Rattle.cxx_tree.specs.ProgramTree as tree
use Rattle.cxx_tree.specs.ProgramTree.{ItemTree}
use Rattle.cxx_normal.specs.Entry.{ends_with_return}
use Rattle.cxx_distinct.specs.NamesIn as n
use Rattle.cxx_make.specs.Made as made
use Rattle.entry_count.specs.PartCode.{enter, leave}
use Rattle.entry_count.specs.Wrapping as w
use Rattle.protect.specs.Protected as z
use Rattle.protect.specs.GeneratedNames.{returns_of}
use Rattle.woven_rules.proofs.Seen.{OwnNames, own-front, own-back}
use Rattle.woven_rules.proofs.Keys.{every-both}
use Rattle.woven_rules.proofs.WrappedRight.{value_at}
use Rattle.protect_laws.proofs.Shapes.{calls, entering-is, leaving-is, returning-is, end-is}

module _ (Q : ℕ → Type 0) where
  pub names-both : (xs ys : List (Placed NameId)) → OwnNames Q xs → OwnNames Q ys → OwnNames Q (xs ++ ys)
  names-both xs ys first rest = every-both (λ (x : Placed NameId). Q x.item.0) xs ys first rest

  -- the names in statements
  abbrev pub AllIn : List StmtTree → Type 0
  AllIn ts = OwnNames Q (n.names_in_stmts (listed_stmts ts))

  pub in-both : (xs ys : List StmtTree) → AllIn xs → AllIn ys → AllIn (xs ++ ys)
  in-both [] ys first rest = rest
  in-both (x ∷ xs) ys first rest =
      names-both (n.names_in_stmt x) _ (own-front Q (n.names_in_stmt x) _ first)
      (in-both xs ys (own-back Q (n.names_in_stmt x) _ first) rest)

  pub items-both : (is others : List ItemTree) → OwnNames Q (n.names_in_each n.names_in_item is)
      → OwnNames Q (n.names_in_each n.names_in_item others)
      → OwnNames Q (n.names_in_each n.names_in_item (is ++ others))
  items-both [] others one two = two
  items-both (i ∷ is) others one two =
      names-both (n.names_in_item i) _ (own-front Q (n.names_in_item i) _ one)
      (items-both is others (own-back Q (n.names_in_item i) _ one) two)

  pub one-in : (t : StmtTree) → OwnNames Q (n.names_in_stmt t) → AllIn (t ∷ [])
  one-in t own = names-both (n.names_in_stmt t) [] own tt

  calls-in : (of : NameId → NameId) (at : Place) (classes : List NameId)
      → Every (λ (class : NameId). Q (of class).0) classes → AllIn (calls of at classes)
  calls-in of at [] all = tt
  calls-in of at (class ∷ classes) all = (all.0, calls-in of at classes all.1)

  type-in : (a b : Place) (t : TypeName) → OwnNames Q (n.names_in_type_at a t) → OwnNames Q (n.names_in_type_at b t)
  type-in a b (type_name.Num kind) own = tt
  type-in a b type_name.Int own = tt
  type-in a b type_name.Unsigned own = tt
  type-in a b type_name.Void own = tt
  type-in a b (type_name.Pointer class) own = own
  type-in a b type_name.Mutex own = tt

  module _ (names : List (List ℕ)) (most : ℕ) (values : (k : ℕ) → k < most → Q (value_at names k).0)
      (parts : List NameId)
      (enters : Every (λ (class : NameId). Q (enter names class).0) parts)
      (leaves : Every (λ (class : NameId). Q (leave names class).0) (reverse parts)) where
    module _ (result : TypeName) (typed : (at : Place) → OwnNames Q (n.names_in_type_at at result)) where
      return-in : (k : ℕ) (at : Place) (x : Option ExprTree) → OwnNames Q (n.names_in_stmt (s.return at x))
          → k + w.returns_in (s.return at x) ≤ most → AllIn (w.wrapped names result parts k (s.return at x))
      return-in k at None own low =
          subst (λ xs. AllIn (xs ++ s.return at None ∷ [])) (sym (leaving-is names parts at))
          (in-both (calls (leave names) at (reverse parts)) (s.return at None ∷ [])
          (calls-in (leave names) at (reverse parts) leaves) tt)
      return-in k at (Some x) own low =
          let value = values k (omega arith) in
          let last : List StmtTree = s.return at (Some (made.variable at (value_at names k))) ∷ [] in
          let local : StmtTree = made.local at result (value_at names k) x in
          subst AllIn (sym (returning-is names parts result at (suc k) x))
          (names-both (n.names_in_stmt local) _ (names-both (n.names_in_type_at at result) _ (typed at) (value, own))
          (in-both (calls (leave names) at (reverse parts)) last (calls-in (leave names) at (reverse parts) leaves)
          (value, tt)))

      mutual
        stmt-in : (k : ℕ) (t : StmtTree) → OwnNames Q (n.names_in_stmt t) → k + w.returns_in t ≤ most
            → AllIn (w.wrapped names result parts k t)
        stmt-in k (s.block b) own low =
            one-in (s.block (w.wrapped_block names result parts k b)) (block-in k b own low)
        stmt-in k (s.local l) own low = one-in (s.local l) own
        stmt-in k (s.simple i) own low = one-in (s.simple i) own
        stmt-in k (s.branch i) own low = one-in (s.branch (w.wrapped_if names result parts k i)) (if-in k i own low)
        stmt-in k (s.while at x body) own low =
            one-in (s.while at x (w.wrapped_block names result parts k body))
            (names-both (n.names_in_expr x) _ (own-front Q (n.names_in_expr x) _ own)
            (block-in k body (own-back Q (n.names_in_expr x) _ own) low))
        stmt-in k (s.for at start x step body) own low =
            let first = n.names_in_optional n.names_in_start start in
            let second = n.names_in_optional n.names_in_expr x in
            let third = n.names_in_optional n.names_in_simple step in
            let rest = own-back Q first _ own in
            let more = own-back Q second _ rest in
            one-in (s.for at start x step (w.wrapped_block names result parts k body))
            (names-both first _ (own-front Q first _ own)
            (names-both second _ (own-front Q second _ rest)
            (names-both third _ (own-front Q third _ more) (block-in k body (own-back Q third _ more) low))))
        stmt-in k (s.return at None) own low = return-in k at None own low
        stmt-in k (s.return at (Some x)) own low = return-in k at (Some x) own low
        stmt-in k (s.delete at x) own low = one-in (s.delete at x) own
        stmt-in k (s.print q) own low = one-in (s.print q) own
        stmt-in k (s.thread t) own low = one-in (s.thread t) own
        stmt-in k (s.abort at) own low = tt

        stmts-in : (k : ℕ) (ts : StmtTrees) → OwnNames Q (n.names_in_stmts ts) → k + w.returns_in_stmts ts ≤ most
            → AllIn (w.wrapped_stmts names result parts k ts)
        stmts-in k s.no_stmts own low = tt
        stmts-in k (s.more_stmts first rest) own low =
            in-both (w.wrapped names result parts k first)
            (w.wrapped_stmts names result parts (k + w.returns_in first) rest)
            (stmt-in k first (own-front Q (n.names_in_stmt first) _ own) (omega arith))
            (stmts-in (k + w.returns_in first) rest (own-back Q (n.names_in_stmt first) _ own) (omega arith))

        block-in : (k : ℕ) (b : BlockTree) → OwnNames Q (n.names_in_block b) → k + w.returns_in_block b ≤ most
            → OwnNames Q (n.names_in_block (w.wrapped_block names result parts k b))
        block-in k (s.braces at ts) own low = stmts-in k ts own low

        if-in : (k : ℕ) (i : IfTree) → OwnNames Q (n.names_in_if i) → k + w.returns_in_if i ≤ most
            → OwnNames Q (n.names_in_if (w.wrapped_if names result parts k i))
        if-in k (s.chooses at x body otherwise) own low =
            let rest = own-back Q (n.names_in_expr x) _ own in
            names-both (n.names_in_expr x) _ (own-front Q (n.names_in_expr x) _ own)
            (names-both (n.names_in_block (w.wrapped_block names result parts k body)) _
            (block-in k body (own-front Q (n.names_in_block body) _ rest) (omega arith))
            (else-in (k + w.returns_in_block body) otherwise (own-back Q (n.names_in_block body) _ rest)
            (omega arith)))

        else-in : (k : ℕ) (x : ElseTree) → OwnNames Q (n.names_in_else x) → k + w.returns_in_else x ≤ most
            → OwnNames Q (n.names_in_else (w.wrapped_else names result parts k x))
        else-in k s.no_else own low = tt
        else-in k (s.else_if i) own low = if-in k i own low
        else-in k (s.else_block b) own low = block-in k b own low

      end-in : (at : Place) (ts : StmtTrees) → AllIn (w.at_end names result parts at ts)
      end-in at ts = subst AllIn (sym (end-is names parts result at ts)) (by (ends_with_return false ts))
        where
          by : (b : Bool) → AllIn (if b then [] else calls (leave names) at (reverse parts))
          by true = tt
          by false = calls-in (leave names) at (reverse parts) leaves

      entered-in : (b : BlockTree) → OwnNames Q (n.names_in_block b) → w.returns_in_block b ≤ most
          → OwnNames Q (n.names_in_block (w.entered names result parts b))
      entered-in (s.braces at ts) own low =
          in-both (w.entering names parts at)
          (w.wrapped_stmts names result parts 0 ts ++ w.at_end names result parts at ts)
          (subst AllIn (sym (entering-is names parts at)) (calls-in (enter names) at parts enters))
          (in-both (w.wrapped_stmts names result parts 0 ts) (w.at_end names result parts at ts)
          (stmts-in 0 ts own (omega arith)) (end-in at ts))

  body-in : (names : List (List ℕ)) (most : ℕ) → ((k : ℕ) → k < most → Q (value_at names k).0) → (parts : List NameId)
      → Every (λ (class : NameId). Q (enter names class).0) parts
      → Every (λ (class : NameId). Q (leave names class).0) (reverse parts)
      → (result : TypeName) → ((at : Place) → OwnNames Q (n.names_in_type_at at result)) → (b : BlockTree)
      → OwnNames Q (n.names_in_block b) → w.returns_in_block b ≤ most
      → OwnNames Q (n.names_in_block (w.wrapped_body names result parts b))
  body-in names most values [] enters leaves result typed b own low = own
  body-in names most values (class ∷ classes) enters leaves result typed b own low =
      entered-in names most values (class ∷ classes) enters leaves result typed b own low

  -- ---- items

  module _ (names : List (List ℕ)) (most : ℕ) (values : (k : ℕ) → k < most → Q (value_at names k).0)
      (parts : List NameId)
      (enters : Every (λ (class : NameId). Q (enter names class).0) parts)
      (leaves : Every (λ (class : NameId). Q (leave names class).0) (reverse parts)) where
    item-in : (i : ItemTree) → OwnNames Q (n.names_in_item i) → returns_of i ≤ most
        → OwnNames Q (n.names_in_item (z.wrapped_item names parts i))
    item-in (tree.label at a) own low = tt
    item-in (tree.member m) own low = own
    item-in (tree.function f) own low =
        let type = own-front Q (n.names_in_type f.result) _ own in
        let rest = own-back Q (n.names_in_type f.result) _ own in
        names-both (n.names_in_type f.result) _ type (
          rest.0,
          names-both (n.names_in_params f.params) _ (own-front Q (n.names_in_params f.params) _ rest.1)
              (body-in names most values parts enters leaves f.result.item
              (λ at. type-in f.result.at at f.result.item type) f.body
              (own-back Q (n.names_in_params f.params) _ rest.1) low),
        )
    item-in (tree.ctor c) own low =
        let rest = own-back Q (n.names_in_params c.params) _ own.1 in
        let inits = n.names_in_each n.names_in_init c.inits in (
          own.0,
          names-both (n.names_in_params c.params) _ (own-front Q (n.names_in_params c.params) _ own.1)
              (names-both inits _ (own-front Q inits _ rest)
              (body-in names most values parts enters leaves type_name.Void (λ at. tt) c.body
              (own-back Q inits _ rest) low)),
        )
    item-in (tree.dtor d) own low =
        (own.0, body-in names most values parts enters leaves type_name.Void (λ at. tt) d.body own.1 low)

    pub items-in : (is : List ItemTree) → OwnNames Q (n.names_in_each n.names_in_item is)
        → Every (λ i. returns_of i ≤ most) is
        → OwnNames Q (n.names_in_each n.names_in_item (map (z.wrapped_item names parts) is))
    items-in [] own low = tt
    items-in (i ∷ is) own low =
        names-both (n.names_in_item (z.wrapped_item names parts i)) _
        (item-in i (own-front Q (n.names_in_item i) _ own) low.0)
        (items-in is (own-back Q (n.names_in_item i) _ own) low.1)
