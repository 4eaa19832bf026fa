-- What is left of wrapped bodies once generated statements are dropped.
use Rattle.std.proofs.Common.{◌≡◌, ◌≤◌, ◌<◌, ℕ, suc, ◌+◌, refl, sym, ap, ◌∙◌, arith, Bool, true, false, ◌&&◌, true≢false, if◌then◌else◌, nat_eq, codes, List, [], ◌∷◌, ◌++◌, map, reverse, Option, Some, None}
use Rattle.std.specs.List.{starts_with}
use Rattle.std.proofs.lemmas.List.{append-nil, append_assoc}
use Rattle.agxx_base.specs.declared.ids.NameId.{NameId}
use Rattle.agxx_base.specs.declared.place.Place.{Place}
use Rattle.cxx_tree.specs.declared.node.Placed.{Placed}
use Rattle.cxx_tree.specs.declared.expr.Callee.{Callee}
use Rattle.cxx_tree.specs.declared.expr.Callee.TheVariants as callee_of
use Rattle.cxx_tree.specs.declared.program.TypeName.{TypeName}
use Rattle.cxx_tree.specs.Limits.{Every}
use Rattle.cxx_tree.specs.ExprTree as e
use Rattle.cxx_tree.specs.ExprTree.{ExprTree}
use Rattle.cxx_tree.specs.StmtTree as s
use Rattle.cxx_tree.specs.StmtTree.{SimpleTree, StmtTree, StmtTrees, BlockTree, IfTree, ElseTree, listed_stmts}
use Rattle.cxx_distinct.specs.NamesIn as n
use Rattle.cxx_normal.specs.Entry.{ends_with_return}
use Rattle.cxx_make.specs.Generated.{text_of}
use Rattle.cxx_make.specs.Made as made
use Rattle.entry_count.specs.PartCode.{enter, leave}
use Rattle.entry_count.specs.Wrapping as w
use Rattle.protect_laws.specs.Exits.{callee_name}
use Rattle.protect_laws.specs.Strip as z
use Rattle.protect_laws.specs.Strip.{begins_generated, is_generated, is_value, Waiting, stripped_stmts}
use Rattle.protect_laws.proofs.Exits.{front-of, back-of}
use Rattle.protect_laws.proofs.Shapes.{calls, entering-is, leaving-is, returns_value, returning-is, end-is, value_local}

abbrev pub list_of : StmtTrees → List StmtTree
list_of s.no_stmts = []
list_of (s.more_stmts first rest) = first ∷ list_of rest

pub listed-list : (ts : StmtTrees) → listed_stmts (list_of ts) ≡ ts
listed-list s.no_stmts = refl
listed-list (s.more_stmts first rest) = ap (s.more_stmts first) (listed-list rest)

same-number : (k : ℕ) → nat_eq k k ≡ true
same-number k = grind arith

-- what begins with a text begins with its beginning
longer-begins : (p q xs : List ℕ) → starts_with nat_eq xs (p ++ q) ≡ true → starts_with nat_eq xs p ≡ true
longer-begins [] q [] is = refl
longer-begins [] q (x ∷ xs) is = refl
longer-begins (a ∷ p) q [] is = is
longer-begins (a ∷ p) q (x ∷ xs) is = by (nat_eq a x) (longer-begins p q xs) is
  where
    by : (b : Bool) → (starts_with nat_eq xs (p ++ q) ≡ true → starts_with nat_eq xs p ≡ true)
        → (b && starts_with nat_eq xs (p ++ q)) ≡ true → (b && starts_with nat_eq xs p) ≡ true
    by true rest e = rest e
    by false rest e = e

value-begins : (text : List ℕ) → starts_with nat_eq text (codes "__gop_r_") ≡ true → begins_generated text ≡ true
value-begins text is = longer-begins (codes "__gop_") (codes "r_") text is

module _ (names : List (List ℕ)) where
  abbrev pub NotGenerated : List (Placed NameId) → Type 0
  NotGenerated ns = Every (λ (x : Placed NameId). is_generated names x.item ≡ false) ns

  pub front : (ns others : List (Placed NameId)) → NotGenerated (ns ++ others) → NotGenerated ns
  front ns others all = front-of (λ (x : Placed NameId). is_generated names x.item ≡ false) ns others all

  pub back : (ns others : List (Placed NameId)) → NotGenerated (ns ++ others) → NotGenerated others
  back ns others all = back-of (λ (x : Placed NameId). is_generated names x.item ≡ false) ns others all

  callee-own : (callee : Callee) → NotGenerated (n.names_in_callee callee) → is_generated names (callee_name callee)
      ≡ false
  callee-own (callee_of.Bare r) own = own.0
  callee-own (callee_of.Member q) own = (back (n.names_in_base q.base) _ own).0

  call-own : (i : SimpleTree) → NotGenerated (n.names_in_simple i) → z.is_generated_call names i ≡ false
  call-own (s.assign a) own = refl
  call-own (s.bump b) own = refl
  call-own (s.call_stmt (e.calls node callee arguments)) own =
      callee-own callee (front (n.names_in_callee callee) _ own)
  call-own (s.proceed at) own = refl

  not-value : (name : NameId) → is_generated names name ≡ false → is_value names name ≡ false
  not-value name own = by (is_value names name) refl
    where
      by : (b : Bool) → is_value names name ≡ b → b ≡ false
      by false e = refl
      by true e = absurd (true≢false (sym (value-begins (text_of names name) e) ∙ own))

  local-own : (l : s.LocalTree) → NotGenerated (n.names_in_local l) → is_value names l.name.item ≡ false
  local-own l own = not-value l.name.item (back (n.names_in_type l.type_name) _ own).0

  for-body : (start : Option s.StartTree) (condition : Option ExprTree) (step : Option SimpleTree) (body : BlockTree)
      → NotGenerated (n.names_in_optional n.names_in_start start
      ++ (n.names_in_optional n.names_in_expr condition
      ++ (n.names_in_optional n.names_in_simple step ++ n.names_in_block body))) → NotGenerated (n.names_in_block body)
  for-body start condition step body own =
      back (n.names_in_optional n.names_in_simple step) _
      (back (n.names_in_optional n.names_in_expr condition) _ (back (n.names_in_optional n.names_in_start start) _ own))

  -- ---- statements as they are

  mutual
    stmt-plain : (t : StmtTree) (rest : StmtTrees) → NotGenerated (n.names_in_stmt t)
        → stripped_stmts names None (s.more_stmts t rest) ≡ t ∷ stripped_stmts names None rest
    stmt-plain (s.block b) rest own = ap (λ x. s.block x ∷ stripped_stmts names None rest) (block-plain b own)
    stmt-plain (s.local l) rest own = rw (local-own l own) refl
    stmt-plain (s.simple i) rest own = rw (call-own i own) refl
    stmt-plain (s.branch i) rest own = ap (λ x. s.branch x ∷ stripped_stmts names None rest) (if-plain i own)
    stmt-plain (s.while at condition body) rest own =
        ap (λ x. s.while at condition x ∷ stripped_stmts names None rest)
        (block-plain body (back (n.names_in_expr condition) _ own))
    stmt-plain (s.for at start condition step body) rest own =
        ap (λ x. s.for at start condition step x ∷ stripped_stmts names None rest)
        (block-plain body (for-body start condition step body own))
    stmt-plain (s.return at None) rest own = refl
    stmt-plain (s.return at (Some value)) rest own = refl
    stmt-plain (s.delete at pointer) rest own = refl
    stmt-plain (s.print q) rest own = refl
    stmt-plain (s.thread t) rest own = refl
    stmt-plain (s.abort at) rest own = refl

    stmts-plain : (ts : StmtTrees) → NotGenerated (n.names_in_stmts ts) → stripped_stmts names None ts ≡ list_of ts
    stmts-plain s.no_stmts own = refl
    stmts-plain (s.more_stmts first rest) own =
        stmt-plain first rest (front (n.names_in_stmt first) _ own)
        ∙ ap (λ x. first ∷ x) (stmts-plain rest (back (n.names_in_stmt first) _ own))

    pub block-plain : (b : BlockTree) → NotGenerated (n.names_in_block b) → z.stripped_block names b ≡ b
    block-plain (s.braces at ts) own =
        ap (λ x. s.braces at (listed_stmts x)) (stmts-plain ts own) ∙ ap (s.braces at) (listed-list ts)

    if-plain : (i : IfTree) → NotGenerated (n.names_in_if i) → z.stripped_if names i ≡ i
    if-plain (s.chooses at condition body otherwise) own =
        let others = back (n.names_in_expr condition) _ own in
        ap (λ x. s.chooses at condition x (z.stripped_else names otherwise))
        (block-plain body (front (n.names_in_block body) _ others))
        ∙ ap (s.chooses at condition body) (else-plain otherwise (back (n.names_in_block body) _ others))

    else-plain : (x : ElseTree) → NotGenerated (n.names_in_else x) → z.stripped_else names x ≡ x
    else-plain s.no_else own = refl
    else-plain (s.else_if i) own = ap s.else_if (if-plain i own)
    else-plain (s.else_block b) own = ap s.else_block (block-plain b own)

  -- ---- calls that are generated

  calls-dropped : (of : NameId → NameId) (at : Place) (classes : List NameId)
      → Every (λ class. is_generated names (of class) ≡ true) classes → (waiting : Waiting) (rest : List StmtTree)
      → stripped_stmts names waiting (listed_stmts (map (λ class. made.call at (of class)) classes ++ rest))
      ≡ stripped_stmts names waiting (listed_stmts rest)
  calls-dropped of at [] all waiting rest = refl
  calls-dropped of at (class ∷ classes) all waiting rest = rw (all.0) (calls-dropped of at classes all.1 waiting rest)

  -- ---- wrapped statements

  module _ (result : TypeName) (parts : List NameId) (most : ℕ)
      (leaves : Every (λ class. is_generated names (leave names class) ≡ true) (reverse parts))
      (values : (k : ℕ) → k < most → is_value names (value_local names (suc k)) ≡ true) where
    abbrev after_leaves : Waiting → StmtTree → List StmtTree → List StmtTree
    after_leaves waiting t rest =
        z.stripped_stmt names waiting t ++ stripped_stmts names (z.waiting_after names waiting t) (listed_stmts rest)

    exit-stripped : (at : Place) (waiting : Waiting) (t : StmtTree) (rest : List StmtTree)
        → stripped_stmts names waiting (listed_stmts ((calls (leave names) at (reverse parts) ++ t ∷ []) ++ rest))
        ≡ after_leaves waiting t rest
    exit-stripped at waiting t rest =
        ap (λ x. stripped_stmts names waiting (listed_stmts x))
        (append_assoc (calls (leave names) at (reverse parts)) (t ∷ []) rest)
        ∙ calls-dropped (leave names) at (reverse parts) leaves waiting (t ∷ rest)

    value-stripped : (k : ℕ) → k < most → (at : Place) (value : ExprTree) (rest : List StmtTree)
        → stripped_stmts names None (listed_stmts (returns_value names parts result at (suc k) value ++ rest))
        ≡ s.return at (Some value) ∷ stripped_stmts names None (listed_stmts rest)
    value-stripped k below at value rest =
        let name = value_local names (suc k) in
        let l : s.LocalTree = record {
          type_name = made.placed at result;
          name = made.placed at name;
          initial =
              Some (record { sign = at; value = value });
        } in
        rw (values k below) (exit-stripped at (Some (l, value)) (s.return at (Some (made.variable at name))) rest
        ∙ rw (same-number name.0) refl)

    mutual
      stmt-stripped : (k : ℕ) (t : StmtTree) (rest : List StmtTree) → k + w.returns_in t ≤ most
          → NotGenerated (n.names_in_stmt t)
          → stripped_stmts names None (listed_stmts (w.wrapped names result parts k t ++ rest)) ≡ t
          ∷ stripped_stmts names None (listed_stmts rest)
      stmt-stripped k (s.block b) rest within own =
          ap (λ x. s.block x ∷ stripped_stmts names None (listed_stmts rest)) (block-stripped k b within own)
      stmt-stripped k (s.local l) rest within own = rw (local-own l own) refl
      stmt-stripped k (s.simple i) rest within own = rw (call-own i own) refl
      stmt-stripped k (s.branch i) rest within own =
          ap (λ x. s.branch x ∷ stripped_stmts names None (listed_stmts rest)) (if-stripped k i within own)
      stmt-stripped k (s.while at condition body) rest within own =
          ap (λ x. s.while at condition x ∷ stripped_stmts names None (listed_stmts rest))
          (block-stripped k body within (back (n.names_in_expr condition) _ own))
      stmt-stripped k (s.for at start condition step body) rest within own =
          ap (λ x. s.for at start condition step x ∷ stripped_stmts names None (listed_stmts rest))
          (block-stripped k body within (for-body start condition step body own))
      stmt-stripped k (s.return at None) rest within own =
          ap (λ xs. stripped_stmts names None (listed_stmts ((xs ++ s.return at None ∷ []) ++ rest)))
          (leaving-is names parts at) ∙ exit-stripped at None (s.return at None) rest
      stmt-stripped k (s.return at (Some value)) rest within own =
          ap (λ xs. stripped_stmts names None (listed_stmts (xs ++ rest)))
          (returning-is names parts result at (suc k) value) ∙ value-stripped k (omega arith) at value rest
      stmt-stripped k (s.delete at pointer) rest within own = refl
      stmt-stripped k (s.print q) rest within own = refl
      stmt-stripped k (s.thread t) rest within own = refl
      stmt-stripped k (s.abort at) rest within own = refl

      stmts-stripped : (k : ℕ) (ts : StmtTrees) (rest : List StmtTree) → k + w.returns_in_stmts ts ≤ most
          → NotGenerated (n.names_in_stmts ts)
          → stripped_stmts names None (listed_stmts (w.wrapped_stmts names result parts k ts ++ rest)) ≡ list_of ts
          ++ stripped_stmts names None (listed_stmts rest)
      stmts-stripped k s.no_stmts rest within own = refl
      stmts-stripped k (s.more_stmts first others) rest within own =
          ap (λ x. stripped_stmts names None (listed_stmts x))
          (append_assoc (w.wrapped names result parts k first)
          (w.wrapped_stmts names result parts (k + w.returns_in first) others) rest)
          ∙ stmt-stripped k first (w.wrapped_stmts names result parts (k + w.returns_in first) others ++ rest)
          (omega arith) (front (n.names_in_stmt first) _ own)
          ∙ ap (λ x. first ∷ x) (stmts-stripped (k + w.returns_in first) others rest (omega arith)
          (back (n.names_in_stmt first) _ own))

      block-stripped : (k : ℕ) (b : BlockTree) → k + w.returns_in_block b ≤ most → NotGenerated (n.names_in_block b)
          → z.stripped_block names (w.wrapped_block names result parts k b) ≡ b
      block-stripped k (s.braces at ts) within own =
          let all = w.wrapped_stmts names result parts k ts in
          ap (λ x. s.braces at (listed_stmts x)) (ap (λ x. stripped_stmts names None (listed_stmts x))
          (sym (append-nil all)) ∙ stmts-stripped k ts [] within own ∙ append-nil (list_of ts))
          ∙ ap (s.braces at) (listed-list ts)

      if-stripped : (k : ℕ) (i : IfTree) → k + w.returns_in_if i ≤ most → NotGenerated (n.names_in_if i)
          → z.stripped_if names (w.wrapped_if names result parts k i) ≡ i
      if-stripped k (s.chooses at condition body otherwise) within own =
          let others = back (n.names_in_expr condition) _ own in
          let first = block-stripped k body (omega arith) (front (n.names_in_block body) _ others) in
          let second = else-stripped (k + w.returns_in_block body) otherwise (omega arith)
          (back (n.names_in_block body) _ others) in
          ap (λ x. s.chooses at condition x (z.stripped_else names
          (w.wrapped_else names result parts (k + w.returns_in_block body) otherwise))) first
          ∙ ap (s.chooses at condition body) second

      else-stripped : (k : ℕ) (x : ElseTree) → k + w.returns_in_else x ≤ most → NotGenerated (n.names_in_else x)
          → z.stripped_else names (w.wrapped_else names result parts k x) ≡ x
      else-stripped k s.no_else within own = refl
      else-stripped k (s.else_if i) within own = ap s.else_if (if-stripped k i within own)
      else-stripped k (s.else_block b) within own = ap s.else_block (block-stripped k b within own)

    end-stripped : (at : Place) (ts : StmtTrees) → stripped_stmts names None
        (listed_stmts (w.at_end names result parts at ts)) ≡ []
    end-stripped at ts =
        ap (λ xs. stripped_stmts names None (listed_stmts xs)) (end-is names parts result at ts)
        ∙ by (ends_with_return false ts)
      where
        by : (b : Bool) → stripped_stmts names None (listed_stmts
            (if b then [] else calls (leave names) at (reverse parts))) ≡ []
        by true = refl
        by false =
            ap (λ x. stripped_stmts names None (listed_stmts x))
            (sym (append-nil (calls (leave names) at (reverse parts))))
            ∙ calls-dropped (leave names) at (reverse parts) leaves None []

    module _ (enters : Every (λ class. is_generated names (enter names class) ≡ true) parts) where
      entered-stripped : (b : BlockTree) → w.returns_in_block b ≤ most → NotGenerated (n.names_in_block b)
          → z.stripped_block names (w.entered names result parts b) ≡ b
      entered-stripped (s.braces at ts) within own =
          let end = w.at_end names result parts at ts in
          let inner = w.wrapped_stmts names result parts 0 ts ++ end in
          let one = ap (λ xs. stripped_stmts names None (listed_stmts (xs ++ inner))) (entering-is names parts at)
          ∙ calls-dropped (enter names) at parts enters None inner in
          let two = stmts-stripped 0 ts end (omega arith) own in
          let three = ap (λ x. list_of ts ++ x) (end-stripped at ts) ∙ append-nil (list_of ts) in
          ap (λ x. s.braces at (listed_stmts x)) (one ∙ two ∙ three) ∙ ap (s.braces at) (listed-list ts)

  pub body-stripped : (result : TypeName) (parts : List NameId) (most : ℕ)
      → Every (λ class. is_generated names (leave names class) ≡ true) (reverse parts)
      → ((k : ℕ) → k < most → is_value names (value_local names (suc k)) ≡ true)
      → Every (λ class. is_generated names (enter names class) ≡ true) parts
      → (b : BlockTree) → w.returns_in_block b ≤ most → NotGenerated (n.names_in_block b)
      → z.stripped_block names (w.wrapped_body names result parts b) ≡ b
  body-stripped result [] most leaves values enters b within own = block-plain b own
  body-stripped result (class ∷ classes) most leaves values enters b within own =
      entered-stripped result (class ∷ classes) most leaves values enters b within own
