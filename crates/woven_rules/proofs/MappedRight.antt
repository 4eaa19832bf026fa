-- Statements that violate no rule violate none once each `return` has become others that violate none.
use Rattle.std.proofs.Common.{◌≡◌, ◌≢◌, refl, sym, ap, ◌∙◌, subst, ℕ, ◌+◌, ◌≤◌, ◌<◌, arith, Bool, false, List, [], ◌∷◌, ◌++◌, Option, Some, None, append_assoc}
use Rattle.std.proofs.lemmas.List.{append-nil}
use Rattle.agxx_base.specs.declared.ids.NameId.{NameId}
use Rattle.agxx_base.specs.declared.place.Place.{Place}
use Rattle.cxx_tree.specs.ExprTree.{ExprTree}
use Rattle.cxx_tree.specs.StmtTree as s
use Rattle.cxx_tree.specs.StmtTree.{LocalTree, StartTree, StmtTree, StmtTrees, BlockTree, IfTree, ElseTree, listed_stmts}
use Rattle.cxx_names.specs.declared.declarations.Declared.{Declared}
use Rattle.cxx_names.specs.declared.types.Thing.{Thing}
use Rattle.cxx_names.specs.declared.types.Thing.TheVariants as thing
use Rattle.cxx_names.specs.LookUp.{thing_of}
use Rattle.cxx_names.specs.Tables.{named, with_name}
use Rattle.cxx_distinct.specs.NamesIn as n
use Rattle.cxx_types.specs.declared.context.Context.{Context}
use Rattle.cxx_rules.specs.Sites.{Site}
use Rattle.cxx_rules.specs.Forms as form
use Rattle.cxx_rules.specs.StmtForms as f
use Rattle.entry_count.specs.Wrapping as e
use Rattle.woven_rules.proofs.Tables.{same-with, named-other}
use Rattle.woven_rules.proofs.Right.{Rights, front, back, joined}
use Rattle.woven_rules.proofs.Wider.{thing-same}
use Rattle.woven_rules.proofs.Seen.{OwnNames, own-front, own-back, Both, source, woven}
use Rattle.woven_rules.proofs.MovedExpressions.{expr-right}
use Rattle.woven_rules.proofs.MovedStatements.{local-right, simple-right, print-right, thread-right, deleted-right, optional-right, start-right, step-right}
use Rattle.woven_rules.proofs.Mapped.{Returning, mapped, mapped_stmts, mapped_block, mapped_if, mapped_else}

-- `value k` is the name of a local for a returned value that k others stand before, up to this many
module _ (Own : ℕ → Type 0) (most : ℕ) (value : ℕ → NameId) where
  -- no name of such a local from here on is in scope
  abbrev pub IsFresh : ℕ → List (ℕ × Thing) → Type 0
  IsFresh k t = (i : ℕ) → k ≤ i → i < most → named t (value i).0 ≡ None

  abbrev pub IsSame : List (ℕ × Thing) → List (ℕ × Thing) → Type 0
  IsSame s t = (j : ℕ) → Own j → named t j ≡ named s j

  -- the site at which these are in scope, and so many locals and `return`s stand before
  abbrev pub at_scope : Both Own → List (ℕ × Thing) → ℕ → ℕ → Site
  at_scope b t m n =
      record { names = b.after; declared = b.z; context = b.context; scope = t; locals = m; returns = n }

  -- what holds of statements that follow, where these are in scope in the program and so many returned values stand
  -- before
  abbrev pub Later : Both Own → Bool → List (ℕ × Thing) → ℕ → List StmtTree → Type 0
  Later b outermost s k others =
      (t : List (ℕ × Thing)) (m n : ℕ) → IsSame s t → IsFresh k t
      → Rights (f.forms_of_stmts (at_scope b t m n) outermost (listed_stmts others))

  module _ (Good : Declared → Declared → Context → Type 0) (ret : Returning) (Few : ℕ → ℕ → Type 0)
      (few-left : (k a b : ℕ) → Few k (a + b) → Few k a) (few-right : (k a b : ℕ) → Few k (a + b) → Few (k + a) b)
      (foreign : (i j : ℕ) → i < most → Own j → (value i).0 ≢ j)
      (ret-right : (b : Both Own) → Good b.d b.z b.context → (outermost : Bool) (k : ℕ) → IsFresh k b.t
      → (place : Place) (x : Option ExprTree) → Few k (e.returns_in (s.return place x))
      → OwnNames Own (n.names_in_stmt (s.return place x)) → Rights (f.forms_of_return (source Own b) place x)
      → (others : List StmtTree) → Later b outermost b.s (k + e.returns_in (s.return place x)) others
      → Rights (f.forms_of_stmts (woven Own b) outermost (listed_stmts (ret k place x ++ others)))) where
    fresh-with : (t : List (ℕ × Thing)) (k j : ℕ) (x : Thing) → Own j → IsFresh k t → IsFresh k (with_name t j x)
    fresh-with t k j x own fresh i above below =
        named-other t j x (value i).0 (foreign i j below own) ∙ fresh i above below

    fresh-later : (t : List (ℕ × Thing)) (k j : ℕ) → k ≤ j → IsFresh k t → IsFresh j t
    fresh-later t k j more fresh i above below = fresh i (omega arith) below

    same-local : (b : Both Own) (j : ℕ) (x y : Thing) → Own j → y ≡ x → IsSame (with_name b.s j x) (with_name b.t j y)
    same-local b j x y own same i other =
        ap (λ (u : Thing). named (with_name b.t j u) i) same ∙ same-with b.s b.t j x i (b.same i other)

    local-same : (b : Both Own) (l : LocalTree) → Own l.name.item.0
        → IsSame (f.scope_behind_local (source Own b) l) (f.scope_behind_local (woven Own b) l)
    local-same b l own =
        same-local b l.name.item.0 (thing_of b.d l.type_name.item) (thing_of b.z l.type_name.item) own
        (thing-same Own b.d b.z b.wide l.type_name.item)

    local-name : (l : LocalTree) → OwnNames Own (n.names_in_local l) → Own l.name.item.0
    local-name l own = (own-back Own (n.names_in_type l.type_name) _ own).0

    -- what a `for` begins with is in scope
    start-same : (b : Both Own) (o : Option StartTree) → OwnNames Own (n.names_in_optional n.names_in_start o)
        → IsSame (f.scope_behind_start (source Own b) o) (f.scope_behind_start (woven Own b) o)
    start-same b None own = b.same
    start-same b (Some (s.start_local l)) own = local-same b l (local-name l own)
    start-same b (Some (s.start_simple i)) own = b.same

    start-fresh : (b : Both Own) (k : ℕ) (o : Option StartTree)
        → OwnNames Own (n.names_in_optional n.names_in_start o) → IsFresh k b.t
        → IsFresh k (f.scope_behind_start (woven Own b) o)
    start-fresh b k None own fresh = fresh
    start-fresh b k (Some (s.start_local l)) own fresh =
        fresh-with b.t k l.name.item.0 (thing_of b.z l.type_name.item) (local-name l own) fresh
    start-fresh b k (Some (s.start_simple i)) own fresh = fresh

    mutual
      pub stmt-right : (b : Both Own) → Good b.d b.z b.context → (outermost : Bool) (k : ℕ) → IsFresh k b.t
          → (t : StmtTree) → Few k (e.returns_in t)
          → OwnNames Own (n.names_in_stmt t) → Rights (f.forms_of_stmt (source Own b) outermost t)
          → (others : List StmtTree) → Later b outermost (f.scope_behind (source Own b) t) (k + e.returns_in t) others
          → Rights (f.forms_of_stmts (woven Own b) outermost (listed_stmts (mapped ret k t ++ others)))
      stmt-right b good outermost k fresh (s.block body) few own h others later =
          joined (f.forms_of_block (woven Own b) (mapped_block ret k body)) _
          (block-right b good k fresh body few own h)
          (later b.t _ _ b.same (fresh-later b.t k _ (omega arith) fresh))
      stmt-right b good outermost k fresh (s.local l) few own h others later =
          joined (f.forms_of_local (woven Own b) l) _ (local-right Own b l own h)
          (later _ _ _ (local-same b l (local-name l own))
          (fresh-later _ k _ (omega arith)
          (fresh-with b.t k l.name.item.0 (thing_of b.z l.type_name.item) (local-name l own) fresh)))
      stmt-right b good outermost k fresh (s.simple i) few own h others later =
          joined (f.forms_of_simple (woven Own b) i) _ (simple-right Own b i own h)
          (later b.t _ _ b.same (fresh-later b.t k _ (omega arith) fresh))
      stmt-right b good outermost k fresh (s.branch i) few own h others later =
          joined (f.forms_of_if (woven Own b) (mapped_if ret k i)) _ (if-right b good k fresh i few own h)
          (later b.t _ _ b.same (fresh-later b.t k _ (omega arith) fresh))
      stmt-right b good outermost k fresh (s.while at condition body) few own h others later =
          joined (form.forms_of (woven Own b) condition ++ f.forms_of_block (woven Own b) (mapped_block ret k body)) _
          (joined (form.forms_of (woven Own b) condition) _
          (expr-right Own b condition (own-front Own (n.names_in_expr condition) _ own)
          (front (form.forms_of (source Own b) condition) _ h))
          (block-right b good k fresh body few (own-back Own (n.names_in_expr condition) _ own)
          (back (form.forms_of (source Own b) condition) _ h)))
          (later b.t _ _ b.same (fresh-later b.t k _ (omega arith) fresh))
      stmt-right b good outermost k fresh (s.for at start condition step body) few own h others later =
          let own1 = own-front Own (n.names_in_optional n.names_in_start start) _ own in
          let rest1 = own-back Own (n.names_in_optional n.names_in_start start) _ own in
          let own2 = own-front Own (n.names_in_optional n.names_in_expr condition) _ rest1 in
          let rest2 = own-back Own (n.names_in_optional n.names_in_expr condition) _ rest1 in
          let own3 = own-front Own (n.names_in_optional n.names_in_simple step) _ rest2 in
          let own4 = own-back Own (n.names_in_optional n.names_in_simple step) _ rest2 in
          let c : Both Own = record b {
            s = f.scope_behind_start (source Own b) start;
            t = f.scope_behind_start (woven Own b) start;
            same = start-same b start own1;
            l = b.l + f.locals_in_start start;
            m = b.m + f.locals_in_start start;
          } in
          let h1 = front (f.forms_of_optional (f.forms_of_start (source Own b)) start) _ h in
          let later1 = back (f.forms_of_optional (f.forms_of_start (source Own b)) start) _ h in
          let h2 = front (f.forms_of_optional (form.forms_of (source Own c)) condition) _ later1 in
          let later2 = back (f.forms_of_optional (form.forms_of (source Own c)) condition) _ later1 in
          let h3 = front (f.forms_of_optional (f.forms_of_simple (source Own c)) step) _ later2 in
          let h4 = back (f.forms_of_optional (f.forms_of_simple (source Own c)) step) _ later2 in
          joined
          (f.forms_of_optional (f.forms_of_start (woven Own b)) start
          ++ (f.forms_of_optional (form.forms_of (woven Own c)) condition
          ++ (f.forms_of_optional (f.forms_of_simple (woven Own c)) step
          ++ f.forms_of_block (woven Own c) (mapped_block ret k body)))) _
          (joined (f.forms_of_optional (f.forms_of_start (woven Own b)) start) _ (start-right Own b start own1 h1)
          (joined (f.forms_of_optional (form.forms_of (woven Own c)) condition) _
          (optional-right Own c condition own2 h2)
          (joined (f.forms_of_optional (f.forms_of_simple (woven Own c)) step) _ (step-right Own c step own3 h3)
          (block-right c good k (start-fresh b k start own1 fresh) body few own4 h4))))
          (later b.t _ _ b.same (fresh-later b.t k _ (omega arith) fresh))
      stmt-right b good outermost k fresh (s.return at value) few own h others later =
          ret-right b good outermost k fresh at value few own h others later
      stmt-right b good outermost k fresh (s.delete at pointer) few own h others later =
          joined (form.forms_of (woven Own b) pointer ++ form.deleted (woven Own b) at pointer ∷ []) _
          (joined (form.forms_of (woven Own b) pointer) _
          (expr-right Own b pointer own (front (form.forms_of (source Own b) pointer) _ h))
          (deleted-right Own b at pointer own (back (form.forms_of (source Own b) pointer) _ h).0, tt))
          (later b.t _ _ b.same (fresh-later b.t k _ (omega arith) fresh))
      stmt-right b good outermost k fresh (s.print q) few own h others later =
          joined (f.forms_of_print (woven Own b) q.operands) _ (print-right Own b q.operands own h)
          (later b.t _ _ b.same (fresh-later b.t k _ (omega arith) fresh))
      stmt-right b good outermost k fresh (s.thread x) few own h others later =
          joined (f.forms_of_thread (woven Own b) outermost x) _ (thread-right Own b outermost x own h)
          (later _ _ _ (same-local b x.name.item.0 thing.Thread thing.Thread own.0 refl)
          (fresh-later _ k _ (omega arith) (fresh-with b.t k x.name.item.0 thing.Thread own.0 fresh)))
      stmt-right b good outermost k fresh (s.abort at) few own h others later =
          later b.t _ _ b.same (fresh-later b.t k _ (omega arith) fresh)

      pub stmts-right : (b : Both Own) → Good b.d b.z b.context → (outermost : Bool) (k : ℕ) → IsFresh k b.t
          → (ts : StmtTrees) → Few k (e.returns_in_stmts ts)
          → OwnNames Own (n.names_in_stmts ts) → Rights (f.forms_of_stmts (source Own b) outermost ts)
          → (others : List StmtTree) → ((t : List (ℕ × Thing)) (m n : ℕ)
          → Rights (f.forms_of_stmts (at_scope b t m n) outermost (listed_stmts others)))
          → Rights (f.forms_of_stmts (woven Own b) outermost (listed_stmts (mapped_stmts ret k ts ++ others)))
      stmts-right b good outermost k fresh s.no_stmts few own h others last = last b.t b.m b.n
      stmts-right b good outermost k fresh (s.more_stmts first rest) few own h others last =
          subst (λ x. Rights (f.forms_of_stmts (woven Own b) outermost (listed_stmts x)))
          (sym (append_assoc (mapped ret k first) (mapped_stmts ret (k + e.returns_in first) rest) others))
          (stmt-right b good outermost k fresh first (few-left k (e.returns_in first) (e.returns_in_stmts rest) few)
          (own-front Own (n.names_in_stmt first) _ own)
          (front (f.forms_of_stmt (source Own b) outermost first) _ h)
          (mapped_stmts ret (k + e.returns_in first) rest ++ others)
          (λ t m j same still.
          stmts-right (record b {
            s = f.scope_behind (source Own b) first;
            t = t;
            same = same;
            l = b.l + f.locals_in
                first;
            r = b.r + f.returns_in first;
            m = m;
            n = j;
          }) good outermost (k + e.returns_in first) still rest
          (few-right k (e.returns_in first) (e.returns_in_stmts rest) few)
          (own-back Own (n.names_in_stmt first) _ own) (back (f.forms_of_stmt (source Own b) outermost first) _ h)
          others last))

      pub block-right : (b : Both Own) → Good b.d b.z b.context → (k : ℕ) → IsFresh k b.t → (x : BlockTree)
          → Few k (e.returns_in_block x)
          → OwnNames Own (n.names_in_block x) → Rights (f.forms_of_block (source Own b) x)
          → Rights (f.forms_of_block (woven Own b) (mapped_block ret k x))
      block-right b good k fresh (s.braces at ts) few own h =
          subst (λ x. Rights (f.forms_of_stmts (woven Own b) false (listed_stmts x)))
          (append-nil (mapped_stmts ret k ts))
          (stmts-right b good false k fresh ts few own h [] (λ t m j. tt))

      if-right : (b : Both Own) → Good b.d b.z b.context → (k : ℕ) → IsFresh k b.t → (i : IfTree)
          → Few k (e.returns_in_if i)
          → OwnNames Own (n.names_in_if i) → Rights (f.forms_of_if (source Own b) i)
          → Rights (f.forms_of_if (woven Own b) (mapped_if ret k i))
      if-right b good k fresh (s.chooses at condition body otherwise) few own h =
          let own1 = own-front Own (n.names_in_expr condition) _ own in
          let rest1 = own-back Own (n.names_in_expr condition) _ own in
          let own2 = own-front Own (n.names_in_block body) _ rest1 in
          let own3 = own-back Own (n.names_in_block body) _ rest1 in
          let later1 = back (form.forms_of (source Own b) condition) _ h in
          let c : Both Own = record b {
            l = b.l + f.locals_in_block body;
            r = b.r + f.returns_in_block body;
            m = b.m + f.locals_in_block (mapped_block ret k body);
            n = b.n + f.returns_in_block (mapped_block ret k body);
          } in
          joined (form.forms_of (woven Own b) condition) _
          (expr-right Own b condition own1 (front (form.forms_of (source Own b) condition) _ h))
          (joined (f.forms_of_block (woven Own b) (mapped_block ret k body)) _
          (block-right b good k fresh body
          (few-left k (e.returns_in_block body) (e.returns_in_else otherwise) few) own2
          (front (f.forms_of_block (source Own b) body) _ later1))
          (else-right c good (k + e.returns_in_block body) (fresh-later b.t k _ (omega arith) fresh) otherwise
          (few-right k (e.returns_in_block body) (e.returns_in_else otherwise) few) own3
          (back (f.forms_of_block (source Own b) body) _ later1)))

      else-right : (b : Both Own) → Good b.d b.z b.context → (k : ℕ) → IsFresh k b.t → (x : ElseTree)
          → Few k (e.returns_in_else x)
          → OwnNames Own (n.names_in_else x) → Rights (f.forms_of_else (source Own b) x)
          → Rights (f.forms_of_else (woven Own b) (mapped_else ret k x))
      else-right b good k fresh s.no_else few own h = tt
      else-right b good k fresh (s.else_if i) few own h = if-right b good k fresh i few own h
      else-right b good k fresh (s.else_block x) few own h = block-right b good k fresh x few own h
