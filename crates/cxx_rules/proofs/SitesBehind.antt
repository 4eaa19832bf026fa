-- Sites behind statements: the scope grows, and what grew is out of scope behind its block.
use Rattle.std.proofs.Common.{◌≡◌, refl, ap, sym, ◌∙◌, ℕ, ◌+◌, Bool, true, false, List, [], ◌∷◌, ◌++◌, length, take, Option, Some, None, arith, add-zero, append_assoc, if◌then◌else◌}
use Rattle.std.specs.Option.{is_some}
use Rattle.std.proofs.lemmas.List.{append-nil}
use Rattle.std.proofs.Math.Seq.{take-append_seam}
use Rattle.cxx_tree.specs.StmtTree as t
use Rattle.cxx_tree.specs.StmtTree.{StmtTree, StmtTrees, StartTree, BlockTree}
use Rattle.cxx_names.specs.declared.types.Thing.{Thing}
use Rattle.cxx_names.specs.declared.types.Thing.TheVariants as thing
use Rattle.cxx_names.specs.LookUp.{thing_of}
use Rattle.cxx_names.specs.Tables.{named, with_name}
use Rattle.cxx_rules.specs.Sites.{Site}
use Rattle.cxx_rules.specs.StmtForms.{scope_behind, scope_behind_start, locals_in, returns_in, locals_in_stmts, returns_in_stmts, further, behind, behind_start, locals_in_start}

abbrev pub placed : Site → List (ℕ × Thing) → ℕ → ℕ → Site
placed w scope locals returns = record w { scope = scope; locals = locals; returns = returns }

pub placed-same : (w : Site) (a b : List (ℕ × Thing)) (c d e f : ℕ) → a ≡ b → c ≡ d → e ≡ f → placed w a c e ≡ placed w b d f
placed-same w a b c d e f p q r = λ i. placed w (p i) (q i) (r i)

-- nothing is declared
pub stays : (w : Site) → w ≡ further w 0 0
stays w = placed-same w w.scope w.scope w.locals (w.locals + 0) w.returns (w.returns + 0) refl (sym (add-zero w.locals)) (sym (add-zero w.returns))

pub further-twice : (w : Site) (a b c d : ℕ) → further (further w a b) c d ≡ further w (a + c) (b + d)
further-twice w a b c d = placed-same w w.scope w.scope _ _ _ _ refl (omega arith) (omega arith)

-- ---- what is added to a scope

record Grows (old new : List (ℕ × Thing)) : Type 0 where
  more : List (ℕ × Thing)
  is : new ≡ old ++ more

named-grows : (b : Bool) (scope : List (ℕ × Thing)) (name : ℕ) (x : Thing) → Grows scope (if b then scope else scope ++ (name, x) ∷ [])
named-grows true scope name x = record { more = []; is = sym (append-nil scope) }
named-grows false scope name x = record { more = (name, x) ∷ []; is = refl }

with-name-grows : (scope : List (ℕ × Thing)) (name : ℕ) (x : Thing) → Grows scope (with_name scope name x)
with-name-grows scope name x = named-grows (is_some (named scope name)) scope name x

scope-grows : (w : Site) (s : StmtTree) → Grows w.scope (scope_behind w s)
scope-grows w (t.local l) = with-name-grows w.scope l.name.item.0 (thing_of w.declared l.type_name.item)
scope-grows w (t.thread k) = with-name-grows w.scope k.name.item.0 thing.Thread
scope-grows w _ = record { more = []; is = sym (append-nil w.scope) }

start-grows : (w : Site) (first : Option StartTree) → Grows w.scope (scope_behind_start w first)
start-grows w None = record { more = []; is = sym (append-nil w.scope) }
start-grows w (Some (t.start_local l)) = with-name-grows w.scope l.name.item.0 (thing_of w.declared l.type_name.item)
start-grows w (Some (t.start_simple i)) = record { more = []; is = sym (append-nil w.scope) }

-- what was in scope before is what is left of it
kept-by : (old new : List (ℕ × Thing)) → Grows old new → take (length old) new ≡ old
kept-by old new g = ap (take (length old)) g.is ∙ take-append_seam old g.more

-- ---- behind several statements

abbrev pub behind_stmts : Site → StmtTrees → Site
behind_stmts w t.no_stmts = w
behind_stmts w (t.more_stmts first rest) = behind_stmts (behind w first) rest

record Beyond (w : Site) (a b : ℕ) (v : Site) : Type 0 where
  more : List (ℕ × Thing)
  is : v ≡ placed w (w.scope ++ more) (w.locals + a) (w.returns + b)

beyond-next : (w : Site) (scope : List (ℕ × Thing)) (a b c d : ℕ) (v : Site) → Grows w.scope scope
    → Beyond (placed w scope (w.locals + a) (w.returns + b)) c d v → Beyond w (a + c) (b + d) v
beyond-next w scope a b c d v g next = record {
  more = g.more ++ next.more;
  is = next.is ∙ placed-same w _ _ _ _ _ _ (ap (λ l. l ++ next.more) g.is ∙ append_assoc w.scope g.more next.more) (omega arith) (omega arith);
}

beyond-stmts : (w : Site) (ss : StmtTrees) → Beyond w (locals_in_stmts ss) (returns_in_stmts ss) (behind_stmts w ss)
beyond-stmts w t.no_stmts = record {
  more = [];
  is = placed-same w _ _ _ _ _ _ (sym (append-nil w.scope)) (sym (add-zero w.locals)) (sym (add-zero w.returns));
}
beyond-stmts w (t.more_stmts first rest) =
    beyond-next w (scope_behind w first) (locals_in first) (returns_in first) (locals_in_stmts rest) (returns_in_stmts rest) _ (scope-grows w first) (beyond-stmts (behind w first) rest)

abbrev pub left_at : Site → List (ℕ × Thing) → Site
left_at v scope = record v { scope = take (length scope) v.scope }

left-by : (w : Site) (a b : ℕ) (v : Site) → Beyond w a b v → left_at v w.scope ≡ further w a b
left-by w a b v g = ap (λ u. left_at u w.scope) g.is ∙ placed-same w _ _ _ _ _ _ (take-append_seam w.scope g.more) refl refl

-- behind a block its own locals are out of scope
pub left-block : (w : Site) (ss : StmtTrees) → left_at (behind_stmts w ss) w.scope ≡ further w (locals_in_stmts ss) (returns_in_stmts ss)
left-block w ss = left-by w _ _ _ (beyond-stmts w ss)

-- behind a function all is as before
begins-by : (w : Site) (a b : ℕ) (v : Site) → Beyond w a b v → placed v [] 0 0 ≡ placed w [] 0 0
begins-by w a b v g = ap (λ u. placed u [] 0 0) g.is

pub left-function : (w : Site) (ss : StmtTrees) → placed (behind_stmts w ss) [] 0 0 ≡ placed w [] 0 0
left-function w ss = begins-by w _ _ _ (beyond-stmts w ss)

-- behind a `for` what began it is out of scope
pub left-start : (w : Site) (first : Option StartTree) (a b : ℕ)
    → left_at (further (behind_start w first) a b) w.scope ≡ placed w w.scope (w.locals + (locals_in_start first + a)) (w.returns + b)
left-start w first a b = placed-same w _ _ _ _ _ _ (kept-by w.scope _ (start-grows w first)) (omega arith) refl
