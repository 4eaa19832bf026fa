-- How expressions are kept: a number, what stands in them, and their parts.
use Rattle.std.specs.Prelude.{◌≡◌, ℕ, [], ◌∷◌, refl}
use base.Stored.{Gv, gnil, gnum, gcons, num}
use Rattle.agxx_base.specs.declared.ids.ClassId.{ClassId}
use Rattle.agxx_base.specs.declared.kind.NumKind.{NumKind}
use Rattle.agxx_base.specs.declared.place.Place.{Place}
use Rattle.cxx_tree.specs.declared.operator.BinOp.{BinOp}
use Rattle.cxx_tree.specs.declared.operator.UnOp.{UnOp}
use Rattle.cxx_names.specs.declared.types.ValueType.{ValueType}
use Rattle.cxx_core.specs.CoreExpr as c
use Rattle.cxx_core.specs.CoreExpr.{CoreExpr, CoreExprs}
use Rattle.cxx_core.specs.Kept.{Kept, kept_ℕ, kept×, pick}
use Rattle.cxx_core.specs.KeptParts.{kept_place, kept_class, kept_kind, kept_op, kept_unary, kept_type, kept_value, kept_left, kept_callee}

abbrev pub node : ℕ → Gv → Gv → Gv → Gv
node k d x y = gcons (gnum k) (gcons d (gcons x y))

abbrev pub kept_address : Kept (ℕ × ClassId)
kept_address = kept× kept_ℕ kept_class

abbrev pub kept_types : Kept (ValueType × ValueType)
kept_types = kept× kept_type kept_type

abbrev pub kept_one : Kept ((Place × UnOp) × ValueType)
kept_one = kept× (kept× kept_place kept_unary) kept_type

abbrev pub kept_two : Kept ((Place × BinOp) × (ValueType × ValueType))
kept_two = kept× (kept× kept_place kept_op) kept_types

abbrev pub kept_cast : Kept (NumKind × ValueType)
kept_cast = kept× kept_kind kept_type

abbrev pub kept_new : Kept (Place × ClassId)
kept_new = kept× kept_place kept_class

abbrev pub address_of : ℕ × ClassId → CoreExpr
address_of d = c.address d.0 d.1

abbrev pub unary_of : (Place × UnOp) × ValueType → CoreExpr → CoreExpr
unary_of d a = c.unary d.0.0 d.0.1 d.1 a

abbrev pub binary_of : (Place × BinOp) × (ValueType × ValueType) → CoreExpr → CoreExpr → CoreExpr
binary_of d a b = c.binary d.0.0 d.0.1 d.1.0 d.1.1 a b

abbrev pub and_of : ValueType × ValueType → CoreExpr → CoreExpr → CoreExpr
and_of d a b = c.and d.0 d.1 a b

abbrev pub or_of : ValueType × ValueType → CoreExpr → CoreExpr → CoreExpr
or_of d a b = c.or d.0 d.1 a b

abbrev pub cast_of : NumKind × ValueType → CoreExpr → CoreExpr
cast_of d a = c.cast d.0 d.1 a

abbrev pub new_of : Place × ClassId → CoreExprs → CoreExpr
new_of d es = c.new d.0 d.1 es

abbrev mutual
  pub write_expr : CoreExpr → Gv
  write_expr (c.number v) = node 0 (kept_value.write v) gnil gnil
  write_expr c.null = node 1 gnil gnil gnil
  write_expr (c.this class) = node 2 (kept_class.write class) gnil gnil
  write_expr (c.read l) = node 3 (kept_left.write l) gnil gnil
  write_expr (c.address name class) = node 4 (kept_address.write (name, class)) gnil gnil
  write_expr (c.unary at o s a) = node 5 (kept_one.write ((at, o), s)) (write_expr a) gnil
  write_expr (c.binary at o s r a b) = node 6 (kept_two.write ((at, o), (s, r))) (write_expr a) (write_expr b)
  write_expr (c.and s r a b) = node 7 (kept_types.write (s, r)) (write_expr a) (write_expr b)
  write_expr (c.or s r a b) = node 8 (kept_types.write (s, r)) (write_expr a) (write_expr b)
  write_expr (c.cast k s a) = node 9 (kept_cast.write (k, s)) (write_expr a) gnil
  write_expr (c.call f es) = node 10 (kept_callee.write f) gnil (write_exprs es)
  write_expr (c.new at class es) = node 11 (kept_new.write (at, class)) gnil (write_exprs es)
  write_expr (c.wrong at) = node 12 (kept_place.write at) gnil gnil

  pub write_exprs : CoreExprs → Gv
  write_exprs c.no_exprs = gnil
  write_exprs (c.more_exprs e es) = gcons (write_expr e) (write_exprs es)

abbrev pub expr_at : Gv → CoreExpr → CoreExpr → CoreExprs → ℕ → CoreExpr
expr_at d a b es k =
    pick (c.wrong (kept_place.read d))
    (c.number (kept_value.read d) ∷ c.null ∷ c.this (kept_class.read d) ∷ c.read (kept_left.read d) ∷ address_of (kept_address.read d)
    ∷ unary_of (kept_one.read d) a ∷ binary_of (kept_two.read d) a b ∷ and_of (kept_types.read d) a b
    ∷ or_of (kept_types.read d) a b ∷ cast_of (kept_cast.read d) a ∷ c.call (kept_callee.read d) es
    ∷ new_of (kept_new.read d) es ∷ [])
    k

abbrev mutual
  pub read_expr : Gv → CoreExpr
  read_expr (gcons k (gcons d (gcons x y))) = expr_at d (read_expr x) (read_expr y) (read_exprs y) (num k)
  read_expr _ = c.null

  pub read_exprs : Gv → CoreExprs
  read_exprs (gcons x y) = c.more_exprs (read_expr x) (read_exprs y)
  read_exprs _ = c.no_exprs

mutual
  pub expr-same : (e : CoreExpr) → read_expr (write_expr e) ≡ e
  expr-same (c.number v) = λ i. c.number (kept_value.same v i)
  expr-same c.null = refl
  expr-same (c.this class) = refl
  expr-same (c.read l) = λ i. c.read (kept_left.same l i)
  expr-same (c.address name class) = refl
  expr-same (c.unary at o s a) = λ i. unary_of (kept_one.same ((at, o), s) i) (expr-same a i)
  expr-same (c.binary at o s r a b) = λ i. binary_of (kept_two.same ((at, o), (s, r)) i) (expr-same a i) (expr-same b i)
  expr-same (c.and s r a b) = λ i. and_of (kept_types.same (s, r) i) (expr-same a i) (expr-same b i)
  expr-same (c.or s r a b) = λ i. or_of (kept_types.same (s, r) i) (expr-same a i) (expr-same b i)
  expr-same (c.cast k s a) = λ i. cast_of (kept_cast.same (k, s) i) (expr-same a i)
  expr-same (c.call f es) = λ i. c.call (kept_callee.same f i) (exprs-same es i)
  expr-same (c.new at class es) = λ i. c.new at class (exprs-same es i)
  expr-same (c.wrong at) = refl

  pub exprs-same : (es : CoreExprs) → read_exprs (write_exprs es) ≡ es
  exprs-same c.no_exprs = refl
  exprs-same (c.more_exprs e es) = λ i. c.more_exprs (expr-same e i) (exprs-same es i)

abbrev pub kept_expr : Kept CoreExpr
kept_expr = record { write = write_expr; read = read_expr; same = expr-same }

abbrev pub kept_exprs : Kept CoreExprs
kept_exprs = record { write = write_exprs; read = read_exprs; same = exprs-same }
