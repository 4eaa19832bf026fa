-- How statements are kept: a number, what stands in them, and the statements in them.
use Rattle.std.specs.Prelude.{◌≡◌, ℕ, List, [], ◌∷◌, Option, refl}
use base.Stored.{Gv, gnil, gnum, gcons, num}
use Rattle.agxx_base.specs.declared.ids.ClassId.{ClassId}
use Rattle.agxx_base.specs.declared.kind.NumKind.{NumKind}
use Rattle.agxx_base.specs.declared.place.Place.{Place}
use Rattle.cxx_tree.specs.declared.operator.BinOp.{BinOp}
use Rattle.cxx_names.specs.declared.types.ValueType.{ValueType}
use Rattle.cxx_core.specs.CoreExpr.{CoreLeft, CoreExpr, CoreExprs}
use Rattle.cxx_core.specs.CoreStmt as cs
use Rattle.cxx_core.specs.CoreStmt.{CoreSource, CorePrinted, CoreMutex, CoreStmt, CoreStmts}
use Rattle.cxx_core.specs.Kept.{Kept, first_part, second_part, kept_ℕ, kept×, kept_option, kept_list, pick}
use Rattle.cxx_core.specs.KeptParts.{kept_place, kept_class, kept_kind, kept_type, kept_left}
use Rattle.cxx_core.specs.KeptExprs.{kept_two, kept_new, kept_expr, kept_exprs, write_expr, read_expr, expr-same}

abbrev pub kept_local : Kept (ℕ × ValueType)
kept_local = kept× kept_ℕ kept_type

abbrev pub copy_of : ℕ × ValueType → CoreSource
copy_of d = cs.copy d.0 d.1

abbrev pub write_source : CoreSource → Gv
write_source (cs.copy name s) = gcons (gnum 0) (kept_local.write (name, s))
write_source (cs.value e) = gcons (gnum 1) (write_expr e)

abbrev pub source_at : Gv → ℕ → CoreSource
source_at d k = pick (cs.value (read_expr d)) (copy_of (kept_local.read d) ∷ []) k

abbrev pub read_source : Gv → CoreSource
read_source g = source_at (second_part g) (num (first_part g))

pub source-same : (x : CoreSource) → read_source (write_source x) ≡ x
source-same (cs.copy name s) = λ i. copy_of (kept_local.same (name, s) i)
source-same (cs.value e) = λ i. cs.value (expr-same e i)

abbrev pub kept_source : Kept CoreSource
kept_source = record { write = write_source; read = read_source; same = source-same }

abbrev pub kept_text : Kept (Place × List ℕ)
kept_text = kept× kept_place (kept_list kept_ℕ)

abbrev pub kept_operand : Kept ((Place × NumKind) × CoreExpr)
kept_operand = kept× (kept× kept_place kept_kind) kept_expr

abbrev pub text_of : Place × List ℕ → CorePrinted
text_of d = cs.text d.0 d.1

abbrev pub operand_of : (Place × NumKind) × CoreExpr → CorePrinted
operand_of d = cs.operand d.0.0 d.0.1 d.1

abbrev pub write_printed : CorePrinted → Gv
write_printed (cs.text at bytes) = gcons (gnum 0) (kept_text.write (at, bytes))
write_printed (cs.endl at) = gcons (gnum 1) (kept_place.write at)
write_printed (cs.operand at k e) = gcons (gnum 2) (kept_operand.write ((at, k), e))
write_printed (cs.unprintable at) = gcons (gnum 3) (kept_place.write at)

abbrev pub printed_at : Gv → ℕ → CorePrinted
printed_at d k =
    pick (cs.unprintable (kept_place.read d))
    (text_of (kept_text.read d) ∷ cs.endl (kept_place.read d) ∷ operand_of (kept_operand.read d) ∷ []) k

abbrev pub read_printed : Gv → CorePrinted
read_printed g = printed_at (second_part g) (num (first_part g))

pub printed-same : (x : CorePrinted) → read_printed (write_printed x) ≡ x
printed-same (cs.text at bytes) = λ i. text_of (kept_text.same (at, bytes) i)
printed-same (cs.endl at) = refl
printed-same (cs.operand at k e) = λ i. operand_of (kept_operand.same ((at, k), e) i)
printed-same (cs.unprintable at) = refl

abbrev pub kept_printed : Kept CorePrinted
kept_printed = record { write = write_printed; read = read_printed; same = printed-same }

abbrev pub kept_member : Kept (ClassId × ℕ)
kept_member = kept× kept_class kept_ℕ

abbrev pub member_of : ClassId × ℕ → CoreMutex
member_of d = cs.member_mutex d.0 d.1

abbrev pub write_mutex : CoreMutex → Gv
write_mutex (cs.global_mutex name) = gcons (gnum 0) (gnum name)
write_mutex (cs.member_mutex class name) = gcons (gnum 1) (kept_member.write (class, name))

abbrev pub mutex_at : Gv → ℕ → CoreMutex
mutex_at d k = pick (member_of (kept_member.read d)) (cs.global_mutex (num d) ∷ []) k

abbrev pub read_mutex : Gv → CoreMutex
read_mutex g = mutex_at (second_part g) (num (first_part g))

pub mutex-same : (m : CoreMutex) → read_mutex (write_mutex m) ≡ m
mutex-same (cs.global_mutex name) = refl
mutex-same (cs.member_mutex class name) = refl

abbrev pub kept_mutex : Kept CoreMutex
kept_mutex = record { write = write_mutex; read = read_mutex; same = mutex-same }

-- ---- statements

abbrev pub knot : ℕ → Gv → Gv → Gv → Gv → Gv
knot k d x y z = gcons (gnum k) (gcons d (gcons x (gcons y z)))

abbrev pub kept_declare : Kept ((ℕ × ValueType) × Option CoreSource)
kept_declare = kept× kept_local (kept_option kept_source)

abbrev pub kept_assign : Kept (CoreLeft × CoreExpr)
kept_assign = kept× kept_left kept_expr

abbrev pub kept_update : Kept (((Place × BinOp) × (ValueType × ValueType)) × (CoreLeft × CoreExpr))
kept_update = kept× kept_two kept_assign

abbrev pub kept_join : Kept (Place × ℕ)
kept_join = kept× kept_place kept_ℕ

abbrev pub kept_lock : Kept (Place × CoreMutex)
kept_lock = kept× kept_place kept_mutex

abbrev pub kept_return : Kept ((Place × ValueType) × CoreSource)
kept_return = kept× (kept× kept_place kept_type) kept_source

abbrev pub kept_delete : Kept ((Place × ClassId) × CoreExpr)
kept_delete = kept× kept_new kept_expr

abbrev pub kept_thread : Kept ((Place × ℕ) × ((ℕ × ℕ) × CoreExprs))
kept_thread = kept× kept_join (kept× (kept× kept_ℕ kept_ℕ) kept_exprs)

abbrev pub declare_of : (ℕ × ValueType) × Option CoreSource → CoreStmt
declare_of d = cs.declare d.0.0 d.0.1 d.1

abbrev pub assign_of : CoreLeft × CoreExpr → CoreStmt
assign_of d = cs.assign d.0 d.1

abbrev pub update_of : ((Place × BinOp) × (ValueType × ValueType)) × (CoreLeft × CoreExpr) → CoreStmt
update_of d = cs.update d.0.0.0 d.0.0.1 d.0.1.0 d.0.1.1 d.1.0 d.1.1

abbrev pub join_of : Place × ℕ → CoreStmt
join_of d = cs.join d.0 d.1

abbrev pub lock_of : Place × CoreMutex → CoreStmt
lock_of d = cs.lock d.0 d.1

abbrev pub unlock_of : Place × CoreMutex → CoreStmt
unlock_of d = cs.unlock d.0 d.1

abbrev pub return_of : (Place × ValueType) × CoreSource → CoreStmt
return_of d = cs.return_value d.0.0 d.0.1 d.1

abbrev pub delete_of : (Place × ClassId) × CoreExpr → CoreStmt
delete_of d = cs.delete d.0.0 d.0.1 d.1

abbrev pub thread_of : (Place × ℕ) × ((ℕ × ℕ) × CoreExprs) → CoreStmt
thread_of d = cs.thread d.0.0 d.0.1 d.1.0.0 d.1.0.1 d.1.1

abbrev mutual
  pub write_stmt : CoreStmt → Gv
  write_stmt (cs.block x) = knot 0 gnil (write_stmts x) gnil gnil
  write_stmt (cs.declare name s source) = knot 1 (kept_declare.write ((name, s), source)) gnil gnil gnil
  write_stmt (cs.assign l e) = knot 2 (kept_assign.write (l, e)) gnil gnil gnil
  write_stmt (cs.update at o s r l e) = knot 3 (kept_update.write (((at, o), (s, r)), (l, e))) gnil gnil gnil
  write_stmt (cs.run e) = knot 4 (write_expr e) gnil gnil gnil
  write_stmt (cs.join at name) = knot 5 (kept_join.write (at, name)) gnil gnil gnil
  write_stmt (cs.lock at m) = knot 6 (kept_lock.write (at, m)) gnil gnil gnil
  write_stmt (cs.unlock at m) = knot 7 (kept_lock.write (at, m)) gnil gnil gnil
  write_stmt (cs.branch e x y) = knot 8 (write_expr e) (write_stmts x) (write_stmts y) gnil
  write_stmt (cs.while e x) = knot 9 (write_expr e) (write_stmts x) gnil gnil
  write_stmt (cs.for x e y z) = knot 10 (write_expr e) (write_stmts x) (write_stmts y) (write_stmts z)
  write_stmt (cs.return at) = knot 11 (kept_place.write at) gnil gnil gnil
  write_stmt (cs.return_value at s source) = knot 12 (kept_return.write ((at, s), source)) gnil gnil gnil
  write_stmt (cs.delete at class e) = knot 13 (kept_delete.write ((at, class), e)) gnil gnil gnil
  write_stmt (cs.print ps) = knot 14 ((kept_list kept_printed).write ps) gnil gnil gnil
  write_stmt (cs.thread at name f g es) = knot 15 (kept_thread.write ((at, name), ((f, g), es))) gnil gnil gnil
  write_stmt cs.abort = knot 16 gnil gnil gnil gnil
  write_stmt (cs.wrong at) = knot 17 (kept_place.write at) gnil gnil gnil

  pub write_stmts : CoreStmts → Gv
  write_stmts cs.no_stmts = gnil
  write_stmts (cs.more_stmts s ss) = gcons (write_stmt s) (write_stmts ss)

abbrev pub stmt_at : Gv → CoreStmts → CoreStmts → CoreStmts → ℕ → CoreStmt
stmt_at d x y z k =
    pick (cs.wrong (kept_place.read d))
    (cs.block x ∷ declare_of (kept_declare.read d) ∷ assign_of (kept_assign.read d) ∷ update_of (kept_update.read d) ∷ cs.run (read_expr d)
    ∷ join_of (kept_join.read d) ∷ lock_of (kept_lock.read d) ∷ unlock_of (kept_lock.read d) ∷ cs.branch (read_expr d) x y
    ∷ cs.while (read_expr d) x ∷ cs.for x (read_expr d) y z ∷ cs.return (kept_place.read d) ∷ return_of (kept_return.read d)
    ∷ delete_of (kept_delete.read d) ∷ cs.print ((kept_list kept_printed).read d) ∷ thread_of (kept_thread.read d) ∷ cs.abort ∷ [])
    k

abbrev mutual
  pub read_stmt : Gv → CoreStmt
  read_stmt (gcons k (gcons d (gcons x (gcons y z)))) = stmt_at d (read_stmts x) (read_stmts y) (read_stmts z) (num k)
  read_stmt _ = cs.abort

  pub read_stmts : Gv → CoreStmts
  read_stmts (gcons x y) = cs.more_stmts (read_stmt x) (read_stmts y)
  read_stmts _ = cs.no_stmts

mutual
  pub stmt-same : (s : CoreStmt) → read_stmt (write_stmt s) ≡ s
  stmt-same (cs.block x) = λ i. cs.block (stmts-same x i)
  stmt-same (cs.declare name s source) = λ i. declare_of (kept_declare.same ((name, s), source) i)
  stmt-same (cs.assign l e) = λ i. assign_of (kept_assign.same (l, e) i)
  stmt-same (cs.update at o s r l e) = λ i. update_of (kept_update.same (((at, o), (s, r)), (l, e)) i)
  stmt-same (cs.run e) = λ i. cs.run (expr-same e i)
  stmt-same (cs.join at name) = refl
  stmt-same (cs.lock at m) = λ i. lock_of (kept_lock.same (at, m) i)
  stmt-same (cs.unlock at m) = λ i. unlock_of (kept_lock.same (at, m) i)
  stmt-same (cs.branch e x y) = λ i. cs.branch (expr-same e i) (stmts-same x i) (stmts-same y i)
  stmt-same (cs.while e x) = λ i. cs.while (expr-same e i) (stmts-same x i)
  stmt-same (cs.for x e y z) = λ i. cs.for (stmts-same x i) (expr-same e i) (stmts-same y i) (stmts-same z i)
  stmt-same (cs.return at) = refl
  stmt-same (cs.return_value at s source) = λ i. return_of (kept_return.same ((at, s), source) i)
  stmt-same (cs.delete at class e) = λ i. delete_of (kept_delete.same ((at, class), e) i)
  stmt-same (cs.print ps) = λ i. cs.print ((kept_list kept_printed).same ps i)
  stmt-same (cs.thread at name f g es) = λ i. thread_of (kept_thread.same ((at, name), ((f, g), es)) i)
  stmt-same cs.abort = refl
  stmt-same (cs.wrong at) = refl

  pub stmts-same : (ss : CoreStmts) → read_stmts (write_stmts ss) ≡ ss
  stmts-same cs.no_stmts = refl
  stmts-same (cs.more_stmts s ss) = λ i. cs.more_stmts (stmt-same s i) (stmts-same ss i)

abbrev pub kept_stmt : Kept CoreStmt
kept_stmt = record { write = write_stmt; read = read_stmt; same = stmt-same }

abbrev pub kept_stmts : Kept CoreStmts
kept_stmts = record { write = write_stmts; read = read_stmts; same = stmts-same }
