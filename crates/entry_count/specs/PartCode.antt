-- What is generated for a part: the words that its code adds, a counter of threads inside and a lock, and four functions.
use Rattle.std.specs.Prelude.{ℕ, List, [], ◌∷◌, ◌++◌, codes}
use Rattle.agxx_base.specs.declared.ids.NameId.{NameId}
use Rattle.agxx_base.specs.declared.kind.NumKind.TheVariants as kind
use Rattle.agxx_base.specs.declared.place.Place.{Place}
use Rattle.cxx_tree.specs.declared.operator.BinOp.{BinOp}
use Rattle.cxx_tree.specs.declared.operator.BinOp.TheVariants as op
use Rattle.cxx_tree.specs.declared.program.Member.{Member}
use Rattle.cxx_tree.specs.declared.program.TypeName.TheVariants as type_of
use Rattle.cxx_tree.specs.ExprTree.{ExprTree}
use Rattle.cxx_tree.specs.StmtTree.{StmtTree}
use Rattle.cxx_tree.specs.ProgramTree.{FunctionTree}
use Rattle.cxx_make.specs.Generated.{named, named_after}
use Rattle.cxx_make.specs.Made as made
use Rattle.codec.specs.declared.part.Part.{Part}
use Rattle.entry_count.specs.declared.part_names.PartName.{PartName}
use Rattle.entry_count.specs.declared.part_names.PartName.TheVariants as part_name
use Rattle.codec.specs.Part.{place_of}
use Rattle.codec.specs.Codes.{Code}

-- ---- the names of a class's part

-- what they begin with
unfoldable pub beginning : PartName → List ℕ
beginning part_name.Counter = codes "__gop_n_"
beginning part_name.Lock = codes "__gop_l_"
beginning part_name.Repair = codes "__gop_repair_"
beginning part_name.Renew = codes "__gop_renew_"
beginning part_name.Enter = codes "__gop_enter_"
beginning part_name.Leave = codes "__gop_leave_"

module _ (names : List (List ℕ)) (class : NameId) where
  abbrev pub name_of : PartName → NameId
  name_of which = named_after names (beginning which) class

  abbrev pub counter : NameId
  counter = name_of part_name.Counter

  abbrev pub mutex : NameId
  mutex = name_of part_name.Lock

  abbrev pub repair : NameId
  repair = name_of part_name.Repair

  abbrev pub renew : NameId
  renew = name_of part_name.Renew

  abbrev pub enter : NameId
  enter = name_of part_name.Enter

  abbrev pub leave : NameId
  leave = name_of part_name.Leave

-- the texts of these names, and of the two functions of a mutex
abbrev pub part_texts : List ℕ → List (List ℕ)
part_texts class =
    (beginning part_name.Counter ++ class) ∷ (beginning part_name.Lock ++ class) ∷ (beginning part_name.Repair ++ class)
    ∷ (beginning part_name.Renew ++ class) ∷ (beginning part_name.Enter ++ class) ∷ (beginning part_name.Leave ++ class) ∷ []

unfoldable pub mutex_texts : List (List ℕ)
mutex_texts = codes "lock" ∷ codes "unlock" ∷ []

-- ---- the trees

module _ (names : List (List ℕ)) (at : Place) (class : NameId) where
  unfoldable pub take_lock : StmtTree
  take_lock = made.call_on at (mutex names class) (named names (codes "lock"))

  unfoldable pub free_lock : StmtTree
  free_lock = made.call_on at (mutex names class) (named names (codes "unlock"))

  abbrev pub count : ExprTree
  count = made.variable at (counter names class)

  -- the counter is 0
  unfoldable pub is_zero : ExprTree
  is_zero = made.binary at op.Equal count (made.number at kind.U32 0)

  -- the counter changes by 1
  unfoldable pub counts : BinOp → StmtTree
  counts o = made.assign at (counter names class) (made.binary at o count (made.number at kind.U32 1))

  -- a function is called where the counter is 0
  unfoldable pub when_zero : NameId → StmtTree
  when_zero function = made.when at is_zero (made.call at function ∷ [])

  unfoldable pub repairs : StmtTree
  repairs = when_zero (repair names class)

  unfoldable pub renews : StmtTree
  renews = when_zero (renew names class)

  unfoldable pub enter_body : List StmtTree
  enter_body = take_lock ∷ repairs ∷ counts op.Add ∷ free_lock ∷ []

  unfoldable pub leave_body : List StmtTree
  leave_body = take_lock ∷ counts op.Subtract ∷ renews ∷ free_lock ∷ []

  abbrev pub enter_function : FunctionTree
  enter_function = made.procedure at (enter names class) enter_body

  abbrev pub leave_function : FunctionTree
  leave_function = made.procedure at (leave names class) leave_body

  abbrev pub counter_member : Member
  counter_member = made.member at (type_of.Num kind.U32) (counter names class)

  abbrev pub lock_member : Member
  lock_member = made.member at type_of.Mutex (mutex names class)

module _ (code : Code) (names : List (List ℕ)) (p : Part) where
  -- the code's words, then the counter, then the lock
  abbrev pub part_members : List Member
  part_members =
      code.members names p
      ++ (counter_member names (place_of p) p.class.item ∷ lock_member names (place_of p) p.class.item ∷ [])

  abbrev pub part_functions : List FunctionTree
  part_functions =
      made.procedure (place_of p) (repair names p.class.item) (code.repair names p)
      ∷ made.procedure (place_of p) (renew names p.class.item) (code.renew names p)
      ∷ enter_function names (place_of p) p.class.item
      ∷ leave_function names (place_of p) p.class.item
      ∷ []
