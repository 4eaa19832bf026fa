-- The run of a block by itself: frames of one thread, over the words of one part of one object. It steps as the machine
-- does, and goes no further where an item does what no block does.
use Rattle.std.specs.Prelude.{ℕ, zero, suc, ◌-◌, nat_le, nat_lt, Bool, true, false, ◌&&◌, List, [], ◌∷◌, ◌++◌, length, slice_get, slice_set, Option, Some, None, if◌then◌else◌}
use Rattle.agxx_base.specs.declared.ids.ClassId.{ClassId}
use Rattle.cxx_core.specs.CoreExpr as c
use Rattle.cxx_core.specs.CoreExpr.{CoreExpr, CoreLeft, CoreObject}
use Rattle.cxx_core.specs.CoreStmt as cs
use Rattle.cxx_core.specs.CoreStmt.{CoreStmt}
use Rattle.step_machine.specs.declared.datum.Datum.TheVariants as datum
use Rattle.step_machine.specs.Setting.{Setting}
use Rattle.step_machine.specs.Item as it
use Rattle.step_machine.specs.Item.{Item}
use Rattle.step_machine.specs.Frame.{Frame}
use Rattle.step_machine.specs.Effects as on
use Rattle.step_machine.specs.Effects.{Change, did}
use Rattle.step_machine.specs.Reads.{Reads}
use Rattle.step_machine.specs.Act.{act}
use Rattle.step_machine.specs.Turn.{Thread, Settled, settled}
use Rattle.step_machine.specs.Total.{same, OffThread, off_thread}

-- a part of an object, by itself
pub record Alone : Type 0 where
  pub setting : Setting
  pub object : ℕ
  -- the object's class, which may derive from the part's
  pub live : ClassId
  -- the number of the part's first word
  pub from : ℕ
  -- the counter, which stands behind the part's words; it is read alone
  pub count : ℕ

pub data SoloNext : Type 0 where
  goes : List Frame → List ℕ → SoloNext
  -- halted
  dies : SoloNext
  -- it does what no block does
  strays : SoloNext

-- ---- what stands in blocks, and in enters and leaves between lock and unlock: own members, locals, numbers, arithmetic,
-- choices, and calls of functions on the same object

abbrev pub is_own : Option CoreObject → Bool
is_own (Some c.own) = true
is_own o = false

abbrev pub is_block_left : CoreLeft → Bool
is_block_left (c.variable (c.local name t)) = true
is_block_left (c.member at c.own class name k) = true
is_block_left l = false

abbrev pub is_block_expr : CoreExpr → Bool
is_block_expr (c.number v) = true
is_block_expr (c.read l) = is_block_left l
is_block_expr (c.unary at u t a) = true
is_block_expr (c.binary at u t v a b) = true
is_block_expr (c.cast k t a) = true
is_block_expr (c.call f c.no_exprs) = is_own f.object
is_block_expr e = false

abbrev pub is_block_stmt : CoreStmt → Bool
is_block_stmt (cs.declare name t (Some (cs.value e))) = true
is_block_stmt (cs.assign l e) = true
is_block_stmt (cs.run e) = true
is_block_stmt (cs.branch e a b) = true
is_block_stmt cs.abort = true
is_block_stmt x = false

abbrev pub is_block_item : Item → Bool
is_block_item (it.stmt x) = is_block_stmt x
is_block_item (it.expr e) = is_block_expr e
is_block_item (it.op_one at u) = true
is_block_item (it.op_two at u) = true
is_block_item (it.cast k) = true
is_block_item (it.bind name t) = true
is_block_item (it.put l) = is_block_left l
is_block_item (it.branch a b) = true
is_block_item (it.call f) = is_own f.object
is_block_item (it.end at it.returns) = true
is_block_item i = false

-- ---- a step

module _ (a : Alone) where
  abbrev pub solo_word : List ℕ → ℕ → ℕ → Option ℕ
  solo_word ws o w =
      if same o a.object then (if nat_le a.from w then slice_get (ws ++ a.count ∷ []) (w - a.from) else None) else None

  abbrev pub solo_class : ℕ → Option ClassId
  solo_class o = if same o a.object then Some a.live else None

  -- nothing but the words and the class of the object
  abbrev pub solo_reads : List ℕ → Reads
  solo_reads ws = record {
    word = solo_word ws;
    class = solo_class;
    variable = λ name. datum.Null;
    holder = λ l. None;
    made = 0;
    started = 0;
    has_ended = λ u. false;
    is_busy = λ o. false;
    depth = 0;
    printed = 0;
  }

  abbrev pub solo_changed : Thread → List ℕ → Change → SoloNext
  solo_changed fs ws (on.store o w bits) =
      if same o a.object && (nat_le a.from w && nat_lt (w - a.from) (length ws)) then goes fs
      (slice_set ws (w - a.from) bits)
      else strays
  solo_changed fs ws change = strays

  abbrev pub solo_turn : List ℕ → Settled → SoloNext
  solo_turn ws (fs, on.went) = goes fs ws
  solo_turn ws (fs, on.changed change) = solo_changed fs ws change
  solo_turn ws (fs, on.halted o class) = dies
  solo_turn ws (fs, turn) = strays

  abbrev pub solo_off : List ℕ → Option OffThread → SoloNext
  solo_off ws None = strays
  solo_off ws (Some x) =
      if is_block_item x.1
      then (let d = did x.0 (act a.setting (solo_reads ws) 0 x.1 x.0) in solo_turn ws (settled x.1 x.2 d.0 d.1))
      else strays

  abbrev pub solo_step : List Frame → List ℕ → SoloNext
  solo_step fs ws = solo_off ws (off_thread fs)

abbrev pub solo_on : (List Frame → List ℕ → SoloNext) → SoloNext → SoloNext
solo_on next (goes fs ws) = next fs ws
solo_on next dies = dies
solo_on next strays = strays

-- so many steps of this kind
abbrev pub solo : (List Frame → List ℕ → SoloNext) → ℕ → List Frame → List ℕ → SoloNext
solo step zero fs ws = goes fs ws
solo step (suc k) fs ws = solo_on (solo step k) (step fs ws)
