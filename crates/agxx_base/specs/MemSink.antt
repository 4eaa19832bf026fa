-- A sink in memory, and exactly what writing to it does.
use Rattle.std.specs.Prelude.{ℕ, ◌≡◌, ◌-◌, min, ◌||◌, ◌&&◌, List, [], ◌++◌, length, take, Option, None, is_err, unwrap_or, nat_lt, ◌==◌, Result, IfOk, OnErr}
use Rattle.agxx_base.specs.Calls.{CallsState, no_calls, counted, fails, after_call}
use Rattle.agxx_base.specs.Pieces.{bytes_of}
use Rattle.agxx_base.specs.declared.piece.Piece.{Piece}
use Rattle.agxx_base.specs.declared.fault.Failed.{Failed}

-- all that calls depend on: the bytes taken, how many more fit, the limit of one call, the calls, and the faults so far
pub record SinkState : Type 0 where
  pub taken : List ℕ
  pub room : ℕ
  pub limit : Option ℕ
  pub writes : CallsState
  pub faults : ℕ

-- no bytes taken, and room for so many
abbrev pub empty_sink : ℕ → SinkState
empty_sink room = record { taken = []; room = room; limit = None; writes = no_calls; faults = 0 }

-- the sink once it took these bytes
abbrev pub sink_with : SinkState → List ℕ → SinkState
sink_with sink bytes = record sink { taken = sink.taken ++ bytes; room = sink.room - length bytes }

-- how many of n bytes a write takes: what there are, up to the limit and the room
abbrev pub accepted : SinkState → ℕ → ℕ
accepted sink n = min (min n sink.room) (unwrap_or sink.limit n)

-- A write fails exactly at a listed call, or where it could take none of some bytes. Else it takes what it can.
pub record WritesInMemory (before after : SinkState) (piece : Piece) (result : Result ℕ Failed) : Type 0 where
  pub fails : is_err result ≡ (fails before.writes || (nat_lt 0 piece.len && (accepted before piece.len == 0)))
  pub at_ok : IfOk result (λ n. (n ≡ accepted before piece.len) × (after ≡ record before { taken = before.taken ++ take n (bytes_of piece); room = before.room - n; writes = after_call before.writes }))
  pub at_err : OnErr result (after ≡ record before { writes = after_call before.writes; faults = counted before.faults })
