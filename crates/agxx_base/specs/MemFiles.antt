-- Files in memory, and exactly what starting and reading them does.
use Rattle.std.specs.Prelude.{ℕ, ◌≡◌, min, Bool, List, [], length, take, drop, is_some, is_err, unwrap_or, Result, IfOk, OnOk, OnErr}
use Rattle.agxx_base.specs.Calls.{CallsState, counted, fails, after_call}
use Rattle.agxx_base.specs.Files.{Listing, file_named}
use Rattle.agxx_base.specs.Pieces.{bytes_of}
use Rattle.agxx_base.specs.declared.piece.Piece.{Piece}
use Rattle.agxx_base.specs.declared.fault.Failed.{Failed}

-- all that calls depend on: what is there, what is left of the started file, the calls, and how many faults there were
pub record FilesState : Type 0 where
  pub files : Listing
  pub left : List ℕ
  pub starts : CallsState
  pub reads : CallsState
  pub faults : ℕ

-- A start fails exactly at a listed call, and leaves nothing. Else it tells whether there is such a file and leaves its bytes.
pub record StartsInMemory (name : List ℕ) (before after : FilesState) (result : Result Bool Failed) : Type 0 where
  pub fails : is_err result ≡ fails before.starts
  pub found : IfOk result (λ found. found ≡ is_some (file_named name before.files))
  pub at_ok : OnOk result (after ≡ record before { starts = after_call before.starts; left = unwrap_or (file_named name before.files) [] })
  pub at_err : OnErr result (after ≡ record before { starts = after_call before.starts; left = []; faults = counted before.faults })

-- A read fails exactly at a listed call, and leaves what was left. Else it gives 4,096 bytes or all that are left.
pub record ReadsInMemory (before after : FilesState) (piece : Piece) (result : Result ℕ Failed) : Type 0 where
  pub fails : is_err result ≡ fails before.reads
  pub given : IfOk result (λ n. (n ≡ min 4096 (length before.left)) × (piece.len ≡ n) × (bytes_of piece ≡ take 4096 before.left))
  pub at_ok : OnOk result (after ≡ record before { reads = after_call before.reads; left = drop 4096 before.left })
  pub at_err : OnErr result (after ≡ record before { reads = after_call before.reads; faults = counted before.faults })
