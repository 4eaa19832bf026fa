-- Files by name, what starting and reading them answers, and what reading one whole answers.
use Rattle.std.specs.Prelude.{ℕ, ◌≡◌, ◌≤◌, ◌<◌, ◌⊎◌, ◌↔◌, Bool, true, false, List, [], ◌++◌, length, find, Option, None, Some, Ok, option_map, Result, IfOk, OnErr, IfSome, IsSomeAnd, IsErrOf}
use Rattle.std.specs.Str.{bytes_eq}
use Rattle.agxx_base.specs.Causes.{Rose}
use Rattle.agxx_base.specs.Pieces.{bytes_of}
use Rattle.agxx_base.specs.declared.piece.Piece.{Piece}
use Rattle.agxx_base.specs.declared.fault.Failed.{Failed}
use Rattle.agxx_base.specs.declared.whole.ReadError.{ReadError}
use Rattle.agxx_base.specs.declared.whole.ReadError.TheVariants.{ReadFault, TooLarge}

-- the names of files and their bytes, in order
abbrev pub Listing : Type 0
Listing = List (List ℕ × List ℕ)

-- the bytes of the file of this name; of two files with one name the first counts
abbrev pub file_named : List ℕ → Listing → Option (List ℕ)
file_named name files = option_map (λ file. file.1) (find (λ file. bytes_eq name file.0) files)

-- more bytes are left than so many, where the list of files is told
abbrev pub IsLonger : Option Listing → ℕ → List ℕ → Type 0
IsLonger listed limit left = IfSome listed (λ _. limit < length left)

-- What starting a file answers, by the list of files where it is told: Ok(true) with all of the file's bytes left, or
-- Ok(false) where the list lacks the name. `Ok(false)` is no fault, and comes only where the list is told.
pub record Starts (listed : Option Listing) (name : List ℕ) (before now : ℕ) (left : List ℕ) (result : Result Bool Failed) : Type 0 where
  pub found : result ≡ Ok true → IfSome listed (λ files. file_named name files ≡ Some left)
  pub missing : result ≡ Ok false → (now ≡ before) × IsSomeAnd listed (λ files. (file_named name files ≡ None) × (left ≡ []))
  pub failed : OnErr result (IfSome listed (λ _. left ≡ []))

-- What reading on answers: the next bytes are in the piece, and no bytes only at the end. A failed read leaves what is left.
pub record Reads (listed : Option Listing) (before after : List ℕ) (piece : Piece) (result : Result ℕ Failed) : Type 0 where
  pub count : IfOk result (λ n. (n ≤ 4096) × (piece.len ≡ n) × (length (bytes_of piece) ≡ n))
  pub next : IfOk result (λ n. IfSome listed (λ _. (before ≡ bytes_of piece ++ after) × ((n ≡ 0) ↔ (before ≡ []))))
  pub failed : OnErr result (IfSome listed (λ _. after ≡ before))

-- What reading a whole file answers. A file that is told is answered with exactly its bytes, or refused for its size only
-- where it is larger than the limit; a read fault comes only where the count of faults rose or the list lacks the name.
pub record ReadsWhole (listed : Option Listing) (name : List ℕ) (limit before now : ℕ) (result : Result (List ℕ) ReadError) : Type 0 where
  pub later : before ≤ now
  pub within : IfOk result (λ bytes. length bytes ≤ limit)
  pub whole : IfOk result (λ bytes. IfSome listed (λ files. file_named name files ≡ Some bytes))
  pub too_large : IsErrOf result TooLarge → IfSome listed (λ files. IsSomeAnd (file_named name files) (λ bytes. limit < length bytes))
  pub read_fault : IsErrOf result ReadFault → Rose before now ⊎ IsSomeAnd listed (λ files. file_named name files ≡ None)
