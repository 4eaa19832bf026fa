-- How far a started file is read.
use Rattle.std.specs.Prelude.{ℕ, ◌<◌, ◌≤◌, List, [], length, drop, get_or, Option, None, Some}
use Rattle.agxx_base.specs.Files.{Listing}
use Rattle.agxx_base.specs.declared.memory_files.Cursor.{Cursor}

-- the bytes of the file at a place in the list
abbrev pub bytes_at : Listing → ℕ → List ℕ
bytes_at files place = (get_or files place ([], [])).1

-- what is left behind a cursor
abbrev pub left_at : Listing → Option Cursor → List ℕ
left_at files None = []
left_at files (Some cursor) = drop cursor.read (bytes_at files cursor.file)

-- a cursor stands in a file of the list
abbrev pub IsInside : Listing → Option Cursor → Type 0
IsInside files None = Unit {0}
IsInside files (Some cursor) = (cursor.file < length files) × (cursor.read ≤ length (bytes_at files cursor.file))
