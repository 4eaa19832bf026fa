-- What a call of the program does, whatever fails.
use Rattle.std.specs.Prelude.{◌≡◌, ◌≤◌, ℕ, List, [], ◌∷◌, length, take, Option, Some, None}
use Rattle.agxx_base.specs.Causes.{Rose}
use Rattle.agxx_base.specs.Files.{Listing, file_named}
use Rattle.agxx_base.specs.Sink.{appended}
use Rattle.agxx_base.specs.declared.status.Status.{Status}
use Rattle.agxx_base.specs.declared.status.Status.TheVariants.{WriteFault, Memory}
use Rattle.agxx_main.specs.declared.answer.Answer.{Answer}
use Rattle.agxx_main.specs.declared.files.Opened.{Opened}
use Rattle.agxx_main.specs.declared.files.Opened.TheVariants as opened
use Rattle.agxx_calls.specs.declared.command.Call.{Call}
use Rattle.agxx_calls.specs.declared.command.File.{File}
use Rattle.agxx_calls.specs.Commands.{limit_of, Means, IsUsage}
use Rattle.agxx_main.specs.Answers.{usage, IsClosed, Opens}
use Rattle.agxx_main.specs.CallAnswers.{IsCallAnswer}

-- What reading a file may give while the count of faults goes from one number to another: what the list says that is told;
-- any text where none is told; or nothing, where the count rose.
pub data Gives (listed : Option Listing) (before now : ℕ) (file : List ℕ) (content : Option (List ℕ)) : Type 0 where
  told : (files : Listing) → listed ≡ Some files → content ≡ file_named file files → Gives listed before now file content
  untold : (text : List ℕ) → listed ≡ None → content ≡ Some text → Gives listed before now file content
  failed : Rose before now → content ≡ None → Gives listed before now file content

-- a file was opened with its text, or can't be opened, for which there is this answer
abbrev pub IsOpened : List ℕ → ℕ → Option (List ℕ) → Opened → Type 0
IsOpened file limit content (opened.Text text) = (content ≡ Some text) × (length text ≤ limit)
IsOpened file limit content (opened.Closed answer) = IsClosed file limit content answer

pub record Opening (listed : Option Listing) (before now : ℕ) (file : List ℕ) (limit : ℕ) (result : Opened) : Type 0 where
  pub content : Option (List ℕ)
  pub given : Gives listed before now file content
  pub opened : IsOpened file limit content result

-- ---- the answer that is due, where files give what they may

-- The files are opened in order, while the count of faults goes from one number to another: the first that can't be opened is
-- told, or what is answered then for all texts. `between` is the count behind the first file.
abbrev pub OpensInTurn : Option Listing → ℕ → ℕ → List File → (List (List ℕ) → Answer → Type 0) → Answer → Type 0
OpensInTurn listed before now [] Then answer = (before ≤ now) × Then [] answer
OpensInTurn listed before now (file ∷ files) Then answer =
    (between : ℕ) × (content : Option (List ℕ)) × (before ≤ between) × (between ≤ now) × Gives listed before between file.name content
    × Opens file.name (limit_of file.kind) content (λ text. OpensInTurn listed between now files (λ texts. Then (text ∷ texts))) answer

pub data IsDue (words : List (List ℕ)) (listed : Option Listing) (before now : ℕ) (answer : Answer) : Type 0 where
  no_command : IsUsage words → answer ≡ usage → IsDue words listed before now answer
  called : (call : Call) → Means words call → OpensInTurn listed before now call.files (IsCallAnswer call) answer → IsDue words listed before now answer

-- some answer is due
abbrev pub HasDue : List (List ℕ) → Option Listing → ℕ → ℕ → Type 0
HasDue words listed before now = (a : Answer) × IsDue words listed before now a

-- a sink got a prefix of these bytes
abbrev pub GetsPrefix : Option (List ℕ) → Option (List ℕ) → List ℕ → Type 0
GetsPrefix before after bytes = (n : ℕ) × (n ≤ length bytes) × (after ≡ appended before (take n bytes))

-- What two sinks get of an answer, first one and then the other, and the status that tells it: all of it, or a prefix and
-- the cause. `out_failed` and `diag_failed` say that a sink's count of faults rose.
pub data Gets (answer : Answer) (out out_after diag diag_after : Option (List ℕ)) (out_failed diag_failed : Type 0) (result : Status) : Type 0 where
  whole : result ≡ answer.status → out_after ≡ appended out answer.out → diag_after ≡ appended diag answer.diag → Gets answer out out_after diag diag_after out_failed diag_failed result
  out_cut : result ≡ WriteFault → out_failed → GetsPrefix out out_after answer.out → diag_after ≡ diag → Gets answer out out_after diag diag_after out_failed diag_failed result
  diag_cut : result ≡ WriteFault → diag_failed → out_after ≡ appended out answer.out → GetsPrefix diag diag_after answer.diag → Gets answer out out_after diag diag_after out_failed diag_failed result
  no_memory : result ≡ Memory → GetsPrefix out out_after answer.out → GetsPrefix diag diag_after answer.diag → Gets answer out out_after diag diag_after out_failed diag_failed result

-- The call ends by some answer that is due.
pub record Ends (words : List (List ℕ)) (listed : Option Listing) (before now : ℕ) (out out_after diag diag_after : Option (List ℕ)) (out_failed diag_failed : Type 0) (result : Status) : Type 0 where
  pub answer : Answer
  pub due : IsDue words listed before now answer
  pub given : Gets answer out out_after diag diag_after out_failed diag_failed result

-- the call has no memory and writes nothing
pub record GivesUp (out out_after diag diag_after : Option (List ℕ)) (result : Status) : Type 0 where
  pub status : result ≡ Memory
  pub out_stays : out_after ≡ out
  pub diag_stays : diag_after ≡ diag
