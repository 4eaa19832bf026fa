-- What a machine is set to run, and what it finds there: functions, classes, words, mutexes and objects by their numbers.
use Rattle.std.specs.Prelude.{ℕ, zero, suc, ◌+◌, nat_eq, Bool, false, List, [], ◌∷◌, length, Option, Some, None, slice_get, codes, sum_by, if◌then◌else◌}
use Rattle.std.specs.List.{position_or_len, starts_with, list_any}
use Rattle.agxx_base.specs.declared.ids.ClassId.{ClassId}
use Rattle.cxx_core.specs.CoreProgram as cp
use Rattle.cxx_core.specs.CoreProgram.{CoreFunction, CoreWord, CoreClass, CoreGlobal, CoreProgram}

pub record Setting : Type 0 where
  -- the texts of the names, by their numbers
  pub names : List (List ℕ)
  pub program : CoreProgram

-- ---- names

abbrev pub begins_by : Option (List ℕ) → List ℕ → Bool
begins_by None beginning = false
begins_by (Some text) beginning = starts_with nat_eq text beginning

-- whether a name begins so
abbrev pub begins : List (List ℕ) → ℕ → List ℕ → Bool
begins names name beginning = begins_by (slice_get names name) beginning

-- ---- functions

abbrev pub function_at : Setting → ℕ → Option CoreFunction
function_at s f = slice_get s.program.functions f

abbrev pub is_generated_by : Setting → Option CoreFunction → Bool
is_generated_by s None = false
is_generated_by s (Some f) = begins s.names f.name.item.0 (codes "__gop_")

-- whether a function is one that protection made
abbrev pub is_generated : Setting → Option ℕ → Bool
is_generated s None = false
is_generated s (Some f) = is_generated_by s (function_at s f)

abbrev pub class_by : Option CoreFunction → Option ClassId
class_by None = None
class_by (Some f) = f.class

abbrev pub class_of_function : Setting → Option ℕ → Option ClassId
class_of_function s None = None
class_of_function s (Some f) = class_by (function_at s f)

-- ---- classes

abbrev pub class_at : Setting → ClassId → Option CoreClass
class_at s class = slice_get s.program.classes class.0

abbrev pub linked : (Option ClassId → List CoreClass) → Option CoreClass → List CoreClass
linked above None = []
linked above (Some class) = class ∷ above class.base

-- a class, if there is one, and those above it, so many at most
abbrev pub chain : List CoreClass → ℕ → Option ClassId → List CoreClass
chain classes zero class = []
chain classes (suc n) None = []
chain classes (suc n) (Some class) = linked (λ c. chain classes n c) (slice_get classes class.0)

-- a class, if there is one, and those above it
abbrev pub lineage : Setting → Option ClassId → List CoreClass
lineage s class = chain s.program.classes (length s.program.classes) class

-- the same by their numbers
abbrev pub linked_ids : (Option ClassId → List ClassId) → ClassId → Option CoreClass → List ClassId
linked_ids above class None = []
linked_ids above class (Some found) = class ∷ above found.base

abbrev pub line_in : List CoreClass → ℕ → Option ClassId → List ClassId
line_in classes zero class = []
line_in classes (suc n) None = []
line_in classes (suc n) (Some class) = linked_ids (λ b. line_in classes n b) class (slice_get classes class.0)

abbrev pub line : Setting → Option ClassId → List ClassId
line s class = line_in s.program.classes (length s.program.classes) class

abbrev pub stands_in : Option ClassId → List ClassId → Bool
stands_in None classes = false
stands_in (Some class) classes = list_any (λ c. nat_eq class.0 c.0) classes

-- whether objects of a class, the first, have the members and functions of another: whether that is the class itself or one
-- above it
abbrev pub is_of : Setting → Option ClassId → Option ClassId → Bool
is_of s own class = stands_in class (line s own)

-- how many words, and how many mutexes, an object of a class has
abbrev pub word_count : Setting → Option ClassId → ℕ
word_count s class = sum_by (λ c. length c.words) (lineage s class)

abbrev pub mutex_count : Setting → Option ClassId → ℕ
mutex_count s class = sum_by (λ c. length c.mutexes) (lineage s class)

abbrev pub word_in : Setting → ℕ → Option CoreClass → ℕ
word_in s name None = 0
word_in s name (Some class) = word_count s class.base + position_or_len (λ w. nat_eq w.name name) class.words

-- the number of a word, by the class that declares it: the words of the class without a base come first, and those that a
-- class declares stand in the order of the text
abbrev pub word_number : Setting → ClassId → ℕ → ℕ
word_number s class name = word_in s name (class_at s class)

abbrev pub mutex_in : Setting → ℕ → Option CoreClass → ℕ
mutex_in s name None = 0
mutex_in s name (Some class) = mutex_count s class.base + position_or_len (nat_eq name) class.mutexes

-- the number of a mutex that is a member, in the same way
abbrev pub mutex_number : Setting → ClassId → ℕ → ℕ
mutex_number s class name = mutex_in s name (class_at s class)

abbrev pub constructor_by : Option CoreClass → Option ℕ
constructor_by None = None
constructor_by (Some class) = class.constructor

abbrev pub destructor_by : Option CoreClass → Option ℕ
destructor_by None = None
destructor_by (Some class) = class.destructor

abbrev pub constructor_of : Setting → ClassId → Option ℕ
constructor_of s class = constructor_by (class_at s class)

abbrev pub destructor_of : Setting → ClassId → Option ℕ
destructor_of s class = destructor_by (class_at s class)

-- ---- global objects

-- the number of the global object of a name, where the first has this number
abbrev pub object_among : ℕ → List CoreGlobal → ℕ → ℕ
object_among n [] name = n
object_among n (cp.object at other class arguments ∷ gs) name = if nat_eq name other then n else object_among (suc n) gs name
object_among n (_ ∷ gs) name = object_among n gs name

abbrev pub global_object : Setting → ℕ → ℕ
global_object s name = object_among 0 s.program.globals name
