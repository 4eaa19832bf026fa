-- The limits that several layers go by.
use Rattle.std.specs.Prelude.{ℕ}
use Rattle.agxx_base.specs.declared.sizes.TheConstants.{LARGEST_TEXT, LARGEST_SOURCE}
use Rattle.agxx_base.specs.declared.sizes.TheConstants.{OUTPUT_LIMIT, DEPTH_LIMIT, OBJECT_LIMIT}

-- the most bytes of a text that may have been woven, and of a plan
abbrev pub largest_text : ℕ
largest_text = LARGEST_TEXT

-- the most bytes of a program as a user writes it
abbrev pub largest_source : ℕ
largest_source = LARGEST_SOURCE

-- how many bytes a run may print
abbrev pub output_limit : ℕ
output_limit = OUTPUT_LIMIT

-- how many counted frames a thread may have
abbrev pub depth_limit : ℕ
depth_limit = DEPTH_LIMIT

-- how many objects a run may make
abbrev pub object_limit : ℕ
object_limit = OBJECT_LIMIT
