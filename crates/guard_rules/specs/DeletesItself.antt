-- P5: `delete this` stands in a function, constructor or destructor of a class whose objects have a part, of the class
-- itself or of one above it. The place is `delete`.
use Rattle.std.specs.Prelude.{ℕ, Bool, false, List, Option, Some, None}
use Rattle.agxx_base.specs.declared.ids.ClassId.{ClassId}
use Rattle.agxx_base.specs.declared.place.Place.{Place}
use Rattle.cxx_tree.specs.ExprTree as e
use Rattle.cxx_tree.specs.ExprTree.{ExprTree}
use Rattle.cxx_tree.specs.ProgramTree.{ProgramTree}
use Rattle.cxx_names.specs.declared.declarations.Declared.{Declared}
use Rattle.cxx_rules.specs.Sites.{Site}
use Rattle.cxx_rules.specs.Forms as form
use Rattle.cxx_rules.specs.Forms.{Form}
use Rattle.cxx_rules.specs.ProgramForms.{forms_of_program}
use Rattle.cxx_rules.specs.Unless.{places_in}
use Rattle.guards.specs.declared.guard.Guard.{Guard}
use Rattle.guard_rules.specs.Parts.{holds_part, place_where}

abbrev pub own_holds_part : List Guard → Declared → Option ClassId → Bool
own_holds_part guards d None = false
own_holds_part guards d (Some class) = holds_part guards d class

-- the operand is `this` itself
abbrev pub deleted_at : List Guard → Site → Place → ExprTree → Option Place
deleted_at guards w at (e.this n) = place_where (own_holds_part guards w.declared w.context.class) at
deleted_at guards w at _ = None

abbrev pub deletes_itself_at : List Guard → Form → Option Place
deletes_itself_at guards (form.deleted w at x) = deleted_at guards w at x
deletes_itself_at guards _ = None

abbrev pub deletes_itself : List (List ℕ) → List Guard → ProgramTree → List Place
deletes_itself names guards q = places_in (deletes_itself_at guards) (forms_of_program names q)
