-- The lines for the compiler in a normal program: all five includes, and no pragma.
use Rattle.std.specs.Prelude.{List, [], ◌∷◌}
use Rattle.agxx_base.specs.declared.vocabulary.Header.TheVariants as header
use Rattle.cxx_tree.specs.declared.program.Directive.{Directive}
use Rattle.cxx_tree.specs.declared.program.Directive.TheVariants as directive

abbrev pub all_includes : List Directive
all_includes =
    directive.Include header.Cstdint ∷ directive.Include header.Cstdlib ∷ directive.Include header.Iostream ∷ directive.Include header.Mutex ∷ directive.Include header.Thread ∷ []
