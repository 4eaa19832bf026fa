-- What is written of a normal form.
use Rattle.std.proofs.Common.{◌≡◌, ℕ, List, sym, ap, ◌∙◌}
use Rattle.std.specs.Prelude.{Option}
use Rattle.agxx_base.specs.Sink.{appended}
use Rattle.cxx_tree.specs.ProgramTree.{ProgramTree}
use Rattle.cxx_normal.specs.Normal.{with_main, normal_among}
use Rattle.cxx_print.specs.Programs.{text_of}
use Rattle.agxx_text.specs.declared.form.Form.{Form}
use Rattle.agxx_text.specs.declared.form.Form.TheVariants as form
use Rattle.agxx_text.specs.Printed.{text_in}

pub normal-text : (f : Form) (names now : List (List ℕ)) (q n : ProgramTree) (before after : Option (List ℕ)) → f ≡ form.Normal → now ≡ with_main names
    → n ≡ normal_among now q → after ≡ appended before (text_of now n) → after ≡ appended before (text_in f names q)
normal-text f names now q n before after i m e w =
    w ∙ ap (λ x. appended before (text_of now x)) e ∙ ap (λ x. appended before (text_of x (normal_among x q))) m ∙ sym (ap (λ x. appended before (text_in x names q)) i)
