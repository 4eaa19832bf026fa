use Rattle.std.proofs.Common.{◌≡◌, ◌∙◌, ap, sym, subst, IfOk, codes}
use Rattle.agxx_base.specs.Names.{number_of}
use Rattle.cxx_tree.specs.ProgramTree.{program_tree}
use Rattle.cxx_normal.specs.Normal.{normal_tree}
use Rattle.cxx_normal.proofs.Bodies.{number_interned}
use Rattle.cxx_normal.proofs.program.normal.Goals as goal

pub returns-clause-normal : goal.returns-clause-normal
returns-clause-normal c =
    let text = c.as_slice.result.now in
    let same : c.in_ok-main.main.0 ≡ number_of c.intern.new.self text = c.in_ok-main.ensures.number ∙ (sym (number_interned c.args.names.now text) ∙ ap (λ names. number_of names text) (sym c.in_ok-main.ensures.names)) in
    let main : c.in_ok-main.main.0 ≡ number_of c.intern.new.self (codes "main") = same ∙ ap (number_of c.intern.new.self) c.as_slice.ensures in
    subst (λ m. IfOk c.normal_with.result (λ p. program_tree p ≡ normal_tree m (program_tree c.args.program.now))) main c.normal_with.ensures
