use Rattle.std.proofs.Common.{◌≡◌, IfOk, map, subst}
use Rattle.cxx_tree.specs.ProgramTree.{decl_tree}
use Rattle.cxx_names.specs.declared.declarations.Declared.{Declared}
use Rattle.protect.specs.Protected as spec
use Rattle.protect.proofs.program.protected_decls.Goals as goal

pub returns : goal.returns
returns c =
    subst
    (λ (d : Declared). IfOk c.decls_with.result (λ ds. map decl_tree ds
    ≡ spec.protected_decls c.args.names.now c.args.kinds.now d (map decl_tree c.args.program.now.decls)))
    c.in_ok-declared.ensures c.decls_with.ensures
