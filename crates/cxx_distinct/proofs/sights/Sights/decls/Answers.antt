use Rattle.std.proofs.Common.{refl, map, List}
use Rattle.cxx_tree.specs.declared.program.Decl.{Decl}
use Rattle.cxx_tree.specs.ProgramTree.{decl_tree}
use Rattle.cxx_distinct.specs.NamesIn.{names_in_each, names_in_decl}
use Rattle.cxx_distinct.proofs.Runs.{seen_more}
use Rattle.cxx_distinct.proofs.sights.Sights.decls.Goals as goal

pub loop-decl-preserved : goal.loop-decl-preserved
loop-decl-preserved c = seen_more (λ (xs : List Decl). names_in_each names_in_decl (map decl_tree xs)) c.args.decls.now c.loop-decl.decl-index c.decl-item.result _ c.loop-decl.self c.decl.new.self _ c.loop-decl-test.true c.decl-item.is refl c.in_ok-decl.ensures c.loop-decl.invariant
