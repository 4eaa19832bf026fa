use Rattle.std.proofs.Common.{◌≡◌, drop, map}
use Rattle.cxx_tree.specs.ProgramTree.{decl_tree}
use Rattle.cxx_distinct.specs.NamesIn.{names_in_each, names_in_decl}
use Rattle.cxx_distinct.specs.Sights.{seen}
use Rattle.cxx_distinct.proofs.sights.Sights.decls.Given as goal

-- the names that were gone through, and then those of what is left, are all
abbrev pub invariant-loop-decl : goal.invariant-loop-decl
invariant-loop-decl l = seen l.self (names_in_each names_in_decl (map decl_tree (drop l.decl-index l.decls))) ≡ seen l.fn.self (names_in_each names_in_decl (map decl_tree l.decls))
