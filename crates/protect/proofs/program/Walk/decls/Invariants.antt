use Rattle.std.proofs.Common.{◌≡◌, ◌++◌, drop, map}
use Rattle.cxx_tree.specs.ProgramTree.{decl_tree}
use Rattle.protect.specs.Protected.{protected_decl}
use Rattle.protect.proofs.program.Walk.decls.Given as goal

-- the declarations so far, and then those that are left, are all
abbrev pub invariant-loop-decl : goal.invariant-loop-decl
invariant-loop-decl l =
    map decl_tree l.protected ++ map (protected_decl l.self.names.now l.self.kinds.now l.self.declared.now l.self.parts.now.lists) (map decl_tree (drop l.decl-index l.decls))
    ≡ map (protected_decl l.self.names.now l.self.kinds.now l.self.declared.now l.self.parts.now.lists) (map decl_tree l.decls)
