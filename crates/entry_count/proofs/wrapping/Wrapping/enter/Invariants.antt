use Rattle.std.proofs.Common.{◌≡◌, ◌++◌, drop, map}
use Rattle.cxx_tree.specs.StmtTree.{stmt_tree}
use Rattle.entry_count.specs.Wrapping.{entering}
use Rattle.entry_count.proofs.wrapping.Wrapping.enter.Given as goal

-- what was put, and then what is left, is the whole
abbrev pub invariant-loop-class : goal.invariant-loop-class
invariant-loop-class l =
    map stmt_tree l.stmts ++ entering l.self.names.now (drop l.class-index l.self.parts.now) l.at ≡ map stmt_tree l.fn.stmts ++ entering l.self.names.now l.self.parts.now l.at
