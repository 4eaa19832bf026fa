use Rattle.std.proofs.Common.{◌≡◌, ◌++◌, drop}
use Rattle.ah_parse.specs.GuardFiles.{guards_of}
use Rattle.agxx_main.specs.Weaving.{joined}
use Rattle.agxx_main.proofs.weave.Weaver.guards.Given as goal

abbrev pub invariant-loop-aspects : goal.invariant-loop-aspects
invariant-loop-aspects l = l.guards ++ guards_of l.names (joined (drop l.aspects-index l.files)) ≡ guards_of l.names (joined l.files)
