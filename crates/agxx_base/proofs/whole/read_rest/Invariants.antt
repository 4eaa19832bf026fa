use Rattle.std.proofs.Common.{vec_len, ◌-◌, ◌≡◌, ◌≤◌, ◌+◌, ◌++◌, IfSome}
use Rattle.agxx_base.proofs.whole.read_rest.Given as goal

abbrev pub invariant-loop-count : goal.invariant-loop-count
invariant-loop-count g l = record {
  within : vec_len l.bytes ≤ l.limit;
  listed : g.F.Files.listed l.files ≡ g.F.Files.listed l.initial.files;
  told : IfSome (g.F.Files.listed l.initial.files) (λ _. g.F.Files.left l.initial.files ≡ l.bytes.items ++ g.F.Files.left l.files);
  faults : g.F.Files.faults l.initial.files ≤ g.F.Files.faults l.files;
  reads : g.F.Files.reads l.files ≤ g.F.Files.reads l.initial.files + vec_len l.bytes;
}

abbrev pub decreases-loop-count : goal.decreases-loop-count
decreases-loop-count g l = l.limit - vec_len l.bytes
