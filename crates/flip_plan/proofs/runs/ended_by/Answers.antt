use Rattle.std.proofs.Common.{rules, of_calls}
use Rattle.std.specs.Prelude.{nat_le}
use Rattle.std.proofs.lemmas.List.Sorted.{IsPartitionPoint-from_clause, IsPartitionedBy-leb}
use Rattle.flip_plan.proofs.runs.ended_by.Goals as goal

pub returns : goal.returns
returns c =
    IsPartitionPoint-from_clause (λ s. nat_le s.end c.args.index) c.args.steps.now c.partition_point.result c.partition_point.ensures.partitioned (IsPartitionedBy-leb (λ s. s.end) c.args.steps.now c.args.index c.requires) (λ a r f k. search (rules, of_calls))
