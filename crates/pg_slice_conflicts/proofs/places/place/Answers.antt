use Rattle.std.proofs.Common.{arith, rules, ltb, ltb-true, ltb-false}
use Rattle.std.proofs.lemmas.List.Sorted.{IsPartitionPoint-from_clause, IsPartitionedBy-ltb}
use Rattle.pg_slice_conflicts.proofs.places.place.Goals as goal

pub returns : goal.returns
returns c =
    let parted = IsPartitionedBy-ltb (λ b. b) _ c.args.byte c.requires in
    let point = IsPartitionPoint-from_clause (λ b. ltb b c.args.byte) _ _ c.partition_point.ensures.partitioned parted (λ a r q k. search rules) in
    record {
      within = c.partition_point.ensures.bound;
      below = λ i d h. ltb-true _ _ (point.0 i d (omega arith) h);
      from = λ i d h k. ltb-false _ _ (point.1 i d h k);
    }
