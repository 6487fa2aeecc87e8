use Rattle.std.proofs.Common.{◌<◌, length, subst, sym}
use Rattle.pg_precondition.specs.Nodes.{Conditions}
use Rattle.pg_test_slice.proofs.values.moved.condition.Goals as goal

pub push-requires : goal.push-requires
push-requires c = subst (λ (z : Conditions). c.in-Some.node < length z.nodes) (sym c.new-precondition.ensures) (c.in-Some.ensures.node (length c.args.nodes) c.requires)
