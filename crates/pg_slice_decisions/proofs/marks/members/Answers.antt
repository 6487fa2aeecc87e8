use Rattle.std.proofs.Common.{length, arith}
use Rattle.pg_slice_decisions.proofs.NumberTables.{all_members, same_members}
use Rattle.pg_slice_decisions.proofs.marks.members.Goals as goal

pub returns-clause-same : goal.returns-clause-same
returns-clause-same c = λ k. same_members c.args.set.now c.loop-n.members.items k
    (all_members c.args.set.now c.loop-n.members.items c.loop-n.n c.loop-n.invariant (omega (arith, c.loop-n-test.false)))
