use Rattle.std.proofs.Common.{arith}
use Rattle.pg_room.proofs.TurnOwners.{all_owners, no_owner, one_owner}
use Rattle.pg_room.proofs.threads.thread_count.Goals as goal

pub loop-number-init : goal.loop-number-init
loop-number-init c = record { some = omega arith; few = omega arith; owners = no_owner c.args.turns.now 1 }

pub loop-number-preserved : goal.loop-number-preserved
loop-number-preserved c = record {
  some = (let m = c.count_with-more.ensures.more in let s = c.loop-number.invariant.some in omega (arith, m, s));
  few = c.count_with-more.ensures.few;
  owners = one_owner c.args.turns.now c.loop-number.number c.loop-number.count c.count_with-more.result _ c.loop-number.invariant.owners c.count_with-more.ensures.more c.count_with-more.ensures.owner;
}

pub returns-clause-owners : goal.returns-clause-owners
returns-clause-owners c = all_owners c.args.turns.now c.loop-number.number c.loop-number.count c.loop-number.invariant.owners (omega arith)
