use Rattle.std.proofs.Common.{arith}
use Rattle.pg_room.specs.pg_worker.Standing.{run_in, table_in}
use Rattle.pg_rounds.proofs.Notes.{before_within, number_within, own_due, told_due, told_none}
use Rattle.pg_rounds.proofs.Results.{owners_count}
use Rattle.pg_rounds.proofs.run.hand_on.Goals as goal

pub returns-then-number-eq0-clause-told : goal.returns-then-number-eq0-clause-told
returns-then-number-eq0-clause-told c = told_none c.args.workers.now

pub owner_before-before-requires-clause-within : goal.owner_before-before-requires-clause-within
owner_before-before-requires-clause-within c =
    let within = number_within (run_in c.args.shared.now) (table_in c.args.shared.now) c.args.workers.now c.requires.workers c.args.owner c.args.number c.requires.next in
    let count = owners_count c.args.shared.now.schedule.now.turns in
    omega (arith, within, count)

pub returns-then-before-owner-clause-told : goal.returns-then-before-owner-clause-told
returns-then-before-owner-clause-told c = told_none c.args.workers.now

pub returns-then-before-owner-clause-due : goal.returns-then-before-owner-clause-due
returns-then-before-owner-clause-due c = own_due (run_in c.args.shared.now) (table_in c.args.shared.now) c.args.workers.now c.requires.workers c.args.owner c.args.number c.requires.next
    c.owner_before-before.result c.if-number-eq0.false c.owner_before-before.ensures c.if-before-owner.true

pub tell-requires-clause-within : goal.tell-requires-clause-within
tell-requires-clause-within c = (
  before_within (run_in c.args.shared.now) (table_in c.args.shared.now) c.args.workers.now c.requires.workers c.args.owner c.args.number c.requires.next
      c.owner_before-before.result c.if-number-eq0.false c.owner_before-before.ensures,
  c.requires.next.within,
)

pub returns-clause-due : goal.returns-clause-due
returns-clause-due c = told_due (run_in c.args.shared.now) (table_in c.args.shared.now) c.args.workers.now c.requires.workers c.args.owner c.args.number c.requires.next
    c.owner_before-before.result c.if-number-eq0.false c.owner_before-before.ensures c.tell.new.workers c.tell.ensures.knows
