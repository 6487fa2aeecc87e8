use Rattle.std.proofs.Common.{◌∙◌, sym, ap, arith}
use Rattle.pg_room.specs.pg_worker.Standing.{next_turn_of}
use Rattle.pg_room.proofs.of_pg_crew.WorkerLists.{default_is}
use Rattle.pg_rounds.proofs.FirstTurns.{first_more, first_of_all, none_is, some_is}
use Rattle.pg_rounds.proofs.next_turn.next_turn.Goals as goal

pub loop-t-init : goal.loop-t-init
loop-t-init c = λ t d lt. absurd (omega (arith, lt))

pub loop-t-preserved : goal.loop-t-preserved
loop-t-preserved c = first_more c.args.workers.now c.loop-t.t c.loop-t.found c.next-next.result c.sooner-found.result c.loop-t.invariant
    (λ d. ap next_turn_of (default_is c.args.workers.now c.loop-t.t d c.index-workers-t.result (omega arith) ∙ sym c.index-workers-t.is) ∙ sym c.next-next.ensures) c.sooner-found.ensures

pub returns-clause-none : goal.returns-clause-none
returns-clause-none c = none_is c.args.workers.now c.loop-t.found (first_of_all c.args.workers.now c.loop-t.t c.loop-t.found c.loop-t.invariant (omega (arith, c.loop-t-test.false, c.loop-t.auto.t-end)))

pub returns-clause-some : goal.returns-clause-some
returns-clause-some c = some_is c.args.workers.now c.loop-t.found (first_of_all c.args.workers.now c.loop-t.t c.loop-t.found c.loop-t.invariant (omega (arith, c.loop-t-test.false, c.loop-t.auto.t-end)))
