use Rattle.std.proofs.Common.{◌∙◌, ap}
use Rattle.pg_seats.specs.pg_run_thread.Step.{next}
use Rattle.pg_worker.specs.Standing.{next_turn_of, run_in, table_in, waits_there}
use Rattle.pg_worker.proofs.DueTurns.{due_stands}
use Rattle.pg_worker.proofs.Segments.{still_fiber, still_goes, still_left, still_turn, took_late}
use Rattle.pg_worker.proofs.worker.Worker.turn.Goals as goal

pub take_turn-requires-clause-left : goal.take_turn-requires-clause-left
take_turn-requires-clause-left c = still_left c.args.self.now c.comes.new.self c.comes.ensures.same c.requires.left

pub take_turn-requires-clause-turn : goal.take_turn-requires-clause-turn
take_turn-requires-clause-turn c = still_turn c.args.self.now c.comes.new.self c.comes.ensures.same c.requires.turn

pub take_turn-requires-clause-event : goal.take_turn-requires-clause-event
take_turn-requires-clause-event c = due_stands (run_in c.args.shared.now) (table_in c.args.shared.now) 0 c.comes.new.self c.comes.ensures.at
    c.next_turn-turn.result (ap next_turn_of c.comes.ensures.same ∙ c.next_turn-turn.ensures) (c.comes.ensures.due c.if-not-comes.false)
    (ap (waits_there (run_in c.args.shared.now)) (still_fiber c.args.self.now c.comes.new.self c.comes.ensures.same) ∙ c.requires.waits)

pub take_turn-requires-clause-next : goal.take_turn-requires-clause-next
take_turn-requires-clause-next c = ap (next c.args.shared.now.program.now) (still_fiber c.args.self.now c.comes.new.self c.comes.ensures.same) ∙ c.requires.next

pub returns-then-not-comes-clause-done : goal.returns-then-not-comes-clause-done
returns-then-not-comes-clause-done c = record {
  same = c.comes.ensures.same;
  went = c.comes.ensures.went;
  waits = c.comes.ensures.early c.if-not-comes.true;
  goes = still_goes c.args.self.now c.comes.new.self c.comes.ensures.same (run_in c.args.shared.now) c.requires.left c.requires.waits;
  stands = ap (waits_there (run_in c.args.shared.now)) (still_fiber c.args.self.now c.comes.new.self c.comes.ensures.same) ∙ c.requires.waits;
}

pub returns-clause-done : goal.returns-clause-done
returns-clause-done c = took_late c.args.self.now c.comes.new.self c.comes.ensures.same c.take_turn.new.self c.comes.ensures.went c.take_turn.ensures.took
