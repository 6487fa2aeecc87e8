use Rattle.std.proofs.Common.{◌∙◌, refl}
use Rattle.pg_seats.specs.pg_run_thread.declared.action.Action.TheVariants as actions
use Rattle.pg_worker.specs.Standing.{run_in}
use Rattle.pg_worker.proofs.Segments.{ends_there, stands_there}
use Rattle.pg_worker.proofs.worker.Worker.asked.Goals as goal

pub turn-requires-clause-waits : goal.turn-requires-clause-waits
turn-requires-clause-waits c = stands_there (run_in c.args.shared.now) c.args.self.now.fiber (actions.Event c.in-Event.request) (c.requires.next ∙ c.in-Event.is) refl

pub turn-requires-in-Ended-clause-waits : goal.turn-requires-in-Ended-clause-waits
turn-requires-in-Ended-clause-waits c = ends_there (run_in c.args.shared.now) c.args.self.now.fiber (c.requires.next ∙ c.in-Ended.is)
