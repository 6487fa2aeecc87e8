use Rattle.std.proofs.Common.{◌∙◌, ap, sym}
use Rattle.pg_seats.specs.pg_run_thread.Told.{id_of}
use Rattle.pg_seats.specs.pg_law_runs.Deeds.{is_event_at}
use Rattle.pg_worker.proofs.TurnKinds.{other_event}
use Rattle.pg_worker.proofs.worker.Worker.take_turn.Goals as goal

pub unreachable-requires : goal.unreachable-requires
unreachable-requires c = other_event c.args.shared.now.schedule.now.gated (id_of c.args.self.now.fiber) c.args.action c.in_default.not-Load c.in_default.not-Store c.in_default.not-Event
    (ap (is_event_at c.args.shared.now.schedule.now.gated (id_of c.args.self.now.fiber)) (sym c.requires.next) ∙ c.requires.event)
