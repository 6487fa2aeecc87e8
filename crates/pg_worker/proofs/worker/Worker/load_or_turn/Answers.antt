use Rattle.std.proofs.Common.{◌∙◌, ap, sym}
use Rattle.pg_seats.specs.pg_run.MachineStep.{is_gated}
use Rattle.pg_seats.specs.pg_run_thread.Told.{id_of}
use Rattle.pg_seats.specs.pg_run_thread.declared.action.Action.TheVariants as actions
use Rattle.pg_worker.specs.Standing.{run_in}
use Rattle.pg_worker.proofs.Segments.{stands_there}
use Rattle.pg_worker.proofs.worker.Worker.load_or_turn.Goals as goal

pub turn-requires-clause-waits : goal.turn-requires-clause-waits
turn-requires-clause-waits c = stands_there (run_in c.args.shared.now) c.args.self.now.fiber (actions.Load c.args.at) c.requires.next
    (ap (λ g. is_gated g (id_of c.args.self.now.fiber)) (sym c.requires.gated) ∙ ap (is_gated c.args.shared.now.gated) (sym c.id.ensures.id) ∙ sym c.has.ensures.gated ∙ c.if-has.true)

pub load-requires-clause-plain : goal.load-requires-clause-plain
load-requires-clause-plain c = ap (λ g. is_gated g (id_of c.args.self.now.fiber)) (sym c.requires.gated) ∙ ap (is_gated c.args.shared.now.gated) (sym c.id.ensures.id) ∙ sym c.has.ensures.gated ∙ c.if-has.false
