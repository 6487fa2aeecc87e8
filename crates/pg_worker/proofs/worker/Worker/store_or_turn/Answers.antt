use Rattle.std.proofs.Common.{◌∙◌, ap, sym}
use Rattle.pg_seats.specs.pg_run.MachineStep.{is_gated}
use Rattle.pg_seats.specs.pg_run_thread.Told.{id_of}
use Rattle.pg_seats.specs.pg_run_thread.declared.action.Action.TheVariants as actions
use Rattle.pg_worker.specs.Standing.{run_in}
use Rattle.pg_worker.proofs.Segments.{stands_there}
use Rattle.pg_worker.proofs.worker.Worker.store_or_turn.Goals as goal

pub turn-requires-clause-waits : goal.turn-requires-clause-waits
turn-requires-clause-waits c = stands_there (run_in c.args.shared.now) c.args.self.now.fiber (actions.Store c.args.at c.args.number) c.requires.next
    (ap (λ g. is_gated g (id_of c.args.self.now.fiber)) (sym c.requires.gated) ∙ ap (is_gated c.args.shared.now.gated) (sym c.id.ensures.id) ∙ sym c.has.ensures.gated ∙ c.if-has.true)

pub store-requires-clause-plain : goal.store-requires-clause-plain
store-requires-clause-plain c = ap (λ g. is_gated g (id_of c.args.self.now.fiber)) (sym c.requires.gated) ∙ ap (is_gated c.args.shared.now.gated) (sym c.id.ensures.id) ∙ sym c.has.ensures.gated ∙ c.if-has.false
