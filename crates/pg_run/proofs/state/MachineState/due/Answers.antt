use Rattle.pg_run.proofs.OwnersMayStep.{ready_if_due}
use Rattle.pg_run.proofs.state.MachineState.due.Goals as goal

pub returns-clause-ready : goal.returns-clause-ready
returns-clause-ready c = ready_if_due c.args.gated.now c.args.p.now c.args.turn.now c.args.self.now c.args.action.now c.due_by.result c.due_by.ensures c.requires
