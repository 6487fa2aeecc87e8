use Rattle.pg_run.proofs.StepsBegin.{room_of}
use Rattle.pg_run.proofs.state.MachineState.apply.Goals as goal

pub returns-clause-room : goal.returns-clause-room
returns-clause-room c = room_of c.args.self.now c.args.t.0 c.args.r.now c.apply-answer.new.self c.apply-answer.result c.requires.threads (rw (← c.self.view_is) c.apply-answer.ensures.applied)
