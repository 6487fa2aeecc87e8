use Rattle.pg_run.proofs.OwnSteps.{recorded_asks, recorded_done}
use Rattle.pg_run.proofs.recording.record_own.Goals as goal

pub returns-in-Asks-clause-step : goal.returns-in-Asks-clause-step
returns-in-Asks-clause-step c = recorded_asks c.args.p.now c.args.state.now c.go_on.new.self c.args.t.0 c.args.records c.args.trace.now c.go_on.result c.in-Asks.action c.in-Asks.is
    c.go_on.ensures.step

pub returns-in-Done-clause-step : goal.returns-in-Done-clause-step
returns-in-Done-clause-step c = recorded_done c.args.p.now c.args.state.now c.go_on.new.self c.args.t.0 c.args.records c.args.trace.now c.keep.new.trace c.go_on.result c.in-Done.told
    c.id-id.result.0 c.told_as.result c.in-Done.is c.go_on.ensures.step c.id-id.ensures c.told_as.ensures c.keep.ensures
