use Rattle.std.proofs.Common.{refl}
use Rattle.std.specs.Prelude.{slice_get}
use Rattle.pg_run.proofs.OwnSteps.{goes_in, stays_in}
use Rattle.pg_run.proofs.state.MachineState.go_on.Goals as goal

pub returns-clause-step : goal.returns-clause-step
returns-clause-step c = rw (c.advance_thread.ensures.state, c.advance_thread.ensures.answer)
    (goes_in c.args.p.now c.args.self.now c.args.t.0 c.facts.ensures.holds c.requires.of c.requires.going (slice_get c.args.self.now.locals c.args.t.0) refl)

pub returns-clause-of : goal.returns-clause-of
returns-clause-of c = rw c.advance_thread.ensures.state (stays_in c.args.p.now c.args.self.now c.args.t.0 c.facts.ensures.holds c.requires.of c.requires.going
    (slice_get c.args.self.now.locals c.args.t.0) refl)
