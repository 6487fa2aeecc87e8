use Rattle.std.proofs.Common.{◌≡◌, true, sym, ◌∙◌, arith, length}
use Rattle.pg_run.specs.MachineStep.{ready}
use Rattle.pg_run.specs.Rotation.{around}
use Rattle.pg_run.proofs.Rotations.{first_found}
use Rattle.pg_run.proofs.rotation.next_ready.Goals as goal

pub returns-then-ready-clause-least : goal.returns-then-ready-clause-least
returns-then-ready-clause-least c =
    let h : ready c.args.p.now c.args.state.now (around c.args.state.now c.args.t.0 c.loop-d.d) ≡ true = rw (← c.count-n.ensures) (sym c.ready.ensures ∙ c.if-ready.true) in
    sym (first_found (λ d. ready c.args.p.now c.args.state.now (around c.args.state.now c.args.t.0 d)) c.loop-d.d (length c.args.state.now.locals) c.loop-d.invariant h
    (omega (arith, c.loop-d-test.true, c.count-n.ensures)))
