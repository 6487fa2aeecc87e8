use Rattle.std.proofs.Common.{◌∙◌, sym}
use Rattle.pg_session_entry.proofs.turns.follow_to_exit.Goals as goal

pub returns-clause-exit : goal.returns-clause-exit
returns-clause-exit c = let e = c.in_ok-exits.ensures.exit c.follow_into.new.trace.steps in (e.0, e.1, sym c.in_ok-end.ensures.followed ∙ e.2)

pub returns-clause-sliceable : goal.returns-clause-sliceable
returns-clause-sliceable c =
    let p = c.args.p.now in
    let input = c.args.input.now in
    let s = c.args.schedule.now in
    let steps = c.follow_into.new.trace.steps in
    let can = c.can_run.ensures in
    let e = c.in_ok-exits.ensures.exit steps in
    c.exiting_runs_can_be_sliced.ensures p input s.turns s.gated steps e.0 e.1 can.program can.bytes can.small (sym c.in_ok-end.ensures.followed ∙ e.2)
