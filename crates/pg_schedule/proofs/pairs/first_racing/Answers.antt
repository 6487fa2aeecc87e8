use Rattle.std.proofs.Common.{◌≡◌, None, length, take, arith, sym, ap, ◌∙◌, subst}
use Rattle.std.specs.List.{position_from}
use Rattle.pg_run_trace.specs.Races as races
use Rattle.pg_schedule.proofs.StepPositions.{found, none_all, none_more, timed_length}
use Rattle.pg_schedule.specs.Partners.{is_racing_at}
use Rattle.pg_schedule.proofs.NumberedSteps.{get_some}
use Rattle.pg_schedule.proofs.pairs.first_racing.Goals as goal

pub returns-then-is_racing-clause-position : goal.returns-then-is_racing-clause-position
returns-then-is_racing-clause-position c =
    let l = timed_length races.asked c.args.t.now.steps in
    let at = get_some (races.timed_by races.asked c.args.t.now.steps) c.loop-i.i (omega (arith, l)) in
    sym (found (races.is_racing (races.timed_by races.asked c.args.t.now.steps) c.args.id.0) (races.timed_by races.asked c.args.t.now.steps) c.loop-i.i at.0 c.loop-i.invariant at.1
    (sym (c.is_racing.ensures ∙ ap (is_racing_at (races.timed_by races.asked c.args.t.now.steps) c.args.id.0) at.1) ∙ c.if-is_racing.true))

pub loop-i-preserved : goal.loop-i-preserved
loop-i-preserved c =
    let l = timed_length races.asked c.args.t.now.steps in
    let at = get_some (races.timed_by races.asked c.args.t.now.steps) c.loop-i.i (omega (arith, l)) in
    none_more (races.is_racing (races.timed_by races.asked c.args.t.now.steps) c.args.id.0) (races.timed_by races.asked c.args.t.now.steps) c.loop-i.i at.0 c.loop-i.invariant at.1
    (sym (c.is_racing.ensures ∙ ap (is_racing_at (races.timed_by races.asked c.args.t.now.steps) c.args.id.0) at.1) ∙ c.if-is_racing.false)

pub returns-clause-position : goal.returns-clause-position
returns-clause-position c =
    let l = timed_length races.asked c.args.t.now.steps in
    let q : c.loop-i.i ≡ length (races.timed_by races.asked c.args.t.now.steps) = omega (arith, l) in
    sym (none_all (races.is_racing (races.timed_by races.asked c.args.t.now.steps) c.args.id.0) (races.timed_by races.asked c.args.t.now.steps)
    (subst (λ n. position_from (races.is_racing (races.timed_by races.asked c.args.t.now.steps) c.args.id.0) 0 (take n (races.timed_by races.asked c.args.t.now.steps)) ≡ None) q
    c.loop-i.invariant))
