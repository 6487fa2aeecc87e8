use Rattle.std.proofs.Common.{◌-◌, None, length, arith, ap, ◌∙◌}
use Rattle.pg_run_trace.specs.Races as races
use Rattle.pg_schedule.proofs.StepPositions.{timed_length}
use Rattle.pg_schedule.proofs.RaceTable.{length_same, no_firsts}
use Rattle.pg_schedule.proofs.firsts.firsts.Goals as goal

pub loop-k-init : goal.loop-k-init
loop-k-init c =
    let l = timed_length races.asked c.args.t.now.steps in
    let v = c.instrs_in.ensures.value in (
      ap length c.in_ok-firsts.ensures ∙ length_same c.instrs_in.result None ∙ v,
      no_firsts (races.timed_by races.asked c.args.t.now.steps) c.instrs_in.result (length c.args.t.now.steps - 0) c.in_ok-firsts.firsts.items c.in_ok-firsts.ensures (omega (arith, l)),
    )
