use Rattle.std.proofs.Common.{◌≡◌, List, map, sym, ap, ◌∙◌, subst}
use Rattle.pg_crew.specs.pg_run.declared.outcome.Outcome.TheVariants as outcomes
use Rattle.pg_crew.specs.pg_run.Rotation.{rotation_of}
use Rattle.pg_crew.specs.pg_run_trace.declared.turn.Race.{Race}
use Rattle.pg_crew.specs.pg_run_trace.declared.schedule.Schedule.{Schedule}
use Rattle.pg_crew.specs.pg_run_trace.Races.{schedule_by, schedule_of}
use Rattle.pg_crew.specs.pg_law_order.Good.{IsGoodRun}
use Rattle.pg_test_seats.proofs.schedules.scheduled.Goals as goal

pub returns : goal.returns
returns c =
    let p = c.args.p.now in
    let input = c.args.input.now in
    let run = rotation_of c.args.p.now c.args.input.now c.args.quantum in
    let ended : run.end ≡ outcomes.Exit c.in-Exit.field-0 = sym c.in_ok-run.ensures.end ∙ c.in-Exit.is in
    let good = c.a_recorded_run_is_good.ensures p input run.trace run.state c.can_run.ensures (c.the_schedule_of_a_rotation_run_is_good.ensures.recorded p input c.args.quantum c.in-Exit.field-0 ended).0 in
    let races = ap (λ (rs : List Race). schedule_by (map (λ (r : Race). r.instr) rs) c.in_ok-run.run'.trace.steps) (c.as_slice.ensures.value ∙ c.in_ok-races-in-Exit.ensures) in
    subst (λ (s : Schedule). IsGoodRun c.args.p.now c.args.input.now s) (sym (c.in_ok-s-in-Exit.ensures ∙ races ∙ ap schedule_of c.in_ok-run.ensures.trace)) good
