use Rattle.std.proofs.Common.{◌≡◌, ◌<◌, ◌∙◌, List, length, map, rules, subst, sym}
use Rattle.std.specs.Prelude.{All}
use Rattle.pg_ir.specs.declared.ids.InstrId.{InstrId}
use Rattle.pg_run_trace.specs.declared.schedule.Schedule.{Schedule}
use Rattle.pg_run_trace.specs.declared.step.Step.{Step}
use Rattle.pg_run_trace.specs.declared.turn.Race.{Race}
use Rattle.pg_run_trace.specs.Races.{races_of, schedule_by, schedule_of}
use Rattle.pg_run.specs.Guided.{guided_of}
use Rattle.pg_run.specs.State.{exit_value_of}
use Rattle.pg_session_entry.proofs.EntryParts.{along_made, made}
use Rattle.pg_session_entry.proofs.recording.entry_of.Goals as goal

-- the schedule that is made of a trace's races, which are handed on
made_by : (xs : List Step) (races listed : List Race) (s : Schedule) → listed ≡ races → races ≡ races_of xs → s ≡ schedule_by (map (λ (r : Race). r.instr) listed) xs
    → s ≡ schedule_of xs
made_by xs races listed s same is by = made xs listed s (same ∙ is) by

pub followed-requires-clause-exits : goal.followed-requires-clause-exits
followed-requires-clause-exits c =
    let xs = c.args.trace.now.steps in
    let z = c.requires.recorded.0 in
    let same = made_by xs c.in_ok-races.races.items c.as_slice.result.now c.in_ok-schedule.schedule (search rules) c.in_ok-races.ensures c.in_ok-schedule.ensures in (
      _,
      z.printed,
      exit_value_of z,
      along_made c.args.p.now c.args.input.now xs c.in_ok-schedule.schedule z same
          (c.the_schedule_of_a_recorded_run_is_followed.ensures c.args.p.now c.args.input.now xs z c.requires.can_run c.requires.recorded.1),
    )

pub entry_along-requires-clause-gated : goal.entry_along-requires-clause-gated
entry_along-requires-clause-gated c =
    let xs = c.args.trace.now.steps in
    let same = made_by xs c.in_ok-races.races.items c.as_slice.result.now c.in_ok-schedule.schedule (search rules) c.in_ok-races.ensures c.in_ok-schedule.ensures in
    subst (λ (s : Schedule). All (λ (g : InstrId). g.0 < length c.args.p.now.instrs) s.gated) (sym same)
    (c.races_are_at_instructions.ensures c.args.p.now c.args.input.now xs c.requires.recorded.0 c.requires.can_run c.requires.recorded.1)

pub entry_along-requires-clause-exits : goal.entry_along-requires-clause-exits
entry_along-requires-clause-exits c =
    let p = c.args.p.now in
    let input = c.args.input.now in
    let xs = c.args.trace.now.steps in
    let z = c.requires.recorded.0 in
    let same = made_by xs c.in_ok-races.races.items c.as_slice.result.now c.in_ok-schedule.schedule (search rules) c.in_ok-races.ensures c.in_ok-schedule.ensures in (
      z.printed,
      exit_value_of z,
      c.in_ok-followed.ensures (guided_of p input (schedule_of xs).turns (schedule_of xs).gated).trace z.printed (exit_value_of z)
          (along_made p input xs c.in_ok-schedule.schedule z same (c.the_schedule_of_a_recorded_run_is_followed.ensures p input xs z c.requires.can_run c.requires.recorded.1)),
    )

pub returns : goal.returns
returns c = λ z recorded.
    let p = c.args.p.now in
    let input = c.args.input.now in
    let xs = c.args.trace.now.steps in
    let same = made_by xs c.in_ok-races.races.items c.as_slice.result.now c.in_ok-schedule.schedule (search rules) c.in_ok-races.ensures c.in_ok-schedule.ensures in
    record {
      same_input = c.in_ok-entry.ensures.input;
      races = c.in_ok-entry.ensures.races ∙ c.in_ok-races.ensures;
      schedule = c.in_ok-entry.ensures.schedule ∙ same;
      steps = c.followed.new.trace.steps;
      serves = c.in_ok-entry.ensures.serves z.printed (exit_value_of z)
          (c.in_ok-followed.ensures (guided_of p input (schedule_of xs).turns (schedule_of xs).gated).trace z.printed (exit_value_of z)
          (along_made p input xs c.in_ok-schedule.schedule z same (c.the_schedule_of_a_recorded_run_is_followed.ensures p input xs z c.requires.can_run recorded)));
    }
