use Rattle.std.proofs.Common.{◌<◌, length, rules, arith, sym, ap, ◌∙◌}
use Rattle.pg_run_trace.specs.Races as races
use Rattle.pg_schedule.proofs.StepPositions.{timed_length}
use Rattle.pg_schedule.specs.Firsts.{is_raced}
use Rattle.pg_schedule.proofs.NumberedSteps.{get_some}
use Rattle.pg_schedule.proofs.RaceTable.{at_step, first_kept, first_noted, instr_below, step_at}
use Rattle.pg_schedule.proofs.firsts.note.Goals as goal

pub index_mut-requires : goal.index_mut-requires
index_mut-requires c =
    let i = instr_below c.args.t.now.steps c.args.i c.step-step.result c.step-step.ensures in
    let e = c.requires.instrs in
    let l : c.step-step.result.instr.0 < length c.args.firsts.now.items = omega (arith, i, e) in
    first_of (omega (arith, l), search (rules, l))

pub returns-then-is_raced-clause-firsts : goal.returns-then-is_raced-clause-firsts
returns-then-is_raced-clause-firsts c =
    let xs = c.args.t.now.steps in
    let ys = races.timed_by races.asked xs in
    let h = c.step-step.ensures in
    let i = instr_below xs c.args.i c.step-step.result h in
    let e = c.requires.instrs in
    let at = at_step xs c.args.i c.step-step.result h in
    first_noted ys c.args.i (step_at xs c.args.i c.step-step.result h) at c.args.firsts.now.items c.requires.firsts
    (sym (c.is_raced.ensures ∙ ap (is_raced ys) at) ∙ c.if-is_raced.true) (omega (arith, i, e))

pub returns-else-is_raced-clause-firsts : goal.returns-else-is_raced-clause-firsts
returns-else-is_raced-clause-firsts c =
    let ys = races.timed_by races.asked c.args.t.now.steps in
    let l = timed_length races.asked c.args.t.now.steps in
    let at = get_some ys c.args.i (omega (arith, l, c.requires.within)) in
    first_kept ys c.args.i at.0 at.1 c.args.firsts.now.items c.requires.firsts (sym (c.is_raced.ensures ∙ ap (is_raced ys) at.1) ∙ c.if-is_raced.false)
