use Rattle.std.proofs.Common.{take, arith, sym, ap, ◌∙◌}
use Rattle.std.specs.List.{position_from}
use Rattle.pg_run_trace.specs.Races as races
use Rattle.pg_schedule.specs.declared.interval.Turns.TheVariants as turns
use Rattle.pg_schedule.specs.Unordered.{timed_of}
use Rattle.pg_schedule.proofs.StepPositions.{found, none_more}
use Rattle.pg_schedule.proofs.UnorderedSearch.{get_take, intervals_length_of, take_less}
use Rattle.pg_schedule.proofs.ordered.earlier.Goals as goal

pub timed-y-requires-clause-as_many : goal.timed-y-requires-clause-as_many
timed-y-requires-clause-as_many c = intervals_length_of races.recorded c.args.t.now.steps c.args.intervals.now c.requires.intervals

pub timed-x-requires-clause-as_many : goal.timed-x-requires-clause-as_many
timed-x-requires-clause-as_many c = intervals_length_of races.recorded c.args.t.now.steps c.args.intervals.now c.requires.intervals

pub returns-then-is_unordered : goal.returns-then-is_unordered
returns-then-is_unordered c =
    let at = c.timed-y.ensures turns.Recorded c.requires.intervals in
    let ys = races.timed_by races.recorded c.args.t.now.steps in
    let j = c.args.j in
    let i = c.loop-i.i in
    rw at (sym (found (λ z. races.is_unordered z (timed_of c.timed-y.result)) (take j ys) i (timed_of c.timed-x.result)
    (ap (position_from (λ z. races.is_unordered z (timed_of c.timed-y.result)) 0) (take_less i j ys (omega arith)) ∙ c.loop-i.invariant)
    (get_take i j ys (timed_of c.timed-x.result) (omega arith) (c.timed-x.ensures turns.Recorded c.requires.intervals)) (sym c.is_unordered.ensures ∙ c.if-is_unordered.true)))

pub loop-i-preserved : goal.loop-i-preserved
loop-i-preserved c = none_more (λ z. races.is_unordered z (timed_of c.timed-y.result)) (races.timed_by races.recorded c.args.t.now.steps) c.loop-i.i
    (timed_of c.timed-x.result) c.loop-i.invariant (c.timed-x.ensures turns.Recorded c.requires.intervals) (sym c.is_unordered.ensures ∙ c.if-is_unordered.false)
