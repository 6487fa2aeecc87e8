use Rattle.std.proofs.Common.{◌≡◌, None, length, take, arith, sym, ◌∙◌, subst}
use Rattle.std.specs.List.{position_from}
use Rattle.pg_run_trace.specs.Races as races
use Rattle.pg_schedule.specs.declared.interval.Turns.TheVariants as turns
use Rattle.pg_schedule.specs.Unordered.{timed_of}
use Rattle.pg_schedule.proofs.StepPositions.{found, none_all, none_more, timed_length}
use Rattle.pg_schedule.proofs.NumberedSteps.{intervals_length}
use Rattle.pg_schedule.proofs.pairs.partner.Goals as goal

pub timed-x-requires-clause-as_many : goal.timed-x-requires-clause-as_many
timed-x-requires-clause-as_many c = intervals_length c.args.t.now.steps c.args.intervals.now c.requires.intervals

pub timed-y-requires-clause-as_many : goal.timed-y-requires-clause-as_many
timed-y-requires-clause-as_many c = intervals_length c.args.t.now.steps c.args.intervals.now c.requires.intervals

pub returns-then-is_unordered : goal.returns-then-is_unordered
returns-then-is_unordered c =
    let at = c.timed-x.ensures turns.Asked c.requires.intervals in
    rw at (sym (found (races.is_unordered (timed_of c.timed-x.result)) (races.timed_by races.asked c.args.t.now.steps) c.loop-j.j (timed_of c.timed-y.result) c.loop-j.invariant
    (c.timed-y.ensures turns.Asked c.requires.intervals) (sym c.is_unordered.ensures ∙ c.if-is_unordered.true)))

pub loop-j-preserved : goal.loop-j-preserved
loop-j-preserved c = none_more (races.is_unordered (timed_of c.timed-x.result)) (races.timed_by races.asked c.args.t.now.steps) c.loop-j.j (timed_of c.timed-y.result) c.loop-j.invariant
    (c.timed-y.ensures turns.Asked c.requires.intervals) (sym c.is_unordered.ensures ∙ c.if-is_unordered.false)

pub returns : goal.returns
returns c =
    let at = c.timed-x.ensures turns.Asked c.requires.intervals in
    let l = timed_length races.asked c.args.t.now.steps in
    let q : c.loop-j.j ≡ length (races.timed_by races.asked c.args.t.now.steps) = omega (arith, l) in
    rw at (sym (none_all (races.is_unordered (timed_of c.timed-x.result)) (races.timed_by races.asked c.args.t.now.steps)
    (subst (λ n. position_from (races.is_unordered (timed_of c.timed-x.result)) 0 (take n (races.timed_by races.asked c.args.t.now.steps)) ≡ None) q c.loop-j.invariant)))
