use Rattle.std.proofs.Common.{arith, sym, ap, ◌∙◌, length}
use Rattle.std.specs.List.{find}
use Rattle.pg_schedule.specs.Unordered.{timed_of}
use Rattle.pg_schedule.specs.declared.interval.Turns.TheVariants as turns
use Rattle.pg_run_trace.specs.Races as races
use Rattle.pg_schedule.specs.Links.{is_unordered_at, is_unordered_with, linked}
use Rattle.pg_schedule.proofs.NumberedSteps.{intervals_length}
use Rattle.pg_schedule.proofs.ByteLinks.{linked_at, walk_end, walk_found, walk_missed}
use Rattle.pg_schedule.proofs.partners.first_linked.Goals as goal

pub timed-y-requires-clause-as_many : goal.timed-y-requires-clause-as_many
timed-y-requires-clause-as_many c = intervals_length c.args.t.now.steps c.args.intervals.now c.requires.intervals

pub returns-then-is_unordered : goal.returns-then-is_unordered
returns-then-is_unordered c =
    let ls = c.args.links.now.links.items in
    let p = is_unordered_at (races.timed_by races.asked c.args.t.now.steps) (timed_of c.args.x.now) in
    walk_found p (linked ls c.loop-at.at) (linked ls c.at-link.result.next) c.at-link.result.step
    (linked_at (length c.args.t.now.steps) ls c.requires.links c.loop-at.at c.at-link.result (omega arith) c.at-link.ensures) (find p (linked ls c.args.from)) c.loop-at.invariant.found
    (ap (is_unordered_with (timed_of c.args.x.now)) (c.timed-y.ensures turns.Asked c.requires.intervals) ∙ sym c.is_unordered.ensures ∙ c.if-is_unordered.true)

pub loop-at-preserved : goal.loop-at-preserved
loop-at-preserved c =
    let ls = c.args.links.now.links.items in
    let p = is_unordered_at (races.timed_by races.asked c.args.t.now.steps) (timed_of c.args.x.now) in
    let w = (c.requires.links _ c.at-link.result c.at-link.ensures).next in
    let i = c.loop-at.invariant.within in
    record {
      within = omega (arith, w, i);
      found = walk_missed p (linked ls c.loop-at.at) (linked ls c.at-link.result.next) c.at-link.result.step
          (linked_at (length c.args.t.now.steps) ls c.requires.links c.loop-at.at c.at-link.result (omega arith) c.at-link.ensures) (find p (linked ls c.args.from)) c.loop-at.invariant.found
          (ap (is_unordered_with (timed_of c.args.x.now)) (c.timed-y.ensures turns.Asked c.requires.intervals) ∙ sym c.is_unordered.ensures ∙ c.if-is_unordered.false);
    }

pub returns : goal.returns
returns c =
    let p = is_unordered_at (races.timed_by races.asked c.args.t.now.steps) (timed_of c.args.x.now) in
    walk_end p c.args.links.now.links.items c.loop-at.at (find p (linked c.args.links.now.links.items c.args.from)) (omega arith) c.loop-at.invariant.found
