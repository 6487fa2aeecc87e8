use Rattle.std.proofs.Common.{sym, ap, ◌∙◌}
use Rattle.std.specs.Prelude.{◌&&◌}
use Rattle.pg_law_threads.specs.Intervals.{Timed}
use Rattle.pg_schedule.specs.Unordered.{timed_of}
use Rattle.pg_schedule.specs.declared.interval.Turns.TheVariants as turns
use Rattle.pg_schedule.specs.Touches.{any_byte}
use Rattle.pg_run_trace.specs.Races as races
use Rattle.pg_run_trace.specs.Steps.{range_of}
use Rattle.pg_run_trace.specs.declared.step.Step.{Step}
use Rattle.pg_schedule.specs.Links.{accesses_byte}
use Rattle.pg_schedule.specs.Partners.{partner_of}
use Rattle.pg_schedule.proofs.NumberedSteps.{intervals_length}
use Rattle.pg_schedule.proofs.ByteLinks.{any_is_whole, none_first, none_is_unordered, same_first}
use Rattle.pg_schedule.proofs.partners.partner.Goals as goal

pub timed-x-requires-clause-as_many : goal.timed-x-requires-clause-as_many
timed-x-requires-clause-as_many c = intervals_length c.args.t.now.steps c.args.intervals.now c.requires.intervals

pub returns-in-Some : goal.returns-in-Some
returns-in-Some c =
    let ys = races.timed_by races.asked c.args.t.now.steps in
    let x = timed_of c.timed-x.result in
    let a = c.in-Some.access in
    c.first_at.ensures
    ∙ same_first (λ (y : Timed Step). any_byte (λ b. accesses_byte b y.did && races.is_unordered x y) (range_of a).start a.bytes) (races.is_unordered x)
    (any_is_whole x a (sym c.access.ensures ∙ c.in-Some.is)) 0 ys
    ∙ sym (ap (partner_of ys) (c.timed-x.ensures turns.Asked c.requires.intervals))

pub returns-in-None : goal.returns-in-None
returns-in-None c =
    let ys = races.timed_by races.asked c.args.t.now.steps in
    let x = timed_of c.timed-x.result in
    none_first (races.is_unordered x) (none_is_unordered x (sym c.access.ensures ∙ c.in-None.is)) 0 ys
    ∙ sym (ap (partner_of ys) (c.timed-x.ensures turns.Asked c.requires.intervals))
