use Rattle.std.proofs.Common.{◌+◌, refl, sym, ap, ap₂, ◌∙◌, false}
use Rattle.std.specs.Prelude.{◌&&◌}
use Rattle.std.specs.List.{find}
use Rattle.pg_law_threads.specs.Intervals.{Timed, owners}
use Rattle.pg_law_threads.proofs.TimedSteps.{did_times}
use Rattle.pg_schedule.specs.Unordered.{timed_of}
use Rattle.pg_run_trace.specs.Races as races
use Rattle.pg_run_trace.specs.Steps.{range_of}
use Rattle.pg_run_trace.specs.declared.step.Step.{Step}
use Rattle.pg_schedule.specs.Links.{accesses_byte, head_at, is_unordered_at, lesser, linked}
use Rattle.pg_schedule.proofs.ByteLinks.{byte_first, first_of_byte, none_first}
use Rattle.pg_schedule.proofs.partners.first_at.Goals as goal

pub loop-k-init : goal.loop-k-init
loop-k-init c = none_first (λ (y : Timed Step). false) (λ y. refl) 0 (races.timed_by races.asked c.args.t.now.steps)

pub loop-k-preserved : goal.loop-k-preserved
loop-k-preserved c =
    let xs = c.args.t.now.steps in
    let ys = races.timed_by races.asked xs in
    let x = timed_of c.args.x.now in
    let b = (range_of c.args.access).start + c.loop-k.k in
    let links = c.args.links.now in
    c.lesser-first.ensures
    ∙ ap₂ lesser c.loop-k.invariant
    (c.first_linked.ensures ∙ ap (λ n. find (is_unordered_at ys x) (linked links.links.items n)) (c.head-from.ensures ∙ ap (head_at links) c.byte_of.ensures)
    ∙ ap (find (is_unordered_at ys x)) (c.requires.links.chains b) ∙ first_of_byte ys xs x b (did_times races.asked (owners races.asked xs) 0 xs))
    ∙ sym (byte_first (λ (y : Timed Step) (d : _). accesses_byte d y.did && races.is_unordered x y) (range_of c.args.access).start c.loop-k.k ys)
