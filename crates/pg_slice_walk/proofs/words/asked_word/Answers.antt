use Rattle.std.proofs.Common.{◌≡◌}
use Rattle.pg_slice_walk.proofs.RegionSettings.{less_itself}
use Rattle.pg_slice_walk.proofs.WordsBack.{if_is, if_weaker}
use Rattle.pg_run_trace.specs.declared.step.Event.{Event}
use Rattle.pg_run_trace.specs.declared.step.StepKind.TheVariants as kinds
use Rattle.pg_slice_walk.proofs.words.asked_word.Goals as goal

pub returns-in-Some-clause-asked : goal.returns-in-Some-clause-asked
returns-in-Some-clause-asked c = if_weaker c.asked_by.result (λ u h R d x counts m st call present met.
    h R d x c.args.s.now.step.now counts m st call (if_is c.event_in.result c.in-Some.e (λ (v : Event). c.args.s.now.step.now.kind ≡ kinds.Event v) c.in-Some.is c.event_in.ensures.some) present met) c.asked_by.ensures.asked

pub returns-in-None-clause-less : goal.returns-in-None-clause-less
returns-in-None-clause-less c = less_itself c.args.demanded.now
