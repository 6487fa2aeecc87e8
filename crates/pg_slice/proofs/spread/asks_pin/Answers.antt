use Rattle.std.proofs.Common.{◌≡◌, ◌<◌, false, true, length, sym, ◌∙◌, subst}
use Rattle.std.specs.Prelude.{IfSome, is_some, slice_index_or}
use Rattle.pg_slice_decisions.specs.Steps.{taken_by}
use Rattle.pg_slice_walk.specs.pg_slice_replay.Kept.{landmark_at}
use Rattle.pg_slice_walk.specs.pg_slice_replay.Landmarks.{Landmark}
use Rattle.pg_slice.specs.Settled.{AreLive, Disturbs}
use Rattle.pg_slice.proofs.MoreDecisions.{some_of}
use Rattle.pg_slice.proofs.TimedSteps.{owed_bound, pin_by}
use Rattle.pg_slice.proofs.spread.asks_pin.Goals as goal

pub returns-then-not-is_free : goal.returns-then-not-is_free
returns-then-not-is_free c = λ q. owed_bound c.args.run.now.t.now.steps c.args.run.now.intervals.now c.requires.asked.intervals c.args.run.now.r.now c.args.holders.now
    (taken_by c.args.decisions.now) c.args.number c.args.step.now c.requires.step c.requires.asked.here
    (sym c.is_branch.ensures ∙ c.if-not-is_branch.false)
    (subst (λ b. IfSome (landmark_at c.args.run.now.r.now c.args.number) (λ (l : Landmark). b ≡ is_some l.region)) c.if-not-is_free.true c.is_free.ensures.free)

pub returns-in-Some : goal.returns-in-Some
returns-in-Some c = λ q. pin_by c.args.run.now.t.now.steps c.args.run.now.intervals.now c.requires.asked.intervals c.args.run.now.r.now c.args.holders.now
    (taken_by c.args.decisions.now) c.as_slice.result.now c.args.number c.args.step.now c.requires.step c.requires.asked.here
    (subst (λ l. AreLive c.args.holders.now (taken_by c.args.decisions.now) l) (sym c.as_slice.ensures.value) c.requires.asked.live)
    c.in-Some.rival (some_of c.disturbing.result c.in-Some.rival (λ y. (y < length c.args.run.now.t.now.steps) × (slice_index_or c.as_slice.result.now y false ≡ true)
    × Disturbs c.args.run.now.r.now c.args.run.now.t.now.steps c.args.number y) c.disturbing.ensures c.in-Some.is)
