use Rattle.std.proofs.Common.{◌≡◌, ◌<◌, false, true, length, sym, subst}
use Rattle.std.specs.Prelude.{slice_index_or}
use Rattle.pg_slice_decisions.specs.Steps.{taken_by}
use Rattle.pg_slice.specs.Settled.{AreLive, Shares}
use Rattle.pg_slice.proofs.MoreDecisions.{some_of}
use Rattle.pg_slice.proofs.TimedSteps.{exact_by}
use Rattle.pg_slice.proofs.spread.asks_exact.Goals as goal

pub returns-in-Some : goal.returns-in-Some
returns-in-Some c = λ q. exact_by c.args.run.now.t.now.steps c.args.run.now.intervals.now c.requires.asked.intervals c.args.run.now.r.now c.args.holders.now
    (taken_by c.args.decisions.now) c.as_slice.result.now c.args.number c.args.step.now c.requires.step c.requires.asked.here
    (subst (λ l. AreLive c.args.holders.now (taken_by c.args.decisions.now) l) (sym c.as_slice.ensures.value) c.requires.asked.live)
    c.in-Some.rival (some_of c.sharing.result c.in-Some.rival (λ y. (y < length c.args.run.now.t.now.steps) × (slice_index_or c.as_slice.result.now y false ≡ true)
    × Shares c.args.run.now.t.now.steps c.args.number y) c.sharing.ensures c.in-Some.is)
