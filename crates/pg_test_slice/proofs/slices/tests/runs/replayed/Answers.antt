use Rattle.std.proofs.Common.{◌≡◌, List, rules, subst, sym}
use Rattle.pg_region_accesses.specs.Accesses.{is_gated, summary_of}
use Rattle.pg_ir.specs.declared.ids.InstrId.{InstrId}
use Rattle.pg_run.specs.Runs.{IsRun}
use Rattle.pg_run.specs.State.{State, initial}
use Rattle.pg_region_summaries.specs.Summaries.{AreSummaries}
use Rattle.pg_test_slice.proofs.slices.tests.runs.replayed.Goals as goal

pub reference-requires-clause-run : goal.reference-requires-clause-run
reference-requires-clause-run g c =
    let p = c.args.job.now.p.now in
    let same : c.as_slice-gated.result.now ≡ c.args.schedule.now.gated = search rules in
    subst (λ (gs : List InstrId). (z : State) × IsRun gs p c.args.job.now.row.now.input.now (initial p) c.args.t.now.steps z) (sym same) c.requires.can.run

pub timed-requires-clause-edges : goal.timed-requires-clause-edges
timed-requires-clause-edges g c =
    let p = c.args.job.now.p.now in
    let sums = summary_of c.args.sums.now in
    let gated = c.as_slice-gated.result.now in
    let same : c.as_slice-gated.result.now ≡ c.args.schedule.now.gated = search rules in
    let are = subst (λ (gs : List InstrId). AreSummaries p (is_gated gs) sums) (sym same) c.requires.sums in
    c.replays_have_edges.ensures p c.args.job.now.row.now.input.now gated sums c.args.t.now.steps c.in_ok-replay.replay c.facts.ensures.holds are c.in_ok-replay.ensures.landmarks
