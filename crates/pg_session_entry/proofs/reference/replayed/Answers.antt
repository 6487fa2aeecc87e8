use Rattle.std.proofs.Common.{◌≡◌, rules, subst, sym}
use Rattle.pg_region_accesses.specs.Accesses.{is_gated, summary_of}
use Rattle.pg_region_summaries.specs.Summaries.{AreSummaries}
use Rattle.pg_session_entry.proofs.reference.replayed.Goals as goal

pub reference-requires-clause-run : goal.reference-requires-clause-run
reference-requires-clause-run c = c.requires.can.run

pub returns : goal.returns
returns c =
    let p = c.args.p.now in
    let gated = c.args.gated.now in
    let list = c.as_slice.result.now in
    let same : c.as_slice.result.now ≡ c.in_ok-sums.sums.items = search rules in
    let are = subst (λ l. AreSummaries p (is_gated gated) (summary_of l)) (sym same) c.in_ok-sums.ensures.summaries in
    record {
      sums = summary_of list;
      summaries = are;
      landmarks = c.in_ok-replay.ensures.landmarks;
      count = c.in_ok-replay.ensures.count;
      edges = c.replays_have_edges.ensures p c.args.input.now gated (summary_of list) c.args.t.now.steps c.in_ok-replay.replay c.facts.ensures.holds are c.in_ok-replay.ensures.landmarks;
    }
