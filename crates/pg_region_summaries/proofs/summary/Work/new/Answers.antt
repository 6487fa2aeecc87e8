use Rattle.std.proofs.Common.{length, ap, ◌∙◌}
use Rattle.pg_cfg.specs.Graphs.{EdgeLists}
use Rattle.pg_region_summaries.proofs.InstructionPlaces.{graph_size}
use Rattle.pg_region_summaries.proofs.PreparedSummaries.{few_functions, reached_in}
use Rattle.pg_region_summaries.proofs.summary.Work.new.Goals as goal

pub reaches-requires-clause-few : goal.reaches-requires-clause-few
reaches-requires-clause-few c = rw c.in_ok-calls.ensures.calls (few_functions c.args.p.now c.facts.ensures.holds)

pub returns : goal.returns
returns c = record {
  table = c.in_ok-gated.ensures;
  covers = c.in_ok-spans.ensures.spans;
  named = c.in_ok-started.ensures.started;
  reach_count = c.in_ok-reaches.ensures.size ∙ ap (λ (l : EdgeLists). length l) c.in_ok-calls.ensures.calls ∙ graph_size c.args.p.now;
  reached = reached_in c.args.p.now c.in_ok-calls.calls c.in_ok-reaches.reaches.items c.in_ok-calls.ensures.calls c.in_ok-reaches.ensures.reaches;
}
