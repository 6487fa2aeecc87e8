use Rattle.std.proofs.Common.{◌∙◌}
use Rattle.pg_test_slice.proofs.slices.tests.runs.timed.Goals as goal

pub sliced-requires : goal.sliced-requires
sliced-requires g c = record {
  edges = c.requires.edges;
  steps = c.requires.steps;
  count = c.requires.count;
  intervals = c.as_slice.ensures.value ∙ c.in_ok-intervals.ensures;
  few = c.requires.few;
}
