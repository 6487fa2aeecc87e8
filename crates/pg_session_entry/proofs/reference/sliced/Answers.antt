use Rattle.std.proofs.Common.{◌∙◌}
use Rattle.pg_session_entry.proofs.reference.sliced.Goals as goal

pub slice-requires : goal.slice-requires
slice-requires c = record {
  given = record {
    edges = c.in_ok-replay.ensures.edges;
    steps = c.requires.can.steps;
    count = c.in_ok-replay.ensures.count;
    intervals = c.as_slice.ensures.value ∙ c.in_ok-intervals.ensures;
    few = c.requires.can.few;
  };
}

pub returns-clause-slice : goal.returns-clause-slice
returns-clause-slice c =
    let h = c.in_ok-replay.ensures in
    let can = c.requires.can in
    let gated = c.args.gated.now in
    let input = c.args.input.now in
    record {
      sums = h.sums;
      summaries = h.summaries;
      slice = λ regions are. c.in_ok-found.ensures.slice regions gated input (h.landmarks regions are) (can.extents h.sums regions h.summaries are);
      admits = λ regions are other. c.in_ok-found.ensures.admits regions gated input other (h.landmarks regions are);
      needed = c.in_ok-found.ensures.needed;
    }
