use Rattle.pg_slice.proofs.slicing.take_found.Goals as goal

-- what is spread, and then what the walk takes
pub returns-clause-widens : goal.returns-clause-widens
returns-clause-widens c =
    let spread = c.in_ok-spread_over.ensures.widens in
    let walked = c.in_ok-take_demanded.ensures.widens in
    record {
      by = λ regions gated input told e closed within.
          walked.by regions gated input told e closed (spread.by c.args.run.now.p.now regions gated input told.landmarks told.keeps told.holds e closed within);
    }
