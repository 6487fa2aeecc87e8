use Rattle.pg_slice_passes.specs.pg_slice_replay.Given.{access_as}
use Rattle.pg_law_demands.specs.Cells.{IsMet}
use Rattle.pg_law_demands.specs.Demands.{free_access_demands}
use Rattle.pg_slice_back.proofs.NeedsBackOverSteps.{each_of}
use Rattle.pg_slice_back.proofs.RegionPathNeeds.{got_access}
use Rattle.pg_slice_back.proofs.paths.put_one.Goals as goal

pub returns-in-Some : goal.returns-in-Some
returns-in-Some c = λ l q s y e f th dp h m.
    let a = c.in-Some.access in
    c.in_ok-put_access.ensures s y th dp
    (each_of (free_access_demands y) (IsMet s) q.accesses c.args.k (access_as a) (got_access _ l q c.args.k c.access.result a e f c.in-Some.is c.access.ensures.access) h) m
