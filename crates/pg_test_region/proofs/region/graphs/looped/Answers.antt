use Rattle.pg_test_region.proofs.Looped.{looped_closed}
use Rattle.pg_test_region.proofs.region.graphs.looped.Goals as goal

pub returns-clause-closed : goal.returns-clause-closed
returns-clause-closed c = rw (c.in_ok-push-4.ensures.ok, c.in_ok-push-3.ensures.ok, c.in_ok-push-2.ensures.ok, c.in_ok-push.ensures.ok, c.new-graph.ensures.empty) looped_closed
