use Rattle.std.proofs.Common.{arith}
use Rattle.pg_run_objects.proofs.ObjectTables.{below_up_to, stops_at}
use Rattle.pg_run_objects.proofs.table.position.Goals as goal

pub loop-low-preserved-then-entries-middle : goal.loop-low-preserved-then-entries-middle
loop-low-preserved-then-entries-middle c = record {
  order = omega (arith, c.loop-low-test.true, c.loop-low.invariant.order);
  bound = c.loop-low.invariant.bound;
  below = below_up_to _ c.args.entries.now _ _ c.requires (omega (arith, c.loop-low-test.true, c.loop-low.invariant.order, c.loop-low.invariant.bound)) c.if-entries-middle.true;
  stops = c.loop-low.invariant.stops;
}

pub loop-low-preserved : goal.loop-low-preserved
loop-low-preserved c = record {
  order = omega (arith, c.loop-low-test.true, c.loop-low.invariant.order);
  bound = omega (arith, c.loop-low-test.true, c.loop-low.invariant.order, c.loop-low.invariant.bound);
  below = c.loop-low.invariant.below;
  stops = stops_at _ c.args.entries.now _ _ (omega (arith, c.loop-low-test.true, c.loop-low.invariant.order, c.loop-low.invariant.bound)) c.if-entries-middle.false;
}
