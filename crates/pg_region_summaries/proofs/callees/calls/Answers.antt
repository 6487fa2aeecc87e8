use Rattle.std.proofs.Common.{◌≡◌, arith, ◌∙◌}
use Rattle.pg_region_summaries.specs.Callees.{calls_of}
use Rattle.pg_region_summaries.proofs.InstructionPlaces.{graph_is, graph_closed}
use Rattle.pg_region_summaries.proofs.callees.calls.Goals as goal

pub returns-clause-calls : goal.returns-clause-calls
returns-clause-calls c = c.loop-f.invariant.graph ∙ graph_is c.args.p.now c.loop-f.f (omega (arith, c.loop-f-test.false, c.loop-f.invariant.upto, c.function_count-f-end.ensures.count))

pub returns-clause-closed : goal.returns-clause-closed
returns-clause-closed c =
    let is : c.loop-f.graph ≡ calls_of c.args.p.now = c.loop-f.invariant.graph
    ∙ graph_is c.args.p.now c.loop-f.f (omega (arith, c.loop-f-test.false, c.loop-f.invariant.upto, c.function_count-f-end.ensures.count)) in
    rw is (graph_closed c.args.p.now c.facts.ensures.holds)
