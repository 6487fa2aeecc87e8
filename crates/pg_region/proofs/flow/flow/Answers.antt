use Rattle.std.proofs.Common.{◌≡◌, length, sym, ap, subst, arith}
use Rattle.pg_cfg.specs.Graphs.{EdgeLists, IsClosed}
use Rattle.pg_region.specs.Regions.{flow_of}
use Rattle.pg_region.proofs.FlowGraphs.{flow_whole, flow_closed, flow_size}
use Rattle.pg_region.proofs.flow.flow.Goals as goal

pub returns-clause-flow : goal.returns-clause-flow
returns-clause-flow c = flow_whole c.args.p.now c.loop-b.b c.loop-b.graph c.loop-b.invariant (omega (arith, c.loop-b-test.false, c.loop-b.auto.b-end, c.block_count-count.ensures.count))

pub returns-clause-closed : goal.returns-clause-closed
returns-clause-closed c =
    let e : c.loop-b.graph ≡ flow_of c.args.p.now = flow_whole c.args.p.now c.loop-b.b c.loop-b.graph c.loop-b.invariant
    (omega (arith, c.loop-b-test.false, c.loop-b.auto.b-end, c.block_count-count.ensures.count)) in
    subst (λ (g : EdgeLists). IsClosed g) (sym e) (flow_closed c.args.p.now c.facts.ensures.holds (omega (arith, c.block_count-count.ensures.count, c.block_count-count.ensures.few)))

pub returns-clause-few : goal.returns-clause-few
returns-clause-few c =
    let e : c.loop-b.graph ≡ flow_of c.args.p.now = flow_whole c.args.p.now c.loop-b.b c.loop-b.graph c.loop-b.invariant
    (omega (arith, c.loop-b-test.false, c.loop-b.auto.b-end, c.block_count-count.ensures.count)) in
    omega (arith, ap (λ (g : EdgeLists). length g) e, flow_size c.args.p.now, c.block_count-count.ensures.count, c.if-count.false)
