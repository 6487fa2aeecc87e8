use Rattle.std.proofs.Common.{length, arith, refl}
use Rattle.pg_slice_decisions.specs.Steps.{taken_by}
use Rattle.pg_slice_values.proofs.GrowingNodes.{grew_length, grew_then}
use Rattle.pg_slice_values.proofs.Widths.{casts_fit}
use Rattle.pg_slice_passes.specs.declared.pass.Gathered.{Gathered}
use Rattle.pg_law_demands.specs.Along.{known_at}
use Rattle.pg_slice_passes.specs.Along.{step_from}
use Rattle.pg_slice_passes.specs.Given.{reference_of}
use Rattle.pg_slice_passes.specs.Passes.{IsTimed}
use Rattle.pg_slice_passes.proofs.TraceSteps.{fits_at, kind_at}
use Rattle.pg_slice_passes.proofs.FootprintOrder.{earlier_more}
use Rattle.pg_slice_passes.proofs.OneStepMore.{are_kept, few_turns, has_moment, intervals_length, is_at, knows_kept, named_more, passed_more}
use Rattle.pg_slice_passes.proofs.pass.pass_step.Goals as goal

pub instr-x-requires : goal.instr-x-requires
instr-x-requires c = (fits_at c.args.run.now.p.now c.args.run.now.t.now.steps c.args.n c.step-step.result c.requires.given.steps c.step-step.ensures).instr

pub interval_at-interval-requires : goal.interval_at-interval-requires
interval_at-interval-requires c = let l = intervals_length c.args.run.now.t.now.steps c.args.run.now.intervals.now c.requires.given.intervals in omega (arith, c.requires.number, l)

pub needs-requires-clause-fits : goal.needs-requires-clause-fits
needs-requires-clause-fits c =
    kind_at c.args.run.now.p.now c.step-step.result c.instr-x.result.now
    (fits_at c.args.run.now.p.now c.args.run.now.t.now.steps c.args.n c.step-step.result c.requires.given.steps c.step-step.ensures) c.instr-x.ensures.at

pub add_footprints-requires-clause-low : goal.add_footprints-requires-clause-low
add_footprints-requires-clause-low c =
    let f = few_turns c.args.run.now.t.now.steps c.args.run.now.intervals.now c.args.n c.step-step.result c.interval_at-interval.result c.requires.given.intervals c.step-step.ensures
    c.interval_at-interval.ensures.or_any in
    let l = f.0 in
    omega (arith, l, c.requires.given.few)

pub add_footprints-requires-clause-high : goal.add_footprints-requires-clause-high
add_footprints-requires-clause-high c =
    let f = few_turns c.args.run.now.t.now.steps c.args.run.now.intervals.now c.args.n c.step-step.result c.interval_at-interval.result c.requires.given.intervals c.step-step.ensures
    c.interval_at-interval.ensures.or_any in
    let l = f.1 in
    omega (arith, l, c.requires.given.few)

pub step-requires-clause-go : goal.step-requires-clause-go
step-requires-clause-go c =
    let f = fits_at c.args.run.now.p.now c.args.run.now.t.now.steps c.args.n c.step-step.result c.requires.given.steps c.step-step.ensures in
    record {
      fits = kind_at c.args.run.now.p.now c.step-step.result c.instr-x.result.now f c.instr-x.ensures.at;
      create = f.create;
      cast = casts_fit c.args.run.now.p.now _ _ _ c.instr-x.result.now.op c.instr-x.ensures.fits.op;
      number = let k = c.requires.given.count in let l = c.requires.number in omega (arith, k, l);
      block = c.requires.given.edges c.args.n;
    }

pub step-requires-clause-symbolic_nodes : goal.step-requires-clause-symbolic_nodes
step-requires-clause-symbolic_nodes c = are_kept c.args.nodes.now c.needs.new.nodes c.args.g.now.symbolic_nodes c.needs.ensures.grew c.requires.symbolic_nodes

pub returns-clause-grew : goal.returns-clause-grew
returns-clause-grew c = grew_then c.args.nodes.now c.needs.new.nodes c.step.new.nodes c.needs.ensures.grew c.step.ensures.grew

pub returns-clause-earlier : goal.returns-clause-earlier
returns-clause-earlier c =
    earlier_more c.args.run.now.t.now.steps c.args.run.now.intervals.now c.args.n c.step-step.result c.interval_at-interval.result c.args.g.now.footprints c.add_footprints.new.footprints
    c.requires.given.intervals c.step-step.ensures c.interval_at-interval.ensures.or_any c.in_ok-add_footprints.ensures.timed

pub returns-clause-named : goal.returns-clause-named
returns-clause-named c = λ h.
    named_more (length c.needs.new.nodes) (length c.step.new.nodes) c.needs.new.asked.checks.items (grew_length c.needs.new.nodes c.step.new.nodes c.step.ensures.grew) (c.in_ok-needs.ensures.named h)

pub returns-clause-passed : goal.returns-clause-passed
returns-clause-passed c = λ regions gated input marks before.
    let p = c.args.run.now.p.now in
    let xs = c.args.run.now.t.now.steps in
    let R = reference_of p regions gated input xs in
    let d = taken_by c.args.d.now in
    let n = c.args.n in
    let r = c.args.run.now.r.now in
    let x = c.step-step.result in
    let i = c.instr-x.result.now in
    let v = c.interval_at-interval.result in
    let old = c.args.nodes.now in
    let mid = c.needs.new.nodes in
    let new = c.step.new.nodes in
    let g1 = c.needs.ensures.grew in
    let g2 = c.step.ensures.grew in
    let s = c.args.g.now.symbolic_nodes in
    let m = has_moment gated p input xs n x v c.args.run.now.intervals.now c.requires.given.intervals c.step-step.ensures c.interval_at-interval.ensures.or_any in
    let k = known_at R d n in
    let y = step_from R d n k m.moment in
    let at = is_at R d r n x i old s m.moment marks m.stands m.did c.instr-x.ensures.at before.known in
    let timed : IsTimed y x v = record { did = m.did; low = m.low; high = m.high } in
    let h : Gathered = record { symbolic_nodes = c.step.new.self; asked = c.needs.new.asked; footprints = c.add_footprints.new.footprints } in
    passed_more R d n m.moment m.stands old new c.args.g.now h (grew_then old mid new g1 g2) before
    (c.in_ok-step.ensures.value R m.moment k refl at.landmark m.did c.instr-x.ensures.at (knows_kept p old mid d.pinned s k g1 c.requires.symbolic_nodes before.known))
    (c.in_ok-needs.ensures.missing R y at) (λ other. c.in_ok-needs.ensures.checks R y new other g2 at)
    (named_more (length mid) (length new) c.needs.new.asked.checks.items (grew_length mid new g2) (c.in_ok-needs.ensures.named before.named))
    (c.in_ok-add_footprints.ensures.footprints R d p old i y at timed) (c.in_ok-add_footprints.ensures.owners R d p old i y at timed)
