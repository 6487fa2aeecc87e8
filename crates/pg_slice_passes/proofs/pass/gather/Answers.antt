use Rattle.std.proofs.Common.{◌≡◌, ℕ, length, arith, sym, subst}
use Rattle.pg_slice_decisions.specs.Steps.{taken_by}
use Rattle.pg_slice_checks.specs.Asks.{AreNamed}
use Rattle.pg_slice_passes.specs.declared.pass.Gathered.{Gathered}
use Rattle.pg_slice_passes.specs.Given.{reference_of}
use Rattle.pg_slice_passes.specs.Passes.{HasPassed}
use Rattle.pg_slice_passes.proofs.FootprintOrder.{earlier_none}
use Rattle.pg_slice_passes.proofs.OneStepMore.{none_named, passed_none}
use Rattle.pg_slice_passes.proofs.RowsOfFootprints.{none_added_yet, none_owned_yet}
use Rattle.pg_slice_passes.proofs.pass.gather.Goals as goal

pub loop-n-init : goal.loop-n-init
loop-n-init c =
    let g : Gathered = record { symbolic_nodes = c.in_ok-symbolic_nodes.symbolic_nodes; asked = c.new-2.result; footprints = c.in_ok-footprints.footprints } in
    let ns = c.start.new.nodes in (
      c.in_ok-symbolic_nodes.ensures.is,
      earlier_none c.args.run.now.t.now.steps c.in_ok-footprints.footprints c.in_ok-footprints.ensures.kept c.in_ok-footprints.ensures.rows,
      none_named (length ns) c.new-2.result.checks.items c.new-2.ensures.checks,
      λ regions gated input marks.
          passed_none (reference_of c.args.run.now.p.now regions gated input c.args.run.now.t.now.steps) (taken_by c.args.d.now) ns g
          (c.in_ok-symbolic_nodes.ensures.knows (taken_by c.args.d.now).pinned) c.new-2.ensures.missing c.new-2.ensures.checks
          (none_added_yet c.in_ok-footprints.footprints c.in_ok-footprints.ensures.rows) (none_owned_yet c.in_ok-footprints.footprints c.in_ok-footprints.ensures.rows),
    )

pub loop-n-preserved : goal.loop-n-preserved
loop-n-preserved c =
    let v = c.loop-n.invariant in
    let e = c.in_ok-pass_step.ensures in (e.symbolic_nodes, e.earlier v.1, e.named v.2, λ regions gated input marks. e.passed regions gated input marks (v.3 regions gated input marks))

pub returns-clause-passed : goal.returns-clause-passed
returns-clause-passed c = λ regions gated input marks.
    let q : c.loop-n.n ≡ length c.args.run.now.t.now.steps = omega (arith, c.loop-n.auto.n-end, c.loop-n-test.false, c.len-n-end.ensures) in
    subst (λ (k : ℕ). HasPassed (reference_of c.args.run.now.p.now regions gated input c.args.run.now.t.now.steps) (taken_by c.args.d.now) k c.loop-n.nodes c.loop-n.g) q
    (c.loop-n.invariant.3 regions gated input marks)

pub pass_step-requires-clause-rows : goal.pass_step-requires-clause-rows
pass_step-requires-clause-rows c = c.loop-n.invariant.1.rows

pub returns-clause-rows : goal.returns-clause-rows
returns-clause-rows c = c.loop-n.invariant.1.rows

pub returns-clause-order : goal.returns-clause-order
returns-clause-order c = c.loop-n.invariant.1.order
