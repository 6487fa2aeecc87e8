use Rattle.std.proofs.Common.{◌≡◌, ℕ, suc, ◌+◌, ◌∙◌, Some, List, length, refl, ap, sym, subst, arith}
use Rattle.std.specs.Prelude.{slice_get}
use Rattle.pg_run_trace.specs.declared.step.Step.{Step}
use Rattle.pg_slice_rules.specs.Moments.{instr_in}
use Rattle.pg_law_least.specs.Keeps.{every}
use Rattle.pg_slice_passes.specs.Given.{reference_of}
use Rattle.pg_slice_passes.proofs.AllAsked.{as_many}
use Rattle.pg_law_demands.specs.Along.{known_at}
use Rattle.pg_slice_back.specs.declared.registers.Counts.{Counts}
use Rattle.pg_slice_back.specs.Counted.{AreCountedTo}
use Rattle.pg_slice_back.specs.Stacks.{AreStacks}
use Rattle.pg_slice_back.proofs.RegisterCounts.{all_counted, first_known, has_at, none_counted, step_fits}
use Rattle.pg_slice_back.proofs.registers.register_counts.Goals as goal

pub instr-requires : goal.instr-requires
instr-requires c = (step_fits c.args.program.now c.args.trace.now.steps c.loop-n.n c.step-step.result c.requires.steps c.step-step.ensures).instr

pub loop-n-init : goal.loop-n-init
loop-n-init c = (
  ap (λ (xs : List Counts). length xs) c.no_counts-counts.ensures,
  λ regions gated input keeps.
      let R = reference_of c.args.program.now regions gated input c.args.trace.now.steps in (
        subst (AreStacks c.in_ok-calls.calls) (sym (first_known R every)) c.in_ok-calls.ensures,
        subst (AreCountedTo R 0) (sym c.no_counts-counts.ensures) (none_counted R),
      ),
)

pub loop-n-preserved : goal.loop-n-preserved
loop-n-preserved c =
    let v = c.loop-n.invariant in
    let e = c.in_ok-count_step.ensures in
    let xs = c.args.trace.now.steps in
    let p = c.args.program.now in
    let old = c.loop-n.counts.items in
    let n = c.loop-n.n in
    let many = v.0 in
    let next : suc (length old) ≡ n + 1 = omega (arith, many) in (
      e.long ∙ ap (λ (k : ℕ). k + 1) v.0,
      λ regions gated input keeps.
          let R = reference_of p regions gated input xs in
          let k = has_at gated p input xs n c.step-step.result c.step-step.ensures in
          let before = v.1 regions gated input keeps in
          let instr : instr_in R.program k.0 ≡ Some c.instr.result.now = ap (λ (z : Step). slice_get p.instrs z.instr.0) k.2 ∙ c.instr.ensures.at in
          let after = e.counted R k.0 keeps refl instr k.2 (subst (λ (i : ℕ). slice_get R.moments i ≡ Some k.0) (sym v.0) k.1)
          (subst (λ (i : ℕ). AreStacks c.loop-n.calls (known_at R every i)) (sym v.0) before.0)
          (subst (λ (i : ℕ). AreCountedTo R i old) (sym v.0) before.1) in (
            subst (λ (i : ℕ). AreStacks c.count_step.new.calls (known_at R every i)) next after.0,
            subst (λ (i : ℕ). AreCountedTo R i c.count_step.new.counts.items) next after.1,
          ),
    )

pub returns-clause-count : goal.returns-clause-count
returns-clause-count c =
    let many = c.loop-n.invariant.0 in
    omega (arith, many, c.loop-n.auto.n-end, c.loop-n-test.false, c.len-n-end.ensures)

pub returns-clause-counted : goal.returns-clause-counted
returns-clause-counted c = λ regions gated input keeps.
    let R = reference_of c.args.program.now regions gated input c.args.trace.now.steps in
    let q : c.loop-n.n ≡ length c.args.trace.now.steps = omega (arith, c.loop-n.auto.n-end, c.loop-n-test.false, c.len-n-end.ensures) in
    all_counted R (length c.args.trace.now.steps) c.loop-n.counts.items (as_many gated c.args.program.now input c.args.trace.now.steps)
    (subst (λ (k : ℕ). AreCountedTo R k c.loop-n.counts.items) q (c.loop-n.invariant.1 regions gated input keeps).1)
