use Rattle.std.proofs.Common.{ℕ, length, ap, sym, subst}
use Rattle.pg_law_least.specs.Keeps.{every}
use Rattle.pg_run_trace.specs.declared.step.Step.{Step}
use Rattle.pg_law_demands.specs.Along.{known_at}
use Rattle.pg_slice_back.specs.Counted.{AreCountsOf}
use Rattle.pg_slice_back.specs.Stacks.{AreStacks}
use Rattle.pg_slice_back.proofs.RegisterCounts.{begun_at, counted_more, next_is}
use Rattle.pg_slice_back.proofs.registers.count_step.Goals as goal

pub returns-clause-counted : goal.returns-clause-counted
returns-clause-counted c = λ R m keeps program instr did stands stacks counted.
    let old = c.args.counts.now.items in
    let n = length old in
    let s = known_at R every n in
    let counts = c.counts_at.result in (
      subst (AreStacks c.pass.new.self) (sym (next_is R keeps n m stands)) (c.in_ok-pass.ensures R n m s program instr did (begun_at R keeps n m stands) stacks),
      counted_more R m old c.push.new.self.items counts stands c.in_ok-push.ensures.items
          (subst (λ (t : ℕ). AreCountsOf s t counts) (ap (λ (z : Step). z.thread.0) (sym did)) (c.counts_at.ensures s stacks)) counted,
    )
