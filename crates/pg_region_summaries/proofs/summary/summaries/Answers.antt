use Rattle.std.proofs.Common.{◌<◌, ◌≤◌, ◌+◌, ℕ, length, arith}
use Rattle.pg_region_accesses.specs.Accesses.{is_gated, summary_of}
use Rattle.pg_region_accesses.specs.Tables.{in_table}
use Rattle.pg_region_summaries.specs.Reaches.{reach_at}
use Rattle.pg_region_summaries.proofs.PreparedSummaries.{by_table}
use Rattle.pg_region_summaries.proofs.WorkOrder.{all_worked}
use Rattle.pg_region_summaries.proofs.summary.summaries.Goals as goal

pub returns-clause-summaries : goal.returns-clause-summaries
returns-clause-summaries c =
    let most : (f : ℕ) → f < length c.in_ok-work.work.reaches.items → (reach_at c.in_ok-work.work.reaches.items f).size ≤ c.largest-most.result =
    rw c.as_slice.ensures.value at c.largest-most.ensures in
    by_table c.args.p.now (in_table c.in_ok-work.work.gated.items) (is_gated c.args.gated.now) (summary_of c.work_all-2.new.sums.items) c.in_ok-work.ensures.table
    (all_worked c.args.p.now c.in_ok-work.work.started.items c.in_ok-work.work.reaches.items (in_table c.in_ok-work.work.gated.items) c.facts.ensures.holds c.in_ok-work.ensures.reached
    c.in_ok-work.ensures.named (summary_of c.work_all-2.new.sums.items) (c.largest-most.result + 1)
    (λ f lt. let le = most f (omega (arith, lt, c.in_ok-work.ensures.reach_count)) in omega (arith, le))
    c.in_ok-work_all-2.ensures.sums)
