use Rattle.std.proofs.Common.{◌≡◌, ◌≤◌, count_by, take}
use Rattle.pg_slice_rules.specs.Known as known
use Rattle.pg_run_trace.specs.declared.step.Step.{Step}
use Rattle.pg_bench.proofs.recordings.counts.branch_count.Given as goal

abbrev pub invariant-loop-i : goal.invariant-loop-i
invariant-loop-i l = (l.count ≡ count_by (λ (x : Step). known.is_branch x.kind) (take l.i l.t.steps)) × (l.count ≤ l.i)
