use Rattle.std.proofs.Common.{◌≡◌, ◌+◌, ℕ, List, take, Bool, true, false, Some, arith, count_by, sym, ap, ◌∙◌}
use Rattle.std.specs.Prelude.{slice_get}
use Rattle.std.proofs.lemmas.List.Sums.{count_by_more_no, count_by_more_yes}
use Rattle.std.proofs.lemmas.Option.{slice_get_within, get_or_from_slice_get}
use Rattle.pg_slice_rules.specs.Known as known
use Rattle.pg_run_trace.specs.declared.step.Step.{Step}
use Rattle.pg_bench.proofs.recordings.counts.branch_count.Goals as goal
use Rattle.pg_bench.proofs.recordings.counts.branch_count.Goals.{then-is_branch, else-is_branch}

abbrev at_branch : Step → Bool
at_branch x = known.is_branch x.kind

counted : (xs : List Step) (i : ℕ) (x : Step) → slice_get xs i ≡ Some x → at_branch x ≡ true → count_by at_branch (take (i + 1) xs) ≡ count_by at_branch (take i xs) + 1
counted xs i x e h = count_by_more_yes at_branch xs i x (slice_get_within xs i x e) (ap at_branch (get_or_from_slice_get xs i x x e) ∙ h)

passed : (xs : List Step) (i : ℕ) (x : Step) → slice_get xs i ≡ Some x → at_branch x ≡ false → count_by at_branch (take (i + 1) xs) ≡ count_by at_branch (take i xs)
passed xs i x e h = count_by_more_no at_branch xs i x (slice_get_within xs i x e) (ap at_branch (get_or_from_slice_get xs i x x e) ∙ h)

pub loop-i-preserved : goal.loop-i-preserved
loop-i-preserved c =
    let xs = c.args.t.now.steps in
    let x = c.step-step.result in
    let tells : at_branch x ≡ c.is_branch.result = sym c.is_branch.ensures in
    elim c.if-is_branch.branch [
      | then-is_branch w ↦ (
        omega (arith, w.count-is, c.loop-i.invariant.0, counted xs c.loop-i.i x c.step-step.ensures (tells ∙ w.if-is_branch.true)),
        omega (arith, w.count-is, c.loop-i.invariant.1),
      )
      | else-is_branch w ↦ (
        omega (arith, w.count-is, c.loop-i.invariant.0, passed xs c.loop-i.i x c.step-step.ensures (tells ∙ w.if-is_branch.false)),
        omega (arith, w.count-is, c.loop-i.invariant.1),
      )
    ]
