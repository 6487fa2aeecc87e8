use Rattle.std.proofs.Common.{◌≡◌, ◌++◌, not, drop}
use Rattle.std.specs.List.{filter}
use Rattle.pg_slice_decisions.specs.Places.{is_at}
use Rattle.pg_slice_decisions.proofs.open.without.Given as goal

abbrev pub invariant-loop-place : goal.invariant-loop-place
invariant-loop-place l = filter (λ e. not (is_at l.depth l.join e)) l.ends ≡ l.others.items ++ filter (λ e. not (is_at l.depth l.join e)) (drop l.place-index l.ends)
