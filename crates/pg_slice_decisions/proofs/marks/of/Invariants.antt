use Rattle.std.proofs.Common.{◌≡◌, ◌||◌, ◌<◌, ℕ, drop, length}
use Rattle.std.specs.List.{AllByRecursion}
use Rattle.pg_slice_rules.specs.Sets.{one_of}
use Rattle.pg_slice_decisions.specs.Marks.{in_set}
use Rattle.pg_slice_decisions.proofs.marks.of.Given as goal

abbrev pub invariant-loop-n : goal.invariant-loop-n
invariant-loop-n l =
    (length l.set.items ≡ l.bound)
    × AllByRecursion (λ n. n < l.bound) (drop l.n-index l.numbers)
    × ((k : ℕ) → (in_set l.set.items k || one_of (drop l.n-index l.numbers) k) ≡ one_of l.numbers k)
