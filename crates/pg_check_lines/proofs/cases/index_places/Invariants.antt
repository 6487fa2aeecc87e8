use Rattle.std.proofs.Common.{◌≡◌, ℕ, None, drop}
use Rattle.pg_check_lines.specs.Cases.{starts_behind, start_of}
use Rattle.pg_check_lines.proofs.cases.index_places.Given as goal

abbrev pub invariant-loop-place : goal.invariant-loop-place
invariant-loop-place l = (n : ℕ) → starts_behind (start_of l.starts n) (drop l.place-index l.places) n ≡ starts_behind None l.places n
