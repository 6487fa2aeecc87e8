use Rattle.std.proofs.Common.{◌≡◌, ℕ, ◌<◌, length}
use Rattle.std.specs.Prelude.{slice_index}
use Rattle.pg_precondition.specs.Marks.{place}
use Rattle.pg_precondition.proofs.places.places_of.Given as goal

abbrev pub invariant-loop-i : goal.invariant-loop-i
invariant-loop-i l = record {
  as_many : length l.places.items ≡ l.i;
  each : (j : ℕ) → j < l.i → slice_index l.places.items j ≡ place l.marks j;
  counted : l.place ≡ place l.marks l.i;
}
