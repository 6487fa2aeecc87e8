use Rattle.std.proofs.Common.{◌≡◌, ℕ, ◌+◌, ◌<◌, length}
use Rattle.std.specs.Prelude.{slice_get, Some}
use Rattle.pg_ir.specs.Edges.{successors}
use Rattle.pg_ir.specs.Tables.{AreEntered, IsFront, IsRow}
use Rattle.pg_ir.proofs.parts.Parts.push_edges.Given as goal

abbrev pub invariant-loop-k : goal.invariant-loop-k
invariant-loop-k l = record {
  entered : AreEntered l.self l.values.items l.entered;
  edges : IsFront l.fn.edges.items l.edges.items;
  values : IsFront l.fn.values.items l.values.items;
  count : length l.edges.items ≡ length l.fn.edges.items + l.k;
  rows : (j t : ℕ) → j < l.k → slice_get (successors l.self l.from) j ≡ Some t → IsRow l.self l.values.items l.from t (slice_get l.edges.items (length l.fn.edges.items + j));
}
