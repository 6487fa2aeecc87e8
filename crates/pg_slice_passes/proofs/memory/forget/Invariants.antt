use Rattle.std.proofs.Common.{◌≡◌, ℕ, drop, IfSome}
use Rattle.pg_ir.specs.Program.{NumberedProgram}
use Rattle.pg_precondition.specs.Nodes.{NodeList}
use Rattle.pg_slice_rules.specs.declared.decision.Decision.TheVariants.{Pinned}
use Rattle.pg_slice_rules.specs.Known.{forgotten_bytes}
use Rattle.pg_slice_replay.specs.Kept.{landmark_at}
use Rattle.pg_slice_checks.specs.pg_slice_memory.Changes.{AreSymbolicNodes, symbolics_of}
use Rattle.pg_slice_passes.proofs.memory.forget.Given as goal

abbrev pub invariant-loop-k : goal.invariant-loop-k
invariant-loop-k l = record {
  is : (n : ℕ) → AreSymbolicNodes n l.fn.memory → AreSymbolicNodes n l.memory;
  value : (p : NumberedProgram) (ns : NodeList) → IfSome (landmark_at l.r l.n) (λ x. IfSome x.region (λ f.
      forgotten_bytes (drop l.k f.accesses) (Pinned l.n) (symbolics_of p ns l.memory) ≡ forgotten_bytes f.accesses (Pinned l.n) (symbolics_of p ns l.fn.memory)));
}
