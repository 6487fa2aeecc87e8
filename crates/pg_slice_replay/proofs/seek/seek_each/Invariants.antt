use Rattle.std.proofs.Common.{◌≡◌, ◌<◌, ℕ, Some}
use Rattle.std.specs.Prelude.{slice_get}
use Rattle.pg_region_accesses.specs.Accesses.{summary_of}
use Rattle.pg_region_accesses.specs.Tables.{in_table}
use Rattle.pg_region.specs.Alike.{AreKept}
use Rattle.pg_run_trace.specs.declared.step.Step.{Step}
use Rattle.pg_slice_replay.specs.Sought.{AreFound, WasSought}
use Rattle.pg_slice_replay.proofs.seek.seek_each.Given as goal

abbrev pub invariant-loop-i : goal.invariant-loop-i
invariant-loop-i l = record {
  found : AreFound l.p (in_table l.finder.gated) (summary_of l.sums) l.known.blocks.items l.known.regions.items;
  alike : AreKept l.finder l.alike;
  sought : (n : ℕ) (x : Step) → n < l.i → slice_get l.t.steps n ≡ Some x → WasSought l.p l.known.blocks.items x;
}
