-- A freeable branch step as an instance.
use Rattle.std.specs.Prelude.{ℕ, List, Bool, Option}
use Rattle.pg_run_memory.specs.Memory.{read}
use Rattle.pg_ir.specs.Program.{NumberedProgram}
use Rattle.pg_region_accesses.specs.Accesses.{RootedList}
use Rattle.pg_region.specs.declared.region.Region.{Region}
use Rattle.pg_run_thread.specs.LocalState.{Frame, LocalState}
use Rattle.pg_run.specs.State.{State}
use Rattle.pg_slice_replay.specs.pg_slice_rules.Freeable.{FreeRegion}
use Rattle.pg_law_instances.specs.Inside.{Instance}

-- the instance of a region that a thread begins in state s, its branch's frame on top of lower ones, where the accesses lead
-- as in the free region
abbrev pub instance_of : NumberedProgram → (ℕ → Bool) → (ℕ → Option RootedList) → Region → FreeRegion → State → LocalState → Frame → List Frame → Instance
instance_of p gated sums r q s l f fs = record {
  program = p;
  gated = gated;
  sums = sums;
  blocks = r.blocks.items;
  accesses = r.accesses.items;
  join = r.join;
  recorded = q.accesses;
  memory = read s.memory;
  state = l;
  frame = f;
  lower = fs;
}
