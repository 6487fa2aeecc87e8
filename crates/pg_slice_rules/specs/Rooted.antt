-- A branch whose region stores through a pointer that an earlier branch chose, on an input of two zeros.
use Rattle.std.specs.Prelude.{ℕ, ◌==◌, List, [], ◌∷◌, true, Some, None, if◌then◌else◌}
use Rattle.pg_precondition.specs.pg_num.declared.width.Width.TheVariants.{W1, W32, W64}
use Rattle.pg_precondition.specs.pg_num.declared.operations.Compare.TheVariants as compares
use Rattle.pg_region_paths.specs.pg_ir.declared.library_call.LibraryCall.TheVariants as known
use Rattle.pg_region_paths.specs.pg_ir.declared.value.Scalar.TheVariants.{Int, Ptr}
use Rattle.pg_region_paths.specs.pg_ir.declared.value.Value.TheVariants as value
use Rattle.pg_region_paths.specs.pg_ir.declared.instr.Op.TheVariants as op
use Rattle.pg_region_paths.specs.pg_ir.Program.{NumberedProgram}
use Rattle.pg_run.specs.pg_run_memory.Initial.{initial_byte}
use Rattle.pg_region_paths.specs.declared.path.Loads.TheVariants.{Never}
use Rattle.pg_region_paths.specs.declared.path.Root.TheVariants as root
use Rattle.pg_run.specs.pg_run_trace.declared.turn.TurnKind.TheVariants as turns
use Rattle.pg_run.specs.pg_run_trace.declared.step.StepKind.TheVariants as kinds
use Rattle.pg_slice_rules.specs.Moments.{Moment}
use Rattle.pg_slice_rules.specs.ExampleMoments.{frame, event, writing, access, moment}
use Rattle.pg_slice_rules.specs.Freeable.{Regions}
use Rattle.pg_slice_rules.specs.Known.{Reference}
use Rattle.pg_slice_rules.specs.Sets.{one_of}

abbrev pub rooted_program : NumberedProgram
rooted_program = record {
  functions =
      (record { params = 0; registers = ((Int W64) ∷ (Int W1) ∷ Ptr ∷ (Int W64) ∷ (Int W1) ∷ []); first_block = (record { 0 = 0 }); blocks = 5; result = (Some (Int W32)) })
      ∷ [];
  blocks =
      (record { function = 0; first = (record { 0 = 0 }); count = 3 })
      ∷ (record { function = 0; first = (record { 0 = 3 }); count = 1 })
      ∷ (record { function = 0; first = (record { 0 = 4 }); count = 4 })
      ∷ (record { function = 0; first = (record { 0 = 8 }); count = 2 })
      ∷ (record { function = 0; first = (record { 0 = 10 }); count = 1 })
      ∷ [];
  instrs =
      (record { op = op.CallLibrary known.PgIn ((value.Const 0) ∷ []); block = (record { 0 = 0 }); result = (Some 0) })
      ∷ (record { op = op.Compare compares.Ne W64 (value.Register 0) (value.Const 0); block = (record { 0 = 0 }); result = (Some 1) })
      ∷ (record { op = op.CondBr (value.Register 1) (record { 0 = 1 }) (record { 0 = 2 }); block = (record { 0 = 0 }); result = None })
      ∷ (record { op = op.Br (record { 0 = 2 }); block = (record { 0 = 1 }); result = None })
      ∷ (record {
        op = op.Phi ((record { block = (record { 0 = 0 }); value = (value.Global 0) }) ∷ (record { block = (record { 0 = 1 }); value = (value.Global 1) }) ∷ []);
        block = (record { 0 = 2 });
        result = (Some 2);
      })
      ∷ (record { op = op.CallLibrary known.PgIn ((value.Const 1) ∷ []); block = (record { 0 = 2 }); result = (Some 3) })
      ∷ (record { op = op.Compare compares.Ne W64 (value.Register 3) (value.Const 0); block = (record { 0 = 2 }); result = (Some 4) })
      ∷ (record { op = op.CondBr (value.Register 4) (record { 0 = 3 }) (record { 0 = 4 }); block = (record { 0 = 2 }); result = None })
      ∷ (record { op = op.Store W64 (value.Const 1) (value.Register 2); block = (record { 0 = 3 }); result = None })
      ∷ (record { op = op.Br (record { 0 = 4 }); block = (record { 0 = 3 }); result = None })
      ∷ (record { op = op.Ret (Some (value.Const 0)); block = (record { 0 = 4 }); result = None })
      ∷ [];
  globals =
      (record { start = 1; size = 8; bytes = ([]) })
      ∷ (record { start = 2; size = 8; bytes = ([]) })
      ∷ [];
  main = 0;
}

abbrev pub rooted_regions : Regions
rooted_regions b =
    if b == 0 then Some (record { join = 2; sets = one_of (2 ∷ []); accesses = ([]) }) else
    if b == 2 then Some (record { join = 4; sets = one_of ([]); accesses = ((record { writes = true; path = (record { root = root.Register 2; loads = Never }) }) ∷ []) }) else None

abbrev pub rooted_bytes0 : ℕ → ℕ
rooted_bytes0 = initial_byte rooted_program.globals

abbrev pub rooted_moments : List Moment
rooted_moments =
    moment 0 0 (event turns.Start 0 (0 ∷ 0 ∷ 0 ∷ 0 ∷ []) 0 None) 1 0 (frame 0 0 (None ∷ None ∷ None ∷ None ∷ None ∷ []) 0 ∷ []) rooted_bytes0
    ∷ moment 0 0 kinds.Other 1 1 (frame 0 0 (None ∷ None ∷ None ∷ None ∷ None ∷ []) 0 ∷ []) rooted_bytes0
    ∷ moment 0 1 kinds.Other 1 1 (frame 0 1 ((Some 0) ∷ None ∷ None ∷ None ∷ None ∷ []) 0 ∷ []) rooted_bytes0
    ∷ moment 0 2 (kinds.Branch 0) 1 1 (frame 0 2 ((Some 0) ∷ (Some 0) ∷ None ∷ None ∷ None ∷ []) 0 ∷ []) rooted_bytes0
    ∷ moment 0 5 kinds.Other 1 1 (frame 0 5 ((Some 0) ∷ (Some 0) ∷ (Some 4398063288320) ∷ None ∷ None ∷ []) 0 ∷ []) rooted_bytes0
    ∷ moment 0 6 kinds.Other 1 1 (frame 0 6 ((Some 0) ∷ (Some 0) ∷ (Some 4398063288320) ∷ (Some 0) ∷ None ∷ []) 0 ∷ []) rooted_bytes0
    ∷ moment 0 7 (kinds.Branch 0) 1 1 (frame 0 7 ((Some 0) ∷ (Some 0) ∷ (Some 4398063288320) ∷ (Some 0) ∷ (Some 0) ∷ []) 0 ∷ []) rooted_bytes0
    ∷ moment 0 10 (event turns.Exit 0 (0 ∷ 0 ∷ 0 ∷ 0 ∷ []) 0 None) 2 1 (frame 0 10 ((Some 0) ∷ (Some 0) ∷ (Some 4398063288320) ∷ (Some 0) ∷ (Some 0) ∷ []) 0 ∷ []) rooted_bytes0
    ∷ []

abbrev pub rooted : Reference
rooted = record { program = rooted_program; regions = rooted_regions; moments = rooted_moments }
