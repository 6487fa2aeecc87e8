-- A loop that counts to the input's first number, beside a loop of three rounds, on the input 0 with one step a turn.
use Rattle.std.specs.Prelude.{ℕ, ◌==◌, List, [], ◌∷◌, true, false, Some, None, if◌then◌else◌}
use Rattle.pg_precondition.specs.pg_num.declared.width.Width.TheVariants.{W1, W32, W64}
use Rattle.pg_precondition.specs.pg_num.declared.operations.Compare.TheVariants as compares
use Rattle.pg_region_paths.specs.pg_ir.declared.library_call.LibraryCall.TheVariants as known
use Rattle.pg_region_paths.specs.pg_ir.declared.value.Scalar.TheVariants.{Int, Ptr}
use Rattle.pg_region_paths.specs.pg_ir.declared.value.Value.TheVariants as value
use Rattle.pg_region_paths.specs.pg_ir.declared.instr.Op.TheVariants as op
use Rattle.pg_region_paths.specs.pg_ir.Program.{NumberedProgram}
use Rattle.pg_run.specs.pg_run_memory.Bytes.{with_bytes}
use Rattle.pg_run.specs.pg_run_memory.Initial.{initial_byte}
use Rattle.pg_region_paths.specs.declared.path.Loads.TheVariants.{Never}
use Rattle.pg_region_paths.specs.declared.path.Root.TheVariants as root
use Rattle.pg_run.specs.pg_run_trace.declared.turn.TurnKind.TheVariants as turns
use Rattle.pg_run.specs.pg_run_trace.declared.step.StepKind.TheVariants as kinds
use Rattle.pg_slice_rules.specs.Moments.{Moment}
use Rattle.pg_slice_rules.specs.ExampleMoments.{frame, event, writing, access, moment}
use Rattle.pg_slice_rules.specs.Freeable.{Regions}
use Rattle.pg_slice_rules.specs.Known.{Reference}
use Rattle.pg_slice_rules.specs.Sets.{one_of}

abbrev pub counted_program : NumberedProgram
counted_program = record {
  functions =
      (record { params = 1; registers = (Ptr ∷ (Int W64) ∷ Ptr ∷ (Int W64) ∷ (Int W1) ∷ (Int W64) ∷ []); first_block = (record { 0 = 0 }); blocks = 4; result = (Some Ptr) })
      ∷ (record {
        params = 0;
        registers = ((Int W32) ∷ (Int W64) ∷ (Int W64) ∷ (Int W1) ∷ (Int W64) ∷ (Int W32) ∷ (Int W64) ∷ []);
        first_block = (record { 0 = 4 });
        blocks = 3;
        result = (Some (Int W32));
      })
      ∷ [];
  blocks =
      (record { function = 0; first = (record { 0 = 0 }); count = 4 })
      ∷ (record { function = 0; first = (record { 0 = 4 }); count = 3 })
      ∷ (record { function = 0; first = (record { 0 = 7 }); count = 3 })
      ∷ (record { function = 0; first = (record { 0 = 10 }); count = 2 })
      ∷ (record { function = 1; first = (record { 0 = 12 }); count = 2 })
      ∷ (record { function = 1; first = (record { 0 = 14 }); count = 4 })
      ∷ (record { function = 1; first = (record { 0 = 18 }); count = 6 })
      ∷ [];
  instrs =
      (record { op = op.CallLibrary known.PgIn ((value.Const 0) ∷ []); block = (record { 0 = 0 }); result = (Some 1) })
      ∷ (record { op = op.Alloca 8; block = (record { 0 = 0 }); result = (Some 2) })
      ∷ (record { op = op.Store W64 (value.Const 0) (value.Register 2); block = (record { 0 = 0 }); result = None })
      ∷ (record { op = op.Br (record { 0 = 1 }); block = (record { 0 = 0 }); result = None })
      ∷ (record { op = op.Load W64 (value.Register 2); block = (record { 0 = 1 }); result = (Some 3) })
      ∷ (record { op = op.Compare compares.Slt W64 (value.Register 3) (value.Register 1); block = (record { 0 = 1 }); result = (Some 4) })
      ∷ (record { op = op.CondBr (value.Register 4) (record { 0 = 2 }) (record { 0 = 3 }); block = (record { 0 = 1 }); result = None })
      ∷ (record { op = op.Add W64 (value.Register 3) (value.Const 1); block = (record { 0 = 2 }); result = (Some 5) })
      ∷ (record { op = op.Store W64 (value.Register 5) (value.Register 2); block = (record { 0 = 2 }); result = None })
      ∷ (record { op = op.Br (record { 0 = 1 }); block = (record { 0 = 2 }); result = None })
      ∷ (record { op = op.Store W64 (value.Register 3) (value.Global 0); block = (record { 0 = 3 }); result = None })
      ∷ (record { op = op.Ret (Some (value.Const 0)); block = (record { 0 = 3 }); result = None })
      ∷ (record { op = op.CallLibrary known.PthreadCreate ((value.Global 1) ∷ (value.Const 0) ∷ (value.Function 0) ∷ (value.Const 0) ∷ []); block = (record { 0 = 4 }); result = (Some 0) })
      ∷ (record { op = op.Br (record { 0 = 5 }); block = (record { 0 = 4 }); result = None })
      ∷ (record {
        op = op.Phi ((record { block = (record { 0 = 4 }); value = (value.Const 0) }) ∷ (record { block = (record { 0 = 5 }); value = (value.Register 2) }) ∷ []);
        block = (record { 0 = 5 });
        result = (Some 1);
      })
      ∷ (record { op = op.Add W64 (value.Register 1) (value.Const 1); block = (record { 0 = 5 }); result = (Some 2) })
      ∷ (record { op = op.Compare compares.Slt W64 (value.Register 2) (value.Const 3); block = (record { 0 = 5 }); result = (Some 3) })
      ∷ (record { op = op.CondBr (value.Register 3) (record { 0 = 5 }) (record { 0 = 6 }); block = (record { 0 = 5 }); result = None })
      ∷ (record { op = op.Store W64 (value.Const 100) (value.Global 0); block = (record { 0 = 6 }); result = None })
      ∷ (record { op = op.Load W64 (value.Global 1); block = (record { 0 = 6 }); result = (Some 4) })
      ∷ (record { op = op.CallLibrary known.PthreadJoin ((value.Register 4) ∷ (value.Const 0) ∷ []); block = (record { 0 = 6 }); result = (Some 5) })
      ∷ (record { op = op.Load W64 (value.Global 0); block = (record { 0 = 6 }); result = (Some 6) })
      ∷ (record { op = op.CallLibrary known.PgOut ((value.Register 6) ∷ []); block = (record { 0 = 6 }); result = None })
      ∷ (record { op = op.Ret (Some (value.Const 0)); block = (record { 0 = 6 }); result = None })
      ∷ [];
  globals =
      (record { start = 1; size = 8; bytes = ([]) })
      ∷ (record { start = 2; size = 8; bytes = ([]) })
      ∷ [];
  main = 1;
}

abbrev pub counted_regions : Regions
counted_regions b =
    if b == 1 then Some (record {
      join = 3;
      sets = one_of (3 ∷ 4 ∷ 5 ∷ []);
      accesses = ((record { writes = false; path = (record { root = root.Register 2; loads = Never }) }) ∷
          (record { writes = true; path = (record { root = root.Register 2; loads = Never }) }) ∷ []);
    }) else
    if b == 5 then Some (record { join = 6; sets = one_of (1 ∷ 2 ∷ 3 ∷ []); accesses = ([]) }) else None

abbrev pub counted_bytes0 : ℕ → ℕ
counted_bytes0 = initial_byte counted_program.globals

abbrev pub counted_bytes1 : ℕ → ℕ
counted_bytes1 = with_bytes counted_bytes0 (record { start = 16; bytes = 8 }) 1

abbrev pub counted_bytes2 : ℕ → ℕ
counted_bytes2 = with_bytes counted_bytes1 (record { start = 17039360; bytes = 8 }) 0

abbrev pub counted_bytes3 : ℕ → ℕ
counted_bytes3 = with_bytes counted_bytes2 (record { start = 8; bytes = 8 }) 0

abbrev pub counted_bytes4 : ℕ → ℕ
counted_bytes4 = with_bytes counted_bytes3 (record { start = 8; bytes = 8 }) 100

abbrev pub counted_moments : List Moment
counted_moments =
    moment 0 12 (event turns.Start 0 (0 ∷ 0 ∷ 0 ∷ 0 ∷ []) 0 None) 1 0 (frame 1 12 (None ∷ None ∷ None ∷ None ∷ None ∷ None ∷ None ∷ []) 0 ∷ []) counted_bytes0
    ∷ moment 0 12 (event turns.Create 1 (8796109799424 ∷ 0 ∷ 0 ∷ 0 ∷ []) 0 (writing 8796109799424 1)) 2 1
    (frame 1 12 (None ∷ None ∷ None ∷ None ∷ None ∷ None ∷ None ∷ []) 0 ∷ []) counted_bytes0
    ∷ moment 1 0 (event turns.Start 1 (0 ∷ 0 ∷ 0 ∷ 0 ∷ []) 0 None) 3 2 (frame 0 0 (None ∷ None ∷ None ∷ None ∷ None ∷ None ∷ []) 0 ∷ []) counted_bytes1
    ∷ moment 1 0 kinds.Other 3 3 (frame 0 0 ((Some 0) ∷ None ∷ None ∷ None ∷ None ∷ None ∷ []) 0 ∷ []) counted_bytes1
    ∷ moment 1 1 (kinds.Allocation 0 9367487224947408896) 3 3 (frame 0 1 ((Some 0) ∷ (Some 0) ∷ None ∷ None ∷ None ∷ None ∷ []) 0 ∷ []) counted_bytes1
    ∷ moment 1 2 (access 9367487224947408896 0 8 true false) 3 3 (frame 0 2 ((Some 0) ∷ (Some 0) ∷ (Some 9367487224947408896) ∷ None ∷ None ∷ None ∷ []) 0 ∷ []) counted_bytes1
    ∷ moment 1 3 kinds.Other 3 3 (frame 0 3 ((Some 0) ∷ (Some 0) ∷ (Some 9367487224947408896) ∷ None ∷ None ∷ None ∷ []) 0 ∷ []) counted_bytes2
    ∷ moment 1 4 (access 9367487224947408896 0 8 false false) 3 3 (frame 0 4 ((Some 0) ∷ (Some 0) ∷ (Some 9367487224947408896) ∷ None ∷ None ∷ None ∷ []) 0 ∷ []) counted_bytes2
    ∷ moment 1 5 kinds.Other 3 3 (frame 0 5 ((Some 0) ∷ (Some 0) ∷ (Some 9367487224947408896) ∷ (Some 0) ∷ None ∷ None ∷ []) 0 ∷ []) counted_bytes2
    ∷ moment 1 6 (kinds.Branch 0) 3 3 (frame 0 6 ((Some 0) ∷ (Some 0) ∷ (Some 9367487224947408896) ∷ (Some 0) ∷ (Some 0) ∷ None ∷ []) 0 ∷ []) counted_bytes2
    ∷ moment 1 10 (access 4398063288320 0 8 true true) 4 3 (frame 0 10 ((Some 0) ∷ (Some 0) ∷ (Some 9367487224947408896) ∷ (Some 0) ∷ (Some 0) ∷ None ∷ []) 0 ∷ []) counted_bytes2
    ∷ moment 1 11 (event turns.Exit 1 (0 ∷ 0 ∷ 0 ∷ 0 ∷ []) 0 None) 5 4
    (frame 0 11 ((Some 0) ∷ (Some 0) ∷ (Some 9367487224947408896) ∷ (Some 0) ∷ (Some 0) ∷ None ∷ []) 0 ∷ []) counted_bytes3
    ∷ moment 0 13 kinds.Other 2 5 (frame 1 13 ((Some 0) ∷ None ∷ None ∷ None ∷ None ∷ None ∷ None ∷ []) 0 ∷ []) counted_bytes3
    ∷ moment 0 15 kinds.Other 2 5 (frame 1 15 ((Some 0) ∷ (Some 0) ∷ None ∷ None ∷ None ∷ None ∷ None ∷ []) 0 ∷ []) counted_bytes3
    ∷ moment 0 16 kinds.Other 2 5 (frame 1 16 ((Some 0) ∷ (Some 0) ∷ (Some 1) ∷ None ∷ None ∷ None ∷ None ∷ []) 0 ∷ []) counted_bytes3
    ∷ moment 0 17 (kinds.Branch 1) 2 5 (frame 1 17 ((Some 0) ∷ (Some 0) ∷ (Some 1) ∷ (Some 1) ∷ None ∷ None ∷ None ∷ []) 0 ∷ []) counted_bytes3
    ∷ moment 0 15 kinds.Other 2 5 (frame 1 15 ((Some 0) ∷ (Some 1) ∷ (Some 1) ∷ (Some 1) ∷ None ∷ None ∷ None ∷ []) 0 ∷ []) counted_bytes3
    ∷ moment 0 16 kinds.Other 2 5 (frame 1 16 ((Some 0) ∷ (Some 1) ∷ (Some 2) ∷ (Some 1) ∷ None ∷ None ∷ None ∷ []) 0 ∷ []) counted_bytes3
    ∷ moment 0 17 (kinds.Branch 1) 2 5 (frame 1 17 ((Some 0) ∷ (Some 1) ∷ (Some 2) ∷ (Some 1) ∷ None ∷ None ∷ None ∷ []) 0 ∷ []) counted_bytes3
    ∷ moment 0 15 kinds.Other 2 5 (frame 1 15 ((Some 0) ∷ (Some 2) ∷ (Some 2) ∷ (Some 1) ∷ None ∷ None ∷ None ∷ []) 0 ∷ []) counted_bytes3
    ∷ moment 0 16 kinds.Other 2 5 (frame 1 16 ((Some 0) ∷ (Some 2) ∷ (Some 3) ∷ (Some 1) ∷ None ∷ None ∷ None ∷ []) 0 ∷ []) counted_bytes3
    ∷ moment 0 17 (kinds.Branch 0) 2 5 (frame 1 17 ((Some 0) ∷ (Some 2) ∷ (Some 3) ∷ (Some 0) ∷ None ∷ None ∷ None ∷ []) 0 ∷ []) counted_bytes3
    ∷ moment 0 18 (access 4398063288320 100 8 true true) 6 5 (frame 1 18 ((Some 0) ∷ (Some 2) ∷ (Some 3) ∷ (Some 0) ∷ None ∷ None ∷ None ∷ []) 0 ∷ []) counted_bytes3
    ∷ moment 0 19 (access 8796109799424 1 8 false false) 6 6 (frame 1 19 ((Some 0) ∷ (Some 2) ∷ (Some 3) ∷ (Some 0) ∷ None ∷ None ∷ None ∷ []) 0 ∷ []) counted_bytes4
    ∷ moment 0 20 (event turns.Join 1 (1 ∷ 0 ∷ 0 ∷ 0 ∷ []) 0 None) 7 6
    (frame 1 20 ((Some 0) ∷ (Some 2) ∷ (Some 3) ∷ (Some 0) ∷ (Some 1) ∷ None ∷ None ∷ []) 0 ∷ []) counted_bytes4
    ∷ moment 0 21 (access 4398063288320 100 8 false false) 7 7 (frame 1 21 ((Some 0) ∷ (Some 2) ∷ (Some 3) ∷ (Some 0) ∷ (Some 1) ∷ (Some 0) ∷ None ∷ []) 0 ∷ []) counted_bytes4
    ∷ moment 0 22 (event turns.Out 0 (100 ∷ 0 ∷ 0 ∷ 0 ∷ []) 0 None) 8 7
    (frame 1 22 ((Some 0) ∷ (Some 2) ∷ (Some 3) ∷ (Some 0) ∷ (Some 1) ∷ (Some 0) ∷ (Some 100) ∷ []) 0 ∷ []) counted_bytes4
    ∷ moment 0 23 (event turns.Exit 0 (0 ∷ 0 ∷ 0 ∷ 0 ∷ []) 0 None) 9 8
    (frame 1 23 ((Some 0) ∷ (Some 2) ∷ (Some 3) ∷ (Some 0) ∷ (Some 1) ∷ (Some 0) ∷ (Some 100) ∷ []) 0 ∷ []) counted_bytes4
    ∷ []

abbrev pub counted : Reference
counted = record { program = counted_program; regions = counted_regions; moments = counted_moments }
