-- Two threads that each sum up the input in a loop, on the input 1 2 3.
use Rattle.std.specs.Prelude.{ℕ, ◌==◌, List, [], ◌∷◌, true, false, Some, None, if◌then◌else◌}
use Rattle.pg_precondition.specs.pg_num.declared.width.Width.TheVariants.{W1, W32, W64}
use Rattle.pg_precondition.specs.pg_num.declared.operations.Compare.TheVariants as compares
use Rattle.pg_region_paths.specs.pg_ir.declared.library_call.LibraryCall.TheVariants as known
use Rattle.pg_region_paths.specs.pg_ir.declared.value.Scalar.TheVariants.{Int, Ptr}
use Rattle.pg_region_paths.specs.pg_ir.declared.value.Scale.TheVariants.{Times}
use Rattle.pg_region_paths.specs.pg_ir.declared.value.Value.TheVariants as value
use Rattle.pg_region_paths.specs.pg_ir.declared.instr.Op.TheVariants as op
use Rattle.pg_region_paths.specs.pg_ir.Program.{NumberedProgram}
use Rattle.pg_run.specs.pg_run_memory.Bytes.{with_bytes}
use Rattle.pg_run.specs.pg_run_memory.Initial.{initial_byte}
use Rattle.pg_region_paths.specs.declared.path.Loads.TheVariants.{Never}
use Rattle.pg_region_paths.specs.declared.path.Root.TheVariants as root
use Rattle.pg_run.specs.pg_run_trace.declared.turn.TurnKind.TheVariants as turns
use Rattle.pg_run.specs.pg_run_trace.declared.step.StepKind.TheVariants as kinds
use Rattle.pg_slice_rules.specs.Moments.{Moment}
use Rattle.pg_slice_rules.specs.ExampleMoments.{frame, event, writing, access, moment}
use Rattle.pg_slice_rules.specs.Freeable.{Regions}
use Rattle.pg_slice_rules.specs.Known.{Reference}
use Rattle.pg_slice_rules.specs.Sets.{one_of}

abbrev pub summed_program : NumberedProgram
summed_program = record {
  functions =
      (record {
        params = 1;
        registers = (Ptr ∷ Ptr ∷ Ptr ∷ (Int W64) ∷ (Int W64) ∷ (Int W1) ∷ (Int W64) ∷ (Int W64) ∷ (Int W64) ∷ (Int W64) ∷ (Int W32) ∷ (Int W64) ∷
            (Int W64) ∷ (Int W64) ∷ (Int W32) ∷ []);
        first_block = (record { 0 = 0 });
        blocks = 4;
        result = (Some Ptr);
      })
      ∷ (record {
        params = 0;
        registers = (Ptr ∷ (Int W32) ∷ (Int W32) ∷ (Int W64) ∷ (Int W64) ∷ (Int W32) ∷ (Int W32) ∷ (Int W64) ∷ []);
        first_block = (record { 0 = 4 });
        blocks = 1;
        result = (Some (Int W32));
      })
      ∷ [];
  blocks =
      (record { function = 0; first = (record { 0 = 0 }); count = 5 })
      ∷ (record { function = 0; first = (record { 0 = 5 }); count = 4 })
      ∷ (record { function = 0; first = (record { 0 = 9 }); count = 7 })
      ∷ (record { function = 0; first = (record { 0 = 16 }); count = 7 })
      ∷ (record { function = 1; first = (record { 0 = 23 }); count = 10 })
      ∷ [];
  instrs =
      (record { op = op.Alloca 8; block = (record { 0 = 0 }); result = (Some 1) })
      ∷ (record { op = op.Alloca 8; block = (record { 0 = 0 }); result = (Some 2) })
      ∷ (record { op = op.Store W64 (value.Const 0) (value.Register 1); block = (record { 0 = 0 }); result = None })
      ∷ (record { op = op.Store W64 (value.Const 0) (value.Register 2); block = (record { 0 = 0 }); result = None })
      ∷ (record { op = op.Br (record { 0 = 1 }); block = (record { 0 = 0 }); result = None })
      ∷ (record { op = op.Load W64 (value.Register 2); block = (record { 0 = 1 }); result = (Some 3) })
      ∷ (record { op = op.CallLibrary known.PgInLen ([]); block = (record { 0 = 1 }); result = (Some 4) })
      ∷ (record { op = op.Compare compares.Slt W64 (value.Register 3) (value.Register 4); block = (record { 0 = 1 }); result = (Some 5) })
      ∷ (record { op = op.CondBr (value.Register 5) (record { 0 = 2 }) (record { 0 = 3 }); block = (record { 0 = 1 }); result = None })
      ∷ (record { op = op.CallLibrary known.PgIn ((value.Register 3) ∷ []); block = (record { 0 = 2 }); result = (Some 6) })
      ∷ (record { op = op.Load W64 (value.Register 1); block = (record { 0 = 2 }); result = (Some 7) })
      ∷ (record { op = op.Add W64 (value.Register 7) (value.Register 6); block = (record { 0 = 2 }); result = (Some 8) })
      ∷ (record { op = op.Store W64 (value.Register 8) (value.Register 1); block = (record { 0 = 2 }); result = None })
      ∷ (record { op = op.Add W64 (value.Register 3) (value.Const 1); block = (record { 0 = 2 }); result = (Some 9) })
      ∷ (record { op = op.Store W64 (value.Register 9) (value.Register 2); block = (record { 0 = 2 }); result = None })
      ∷ (record { op = op.Br (record { 0 = 1 }); block = (record { 0 = 2 }); result = None })
      ∷ (record { op = op.CallLibrary known.PthreadMutexLock ((value.Global 1) ∷ []); block = (record { 0 = 3 }); result = (Some 10) })
      ∷ (record { op = op.Load W64 (value.Global 0); block = (record { 0 = 3 }); result = (Some 11) })
      ∷ (record { op = op.Load W64 (value.Register 1); block = (record { 0 = 3 }); result = (Some 12) })
      ∷ (record { op = op.Add W64 (value.Register 11) (value.Register 12); block = (record { 0 = 3 }); result = (Some 13) })
      ∷ (record { op = op.Store W64 (value.Register 13) (value.Global 0); block = (record { 0 = 3 }); result = None })
      ∷ (record { op = op.CallLibrary known.PthreadMutexUnlock ((value.Global 1) ∷ []); block = (record { 0 = 3 }); result = (Some 14) })
      ∷ (record { op = op.Ret (Some (value.Const 0)); block = (record { 0 = 3 }); result = None })
      ∷ (record {
        op = op.Gep (value.Global 2) ((record { value = (value.Const 0); width = W64; scale = Times 16 }) ∷
            (record { value = (value.Const 1); width = W64; scale = Times 8 }) ∷ []);
        block = (record { 0 = 4 });
        result = (Some 0);
      })
      ∷ (record { op = op.CallLibrary known.PthreadCreate ((value.Global 2) ∷ (value.Const 0) ∷ (value.Function 0) ∷ (value.Const 0) ∷ []); block = (record { 0 = 4 }); result = (Some 1) })
      ∷ (record { op = op.CallLibrary known.PthreadCreate ((value.Register 0) ∷ (value.Const 0) ∷ (value.Function 0) ∷ (value.Const 0) ∷ []); block = (record { 0 = 4 }); result = (Some 2) })
      ∷ (record { op = op.Load W64 (value.Global 2); block = (record { 0 = 4 }); result = (Some 3) })
      ∷ (record { op = op.Load W64 (value.Register 0); block = (record { 0 = 4 }); result = (Some 4) })
      ∷ (record { op = op.CallLibrary known.PthreadJoin ((value.Register 3) ∷ (value.Const 0) ∷ []); block = (record { 0 = 4 }); result = (Some 5) })
      ∷ (record { op = op.CallLibrary known.PthreadJoin ((value.Register 4) ∷ (value.Const 0) ∷ []); block = (record { 0 = 4 }); result = (Some 6) })
      ∷ (record { op = op.Load W64 (value.Global 0); block = (record { 0 = 4 }); result = (Some 7) })
      ∷ (record { op = op.CallLibrary known.PgOut ((value.Register 7) ∷ []); block = (record { 0 = 4 }); result = None })
      ∷ (record { op = op.Ret (Some (value.Const 0)); block = (record { 0 = 4 }); result = None })
      ∷ [];
  globals =
      (record { start = 1; size = 8; bytes = ([]) })
      ∷ (record { start = 2; size = 40; bytes = ([]) })
      ∷ (record { start = 7; size = 16; bytes = ([]) })
      ∷ [];
  main = 1;
}

abbrev pub summed_regions : Regions
summed_regions b =
    if b == 1 then Some (record {
      join = 3;
      sets = one_of (3 ∷ 4 ∷ 5 ∷ 6 ∷ 7 ∷ 8 ∷ 9 ∷ []);
      accesses = ((record { writes = false; path = (record { root = root.Register 2; loads = Never }) }) ∷
          (record { writes = false; path = (record { root = root.Register 1; loads = Never }) }) ∷ (record { writes = true; path = (record { root = root.Register 1; loads = Never }) }) ∷
          (record { writes = true; path = (record { root = root.Register 2; loads = Never }) }) ∷ []);
    }) else None

abbrev pub summed_bytes0 : ℕ → ℕ
summed_bytes0 = initial_byte summed_program.globals

abbrev pub summed_bytes1 : ℕ → ℕ
summed_bytes1 = with_bytes summed_bytes0 (record { start = 56; bytes = 8 }) 1

abbrev pub summed_bytes2 : ℕ → ℕ
summed_bytes2 = with_bytes summed_bytes1 (record { start = 64; bytes = 8 }) 2

abbrev pub summed_bytes3 : ℕ → ℕ
summed_bytes3 = with_bytes summed_bytes2 (record { start = 17039360; bytes = 8 }) 0

abbrev pub summed_bytes4 : ℕ → ℕ
summed_bytes4 = with_bytes summed_bytes3 (record { start = 17039368; bytes = 8 }) 0

abbrev pub summed_bytes5 : ℕ → ℕ
summed_bytes5 = with_bytes summed_bytes4 (record { start = 17039360; bytes = 8 }) 1

abbrev pub summed_bytes6 : ℕ → ℕ
summed_bytes6 = with_bytes summed_bytes5 (record { start = 17039368; bytes = 8 }) 1

abbrev pub summed_bytes7 : ℕ → ℕ
summed_bytes7 = with_bytes summed_bytes6 (record { start = 17039360; bytes = 8 }) 3

abbrev pub summed_bytes8 : ℕ → ℕ
summed_bytes8 = with_bytes summed_bytes7 (record { start = 17039368; bytes = 8 }) 2

abbrev pub summed_bytes9 : ℕ → ℕ
summed_bytes9 = with_bytes summed_bytes8 (record { start = 17039360; bytes = 8 }) 6

abbrev pub summed_bytes10 : ℕ → ℕ
summed_bytes10 = with_bytes summed_bytes9 (record { start = 17039368; bytes = 8 }) 3

abbrev pub summed_bytes11 : ℕ → ℕ
summed_bytes11 = with_bytes summed_bytes10 (record { start = 8; bytes = 8 }) 6

abbrev pub summed_bytes12 : ℕ → ℕ
summed_bytes12 = with_bytes summed_bytes11 (record { start = 17301504; bytes = 8 }) 0

abbrev pub summed_bytes13 : ℕ → ℕ
summed_bytes13 = with_bytes summed_bytes12 (record { start = 17301512; bytes = 8 }) 0

abbrev pub summed_bytes14 : ℕ → ℕ
summed_bytes14 = with_bytes summed_bytes13 (record { start = 17301504; bytes = 8 }) 1

abbrev pub summed_bytes15 : ℕ → ℕ
summed_bytes15 = with_bytes summed_bytes14 (record { start = 17301512; bytes = 8 }) 1

abbrev pub summed_bytes16 : ℕ → ℕ
summed_bytes16 = with_bytes summed_bytes15 (record { start = 17301504; bytes = 8 }) 3

abbrev pub summed_bytes17 : ℕ → ℕ
summed_bytes17 = with_bytes summed_bytes16 (record { start = 17301512; bytes = 8 }) 2

abbrev pub summed_bytes18 : ℕ → ℕ
summed_bytes18 = with_bytes summed_bytes17 (record { start = 17301504; bytes = 8 }) 6

abbrev pub summed_bytes19 : ℕ → ℕ
summed_bytes19 = with_bytes summed_bytes18 (record { start = 17301512; bytes = 8 }) 3

abbrev pub summed_bytes20 : ℕ → ℕ
summed_bytes20 = with_bytes summed_bytes19 (record { start = 8; bytes = 8 }) 12

abbrev pub summed_moments : List Moment
summed_moments =
    moment 0 23 (event turns.Start 0 (0 ∷ 0 ∷ 0 ∷ 0 ∷ []) 0 None) 1 0 (frame 1 23 (None ∷ None ∷ None ∷ None ∷ None ∷ None ∷ None ∷ None ∷ []) 0 ∷ []) summed_bytes0
    ∷ moment 0 23 kinds.Other 1 1 (frame 1 23 (None ∷ None ∷ None ∷ None ∷ None ∷ None ∷ None ∷ None ∷ []) 0 ∷ []) summed_bytes0
    ∷ moment 0 24 (event turns.Create 1 (30786359132160 ∷ 0 ∷ 0 ∷ 0 ∷ []) 0 (writing 30786359132160 1)) 2 1
    (frame 1 24 ((Some 30786359132168) ∷ None ∷ None ∷ None ∷ None ∷ None ∷ None ∷ None ∷ []) 0 ∷ []) summed_bytes0
    ∷ moment 0 25 (event turns.Create 2 (30786359132168 ∷ 0 ∷ 0 ∷ 0 ∷ []) 0 (writing 30786359132168 2)) 3 2
    (frame 1 25 ((Some 30786359132168) ∷ (Some 0) ∷ None ∷ None ∷ None ∷ None ∷ None ∷ None ∷ []) 0 ∷ []) summed_bytes1
    ∷ moment 1 0 (event turns.Start 1 (0 ∷ 0 ∷ 0 ∷ 0 ∷ []) 0 None) 4 3
    (frame 0 0 (None ∷ None ∷ None ∷ None ∷ None ∷ None ∷ None ∷ None ∷ None ∷ None ∷ None ∷ None ∷ None ∷ None ∷ None ∷ []) 0 ∷ []) summed_bytes2
    ∷ moment 1 0 (kinds.Allocation 0 9367487224947408896) 4 4
    (frame 0 0 ((Some 0) ∷ None ∷ None ∷ None ∷ None ∷ None ∷ None ∷ None ∷ None ∷ None ∷ None ∷ None ∷ None ∷ None ∷ None ∷ []) 0 ∷ []) summed_bytes2
    ∷ moment 1 1 (kinds.Allocation 0 9367491622993920000) 4 4
    (frame 0 1 ((Some 0) ∷ (Some 9367487224947408896) ∷ None ∷ None ∷ None ∷ None ∷ None ∷ None ∷ None ∷ None ∷ None ∷ None ∷ None ∷ None ∷ None ∷ []) 0 ∷ [])
    summed_bytes2
    ∷ moment 1 2 (access 9367487224947408896 0 8 true false) 4 4
    (frame 0 2 ((Some 0) ∷ (Some 9367487224947408896) ∷ (Some 9367491622993920000) ∷ None ∷ None ∷ None ∷ None ∷ None ∷ None ∷ None ∷ None ∷ None ∷ None ∷ None ∷
    None ∷ []) 0 ∷ []) summed_bytes2
    ∷ moment 1 3 (access 9367491622993920000 0 8 true false) 4 4
    (frame 0 3 ((Some 0) ∷ (Some 9367487224947408896) ∷ (Some 9367491622993920000) ∷ None ∷ None ∷ None ∷ None ∷ None ∷ None ∷ None ∷ None ∷ None ∷ None ∷ None ∷
    None ∷ []) 0 ∷ []) summed_bytes3
    ∷ moment 1 4 kinds.Other 4 4 (frame 0 4
    ((Some 0) ∷ (Some 9367487224947408896) ∷ (Some 9367491622993920000) ∷ None ∷ None ∷ None ∷ None ∷ None ∷ None ∷ None ∷ None ∷ None ∷ None ∷ None ∷ None ∷ [])
    0 ∷ []) summed_bytes4
    ∷ moment 1 5 (access 9367491622993920000 0 8 false false) 4 4
    (frame 0 5 ((Some 0) ∷ (Some 9367487224947408896) ∷ (Some 9367491622993920000) ∷ None ∷ None ∷ None ∷ None ∷ None ∷ None ∷ None ∷ None ∷ None ∷ None ∷ None ∷
    None ∷ []) 0 ∷ []) summed_bytes4
    ∷ moment 1 6 kinds.Other 4 4 (frame 0 6
    ((Some 0) ∷ (Some 9367487224947408896) ∷ (Some 9367491622993920000) ∷
    (Some 0) ∷ None ∷ None ∷ None ∷ None ∷ None ∷ None ∷ None ∷ None ∷ None ∷ None ∷ None ∷ []) 0 ∷ []) summed_bytes4
    ∷ moment 1 7 kinds.Other 4 4 (frame 0 7
    ((Some 0) ∷ (Some 9367487224947408896) ∷ (Some 9367491622993920000) ∷ (Some 0) ∷
    (Some 3) ∷ None ∷ None ∷ None ∷ None ∷ None ∷ None ∷ None ∷ None ∷ None ∷ None ∷ []) 0 ∷ []) summed_bytes4
    ∷ moment 1 8 (kinds.Branch 1) 4 4 (frame 0 8
    ((Some 0) ∷ (Some 9367487224947408896) ∷ (Some 9367491622993920000) ∷ (Some 0) ∷ (Some 3) ∷
    (Some 1) ∷ None ∷ None ∷ None ∷ None ∷ None ∷ None ∷ None ∷ None ∷ None ∷ []) 0 ∷ []) summed_bytes4
    ∷ moment 1 9 kinds.Other 4 4 (frame 0 9
    ((Some 0) ∷ (Some 9367487224947408896) ∷ (Some 9367491622993920000) ∷ (Some 0) ∷ (Some 3) ∷
    (Some 1) ∷ None ∷ None ∷ None ∷ None ∷ None ∷ None ∷ None ∷ None ∷ None ∷ []) 0 ∷ []) summed_bytes4
    ∷ moment 1 10 (access 9367487224947408896 0 8 false false) 4 4
    (frame 0 10 ((Some 0) ∷ (Some 9367487224947408896) ∷ (Some 9367491622993920000) ∷ (Some 0) ∷ (Some 3) ∷ (Some 1) ∷
    (Some 1) ∷ None ∷ None ∷ None ∷ None ∷ None ∷ None ∷ None ∷ None ∷ []) 0 ∷ []) summed_bytes4
    ∷ moment 1 11 kinds.Other 4 4 (frame 0 11
    ((Some 0) ∷ (Some 9367487224947408896) ∷ (Some 9367491622993920000) ∷ (Some 0) ∷ (Some 3) ∷ (Some 1) ∷ (Some 1) ∷
    (Some 0) ∷ None ∷ None ∷ None ∷ None ∷ None ∷ None ∷ None ∷ []) 0 ∷ []) summed_bytes4
    ∷ moment 1 12 (access 9367487224947408896 1 8 true false) 4 4
    (frame 0 12 ((Some 0) ∷ (Some 9367487224947408896) ∷ (Some 9367491622993920000) ∷ (Some 0) ∷ (Some 3) ∷ (Some 1) ∷ (Some 1) ∷ (Some 0) ∷
    (Some 1) ∷ None ∷ None ∷ None ∷ None ∷ None ∷ None ∷ []) 0 ∷ []) summed_bytes4
    ∷ moment 1 13 kinds.Other 4 4 (frame 0 13
    ((Some 0) ∷ (Some 9367487224947408896) ∷ (Some 9367491622993920000) ∷ (Some 0) ∷ (Some 3) ∷ (Some 1) ∷ (Some 1) ∷ (Some 0) ∷
    (Some 1) ∷ None ∷ None ∷ None ∷ None ∷ None ∷ None ∷ []) 0 ∷ []) summed_bytes5
    ∷ moment 1 14 (access 9367491622993920000 1 8 true false) 4 4
    (frame 0 14 ((Some 0) ∷ (Some 9367487224947408896) ∷ (Some 9367491622993920000) ∷ (Some 0) ∷ (Some 3) ∷ (Some 1) ∷ (Some 1) ∷ (Some 0) ∷ (Some 1) ∷
    (Some 1) ∷ None ∷ None ∷ None ∷ None ∷ None ∷ []) 0 ∷ []) summed_bytes5
    ∷ moment 1 15 kinds.Other 4 4 (frame 0 15
    ((Some 0) ∷ (Some 9367487224947408896) ∷ (Some 9367491622993920000) ∷ (Some 0) ∷ (Some 3) ∷ (Some 1) ∷ (Some 1) ∷ (Some 0) ∷ (Some 1) ∷
    (Some 1) ∷ None ∷ None ∷ None ∷ None ∷ None ∷ []) 0 ∷ []) summed_bytes6
    ∷ moment 1 5 (access 9367491622993920000 1 8 false false) 4 4
    (frame 0 5 ((Some 0) ∷ (Some 9367487224947408896) ∷ (Some 9367491622993920000) ∷ (Some 0) ∷ (Some 3) ∷ (Some 1) ∷ (Some 1) ∷ (Some 0) ∷ (Some 1) ∷
    (Some 1) ∷ None ∷ None ∷ None ∷ None ∷ None ∷ []) 0 ∷ []) summed_bytes6
    ∷ moment 1 6 kinds.Other 4 4 (frame 0 6
    ((Some 0) ∷ (Some 9367487224947408896) ∷ (Some 9367491622993920000) ∷ (Some 1) ∷ (Some 3) ∷ (Some 1) ∷ (Some 1) ∷ (Some 0) ∷ (Some 1) ∷
    (Some 1) ∷ None ∷ None ∷ None ∷ None ∷ None ∷ []) 0 ∷ []) summed_bytes6
    ∷ moment 1 7 kinds.Other 4 4 (frame 0 7
    ((Some 0) ∷ (Some 9367487224947408896) ∷ (Some 9367491622993920000) ∷ (Some 1) ∷ (Some 3) ∷ (Some 1) ∷ (Some 1) ∷ (Some 0) ∷ (Some 1) ∷
    (Some 1) ∷ None ∷ None ∷ None ∷ None ∷ None ∷ []) 0 ∷ []) summed_bytes6
    ∷ moment 1 8 (kinds.Branch 1) 4 4 (frame 0 8
    ((Some 0) ∷ (Some 9367487224947408896) ∷ (Some 9367491622993920000) ∷ (Some 1) ∷ (Some 3) ∷ (Some 1) ∷ (Some 1) ∷ (Some 0) ∷ (Some 1) ∷
    (Some 1) ∷ None ∷ None ∷ None ∷ None ∷ None ∷ []) 0 ∷ []) summed_bytes6
    ∷ moment 1 9 kinds.Other 4 4 (frame 0 9
    ((Some 0) ∷ (Some 9367487224947408896) ∷ (Some 9367491622993920000) ∷ (Some 1) ∷ (Some 3) ∷ (Some 1) ∷ (Some 1) ∷ (Some 0) ∷ (Some 1) ∷
    (Some 1) ∷ None ∷ None ∷ None ∷ None ∷ None ∷ []) 0 ∷ []) summed_bytes6
    ∷ moment 1 10 (access 9367487224947408896 1 8 false false) 4 4
    (frame 0 10 ((Some 0) ∷ (Some 9367487224947408896) ∷ (Some 9367491622993920000) ∷ (Some 1) ∷ (Some 3) ∷ (Some 1) ∷ (Some 2) ∷ (Some 0) ∷ (Some 1) ∷
    (Some 1) ∷ None ∷ None ∷ None ∷ None ∷ None ∷ []) 0 ∷ []) summed_bytes6
    ∷ moment 1 11 kinds.Other 4 4 (frame 0 11
    ((Some 0) ∷ (Some 9367487224947408896) ∷ (Some 9367491622993920000) ∷ (Some 1) ∷ (Some 3) ∷ (Some 1) ∷ (Some 2) ∷ (Some 1) ∷ (Some 1) ∷
    (Some 1) ∷ None ∷ None ∷ None ∷ None ∷ None ∷ []) 0 ∷ []) summed_bytes6
    ∷ moment 1 12 (access 9367487224947408896 3 8 true false) 4 4
    (frame 0 12 ((Some 0) ∷ (Some 9367487224947408896) ∷ (Some 9367491622993920000) ∷ (Some 1) ∷ (Some 3) ∷ (Some 1) ∷ (Some 2) ∷ (Some 1) ∷ (Some 3) ∷
    (Some 1) ∷ None ∷ None ∷ None ∷ None ∷ None ∷ []) 0 ∷ []) summed_bytes6
    ∷ moment 1 13 kinds.Other 4 4 (frame 0 13
    ((Some 0) ∷ (Some 9367487224947408896) ∷ (Some 9367491622993920000) ∷ (Some 1) ∷ (Some 3) ∷ (Some 1) ∷ (Some 2) ∷ (Some 1) ∷ (Some 3) ∷
    (Some 1) ∷ None ∷ None ∷ None ∷ None ∷ None ∷ []) 0 ∷ []) summed_bytes7
    ∷ moment 1 14 (access 9367491622993920000 2 8 true false) 4 4
    (frame 0 14 ((Some 0) ∷ (Some 9367487224947408896) ∷ (Some 9367491622993920000) ∷ (Some 1) ∷ (Some 3) ∷ (Some 1) ∷ (Some 2) ∷ (Some 1) ∷ (Some 3) ∷
    (Some 2) ∷ None ∷ None ∷ None ∷ None ∷ None ∷ []) 0 ∷ []) summed_bytes7
    ∷ moment 1 15 kinds.Other 4 4 (frame 0 15
    ((Some 0) ∷ (Some 9367487224947408896) ∷ (Some 9367491622993920000) ∷ (Some 1) ∷ (Some 3) ∷ (Some 1) ∷ (Some 2) ∷ (Some 1) ∷ (Some 3) ∷
    (Some 2) ∷ None ∷ None ∷ None ∷ None ∷ None ∷ []) 0 ∷ []) summed_bytes8
    ∷ moment 1 5 (access 9367491622993920000 2 8 false false) 4 4
    (frame 0 5 ((Some 0) ∷ (Some 9367487224947408896) ∷ (Some 9367491622993920000) ∷ (Some 1) ∷ (Some 3) ∷ (Some 1) ∷ (Some 2) ∷ (Some 1) ∷ (Some 3) ∷
    (Some 2) ∷ None ∷ None ∷ None ∷ None ∷ None ∷ []) 0 ∷ []) summed_bytes8
    ∷ moment 1 6 kinds.Other 4 4 (frame 0 6
    ((Some 0) ∷ (Some 9367487224947408896) ∷ (Some 9367491622993920000) ∷ (Some 2) ∷ (Some 3) ∷ (Some 1) ∷ (Some 2) ∷ (Some 1) ∷ (Some 3) ∷
    (Some 2) ∷ None ∷ None ∷ None ∷ None ∷ None ∷ []) 0 ∷ []) summed_bytes8
    ∷ moment 1 7 kinds.Other 4 4 (frame 0 7
    ((Some 0) ∷ (Some 9367487224947408896) ∷ (Some 9367491622993920000) ∷ (Some 2) ∷ (Some 3) ∷ (Some 1) ∷ (Some 2) ∷ (Some 1) ∷ (Some 3) ∷
    (Some 2) ∷ None ∷ None ∷ None ∷ None ∷ None ∷ []) 0 ∷ []) summed_bytes8
    ∷ moment 1 8 (kinds.Branch 1) 4 4 (frame 0 8
    ((Some 0) ∷ (Some 9367487224947408896) ∷ (Some 9367491622993920000) ∷ (Some 2) ∷ (Some 3) ∷ (Some 1) ∷ (Some 2) ∷ (Some 1) ∷ (Some 3) ∷
    (Some 2) ∷ None ∷ None ∷ None ∷ None ∷ None ∷ []) 0 ∷ []) summed_bytes8
    ∷ moment 1 9 kinds.Other 4 4 (frame 0 9
    ((Some 0) ∷ (Some 9367487224947408896) ∷ (Some 9367491622993920000) ∷ (Some 2) ∷ (Some 3) ∷ (Some 1) ∷ (Some 2) ∷ (Some 1) ∷ (Some 3) ∷
    (Some 2) ∷ None ∷ None ∷ None ∷ None ∷ None ∷ []) 0 ∷ []) summed_bytes8
    ∷ moment 1 10 (access 9367487224947408896 3 8 false false) 4 4
    (frame 0 10 ((Some 0) ∷ (Some 9367487224947408896) ∷ (Some 9367491622993920000) ∷ (Some 2) ∷ (Some 3) ∷ (Some 1) ∷ (Some 3) ∷ (Some 1) ∷ (Some 3) ∷
    (Some 2) ∷ None ∷ None ∷ None ∷ None ∷ None ∷ []) 0 ∷ []) summed_bytes8
    ∷ moment 1 11 kinds.Other 4 4 (frame 0 11
    ((Some 0) ∷ (Some 9367487224947408896) ∷ (Some 9367491622993920000) ∷ (Some 2) ∷ (Some 3) ∷ (Some 1) ∷ (Some 3) ∷ (Some 3) ∷ (Some 3) ∷
    (Some 2) ∷ None ∷ None ∷ None ∷ None ∷ None ∷ []) 0 ∷ []) summed_bytes8
    ∷ moment 1 12 (access 9367487224947408896 6 8 true false) 4 4
    (frame 0 12 ((Some 0) ∷ (Some 9367487224947408896) ∷ (Some 9367491622993920000) ∷ (Some 2) ∷ (Some 3) ∷ (Some 1) ∷ (Some 3) ∷ (Some 3) ∷ (Some 6) ∷
    (Some 2) ∷ None ∷ None ∷ None ∷ None ∷ None ∷ []) 0 ∷ []) summed_bytes8
    ∷ moment 1 13 kinds.Other 4 4 (frame 0 13
    ((Some 0) ∷ (Some 9367487224947408896) ∷ (Some 9367491622993920000) ∷ (Some 2) ∷ (Some 3) ∷ (Some 1) ∷ (Some 3) ∷ (Some 3) ∷ (Some 6) ∷
    (Some 2) ∷ None ∷ None ∷ None ∷ None ∷ None ∷ []) 0 ∷ []) summed_bytes9
    ∷ moment 1 14 (access 9367491622993920000 3 8 true false) 4 4
    (frame 0 14 ((Some 0) ∷ (Some 9367487224947408896) ∷ (Some 9367491622993920000) ∷ (Some 2) ∷ (Some 3) ∷ (Some 1) ∷ (Some 3) ∷ (Some 3) ∷ (Some 6) ∷
    (Some 3) ∷ None ∷ None ∷ None ∷ None ∷ None ∷ []) 0 ∷ []) summed_bytes9
    ∷ moment 1 15 kinds.Other 4 4 (frame 0 15
    ((Some 0) ∷ (Some 9367487224947408896) ∷ (Some 9367491622993920000) ∷ (Some 2) ∷ (Some 3) ∷ (Some 1) ∷ (Some 3) ∷ (Some 3) ∷ (Some 6) ∷
    (Some 3) ∷ None ∷ None ∷ None ∷ None ∷ None ∷ []) 0 ∷ []) summed_bytes10
    ∷ moment 1 5 (access 9367491622993920000 3 8 false false) 4 4
    (frame 0 5 ((Some 0) ∷ (Some 9367487224947408896) ∷ (Some 9367491622993920000) ∷ (Some 2) ∷ (Some 3) ∷ (Some 1) ∷ (Some 3) ∷ (Some 3) ∷ (Some 6) ∷
    (Some 3) ∷ None ∷ None ∷ None ∷ None ∷ None ∷ []) 0 ∷ []) summed_bytes10
    ∷ moment 1 6 kinds.Other 4 4 (frame 0 6
    ((Some 0) ∷ (Some 9367487224947408896) ∷ (Some 9367491622993920000) ∷ (Some 3) ∷ (Some 3) ∷ (Some 1) ∷ (Some 3) ∷ (Some 3) ∷ (Some 6) ∷
    (Some 3) ∷ None ∷ None ∷ None ∷ None ∷ None ∷ []) 0 ∷ []) summed_bytes10
    ∷ moment 1 7 kinds.Other 4 4 (frame 0 7
    ((Some 0) ∷ (Some 9367487224947408896) ∷ (Some 9367491622993920000) ∷ (Some 3) ∷ (Some 3) ∷ (Some 1) ∷ (Some 3) ∷ (Some 3) ∷ (Some 6) ∷
    (Some 3) ∷ None ∷ None ∷ None ∷ None ∷ None ∷ []) 0 ∷ []) summed_bytes10
    ∷ moment 1 8 (kinds.Branch 0) 4 4 (frame 0 8
    ((Some 0) ∷ (Some 9367487224947408896) ∷ (Some 9367491622993920000) ∷ (Some 3) ∷ (Some 3) ∷ (Some 0) ∷ (Some 3) ∷ (Some 3) ∷ (Some 6) ∷
    (Some 3) ∷ None ∷ None ∷ None ∷ None ∷ None ∷ []) 0 ∷ []) summed_bytes10
    ∷ moment 1 16 (event turns.Lock 16 (8796176908288 ∷ 0 ∷ 0 ∷ 0 ∷ []) 0 None) 5 4
    (frame 0 16 ((Some 0) ∷ (Some 9367487224947408896) ∷ (Some 9367491622993920000) ∷ (Some 3) ∷ (Some 3) ∷ (Some 0) ∷ (Some 3) ∷ (Some 3) ∷ (Some 6) ∷
    (Some 3) ∷ None ∷ None ∷ None ∷ None ∷ None ∷ []) 0 ∷ []) summed_bytes10
    ∷ moment 1 17 (access 4398063288320 0 8 false false) 5 5
    (frame 0 17 ((Some 0) ∷ (Some 9367487224947408896) ∷ (Some 9367491622993920000) ∷ (Some 3) ∷ (Some 3) ∷ (Some 0) ∷ (Some 3) ∷ (Some 3) ∷ (Some 6) ∷ (Some 3) ∷
    (Some 0) ∷ None ∷ None ∷ None ∷ None ∷ []) 0 ∷ []) summed_bytes10
    ∷ moment 1 18 (access 9367487224947408896 6 8 false false) 5 5
    (frame 0 18 ((Some 0) ∷ (Some 9367487224947408896) ∷ (Some 9367491622993920000) ∷ (Some 3) ∷ (Some 3) ∷ (Some 0) ∷ (Some 3) ∷ (Some 3) ∷ (Some 6) ∷ (Some 3) ∷
    (Some 0) ∷ (Some 0) ∷ None ∷ None ∷ None ∷ []) 0 ∷ []) summed_bytes10
    ∷ moment 1 19 kinds.Other 5 5 (frame 0 19
    ((Some 0) ∷ (Some 9367487224947408896) ∷ (Some 9367491622993920000) ∷ (Some 3) ∷ (Some 3) ∷ (Some 0) ∷ (Some 3) ∷ (Some 3) ∷ (Some 6) ∷ (Some 3) ∷ (Some 0) ∷
    (Some 0) ∷ (Some 6) ∷ None ∷ None ∷ []) 0 ∷ []) summed_bytes10
    ∷ moment 1 20 (access 4398063288320 6 8 true false) 5 5
    (frame 0 20 ((Some 0) ∷ (Some 9367487224947408896) ∷ (Some 9367491622993920000) ∷ (Some 3) ∷ (Some 3) ∷ (Some 0) ∷ (Some 3) ∷ (Some 3) ∷ (Some 6) ∷ (Some 3) ∷
    (Some 0) ∷ (Some 0) ∷ (Some 6) ∷ (Some 6) ∷ None ∷ []) 0 ∷ []) summed_bytes10
    ∷ moment 1 21 (event turns.Unlock 16 (8796176908288 ∷ 0 ∷ 0 ∷ 0 ∷ []) 0 None) 6 5
    (frame 0 21 ((Some 0) ∷ (Some 9367487224947408896) ∷ (Some 9367491622993920000) ∷ (Some 3) ∷ (Some 3) ∷ (Some 0) ∷ (Some 3) ∷ (Some 3) ∷ (Some 6) ∷ (Some 3) ∷
    (Some 0) ∷ (Some 0) ∷ (Some 6) ∷ (Some 6) ∷ None ∷ []) 0 ∷ []) summed_bytes11
    ∷ moment 1 22 (event turns.Exit 1 (0 ∷ 0 ∷ 0 ∷ 0 ∷ []) 0 None) 7 6
    (frame 0 22 ((Some 0) ∷ (Some 9367487224947408896) ∷ (Some 9367491622993920000) ∷ (Some 3) ∷ (Some 3) ∷ (Some 0) ∷ (Some 3) ∷ (Some 3) ∷ (Some 6) ∷ (Some 3) ∷
    (Some 0) ∷ (Some 0) ∷ (Some 6) ∷ (Some 6) ∷ (Some 0) ∷ []) 0 ∷ []) summed_bytes11
    ∷ moment 2 0 (event turns.Start 2 (0 ∷ 0 ∷ 0 ∷ 0 ∷ []) 0 None) 8 7
    (frame 0 0 (None ∷ None ∷ None ∷ None ∷ None ∷ None ∷ None ∷ None ∷ None ∷ None ∷ None ∷ None ∷ None ∷ None ∷ None ∷ []) 0 ∷ []) summed_bytes11
    ∷ moment 2 0 (kinds.Allocation 0 9511602413023264768) 8 8
    (frame 0 0 ((Some 0) ∷ None ∷ None ∷ None ∷ None ∷ None ∷ None ∷ None ∷ None ∷ None ∷ None ∷ None ∷ None ∷ None ∷ None ∷ []) 0 ∷ []) summed_bytes11
    ∷ moment 2 1 (kinds.Allocation 0 9511606811069775872) 8 8
    (frame 0 1 ((Some 0) ∷ (Some 9511602413023264768) ∷ None ∷ None ∷ None ∷ None ∷ None ∷ None ∷ None ∷ None ∷ None ∷ None ∷ None ∷ None ∷ None ∷ []) 0 ∷ [])
    summed_bytes11
    ∷ moment 2 2 (access 9511602413023264768 0 8 true false) 8 8
    (frame 0 2 ((Some 0) ∷ (Some 9511602413023264768) ∷ (Some 9511606811069775872) ∷ None ∷ None ∷ None ∷ None ∷ None ∷ None ∷ None ∷ None ∷ None ∷ None ∷ None ∷
    None ∷ []) 0 ∷ []) summed_bytes11
    ∷ moment 2 3 (access 9511606811069775872 0 8 true false) 8 8
    (frame 0 3 ((Some 0) ∷ (Some 9511602413023264768) ∷ (Some 9511606811069775872) ∷ None ∷ None ∷ None ∷ None ∷ None ∷ None ∷ None ∷ None ∷ None ∷ None ∷ None ∷
    None ∷ []) 0 ∷ []) summed_bytes12
    ∷ moment 2 4 kinds.Other 8 8 (frame 0 4
    ((Some 0) ∷ (Some 9511602413023264768) ∷ (Some 9511606811069775872) ∷ None ∷ None ∷ None ∷ None ∷ None ∷ None ∷ None ∷ None ∷ None ∷ None ∷ None ∷ None ∷ [])
    0 ∷ []) summed_bytes13
    ∷ moment 2 5 (access 9511606811069775872 0 8 false false) 8 8
    (frame 0 5 ((Some 0) ∷ (Some 9511602413023264768) ∷ (Some 9511606811069775872) ∷ None ∷ None ∷ None ∷ None ∷ None ∷ None ∷ None ∷ None ∷ None ∷ None ∷ None ∷
    None ∷ []) 0 ∷ []) summed_bytes13
    ∷ moment 2 6 kinds.Other 8 8 (frame 0 6
    ((Some 0) ∷ (Some 9511602413023264768) ∷ (Some 9511606811069775872) ∷
    (Some 0) ∷ None ∷ None ∷ None ∷ None ∷ None ∷ None ∷ None ∷ None ∷ None ∷ None ∷ None ∷ []) 0 ∷ []) summed_bytes13
    ∷ moment 2 7 kinds.Other 8 8 (frame 0 7
    ((Some 0) ∷ (Some 9511602413023264768) ∷ (Some 9511606811069775872) ∷ (Some 0) ∷
    (Some 3) ∷ None ∷ None ∷ None ∷ None ∷ None ∷ None ∷ None ∷ None ∷ None ∷ None ∷ []) 0 ∷ []) summed_bytes13
    ∷ moment 2 8 (kinds.Branch 1) 8 8 (frame 0 8
    ((Some 0) ∷ (Some 9511602413023264768) ∷ (Some 9511606811069775872) ∷ (Some 0) ∷ (Some 3) ∷
    (Some 1) ∷ None ∷ None ∷ None ∷ None ∷ None ∷ None ∷ None ∷ None ∷ None ∷ []) 0 ∷ []) summed_bytes13
    ∷ moment 2 9 kinds.Other 8 8 (frame 0 9
    ((Some 0) ∷ (Some 9511602413023264768) ∷ (Some 9511606811069775872) ∷ (Some 0) ∷ (Some 3) ∷
    (Some 1) ∷ None ∷ None ∷ None ∷ None ∷ None ∷ None ∷ None ∷ None ∷ None ∷ []) 0 ∷ []) summed_bytes13
    ∷ moment 2 10 (access 9511602413023264768 0 8 false false) 8 8
    (frame 0 10 ((Some 0) ∷ (Some 9511602413023264768) ∷ (Some 9511606811069775872) ∷ (Some 0) ∷ (Some 3) ∷ (Some 1) ∷
    (Some 1) ∷ None ∷ None ∷ None ∷ None ∷ None ∷ None ∷ None ∷ None ∷ []) 0 ∷ []) summed_bytes13
    ∷ moment 2 11 kinds.Other 8 8 (frame 0 11
    ((Some 0) ∷ (Some 9511602413023264768) ∷ (Some 9511606811069775872) ∷ (Some 0) ∷ (Some 3) ∷ (Some 1) ∷ (Some 1) ∷
    (Some 0) ∷ None ∷ None ∷ None ∷ None ∷ None ∷ None ∷ None ∷ []) 0 ∷ []) summed_bytes13
    ∷ moment 2 12 (access 9511602413023264768 1 8 true false) 8 8
    (frame 0 12 ((Some 0) ∷ (Some 9511602413023264768) ∷ (Some 9511606811069775872) ∷ (Some 0) ∷ (Some 3) ∷ (Some 1) ∷ (Some 1) ∷ (Some 0) ∷
    (Some 1) ∷ None ∷ None ∷ None ∷ None ∷ None ∷ None ∷ []) 0 ∷ []) summed_bytes13
    ∷ moment 2 13 kinds.Other 8 8 (frame 0 13
    ((Some 0) ∷ (Some 9511602413023264768) ∷ (Some 9511606811069775872) ∷ (Some 0) ∷ (Some 3) ∷ (Some 1) ∷ (Some 1) ∷ (Some 0) ∷
    (Some 1) ∷ None ∷ None ∷ None ∷ None ∷ None ∷ None ∷ []) 0 ∷ []) summed_bytes14
    ∷ moment 2 14 (access 9511606811069775872 1 8 true false) 8 8
    (frame 0 14 ((Some 0) ∷ (Some 9511602413023264768) ∷ (Some 9511606811069775872) ∷ (Some 0) ∷ (Some 3) ∷ (Some 1) ∷ (Some 1) ∷ (Some 0) ∷ (Some 1) ∷
    (Some 1) ∷ None ∷ None ∷ None ∷ None ∷ None ∷ []) 0 ∷ []) summed_bytes14
    ∷ moment 2 15 kinds.Other 8 8 (frame 0 15
    ((Some 0) ∷ (Some 9511602413023264768) ∷ (Some 9511606811069775872) ∷ (Some 0) ∷ (Some 3) ∷ (Some 1) ∷ (Some 1) ∷ (Some 0) ∷ (Some 1) ∷
    (Some 1) ∷ None ∷ None ∷ None ∷ None ∷ None ∷ []) 0 ∷ []) summed_bytes15
    ∷ moment 2 5 (access 9511606811069775872 1 8 false false) 8 8
    (frame 0 5 ((Some 0) ∷ (Some 9511602413023264768) ∷ (Some 9511606811069775872) ∷ (Some 0) ∷ (Some 3) ∷ (Some 1) ∷ (Some 1) ∷ (Some 0) ∷ (Some 1) ∷
    (Some 1) ∷ None ∷ None ∷ None ∷ None ∷ None ∷ []) 0 ∷ []) summed_bytes15
    ∷ moment 2 6 kinds.Other 8 8 (frame 0 6
    ((Some 0) ∷ (Some 9511602413023264768) ∷ (Some 9511606811069775872) ∷ (Some 1) ∷ (Some 3) ∷ (Some 1) ∷ (Some 1) ∷ (Some 0) ∷ (Some 1) ∷
    (Some 1) ∷ None ∷ None ∷ None ∷ None ∷ None ∷ []) 0 ∷ []) summed_bytes15
    ∷ moment 2 7 kinds.Other 8 8 (frame 0 7
    ((Some 0) ∷ (Some 9511602413023264768) ∷ (Some 9511606811069775872) ∷ (Some 1) ∷ (Some 3) ∷ (Some 1) ∷ (Some 1) ∷ (Some 0) ∷ (Some 1) ∷
    (Some 1) ∷ None ∷ None ∷ None ∷ None ∷ None ∷ []) 0 ∷ []) summed_bytes15
    ∷ moment 2 8 (kinds.Branch 1) 8 8 (frame 0 8
    ((Some 0) ∷ (Some 9511602413023264768) ∷ (Some 9511606811069775872) ∷ (Some 1) ∷ (Some 3) ∷ (Some 1) ∷ (Some 1) ∷ (Some 0) ∷ (Some 1) ∷
    (Some 1) ∷ None ∷ None ∷ None ∷ None ∷ None ∷ []) 0 ∷ []) summed_bytes15
    ∷ moment 2 9 kinds.Other 8 8 (frame 0 9
    ((Some 0) ∷ (Some 9511602413023264768) ∷ (Some 9511606811069775872) ∷ (Some 1) ∷ (Some 3) ∷ (Some 1) ∷ (Some 1) ∷ (Some 0) ∷ (Some 1) ∷
    (Some 1) ∷ None ∷ None ∷ None ∷ None ∷ None ∷ []) 0 ∷ []) summed_bytes15
    ∷ moment 2 10 (access 9511602413023264768 1 8 false false) 8 8
    (frame 0 10 ((Some 0) ∷ (Some 9511602413023264768) ∷ (Some 9511606811069775872) ∷ (Some 1) ∷ (Some 3) ∷ (Some 1) ∷ (Some 2) ∷ (Some 0) ∷ (Some 1) ∷
    (Some 1) ∷ None ∷ None ∷ None ∷ None ∷ None ∷ []) 0 ∷ []) summed_bytes15
    ∷ moment 2 11 kinds.Other 8 8 (frame 0 11
    ((Some 0) ∷ (Some 9511602413023264768) ∷ (Some 9511606811069775872) ∷ (Some 1) ∷ (Some 3) ∷ (Some 1) ∷ (Some 2) ∷ (Some 1) ∷ (Some 1) ∷
    (Some 1) ∷ None ∷ None ∷ None ∷ None ∷ None ∷ []) 0 ∷ []) summed_bytes15
    ∷ moment 2 12 (access 9511602413023264768 3 8 true false) 8 8
    (frame 0 12 ((Some 0) ∷ (Some 9511602413023264768) ∷ (Some 9511606811069775872) ∷ (Some 1) ∷ (Some 3) ∷ (Some 1) ∷ (Some 2) ∷ (Some 1) ∷ (Some 3) ∷
    (Some 1) ∷ None ∷ None ∷ None ∷ None ∷ None ∷ []) 0 ∷ []) summed_bytes15
    ∷ moment 2 13 kinds.Other 8 8 (frame 0 13
    ((Some 0) ∷ (Some 9511602413023264768) ∷ (Some 9511606811069775872) ∷ (Some 1) ∷ (Some 3) ∷ (Some 1) ∷ (Some 2) ∷ (Some 1) ∷ (Some 3) ∷
    (Some 1) ∷ None ∷ None ∷ None ∷ None ∷ None ∷ []) 0 ∷ []) summed_bytes16
    ∷ moment 2 14 (access 9511606811069775872 2 8 true false) 8 8
    (frame 0 14 ((Some 0) ∷ (Some 9511602413023264768) ∷ (Some 9511606811069775872) ∷ (Some 1) ∷ (Some 3) ∷ (Some 1) ∷ (Some 2) ∷ (Some 1) ∷ (Some 3) ∷
    (Some 2) ∷ None ∷ None ∷ None ∷ None ∷ None ∷ []) 0 ∷ []) summed_bytes16
    ∷ moment 2 15 kinds.Other 8 8 (frame 0 15
    ((Some 0) ∷ (Some 9511602413023264768) ∷ (Some 9511606811069775872) ∷ (Some 1) ∷ (Some 3) ∷ (Some 1) ∷ (Some 2) ∷ (Some 1) ∷ (Some 3) ∷
    (Some 2) ∷ None ∷ None ∷ None ∷ None ∷ None ∷ []) 0 ∷ []) summed_bytes17
    ∷ moment 2 5 (access 9511606811069775872 2 8 false false) 8 8
    (frame 0 5 ((Some 0) ∷ (Some 9511602413023264768) ∷ (Some 9511606811069775872) ∷ (Some 1) ∷ (Some 3) ∷ (Some 1) ∷ (Some 2) ∷ (Some 1) ∷ (Some 3) ∷
    (Some 2) ∷ None ∷ None ∷ None ∷ None ∷ None ∷ []) 0 ∷ []) summed_bytes17
    ∷ moment 2 6 kinds.Other 8 8 (frame 0 6
    ((Some 0) ∷ (Some 9511602413023264768) ∷ (Some 9511606811069775872) ∷ (Some 2) ∷ (Some 3) ∷ (Some 1) ∷ (Some 2) ∷ (Some 1) ∷ (Some 3) ∷
    (Some 2) ∷ None ∷ None ∷ None ∷ None ∷ None ∷ []) 0 ∷ []) summed_bytes17
    ∷ moment 2 7 kinds.Other 8 8 (frame 0 7
    ((Some 0) ∷ (Some 9511602413023264768) ∷ (Some 9511606811069775872) ∷ (Some 2) ∷ (Some 3) ∷ (Some 1) ∷ (Some 2) ∷ (Some 1) ∷ (Some 3) ∷
    (Some 2) ∷ None ∷ None ∷ None ∷ None ∷ None ∷ []) 0 ∷ []) summed_bytes17
    ∷ moment 2 8 (kinds.Branch 1) 8 8 (frame 0 8
    ((Some 0) ∷ (Some 9511602413023264768) ∷ (Some 9511606811069775872) ∷ (Some 2) ∷ (Some 3) ∷ (Some 1) ∷ (Some 2) ∷ (Some 1) ∷ (Some 3) ∷
    (Some 2) ∷ None ∷ None ∷ None ∷ None ∷ None ∷ []) 0 ∷ []) summed_bytes17
    ∷ moment 2 9 kinds.Other 8 8 (frame 0 9
    ((Some 0) ∷ (Some 9511602413023264768) ∷ (Some 9511606811069775872) ∷ (Some 2) ∷ (Some 3) ∷ (Some 1) ∷ (Some 2) ∷ (Some 1) ∷ (Some 3) ∷
    (Some 2) ∷ None ∷ None ∷ None ∷ None ∷ None ∷ []) 0 ∷ []) summed_bytes17
    ∷ moment 2 10 (access 9511602413023264768 3 8 false false) 8 8
    (frame 0 10 ((Some 0) ∷ (Some 9511602413023264768) ∷ (Some 9511606811069775872) ∷ (Some 2) ∷ (Some 3) ∷ (Some 1) ∷ (Some 3) ∷ (Some 1) ∷ (Some 3) ∷
    (Some 2) ∷ None ∷ None ∷ None ∷ None ∷ None ∷ []) 0 ∷ []) summed_bytes17
    ∷ moment 2 11 kinds.Other 8 8 (frame 0 11
    ((Some 0) ∷ (Some 9511602413023264768) ∷ (Some 9511606811069775872) ∷ (Some 2) ∷ (Some 3) ∷ (Some 1) ∷ (Some 3) ∷ (Some 3) ∷ (Some 3) ∷
    (Some 2) ∷ None ∷ None ∷ None ∷ None ∷ None ∷ []) 0 ∷ []) summed_bytes17
    ∷ moment 2 12 (access 9511602413023264768 6 8 true false) 8 8
    (frame 0 12 ((Some 0) ∷ (Some 9511602413023264768) ∷ (Some 9511606811069775872) ∷ (Some 2) ∷ (Some 3) ∷ (Some 1) ∷ (Some 3) ∷ (Some 3) ∷ (Some 6) ∷
    (Some 2) ∷ None ∷ None ∷ None ∷ None ∷ None ∷ []) 0 ∷ []) summed_bytes17
    ∷ moment 2 13 kinds.Other 8 8 (frame 0 13
    ((Some 0) ∷ (Some 9511602413023264768) ∷ (Some 9511606811069775872) ∷ (Some 2) ∷ (Some 3) ∷ (Some 1) ∷ (Some 3) ∷ (Some 3) ∷ (Some 6) ∷
    (Some 2) ∷ None ∷ None ∷ None ∷ None ∷ None ∷ []) 0 ∷ []) summed_bytes18
    ∷ moment 2 14 (access 9511606811069775872 3 8 true false) 8 8
    (frame 0 14 ((Some 0) ∷ (Some 9511602413023264768) ∷ (Some 9511606811069775872) ∷ (Some 2) ∷ (Some 3) ∷ (Some 1) ∷ (Some 3) ∷ (Some 3) ∷ (Some 6) ∷
    (Some 3) ∷ None ∷ None ∷ None ∷ None ∷ None ∷ []) 0 ∷ []) summed_bytes18
    ∷ moment 2 15 kinds.Other 8 8 (frame 0 15
    ((Some 0) ∷ (Some 9511602413023264768) ∷ (Some 9511606811069775872) ∷ (Some 2) ∷ (Some 3) ∷ (Some 1) ∷ (Some 3) ∷ (Some 3) ∷ (Some 6) ∷
    (Some 3) ∷ None ∷ None ∷ None ∷ None ∷ None ∷ []) 0 ∷ []) summed_bytes19
    ∷ moment 2 5 (access 9511606811069775872 3 8 false false) 8 8
    (frame 0 5 ((Some 0) ∷ (Some 9511602413023264768) ∷ (Some 9511606811069775872) ∷ (Some 2) ∷ (Some 3) ∷ (Some 1) ∷ (Some 3) ∷ (Some 3) ∷ (Some 6) ∷
    (Some 3) ∷ None ∷ None ∷ None ∷ None ∷ None ∷ []) 0 ∷ []) summed_bytes19
    ∷ moment 2 6 kinds.Other 8 8 (frame 0 6
    ((Some 0) ∷ (Some 9511602413023264768) ∷ (Some 9511606811069775872) ∷ (Some 3) ∷ (Some 3) ∷ (Some 1) ∷ (Some 3) ∷ (Some 3) ∷ (Some 6) ∷
    (Some 3) ∷ None ∷ None ∷ None ∷ None ∷ None ∷ []) 0 ∷ []) summed_bytes19
    ∷ moment 2 7 kinds.Other 8 8 (frame 0 7
    ((Some 0) ∷ (Some 9511602413023264768) ∷ (Some 9511606811069775872) ∷ (Some 3) ∷ (Some 3) ∷ (Some 1) ∷ (Some 3) ∷ (Some 3) ∷ (Some 6) ∷
    (Some 3) ∷ None ∷ None ∷ None ∷ None ∷ None ∷ []) 0 ∷ []) summed_bytes19
    ∷ moment 2 8 (kinds.Branch 0) 8 8 (frame 0 8
    ((Some 0) ∷ (Some 9511602413023264768) ∷ (Some 9511606811069775872) ∷ (Some 3) ∷ (Some 3) ∷ (Some 0) ∷ (Some 3) ∷ (Some 3) ∷ (Some 6) ∷
    (Some 3) ∷ None ∷ None ∷ None ∷ None ∷ None ∷ []) 0 ∷ []) summed_bytes19
    ∷ moment 2 16 (event turns.Lock 16 (8796176908288 ∷ 0 ∷ 0 ∷ 0 ∷ []) 0 None) 9 8
    (frame 0 16 ((Some 0) ∷ (Some 9511602413023264768) ∷ (Some 9511606811069775872) ∷ (Some 3) ∷ (Some 3) ∷ (Some 0) ∷ (Some 3) ∷ (Some 3) ∷ (Some 6) ∷
    (Some 3) ∷ None ∷ None ∷ None ∷ None ∷ None ∷ []) 0 ∷ []) summed_bytes19
    ∷ moment 2 17 (access 4398063288320 6 8 false false) 9 9
    (frame 0 17 ((Some 0) ∷ (Some 9511602413023264768) ∷ (Some 9511606811069775872) ∷ (Some 3) ∷ (Some 3) ∷ (Some 0) ∷ (Some 3) ∷ (Some 3) ∷ (Some 6) ∷ (Some 3) ∷
    (Some 0) ∷ None ∷ None ∷ None ∷ None ∷ []) 0 ∷ []) summed_bytes19
    ∷ moment 2 18 (access 9511602413023264768 6 8 false false) 9 9
    (frame 0 18 ((Some 0) ∷ (Some 9511602413023264768) ∷ (Some 9511606811069775872) ∷ (Some 3) ∷ (Some 3) ∷ (Some 0) ∷ (Some 3) ∷ (Some 3) ∷ (Some 6) ∷ (Some 3) ∷
    (Some 0) ∷ (Some 6) ∷ None ∷ None ∷ None ∷ []) 0 ∷ []) summed_bytes19
    ∷ moment 2 19 kinds.Other 9 9 (frame 0 19
    ((Some 0) ∷ (Some 9511602413023264768) ∷ (Some 9511606811069775872) ∷ (Some 3) ∷ (Some 3) ∷ (Some 0) ∷ (Some 3) ∷ (Some 3) ∷ (Some 6) ∷ (Some 3) ∷ (Some 0) ∷
    (Some 6) ∷ (Some 6) ∷ None ∷ None ∷ []) 0 ∷ []) summed_bytes19
    ∷ moment 2 20 (access 4398063288320 12 8 true false) 9 9
    (frame 0 20 ((Some 0) ∷ (Some 9511602413023264768) ∷ (Some 9511606811069775872) ∷ (Some 3) ∷ (Some 3) ∷ (Some 0) ∷ (Some 3) ∷ (Some 3) ∷ (Some 6) ∷ (Some 3) ∷
    (Some 0) ∷ (Some 6) ∷ (Some 6) ∷ (Some 12) ∷ None ∷ []) 0 ∷ []) summed_bytes19
    ∷ moment 2 21 (event turns.Unlock 16 (8796176908288 ∷ 0 ∷ 0 ∷ 0 ∷ []) 0 None) 10 9
    (frame 0 21 ((Some 0) ∷ (Some 9511602413023264768) ∷ (Some 9511606811069775872) ∷ (Some 3) ∷ (Some 3) ∷ (Some 0) ∷ (Some 3) ∷ (Some 3) ∷ (Some 6) ∷ (Some 3) ∷
    (Some 0) ∷ (Some 6) ∷ (Some 6) ∷ (Some 12) ∷ None ∷ []) 0 ∷ []) summed_bytes20
    ∷ moment 2 22 (event turns.Exit 2 (0 ∷ 0 ∷ 0 ∷ 0 ∷ []) 0 None) 11 10
    (frame 0 22 ((Some 0) ∷ (Some 9511602413023264768) ∷ (Some 9511606811069775872) ∷ (Some 3) ∷ (Some 3) ∷ (Some 0) ∷ (Some 3) ∷ (Some 3) ∷ (Some 6) ∷ (Some 3) ∷
    (Some 0) ∷ (Some 6) ∷ (Some 6) ∷ (Some 12) ∷ (Some 0) ∷ []) 0 ∷ []) summed_bytes20
    ∷ moment 0 26 (access 30786359132160 1 8 false false) 3 11 (frame 1 26 ((Some 30786359132168) ∷ (Some 0) ∷ (Some 0) ∷ None ∷ None ∷ None ∷ None ∷ None ∷ []) 0 ∷ [])
    summed_bytes20
    ∷ moment 0 27 (access 30786359132168 2 8 false false) 3 11 (frame 1 27 ((Some 30786359132168) ∷ (Some 0) ∷ (Some 0) ∷ (Some 1) ∷ None ∷ None ∷ None ∷ None ∷ []) 0 ∷ [])
    summed_bytes20
    ∷ moment 0 28 (event turns.Join 1 (1 ∷ 0 ∷ 0 ∷ 0 ∷ []) 0 None) 12 11
    (frame 1 28 ((Some 30786359132168) ∷ (Some 0) ∷ (Some 0) ∷ (Some 1) ∷ (Some 2) ∷ None ∷ None ∷ None ∷ []) 0 ∷ []) summed_bytes20
    ∷ moment 0 29 (event turns.Join 2 (2 ∷ 0 ∷ 0 ∷ 0 ∷ []) 0 None) 13 12
    (frame 1 29 ((Some 30786359132168) ∷ (Some 0) ∷ (Some 0) ∷ (Some 1) ∷ (Some 2) ∷ (Some 0) ∷ None ∷ None ∷ []) 0 ∷ []) summed_bytes20
    ∷ moment 0 30 (access 4398063288320 12 8 false false) 13 13
    (frame 1 30 ((Some 30786359132168) ∷ (Some 0) ∷ (Some 0) ∷ (Some 1) ∷ (Some 2) ∷ (Some 0) ∷ (Some 0) ∷ None ∷ []) 0 ∷ []) summed_bytes20
    ∷ moment 0 31 (event turns.Out 0 (12 ∷ 0 ∷ 0 ∷ 0 ∷ []) 0 None) 14 13
    (frame 1 31 ((Some 30786359132168) ∷ (Some 0) ∷ (Some 0) ∷ (Some 1) ∷ (Some 2) ∷ (Some 0) ∷ (Some 0) ∷ (Some 12) ∷ []) 0 ∷ []) summed_bytes20
    ∷ moment 0 32 (event turns.Exit 0 (0 ∷ 0 ∷ 0 ∷ 0 ∷ []) 0 None) 15 14
    (frame 1 32 ((Some 30786359132168) ∷ (Some 0) ∷ (Some 0) ∷ (Some 1) ∷ (Some 2) ∷ (Some 0) ∷ (Some 0) ∷ (Some 12) ∷ []) 0 ∷ []) summed_bytes20
    ∷ []

abbrev pub summed : Reference
summed = record { program = summed_program; regions = summed_regions; moments = summed_moments }
