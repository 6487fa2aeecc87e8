-- A store through a pointer that is moved by a quotient of the input, on the input 8: 8 divided by it is 1.
use Rattle.std.specs.Prelude.{ℕ, List, [], ◌∷◌, true, false, Some, None}
use Rattle.pg_precondition.specs.pg_num.declared.width.Width.TheVariants.{W32, W64}
use Rattle.pg_precondition.specs.pg_num.declared.operations.Division.TheVariants.{Sdiv}
use Rattle.pg_region_paths.specs.pg_ir.declared.library_call.LibraryCall.TheVariants as known
use Rattle.pg_region_paths.specs.pg_ir.declared.value.Scalar.TheVariants.{Int, Ptr}
use Rattle.pg_region_paths.specs.pg_ir.declared.value.Scale.TheVariants.{Times}
use Rattle.pg_region_paths.specs.pg_ir.declared.value.Value.TheVariants as value
use Rattle.pg_region_paths.specs.pg_ir.declared.instr.Op.TheVariants as op
use Rattle.pg_region_paths.specs.pg_ir.Program.{NumberedProgram}
use Rattle.pg_run.specs.pg_run_memory.Bytes.{with_bytes}
use Rattle.pg_run.specs.pg_run_memory.Initial.{initial_byte}
use Rattle.pg_run.specs.pg_run_trace.declared.turn.TurnKind.TheVariants as turns
use Rattle.pg_run.specs.pg_run_trace.declared.step.StepKind.TheVariants as kinds
use Rattle.pg_slice_rules.specs.Moments.{Moment}
use Rattle.pg_slice_rules.specs.ExampleMoments.{frame, event, writing, access, moment}
use Rattle.pg_slice_rules.specs.Freeable.{Regions}
use Rattle.pg_slice_rules.specs.Known.{Reference}

abbrev pub offset_program : NumberedProgram
offset_program = record {
  functions = (record { params = 0; registers = ((Int W64) ∷ (Int W64) ∷ Ptr ∷ []); first_block = (record { 0 = 0 }); blocks = 1; result = (Some (Int W32)) }) ∷ [];
  blocks = (record { function = 0; first = (record { 0 = 0 }); count = 5 }) ∷ [];
  instrs =
      (record { op = op.CallLibrary known.PgIn ((value.Const 0) ∷ []); block = (record { 0 = 0 }); result = (Some 0) })
      ∷ (record { op = op.Divide Sdiv W64 (value.Const 8) (value.Register 0); block = (record { 0 = 0 }); result = (Some 1) })
      ∷ (record { op = op.Gep (value.Global 0) ((record { value = value.Register 1; width = W64; scale = Times 8 }) ∷ []); block = (record { 0 = 0 }); result = (Some 2) })
      ∷ (record { op = op.Store W64 (value.Const 1) (value.Register 2); block = (record { 0 = 0 }); result = None })
      ∷ (record { op = op.Ret (Some (value.Const 0)); block = (record { 0 = 0 }); result = None })
      ∷ [];
  globals = (record { start = 1; size = 32; bytes = ([]) }) ∷ [];
  main = 0;
}

abbrev pub offset_regions : Regions
offset_regions b = None

abbrev pub offset_bytes0 : ℕ → ℕ
offset_bytes0 = initial_byte offset_program.globals

abbrev pub offset_bytes1 : ℕ → ℕ
offset_bytes1 = with_bytes offset_bytes0 (record { start = 16; bytes = 8 }) 1

abbrev pub offset_moments : List Moment
offset_moments =
    moment 0 0 (event turns.Start 0 (0 ∷ 0 ∷ 0 ∷ 0 ∷ []) 0 None) 1 0 (frame 0 0 (None ∷ None ∷ None ∷ []) 0 ∷ []) offset_bytes0
    ∷ moment 0 0 kinds.Other 1 1 (frame 0 0 (None ∷ None ∷ None ∷ []) 0 ∷ []) offset_bytes0
    ∷ moment 0 1 kinds.Other 1 1 (frame 0 1 ((Some 8) ∷ None ∷ None ∷ []) 0 ∷ []) offset_bytes0
    ∷ moment 0 2 kinds.Other 1 1 (frame 0 2 ((Some 8) ∷ (Some 1) ∷ None ∷ []) 0 ∷ []) offset_bytes0
    ∷ moment 0 3 (access 4398113619976 1 8 true false) 1 1 (frame 0 3 ((Some 8) ∷ (Some 1) ∷ (Some 4398113619976) ∷ []) 0 ∷ []) offset_bytes0
    ∷ moment 0 4 (event turns.Exit 0 (0 ∷ 0 ∷ 0 ∷ 0 ∷ []) 0 None) 2 1 (frame 0 4 ((Some 8) ∷ (Some 1) ∷ (Some 4398113619976) ∷ []) 0 ∷ []) offset_bytes1
    ∷ []

abbrev pub offset : Reference
offset = record { program = offset_program; regions = offset_regions; moments = offset_moments }
