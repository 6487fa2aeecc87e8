-- A reference run with steps in an extent: the second free region of the example with a root stores through its pointer.
use Rattle.std.specs.Prelude.{ℕ, List, [], ◌∷◌, true, false, Option, Some, None}
use Rattle.pg_slice_rules.specs.pg_run_memory.Bytes.{with_bytes}
use Rattle.pg_run_trace.specs.declared.turn.TurnKind.TheVariants as turns
use Rattle.pg_run_trace.specs.declared.step.StepKind.{StepKind}
use Rattle.pg_run_trace.specs.declared.step.StepKind.TheVariants as kinds
use Rattle.pg_slice_rules.specs.Known.{Reference}
use Rattle.pg_slice_rules.specs.Moments.{Moment}
use Rattle.pg_slice_rules.specs.Rooted.{rooted_bytes0, rooted_program, rooted_regions}

-- a step of the only thread, in its only call, by its instruction, its kind, the call's registers and the bytes before it
abbrev pub step_of : ℕ → StepKind → List (Option ℕ) → (ℕ → ℕ) → ℕ → Moment
step_of i kind registers bytes low = record {
  did = record { did = record { thread = record { 0 = 0 }; instr = record { 0 = i }; kind = kind }; low = low; high = 1 };
  calls = (record { function = 0; place = i; registers = registers; height = 0 }) ∷ [];
  bytes = bytes;
}

abbrev pub kept_bytes1 : ℕ → ℕ
kept_bytes1 = with_bytes rooted_bytes0 (record { start = 8; bytes = 8 }) 1

-- on the input 0 and 7
abbrev pub kept : Reference
kept = record {
  program = rooted_program;
  regions = rooted_regions;
  moments =
      step_of 0 (kinds.Event (record { kind = turns.Start; object = 0; operands = (0 ∷ 0 ∷ 0 ∷ 0 ∷ []); reply = 0; write = None }))
      (None ∷ None ∷ None ∷ None ∷ None ∷ []) rooted_bytes0 1
      ∷ step_of 0 kinds.Other (None ∷ None ∷ None ∷ None ∷ None ∷ []) rooted_bytes0 1
      ∷ step_of 1 kinds.Other ((Some 0) ∷ None ∷ None ∷ None ∷ None ∷ []) rooted_bytes0 1
      ∷ step_of 2 (kinds.Branch 0) ((Some 0) ∷ (Some 0) ∷ None ∷ None ∷ None ∷ []) rooted_bytes0 1
      ∷ step_of 5 kinds.Other ((Some 0) ∷ (Some 0) ∷ (Some 4398063288320) ∷ None ∷ None ∷ []) rooted_bytes0 1
      ∷ step_of 6 kinds.Other ((Some 0) ∷ (Some 0) ∷ (Some 4398063288320) ∷ (Some 7) ∷ None ∷ []) rooted_bytes0 1
      ∷ step_of 7 (kinds.Branch 1) ((Some 0) ∷ (Some 0) ∷ (Some 4398063288320) ∷ (Some 7) ∷ (Some 1) ∷ []) rooted_bytes0 1
      ∷ step_of 8 (kinds.Access (record { pointer = 4398063288320; number = 1; bytes = 8; writes = true; event = false }))
      ((Some 0) ∷ (Some 0) ∷ (Some 4398063288320) ∷ (Some 7) ∷ (Some 1) ∷ []) rooted_bytes0 1
      ∷ step_of 9 kinds.Other ((Some 0) ∷ (Some 0) ∷ (Some 4398063288320) ∷ (Some 7) ∷ (Some 1) ∷ []) kept_bytes1 1
      ∷ step_of 10 (kinds.Event (record { kind = turns.Exit; object = 0; operands = (0 ∷ 0 ∷ 0 ∷ 0 ∷ []); reply = 0; write = None }))
      ((Some 0) ∷ (Some 0) ∷ (Some 4398063288320) ∷ (Some 7) ∷ (Some 1) ∷ []) kept_bytes1 2
      ∷ [];
}
