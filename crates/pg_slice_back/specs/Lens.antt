-- How many registers the calls of a thread have, the present one first.
use Rattle.std.specs.Prelude.{ℕ, ◌+◌, ◌-◌, List, [], ◌∷◌, length, map, slice_index, Option, Some, None}
use Rattle.pg_ir.specs.declared.instr.Op.{Op}
use Rattle.pg_ir.specs.declared.instr.Op.TheVariants as op
use Rattle.pg_ir.specs.Program.{NumberedProgram, types_of}
use Rattle.pg_run_trace.specs.declared.turn.TurnKind.{TurnKind}
use Rattle.pg_run_trace.specs.declared.turn.TurnKind.TheVariants as turns
use Rattle.pg_run_trace.specs.declared.step.Event.{Event}
use Rattle.pg_run_trace.specs.declared.step.StepKind.{StepKind}
use Rattle.pg_run_trace.specs.declared.step.StepKind.TheVariants as kinds
use Rattle.pg_slice_rules.specs.SymbolicValues.{Symbolic}

abbrev pub lens_of : List (List Symbolic) → List ℕ
lens_of cs = map (λ (rs : List Symbolic). length rs) cs

abbrev pub rest_of : List ℕ → List ℕ
rest_of [] = []
rest_of (l ∷ ls) = ls

abbrev pub first_of : List ℕ → ℕ
first_of [] = 0
first_of (l ∷ ls) = l

-- after a live step: a call has as many as its function, or its arguments where there are more
abbrev pub lens_by_op : NumberedProgram → Op → List ℕ → List ℕ
lens_by_op p (op.Call g args) ls = (length args + (length (types_of p g) - length args)) ∷ ls
lens_by_op p (op.Ret v) ls = rest_of ls
lens_by_op p o ls = ls

abbrev pub lens_by_event : TurnKind → List ℕ → List ℕ
lens_by_event turns.Exit ls = []
lens_by_event kind ls = ls

abbrev pub lens_by_kind : NumberedProgram → Op → StepKind → List ℕ → List ℕ
lens_by_kind p o (kinds.Access a) ls = ls
lens_by_kind p o (kinds.Event e) ls = lens_by_event e.kind ls
lens_by_kind p o kind ls = lens_by_op p o ls

-- of the thread that there may be
abbrev pub lens_some : Option ℕ → List (List ℕ)
lens_some None = []
lens_some (Some l) = (l ∷ []) ∷ []

-- of the threads that a step makes
abbrev pub lens_made_by : NumberedProgram → Event → TurnKind → List (List ℕ)
lens_made_by p e turns.Create = (length (types_of p (slice_index e.operands 2)) ∷ []) ∷ []
lens_made_by p e kind = []

abbrev pub lens_made : NumberedProgram → StepKind → List (List ℕ)
lens_made p (kinds.Event e) = lens_made_by p e e.kind
lens_made p kind = []
