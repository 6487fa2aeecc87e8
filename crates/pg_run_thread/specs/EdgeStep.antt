-- Taking an edge: all `phi`s of the block that is entered take their values together.
use Rattle.std.specs.Prelude.{ℕ, ◌&&◌, List, [], ◌∷◌, map, Bool, true, false, Option, Some, None, slice_set}
use Rattle.pg_ir.specs.declared.instr.Instr.{Instr}
use Rattle.pg_ir.specs.Program.{NumberedProgram}
use Rattle.pg_ir.specs.Edges.{incoming_of, phis_of}
pub use Rattle.pg_ir.specs.Edges.{incoming_from, case_of}
use Rattle.pg_run_thread.specs.Operands.{optional_operand}

abbrev pub phi_value : NumberedProgram → List (Option ℕ) → ℕ → Instr → Option ℕ
phi_value p rs from x = optional_operand p rs (incoming_from (incoming_of x.op) from)

abbrev pub phi_values : NumberedProgram → List (Option ℕ) → ℕ → List Instr → List (Option ℕ)
phi_values p rs from xs = map (phi_value p rs from) xs

abbrev pub is_set : Option ℕ → Bool
is_set None = false
is_set (Some n) = true

-- each phi has a value where this block is left
abbrev pub have_values : NumberedProgram → List (Option ℕ) → ℕ → List Instr → Bool
have_values p rs from [] = true
have_values p rs from (x ∷ xs) = is_set (phi_value p rs from x) && have_values p rs from xs

abbrev pub set_register : List (Option ℕ) → Option ℕ → Option ℕ → List (Option ℕ)
set_register rs None v = rs
set_register rs (Some r) v = slice_set rs r v

abbrev pub set_each : List (Option ℕ) → List Instr → List (Option ℕ) → List (Option ℕ)
set_each rs [] vs = rs
set_each rs (x ∷ xs) [] = rs
set_each rs (x ∷ xs) (v ∷ vs) = set_each (set_register rs x.result v) xs vs

-- the registers after the edge from one block to another
unfoldable pub over_edge : NumberedProgram → List (Option ℕ) → ℕ → ℕ → List (Option ℕ)
over_edge p rs from to = set_each rs (phis_of p to) (phi_values p rs from (phis_of p to))
