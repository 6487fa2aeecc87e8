-- What a live step does to the registers of its thread, by what is read of the run.
use Rattle.std.specs.Prelude.{◌≡◌, ◌&&◌, not, if◌then◌else◌, ℕ, List, length, Bool, true, Option, Some, None, IfSome, is_some}
use Rattle.pg_ir.specs.declared.library_call.LibraryCall.{LibraryCall}
use Rattle.pg_ir.specs.declared.library_call.LibraryCall.TheVariants as known
use Rattle.pg_ir.specs.declared.instr.Instr.{Instr}
use Rattle.pg_ir.specs.declared.instr.Op.{Op}
use Rattle.pg_ir.specs.declared.instr.Op.TheVariants as op
use Rattle.pg_ir.specs.Program.{NumberedProgram}
use Rattle.pg_run_thread.specs.Compute.{computes}
use Rattle.pg_slice_rules.specs.Moments.{Moment}
use Rattle.pg_slice_rules.specs.Freeable.{FreeRegion}
use Rattle.pg_slice_rules.specs.Extents.{edge_in}
use Rattle.pg_slice_rules.specs.SymbolicValues.{Symbolic, always, valued}
use Rattle.pg_slice_rules.specs.declared.decision.Decision.TheVariants.{Pinned}
use Rattle.pg_slice_rules.specs.Known.{along_edge, caller_target, forgotten_from, from_input, operand_at, operand_symbolics, set_symbolic}
use Rattle.pg_slice_registers.specs.declared.step.OpStep.{OpStep}
use Rattle.pg_slice_registers.specs.SymbolicRegisterNodes.{marked, result_by}

-- what is told of a step is what the run has: its edge, the register of its caller, and whether its branch is freeable, with
-- the registers that its region may set
pub record IsStepAt (p : NumberedProgram) (x : Instr) (s : OpStep) (sets : List Bool) (m : Moment) (region : Option FreeRegion) : Type 0 where
  pub edge : edge_in p m (Some x) ≡ s.edge
  pub target : caller_target p m.calls ≡ s.target
  pub freed : is_some region ≡ s.freed
  pub marks : IfSome region (λ r. (k : ℕ) → r.sets k ≡ marked sets k)

-- ---- instructions that at most set their register

-- what the call of a known function gives its register; a malloc gives the word that it gave in the run
abbrev pub known_symbolic : LibraryCall → ℕ → Symbolic → Option Symbolic
known_symbolic known.PgIn word s = Some (from_input s)
known_symbolic known.PgInLen word s = Some (valued (λ input. Some (length input)))
known_symbolic known.Malloc word s = Some (always word)
known_symbolic k word s = None

-- what an instruction gives its register
abbrev pub given_symbolic : NumberedProgram → ℕ → Op → List Symbolic → Option Symbolic
given_symbolic p word (op.Alloca bytes) rs = Some (always word)
given_symbolic p word (op.CallLibrary k args) rs = known_symbolic k word (operand_at p rs (op.CallLibrary k args) 0)
given_symbolic p word o rs = Some (result_by o (operand_symbolics p rs o))

abbrev pub set_given : Option ℕ → Option Symbolic → List Symbolic → List Symbolic
set_given target None rs = rs
set_given target (Some s) rs = set_symbolic target s rs

abbrev pub is_straight : Op → Bool
is_straight (op.Alloca bytes) = true
is_straight (op.CallLibrary k args) = true
is_straight o = computes o

-- ---- instructions whose step is neither an access nor an event

abbrev pub is_plain : Op → Bool
is_plain (op.Br to) = true
is_plain (op.CondBr c a b) = true
is_plain (op.Switch w on other cases) = true
is_plain (op.Call g args) = true
is_plain (op.Ret v) = true
is_plain o = is_straight o

-- the registers after a branch: an instance, where the branch is freeable and isn't pinned; else the edge
abbrev pub branched : NumberedProgram → OpStep → List Bool → ℕ → List Symbolic → List Symbolic
branched p s sets from rs = if s.freed && not s.pinned then forgotten_from 0 (marked sets) (Pinned s.number) rs else along_edge p from s.edge rs
