-- The operands of an instruction, and their values in a frame.
use Rattle.std.specs.Prelude.{ℕ, List, [], ◌∷◌, map, Option, Some, None, slice_get}
use Rattle.pg_ir.specs.declared.value.Value.{Value}
use Rattle.pg_ir.specs.declared.value.Value.TheVariants as value
use Rattle.pg_ir.specs.declared.value.Index.{Index}
use Rattle.pg_ir.specs.declared.edge.Case.{Case}
use Rattle.pg_ir.specs.declared.edge.Incoming.{Incoming}
use Rattle.pg_ir.specs.declared.instr.Op.{Op}
use Rattle.pg_ir.specs.declared.instr.Op.TheVariants as op
pub use Rattle.pg_ir.specs.Program.{pointer_to}
use Rattle.pg_ir.specs.Program.{NumberedProgram}

-- ---- values

abbrev pub flat : Option (Option ℕ) → Option ℕ
flat None = None
flat (Some v) = v

-- the value of an operand; a register that was never set has none
abbrev pub operand : NumberedProgram → List (Option ℕ) → Value → Option ℕ
operand p registers (value.Register r) = flat (slice_get registers r)
operand p registers (value.Const n) = Some n
operand p registers (value.Global g) = pointer_to (slice_get p.globals g)
operand p registers (value.Function f) = Some f

abbrev pub optional_operand : NumberedProgram → List (Option ℕ) → Option Value → Option ℕ
optional_operand p registers None = None
optional_operand p registers (Some v) = operand p registers v

-- the value of the operand with this index
abbrev pub argument : NumberedProgram → List (Option ℕ) → List Value → ℕ → Option ℕ
argument p registers vs i = optional_operand p registers (slice_get vs i)

abbrev pub given : Option ℕ → ℕ
given None = 0
given (Some n) = n

-- the value of the operand with this index, 0 where it is missing or was never set
abbrev pub number_at : NumberedProgram → List (Option ℕ) → List Value → ℕ → ℕ
number_at p registers vs i = given (argument p registers vs i)

-- ---- the operands of an instruction

abbrev pub values_of : Option Value → List Value
values_of None = []
values_of (Some v) = v ∷ []

-- the outermost values of an instruction's line, in text order
abbrev pub operands_of : Op → List Value
operands_of (op.Add w a b) = a ∷ b ∷ []
operands_of (op.Sub w a b) = a ∷ b ∷ []
operands_of (op.Mul w a b) = a ∷ b ∷ []
operands_of (op.Divide d w a b) = a ∷ b ∷ []
operands_of (op.Shift s w a b) = a ∷ b ∷ []
operands_of (op.Bits o w a b) = a ∷ b ∷ []
operands_of (op.Compare c w a b) = a ∷ b ∷ []
operands_of (op.Trunc from to v) = v ∷ []
operands_of (op.Zext from to v) = v ∷ []
operands_of (op.Sext from to v) = v ∷ []
operands_of (op.PtrToInt from to v) = v ∷ []
operands_of (op.IntToPtr from to v) = v ∷ []
operands_of (op.Select c a b) = c ∷ a ∷ b ∷ []
operands_of (op.Phi from) = map (λ (i : Incoming). i.value) from
operands_of (op.Br to) = []
operands_of (op.CondBr c a b) = c ∷ []
operands_of (op.Switch w on other cases) = on ∷ map (λ (c : Case). value.Const c.value) cases
operands_of (op.Call f args) = args
operands_of (op.Ret v) = values_of v
operands_of op.Unreachable = []
operands_of (op.Alloca bytes) = []
operands_of (op.Load w from) = from ∷ []
operands_of (op.Store w v at) = v ∷ at ∷ []
operands_of (op.Gep base indices) = base ∷ map (λ (i : Index). i.value) indices
operands_of (op.CallLibrary k args) = args

-- the values of the first four operands
abbrev pub first_four : NumberedProgram → List (Option ℕ) → List Value → List ℕ
first_four p rs vs = number_at p rs vs 0 ∷ number_at p rs vs 1 ∷ number_at p rs vs 2 ∷ number_at p rs vs 3 ∷ []
