-- Edges between basic blocks, and the `phi`s with which a block begins (LLVM Language Reference).
use Rattle.std.specs.Prelude.{ℕ, ◌+◌, ◌-◌, ◌==◌, List, [], ◌∷◌, length, map, take_while, slice_range, slice_get, Bool, true, false, Option, Some, None, if◌then◌else◌}
use Rattle.pg_ir.specs.declared.edge.Case.{Case}
use Rattle.pg_ir.specs.declared.edge.Incoming.{Incoming}
use Rattle.pg_ir.specs.declared.instr.Op.{Op}
use Rattle.pg_ir.specs.declared.instr.Op.TheVariants.{Phi, Br, CondBr, Switch, Ret, Unreachable}
use Rattle.pg_ir.specs.declared.instr.Instr.{Instr}
use Rattle.pg_ir.specs.declared.value.Value.{Value}
use Rattle.pg_ir.specs.Program.{NumberedProgram, first_of, end_of}

-- these end a basic block
abbrev pub is_terminator : Op → Bool
is_terminator (Br b) = true
is_terminator (CondBr c y n) = true
is_terminator (Switch w on other cases) = true
is_terminator (Ret v) = true
is_terminator Unreachable = true
is_terminator _ = false

-- the blocks to which an operation may go on
abbrev pub targets_of : Op → List ℕ
targets_of (Br b) = b.0 ∷ []
targets_of (CondBr c y n) = y.0 ∷ n.0 ∷ []
targets_of (Switch w on other cases) = other.0 ∷ map (λ (c : Case). c.to.0) cases
targets_of _ = []

abbrev pub targets_in : Option Instr → List ℕ
targets_in None = []
targets_in (Some x) = targets_of x.op

-- the blocks to which a block may go on: those of its last instruction
unfoldable pub successors : NumberedProgram → ℕ → List ℕ
successors p b = targets_in (slice_get p.instrs (end_of p b - 1))

-- ---- the phis of a block

abbrev pub is_phi : Op → Bool
is_phi (Phi from) = true
is_phi _ = false

-- the values that a phi may take
abbrev pub incoming_of : Op → List Incoming
incoming_of (Phi from) = from
incoming_of _ = []

-- the blocks that a phi lists
abbrev pub sources_of : Op → List ℕ
sources_of op = map (λ (i : Incoming). i.block.0) (incoming_of op)

unfoldable pub instrs_of : NumberedProgram → ℕ → List Instr
instrs_of p b = slice_range p.instrs (first_of p b) (end_of p b)

-- the phis of a block stand before its other instructions
unfoldable pub phis_of : NumberedProgram → ℕ → List Instr
phis_of p b = take_while (λ (x : Instr). is_phi x.op) (instrs_of p b)

-- the first instruction of a block that is no phi
unfoldable pub body_of : NumberedProgram → ℕ → ℕ
body_of p b = first_of p b + length (phis_of p b)

-- ---- what an edge gives

-- the value that is listed first for the block that is left
abbrev pub incoming_from : List Incoming → ℕ → Option Value
incoming_from [] from = None
incoming_from (i ∷ is) from = if i.block.0 == from then Some i.value else incoming_from is from

-- the values that the phis of a block take, where block `from` is left
unfoldable pub values_along : NumberedProgram → ℕ → ℕ → List (Option Value)
values_along p from to = map (λ (x : Instr). incoming_from (incoming_of x.op) from) (phis_of p to)

-- the case of a switch that is first equal to the operand, else the default
abbrev pub case_of : List Case → ℕ → ℕ → ℕ
case_of [] other n = other
case_of (c ∷ cs) other n = if c.value == n then c.to.0 else case_of cs other n
