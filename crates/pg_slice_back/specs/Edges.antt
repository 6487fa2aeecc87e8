-- What steps set that go on along an edge, and which steps set the register of their instruction.
use Rattle.std.specs.Prelude.{ℕ, List, Bool, true, false, Option, Some, None, nat_lt, if◌then◌else◌}
use Rattle.std.specs.List.{list_any}
use Rattle.pg_ir.specs.declared.instr.Instr.{Instr}
use Rattle.pg_ir.specs.declared.instr.Op.{Op}
use Rattle.pg_ir.specs.declared.instr.Op.TheVariants as op
use Rattle.pg_ir.specs.Edges.{phis_of}
use Rattle.pg_ir.specs.Program.{NumberedProgram}
use Rattle.pg_law_demands.specs.Back.{is_target}

-- the registers of phis
abbrev pub phis_set : List Instr → ℕ → Bool
phis_set xs r = list_any (λ (i : Instr). is_target i.result r) xs

-- the registers of the phis of the block that is entered
abbrev pub edge_sets : NumberedProgram → Option ℕ → ℕ → Bool
edge_sets p None r = false
edge_sets p (Some to) r = phis_set (phis_of p to) r

-- an operation that computes in its call
abbrev pub sets_result : Op → Bool
sets_result (op.Br to) = false
sets_result (op.CondBr c a b) = false
sets_result (op.Switch w on other cases) = false
sets_result (op.Call g args) = false
sets_result (op.Ret v) = false
sets_result o = true

-- the register, where it is among the first so many
abbrev pub held_by : Option ℕ → ℕ → Option ℕ
held_by None count = None
held_by (Some r) count = if nat_lt r count then Some r else None

-- an operation that goes on along an edge
abbrev pub takes_edge : Op → Bool
takes_edge (op.Br to) = true
takes_edge (op.CondBr c a b) = true
takes_edge (op.Switch w on other cases) = true
takes_edge o = false
