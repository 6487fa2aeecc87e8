-- Which operands are read of an instruction at a step.
use Rattle.std.specs.Prelude.{◌≡◌, ℕ}
use Rattle.pg_ir.specs.declared.instr.Op.{Op}
use Rattle.pg_ir.specs.declared.instr.Op.TheVariants as op
use Rattle.pg_run_trace.specs.declared.turn.TurnKind.{TurnKind}
use Rattle.pg_run_trace.specs.declared.turn.TurnKind.TheVariants as turns

-- a call of a function that the program doesn't define
abbrev pub IsLibraryCall : Op → Type 0
IsLibraryCall (op.CallLibrary k args) = Unit {0}
IsLibraryCall o = ⊥

abbrev pub IsExit : Op → Type 0
IsExit (op.Ret v) = Unit {0}
IsExit o = IsLibraryCall o

-- a print and a create are such calls, an exit is one or a return
abbrev pub HasOperands : TurnKind → Op → Type 0
HasOperands turns.Putchar o = IsLibraryCall o
HasOperands turns.Create o = IsLibraryCall o
HasOperands turns.Exit o = IsExit o
HasOperands kind o = Unit {0}

-- the operands that decisions and conditions ask for: a branch's, an address, what is stored, and those of calls of functions
-- that the program doesn't define
abbrev pub IsAsked : Op → ℕ → Type 0
IsAsked (op.CondBr c a b) k = Unit {0}
IsAsked (op.Switch w on other cases) k = k ≡ 0
IsAsked (op.Load w from) k = Unit {0}
IsAsked (op.Store w v at) k = Unit {0}
IsAsked (op.CallLibrary f args) k = Unit {0}
IsAsked o k = ⊥
