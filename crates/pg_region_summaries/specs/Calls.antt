-- Which functions call which, and which begin threads.
use Rattle.std.specs.Prelude.{◌≡◌, ◌≢◌, ℕ, ◌⊎◌, Some, slice_get}
use Rattle.pg_ir.specs.declared.library_call.LibraryCall.TheVariants.{PthreadCreate}
use Rattle.pg_ir.specs.declared.value.Value.TheVariants as value
use Rattle.pg_ir.specs.declared.instr.Instr.{Instr}
use Rattle.pg_ir.specs.declared.instr.Op.{Op}
use Rattle.pg_ir.specs.declared.instr.Op.TheVariants as op
use Rattle.pg_ir.specs.Program.{NumberedProgram, function_of}

abbrev pub IsCallOf : ℕ → Op → Type 0
IsCallOf g (op.Call f args) = f ≡ g
IsCallOf g _ = ⊥

-- an instruction of function f calls function g
pub record Calls (p : NumberedProgram) (f g : ℕ) : Type 0 where
  pub at : ℕ
  pub instr : Instr
  pub is : slice_get p.instrs at ≡ Some instr
  pub within : function_of p instr.block.0 ≡ f
  pub call : IsCallOf g instr.op

-- the functions that the calls of f reach
pub data CallsReach (p : NumberedProgram) (f : ℕ) : ℕ → Type 0 where
  direct : {g : ℕ} → Calls p f g → CallsReach p f g
  further : {g h : ℕ} → CallsReach p f g → Calls p g h → CallsReach p f h

abbrev pub NamesStarted : ℕ → Op → Type 0
NamesStarted f (op.CallLibrary PthreadCreate args) = slice_get args 2 ≡ Some (value.Function f)
NamesStarted f _ = ⊥

-- a create names the function
pub record IsStarted (p : NumberedProgram) (f : ℕ) : Type 0 where
  pub at : ℕ
  pub instr : Instr
  pub is : slice_get p.instrs at ≡ Some instr
  pub names : NamesStarted f instr.op

-- it is neither main nor named by a create, and no function that its calls reach, itself included, reaches itself by calls
pub record CanBeQuiet (p : NumberedProgram) (f : ℕ) : Type 0 where
  pub not_main : f ≢ p.main
  pub not_started : IsStarted p f → ⊥
  pub ends : (g : ℕ) → (g ≡ f) ⊎ CallsReach p f g → CallsReach p g g → ⊥
