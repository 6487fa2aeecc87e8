-- The local states of a program's threads.
use Rattle.std.specs.Prelude.{◌≡◌, ℕ, ◌+◌, ◌<◌, ◌≤◌, List, [], ◌∷◌, false, Option, Some, None, slice_get}
use Rattle.pg_ir.specs.pg_num.Numbers.{modulus}
use Rattle.pg_ir.specs.pg_num.declared.layout.TheConstants.{THREAD_GRANULES}
use Rattle.pg_ir.specs.pg_num.declared.limits.TheConstants.{THREAD_LIMIT}
use Rattle.pg_ir.specs.declared.value.Scalar.{Scalar}
use Rattle.pg_ir.specs.declared.instr.Op.{Op}
use Rattle.pg_ir.specs.declared.instr.Op.TheVariants as op
use Rattle.pg_ir.specs.declared.instr.Instr.{Instr}
use Rattle.pg_ir.specs.Program.{NumberedProgram, types_of, function_of}
use Rattle.pg_ir.specs.Edges.{is_phi}
use Rattle.pg_ir.specs.WellFormed.{width_of, StartsAs}
use Rattle.pg_run_thread.specs.declared.action.Action.{Action}
use Rattle.pg_run_thread.specs.declared.action.Action.TheVariants as actions
use Rattle.pg_run_thread.specs.LocalState.{Frame, LocalState, top_height}

-- a register holds a value of its type
abbrev pub IsValueOf : Scalar → Option ℕ → Type 0
IsValueOf s None = Unit {0}
IsValueOf s (Some n) = n < modulus (width_of s)

abbrev pub AreValuesOf : List Scalar → List (Option ℕ) → Type 0
AreValuesOf [] [] = Unit {0}
AreValuesOf [] (v ∷ vs) = ⊥
AreValuesOf (s ∷ ss) [] = ⊥
AreValuesOf (s ∷ ss) (v ∷ vs) = IsValueOf s v × AreValuesOf ss vs

-- an instruction of the function that is no phi
abbrev pub StandsAt : NumberedProgram → ℕ → Option Instr → Type 0
StandsAt p f None = ⊥
StandsAt p f (Some x) = (function_of p x.block.0 ≡ f) × (is_phi x.op ≡ false)

pub record IsFrameOf (p : NumberedProgram) (f : Frame) : Type 0 where
  pub place : StandsAt p f.function (slice_get p.instrs f.place)
  pub registers : AreValuesOf (types_of p f.function) f.registers

abbrev pub CallsFunction : ℕ → Op → Type 0
CallsFunction g (op.Call f args) = f ≡ g
CallsFunction g _ = ⊥

abbrev pub Calls : ℕ → Option Instr → Type 0
Calls g None = ⊥
Calls g (Some x) = CallsFunction g x.op

-- each frame below waits for the call of the one above, and has no more of the stack
abbrev pub WaitFor : NumberedProgram → ℕ → ℕ → List Frame → Type 0
WaitFor p g height [] = Unit {0}
WaitFor p g height (f ∷ fs) = IsFrameOf p f × Calls g (slice_get p.instrs f.place) × (f.height ≤ height) × WaitFor p f.function f.height fs

abbrev pub AreFramesOf : NumberedProgram → List Frame → Type 0
AreFramesOf p [] = Unit {0}
AreFramesOf p (f ∷ fs) = IsFrameOf p f × WaitFor p f.function f.height fs

-- a thread that hasn't begun will begin with main, or with a function from a pointer to a pointer
abbrev pub Starts : NumberedProgram → List Frame → Type 0
Starts p [] = Unit {0}
Starts p (f ∷ fs) = StartsAs p f.function

-- stack and heap fit into the thread's memory
pub record IsStateOf (p : NumberedProgram) (l : LocalState) : Type 0 where
  pub thread : l.thread < THREAD_LIMIT
  pub frames : AreFramesOf p l.frames
  pub start : l.begun ≡ false → Starts p l.frames
  pub memory : top_height l.frames + l.heap ≤ THREAD_GRANULES

unfoldable pub IsOf : NumberedProgram → LocalState → Type 0
IsOf p l = IsStateOf p l

-- an action that a step can do
abbrev pub CanStep : Action → Type 0
CanStep (actions.Trap name) = ⊥
CanStep actions.Ended = ⊥
CanStep _ = Unit {0}
