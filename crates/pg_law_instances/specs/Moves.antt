-- How the calls of a thread change by one step.
use Rattle.std.specs.Prelude.{◌≡◌, ℕ, ◌+◌, ◌⊎◌, List, [], ◌∷◌, length, Contains, true, false, Some}
use Rattle.pg_num.specs.Places.{ByteRange}
use Rattle.pg_num.specs.Pointers.{byte_place}
use Rattle.pg_ir.specs.declared.instr.Instr.{Instr}
use Rattle.pg_ir.specs.declared.instr.Op.{Op}
use Rattle.pg_ir.specs.declared.instr.Op.TheVariants as op
use Rattle.pg_ir.specs.declared.request.Request.{Request}
use Rattle.pg_ir.specs.declared.request.Request.TheVariants as requests
use Rattle.pg_ir.specs.Program.{NumberedProgram, entry_of}
use Rattle.pg_ir.specs.Edges.{is_terminator, targets_of}
use Rattle.pg_run_thread.specs.LocalState.{Frame}
use Rattle.pg_run_thread.specs.States.{CallsFunction}
use Rattle.pg_run_thread.specs.Step.{moved, returned}
use Rattle.pg_slice_replay.specs.pg_slice_rules.Freeable.{bounds_of}
use Rattle.pg_law_instances.specs.Leads.{IsWithin}
use Rattle.pg_law_instances.specs.Inside.{edge_taken}

-- a return
abbrev pub IsReturn : Op → Type 0
IsReturn (op.Ret v) = Unit {0}
IsReturn _ = ⊥

-- a load
abbrev pub IsLoad : Op → Type 0
IsLoad (op.Load w from) = Unit {0}
IsLoad _ = ⊥

-- a store
abbrev pub IsStore : Op → Type 0
IsStore (op.Store w v at) = Unit {0}
IsStore _ = ⊥

-- the top frame takes an edge
pub record GoesAlong (p : NumberedProgram) (f : Frame) (below : List Frame) (block : ℕ) (o : Op) (fs : List Frame) : Type 0 where
  pub to : ℕ
  pub ends : is_terminator o ≡ true
  pub among : Contains (targets_of o) to
  pub edge : edge_taken p f.registers o ≡ Some to
  pub is : fs ≡ moved p f block to ∷ below

-- it calls a function, and waits
pub record GoesInto (p : NumberedProgram) (f : Frame) (below : List Frame) (o : Op) (fs : List Frame) : Type 0 where
  pub function : ℕ
  pub call : CallsFunction function o
  pub frame : Frame
  pub named : frame.function ≡ function
  pub place : frame.place ≡ entry_of p function
  pub is : fs ≡ frame ∷ f ∷ below

-- it returns to the frame below
pub record GoesBack (p : NumberedProgram) (below : List Frame) (o : Op) (fs : List Frame) : Type 0 where
  pub back : IsReturn o
  pub number : ℕ
  pub is : fs ≡ returned p below number

-- it goes on behind its instruction
pub record GoesPast (f : Frame) (below : List Frame) (o : Op) (fs : List Frame) : Type 0 where
  pub plain : is_terminator o ≡ false
  pub no_call : (g : ℕ) → CallsFunction g o → ⊥
  pub frame : Frame
  pub function : frame.function ≡ f.function
  pub place : frame.place ≡ f.place + 1
  pub is : fs ≡ frame ∷ below

-- how the calls change by a step that asks nothing of other threads
abbrev pub Moves : NumberedProgram → Frame → List Frame → Instr → Op → List Frame → Type 0
Moves p f below x o fs = GoesAlong p f below x.block.0 o fs ⊎ (GoesInto p f below o fs ⊎ (GoesBack p below o fs ⊎ GoesPast f below o fs))

-- a request leaves as many calls as there are, but for an exit, which leaves none
abbrev pub RequestMoves : List Frame → Request → List Frame → Type 0
RequestMoves before (requests.Exit n is_return) fs = fs ≡ []
RequestMoves before r fs = length fs ≡ length before

-- the bytes of an access by this pointer, which lie in its bounds
pub record IsPlacedAt (word : ℕ) (r : ByteRange) : Type 0 where
  pub start : r.start ≡ byte_place word
  pub within : IsWithin r (bounds_of word)
