-- A thread within an instance of a region, which began at a branch step: its calls on top of those below the branch's frame.
use Rattle.std.specs.Prelude.{◌≡◌, ℕ, zero, suc, ◌+◌, ◌<◌, ◌||◌, ◌⊎◌, List, [], ◌∷◌, Bool, true, false, Option, Some, None, Contains, slice_get}
use Rattle.std.specs.List.{list_any}
use Rattle.pg_num.specs.Places.{ByteRange}
use Rattle.pg_run_trace.specs.Races.{share}
use Rattle.pg_ir.specs.declared.instr.Instr.{Instr}
use Rattle.pg_ir.specs.declared.instr.Op.{Op}
use Rattle.pg_ir.specs.declared.instr.Op.TheVariants as op
use Rattle.pg_ir.specs.Program.{NumberedProgram, types_of, function_of, first_of, end_of}
use Rattle.pg_ir.specs.Edges.{instrs_of, successors, phis_of, body_of}
use Rattle.pg_ir.specs.WellFormed.{IsProgram}
use Rattle.pg_region_paths.specs.declared.path.Path.{Path}
use Rattle.pg_region_paths.specs.Registers.{is_register, register_path}
use Rattle.pg_region_accesses.specs.declared.rooted.Rooted.{Rooted}
use Rattle.pg_region_accesses.specs.Accesses.{RootedList, sets, set_accesses}
use Rattle.pg_region_summaries.specs.Blocks.{blocks_of}
use Rattle.pg_region_summaries.specs.Summaries.{AreSummaries}
use Rattle.pg_run_thread.specs.LocalState.{Frame, LocalState}
use Rattle.pg_run_thread.specs.Operands.{flat, given, operand}
use Rattle.pg_run_thread.specs.Compute.{chosen}
use Rattle.pg_run_thread.specs.EdgeStep.{case_of}
use Rattle.pg_run_thread.specs.Step.{top_registers, under_top}
use Rattle.pg_run_thread.specs.Told.{id_of}
use Rattle.pg_run_thread.specs.States.{Calls}
use Rattle.pg_slice_replay.specs.pg_slice_rules.Freeable.{FreeAccess}
use Rattle.pg_law_instances.specs.Leads.{IsLoaded, IsReached, Leads, HasPath}

-- ---- instances

-- the value of a register, if it was set
abbrev pub registers_by : List (Option ℕ) → ℕ → Option ℕ
registers_by rs r = flat (slice_get rs r)

-- an instance: the program with its gated accesses and its summaries; of the region the blocks, what they access, and the
-- join; where the accesses are recorded to lead; the memory and the thread's local state at the branch step, with the
-- branch's frame and the frames below
pub record Instance : Type 0 where
  pub program : NumberedProgram
  pub gated : ℕ → Bool
  pub sums : ℕ → Option RootedList
  pub blocks : List ℕ
  pub accesses : RootedList
  pub join : ℕ
  pub recorded : List FreeAccess
  pub memory : ByteRange → ℕ
  pub state : LocalState
  pub frame : Frame
  pub lower : List Frame

-- ---- within one call

-- a quiet set of blocks in which a call of the instance runs: whether it may return, its blocks, what they access, and the
-- registers with which the call began
pub record QuietSet : Type 0 where
  pub returns : Bool
  pub blocks : List ℕ
  pub accesses : RootedList
  pub registers : ℕ → Option ℕ

-- its blocks are quiet, their accesses lead to recorded bounds, and its edges stay in it or, in the branch's frame, lead to
-- the join
pub record IsQuietSet (I : Instance) (a : QuietSet) : Type 0 where
  pub quiet : set_accesses a.returns I.program I.gated I.sums a.blocks ≡ Some a.accesses
  pub leads : (x : Rooted) → Contains a.accesses x → Leads I.program a.registers I.memory I.recorded x
  pub edges : (b c : ℕ) → Contains a.blocks b → Contains (successors I.program b) c → Contains a.blocks c ⊎ ((a.returns ≡ false) × (c ≡ I.join))

-- the instructions of a list in front of the k-th, the nearest first, and behind them others
abbrev pub passed : List Instr → List Instr → ℕ → List Instr
passed before xs zero = before
passed before [] (suc k) = before
passed before (x ∷ xs) (suc k) = passed (x ∷ before) xs k

-- a frame stands in a block of the set, behind so many of its instructions: registers that the set doesn't set are as when the
-- call began, and a register with a path is what the path says
pub record StandsIn (I : Instance) (a : QuietSet) (f : Frame) : Type 0 where
  pub block : ℕ
  pub behind : ℕ
  pub among : Contains a.blocks block
  pub function : function_of I.program block ≡ f.function
  pub place : f.place ≡ first_of I.program block + behind
  pub within : f.place < end_of I.program block
  pub kept : (r : ℕ) → sets I.program a.blocks r ≡ false → registers_by f.registers r ≡ a.registers r
  pub paths : (r : ℕ) (q : Path) (w : ℕ) →
      register_path (sets I.program a.blocks) (types_of I.program (function_of I.program block)) (passed [] (instrs_of I.program block) behind) r ≡ Some q →
      registers_by f.registers r ≡ Some w →
      HasPath I.program a.registers I.memory I.recorded q w

-- ---- the calls

-- the set of the branch's frame: the region's blocks, and the registers at the branch step
abbrev pub region_set : Instance → QuietSet
region_set I = record { returns = false; blocks = I.blocks; accesses = I.accesses; registers = registers_by I.frame.registers }

-- the branch's frame stands in the region, on top of the lower frames
pub record IsBottom (I : Instance) (f : Frame) (fs : List Frame) : Type 0 where
  pub lower : fs ≡ I.lower
  pub function : f.function ≡ I.frame.function
  pub height : f.height ≡ I.frame.height
  pub stands : StandsIn I (region_set I) f

-- the frame below is at a call of this function
abbrev pub Waits : NumberedProgram → ℕ → List Frame → Type 0
Waits p g [] = ⊥
Waits p g (f ∷ fs) = Calls g (slice_get p.instrs f.place)

-- a frame of a quiet function, for which the one below waits
pub record IsAbove (I : Instance) (f : Frame) (fs : List Frame) : Type 0 where
  pub set : QuietSet
  pub returns : set.returns ≡ true
  pub blocks : set.blocks ≡ blocks_of I.program f.function
  pub quiet : IsQuietSet I set
  pub waits : Waits I.program f.function fs
  pub stands : StandsIn I set f

-- on the branch's frame stand frames of quiet functions
abbrev pub Stands : Instance → List Frame → Type 0
Stands I [] = ⊥
Stands I (f ∷ fs) = IsBottom I f fs ⊎ (IsAbove I f fs × Stands I fs)

-- ---- the thread

-- the thread is inside: nothing but its calls has changed
pub record IsInside (I : Instance) (l : LocalState) : Type 0 where
  pub thread : l.thread ≡ I.state.thread
  pub begun : l.begun ≡ true
  pub halfway : l.halfway ≡ false
  pub heap : l.heap ≡ I.state.heap
  pub stands : Stands I l.frames

-- a phi of a block sets this register
abbrev pub phis_set : NumberedProgram → ℕ → ℕ → Bool
phis_set p b r = list_any (λ (x : Instr). is_register x.result r) (phis_of p b)

-- registers that the region's instructions and phis and the join's phis set
abbrev pub may_set : Instance → ℕ → Bool
may_set I r = sets I.program I.blocks r || phis_set I.program I.join r

-- the branch's frame stands at the join, where only registers that may be set are others than at the branch step
pub record HasJoined (I : Instance) (f : Frame) : Type 0 where
  pub place : f.place ≡ body_of I.program I.join
  pub function : f.function ≡ I.frame.function
  pub height : f.height ≡ I.frame.height
  pub kept : (r : ℕ) → may_set I r ≡ false → registers_by f.registers r ≡ registers_by I.frame.registers r

-- the thread is at the join, in the branch's frame
pub record IsAtJoin (I : Instance) (l : LocalState) : Type 0 where
  pub thread : l.thread ≡ I.state.thread
  pub begun : l.begun ≡ true
  pub halfway : l.halfway ≡ false
  pub heap : l.heap ≡ I.state.heap
  pub frame : Frame
  pub frames : l.frames ≡ frame ∷ I.lower
  pub joined : HasJoined I frame

-- ---- edges

-- the block to which an operation goes on, where it takes an edge
abbrev pub edge_taken : NumberedProgram → List (Option ℕ) → Op → Option ℕ
edge_taken p rs (op.Br to) = Some to.0
edge_taken p rs (op.CondBr c a b) = Some (chosen (given (operand p rs c)) a.0 b.0)
edge_taken p rs (op.Switch w on other cases) = Some (case_of cases other.0 (given (operand p rs on)))
edge_taken p rs _ = None

-- the same of the instruction that stands there, if one does
abbrev pub edge_at : NumberedProgram → List (Option ℕ) → Option Instr → Option ℕ
edge_at p rs None = None
edge_at p rs (Some x) = edge_taken p rs x.op

-- the block to which a thread goes on by its next step, where this takes an edge
abbrev pub next_edge : NumberedProgram → LocalState → Option ℕ
next_edge p l = edge_at p (top_registers l.frames) (slice_get p.instrs (id_of l))

-- from l the thread takes the edge to the join, in the branch's frame, and is there
pub record Joins (I : Instance) (l z : LocalState) : Type 0 where
  pub lower : under_top l.frames ≡ I.lower
  pub edge : next_edge I.program l ≡ Some I.join
  pub there : IsAtJoin I z

-- ---- the branch step

-- a conditional branch or a switch
abbrev pub IsBranch : Op → Type 0
IsBranch (op.CondBr c a b) = Unit {0}
IsBranch (op.Switch w on other cases) = Unit {0}
IsBranch _ = ⊥

-- the bounds of no recorded store meet those from which a recorded path loads
abbrev pub AreApart : List FreeAccess → Type 0
AreApart xs = (stored loaded : ByteRange) → IsReached xs true stored → IsLoaded xs loaded → share stored loaded ≡ false

-- the thread stands at the branch, whose region is quiet with accesses that lead to recorded bounds
pub record IsAtBranch (I : Instance) : Type 0 where
  pub program : IsProgram I.program
  pub summaries : AreSummaries I.program I.gated I.sums
  pub begun : I.state.begun ≡ true
  pub frames : I.state.frames ≡ I.frame ∷ I.lower
  pub branch : Instr
  pub is : slice_get I.program.instrs I.frame.place ≡ Some branch
  pub kind : IsBranch branch.op
  pub function : function_of I.program branch.block.0 ≡ I.frame.function
  pub first : (c : ℕ) → Contains (successors I.program branch.block.0) c → Contains I.blocks c ⊎ (c ≡ I.join)
  pub region : IsQuietSet I (region_set I)
  pub apart : AreApart I.recorded
