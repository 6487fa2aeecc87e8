-- One step back: where a demand is met after a live step, what is met before it, and which decisions are taken.
use Rattle.std.specs.Prelude.{ℕ, zero, suc, ◌+◌, ◌==◌, ◌&&◌, not, nat_lt, List, [], ◌∷◌, length, Bool, true, false, Option, Some, None, if◌then◌else◌, slice_get}
use Rattle.pg_ir.specs.declared.library_call.LibraryCall.{LibraryCall}
use Rattle.pg_ir.specs.declared.library_call.LibraryCall.TheVariants as known
use Rattle.pg_ir.specs.declared.value.Value.{Value}
use Rattle.pg_ir.specs.declared.value.Value.TheVariants as value
use Rattle.pg_ir.specs.declared.instr.Instr.{Instr}
use Rattle.pg_ir.specs.declared.instr.Op.{Op}
use Rattle.pg_ir.specs.declared.instr.Op.TheVariants as op
use Rattle.pg_ir.specs.Program.{NumberedProgram, parameter_count}
use Rattle.pg_ir.specs.Edges.{incoming_from, incoming_of, phis_of}
use Rattle.pg_run_thread.specs.Operands.{operands_of}
use Rattle.pg_run_trace.specs.declared.turn.TurnKind.{TurnKind}
use Rattle.pg_run_trace.specs.declared.turn.TurnKind.TheVariants as turns
use Rattle.pg_run_trace.specs.declared.step.StepKind.{StepKind}
use Rattle.pg_run_trace.specs.declared.step.StepKind.TheVariants as kinds
use Rattle.pg_run_trace.specs.declared.step.Access.{Access}
use Rattle.pg_run_trace.specs.declared.step.Event.{Event}
use Rattle.pg_run_trace.specs.declared.step.Write.{Write}
use Rattle.pg_run_trace.specs.Steps.{range_of, write_by}
use Rattle.pg_law_least.specs.pg_slice_rules.declared.decision.Decision.{Decision}
use Rattle.pg_law_least.specs.pg_slice_rules.declared.decision.Decision.TheVariants.{Pinned, Exact}
use Rattle.pg_law_least.specs.pg_slice_rules.Moments.{Moment, thread_in}
use Rattle.pg_law_least.specs.pg_slice_rules.Freeable.{FreeRegion, bounds_of}
use Rattle.pg_law_least.specs.pg_slice_rules.SymbolicValues.{is_within}
use Rattle.pg_law_least.specs.pg_slice_rules.Extents.{edge_in}
use Rattle.pg_law_least.specs.pg_slice_rules.Known.{Seen, caller_target, function_in, thread_of, top_of, under_top}
use Rattle.pg_law_least.specs.pg_slice_rules.Rules.{all_of, kind_in, registers_before}
use Rattle.pg_law_least.specs.Keeps.{depth_of, may_write}
use Rattle.pg_law_demands.specs.Cells.{Cell, Demand, Register, Byte, Word}

-- what is asked: demands before a step, and decisions
pub record Asked : Type 0 where
  pub demands : List Demand
  pub decisions : List Decision

abbrev pub only : List Demand → Asked
only qs = record { demands = qs; decisions = [] }

abbrev pub fixing : Decision → List Demand → Asked
fixing x qs = record { demands = qs; decisions = x ∷ [] }

-- ---- operands of an instruction of the thread's call

-- a constant asks for nothing
abbrev pub of_value : ℕ → ℕ → Bool → Value → List Demand
of_value t k whole (value.Register r) = record { cell = Register t k r; whole = whole } ∷ []
of_value t k whole v = []

abbrev pub of_optional : ℕ → ℕ → Bool → Option Value → List Demand
of_optional t k whole None = []
of_optional t k whole (Some v) = of_value t k whole v

abbrev pub of_values : ℕ → ℕ → List Value → List Demand
of_values t k vs = all_of (of_value t k true) vs

abbrev pub of_operand : ℕ → ℕ → Bool → Op → ℕ → List Demand
of_operand t k whole o j = of_optional t k whole (slice_get (operands_of o) j)

abbrev pub of_bytes : ℕ → ℕ → List Demand
of_bytes at zero = []
of_bytes at (suc n) = record { cell = Byte at; whole = true } ∷ of_bytes (at + 1) n

-- ---- a register of the call that does the step

abbrev pub is_target : Option ℕ → ℕ → Bool
is_target None r = false
is_target (Some k) r = k == r

abbrev pub register_demand : ℕ → ℕ → ℕ → Bool → Demand
register_demand t k r whole = record { cell = Register t k r; whole = whole }

-- where the step sets the register; else it is known before
abbrev pub if_set : Bool → Demand → Asked → Asked
if_set true q a = a
if_set false q a = only (q ∷ [])

-- the last of the phis that sets the register
abbrev pub this_phi : Bool → Instr → Option Instr → Option Instr
this_phi b x (Some z) = Some z
this_phi true x None = Some x
this_phi false x None = None

abbrev pub last_phi : List Instr → ℕ → Option Instr
last_phi [] r = None
last_phi (x ∷ xs) r = this_phi (is_target x.result r) x (last_phi xs r)

abbrev pub back_phi : ℕ → ℕ → ℕ → Option Instr → ℕ → Bool → List Demand
back_phi t k from None r whole = register_demand t k r whole ∷ []
back_phi t k from (Some x) r whole = of_optional t k whole (incoming_from (incoming_of x.op) from)

abbrev pub back_edge : NumberedProgram → ℕ → ℕ → ℕ → Option ℕ → ℕ → Bool → List Demand
back_edge p t k from None r whole = register_demand t k r whole ∷ []
back_edge p t k from (Some to) r whole = back_phi t k from (last_phi (phis_of p to) r) r whole

-- a region that may set the register is pinned
abbrev pub back_branch : NumberedProgram → ℕ → ℕ → ℕ → Instr → Option ℕ → Option FreeRegion → ℕ → Bool → Asked
back_branch p t k n x edge None r whole = only (back_edge p t k x.block.0 edge r whole)
back_branch p t k n x edge (Some q) r whole = if q.sets r then fixing (Pinned n) (back_edge p t k x.block.0 edge r whole) else only (register_demand t k r whole ∷ [])

abbrev pub back_known : ℕ → ℕ → LibraryCall → Instr → ℕ → Bool → Asked
back_known t k known.PgIn x r whole = if_set (is_target x.result r) (register_demand t k r whole) (only (of_operand t k true x.op 0))
back_known t k known.PgInLen x r whole = if_set (is_target x.result r) (register_demand t k r whole) (only [])
back_known t k known.Malloc x r whole = if_set (is_target x.result r) (register_demand t k r whole) (only [])
back_known t k f x r whole = only (register_demand t k r whole ∷ [])

-- a pointer's bounds are those of its base
abbrev pub back_moved : ℕ → ℕ → Op → Bool → List Demand
back_moved t k o true = of_values t k (operands_of o)
back_moved t k o false = of_operand t k false o 0

abbrev pub back_op : NumberedProgram → ℕ → ℕ → ℕ → Moment → Option FreeRegion → Instr → ℕ → Bool → Op → Asked
back_op p t k n m region x r whole (op.Br to) = only (back_edge p t k x.block.0 (Some to.0) r whole)
back_op p t k n m region x r whole (op.CondBr c a b) = back_branch p t k n x (edge_in p m (Some x)) region r whole
back_op p t k n m region x r whole (op.Switch w on other cases) = back_branch p t k n x (edge_in p m (Some x)) region r whole
back_op p t k n m region x r whole (op.Call g args) = only (register_demand t k r whole ∷ [])
back_op p t k n m region x r whole (op.Ret v) = only []
back_op p t k n m region x r whole (op.Alloca bytes) = if_set (is_target x.result r) (register_demand t k r whole) (only [])
back_op p t k n m region x r whole (op.CallLibrary f args) = back_known t k f x r whole
back_op p t k n m region x r whole (op.Gep base indices) = if_set (is_target x.result r) (register_demand t k r whole) (only (back_moved t k x.op whole))
back_op p t k n m region x r whole o = if_set (is_target x.result r) (register_demand t k r whole) (only (of_values t k (operands_of o)))

-- a load is exact, and its bytes are known
abbrev pub back_access : ℕ → ℕ → ℕ → Access → Instr → ℕ → Bool → Op → Asked
back_access t k n a x r whole (op.Load w from) = if_set (is_target x.result r) (register_demand t k r whole) (fixing (Exact n) (of_bytes (range_of a).start a.bytes))
back_access t k n a x r whole o = only (register_demand t k r whole ∷ [])

-- a start gives the first parameter the thread's argument
abbrev pub back_start : ℕ → ℕ → ℕ → ℕ → Bool → Asked
back_start parameters t k r whole = if not (parameters == 0) && (r == 0) then only (record { cell = Word t; whole = whole } ∷ []) else only (register_demand t k r whole ∷ [])

abbrev pub back_event : NumberedProgram → ℕ → ℕ → Moment → Instr → ℕ → Bool → TurnKind → Asked
back_event p t k m x r whole turns.Start = back_start (parameter_count p (function_in m.calls)) t k r whole
back_event p t k m x r whole turns.Exit = only []
back_event p t k m x r whole turns.Wait = only (register_demand t k r whole ∷ [])
back_event p t k m x r whole turns.Arrive = only (register_demand t k r whole ∷ [])
back_event p t k m x r whole turns.Putchar = if_set (is_target x.result r) (register_demand t k r whole) (only (of_operand t k true x.op 0))
back_event p t k m x r whole kind = if_set (is_target x.result r) (register_demand t k r whole) (only [])

abbrev pub back_top : NumberedProgram → ℕ → ℕ → ℕ → Moment → Option FreeRegion → Instr → ℕ → Bool → StepKind → Asked
back_top p t k n m region x r whole (kinds.Access a) = back_access t k n a x r whole x.op
back_top p t k n m region x r whole (kinds.Event e) = back_event p t k m x r whole e.kind
back_top p t k n m region x r whole kind = back_op p t k n m region x r whole x.op

-- ---- a register of another call of the thread: that of the caller after a return, that of a call that begins

abbrev pub back_return : ℕ → ℕ → ℕ → Option ℕ → ℕ → ℕ → Bool → Option Value → Asked
back_return t k count target j r whole v =
    if suc j == k then (if nat_lt r count then if_set (is_target target r) (register_demand t j r whole) (only (of_optional t k whole v)) else only [])
    else only (register_demand t j r whole ∷ [])

abbrev pub back_other_op : NumberedProgram → ℕ → ℕ → ℕ → Moment → ℕ → ℕ → Bool → Op → Asked
back_other_op p t k count m j r whole (op.Ret v) = back_return t k count (caller_target p m.calls) j r whole v
back_other_op p t k count m j r whole (op.Call g args) =
    if j == suc k then only (of_optional t k whole (slice_get args r)) else only (register_demand t j r whole ∷ [])
back_other_op p t k count m j r whole o = only (register_demand t j r whole ∷ [])

abbrev pub back_other_event : ℕ → ℕ → ℕ → Bool → TurnKind → Asked
back_other_event t j r whole turns.Exit = only []
back_other_event t j r whole kind = only (register_demand t j r whole ∷ [])

abbrev pub back_other : NumberedProgram → ℕ → ℕ → ℕ → Moment → Instr → ℕ → ℕ → Bool → StepKind → Asked
back_other p t k count m x j r whole (kinds.Access a) = only (register_demand t j r whole ∷ [])
back_other p t k count m x j r whole (kinds.Event e) = back_other_event t j r whole e.kind
back_other p t k count m x j r whole kind = back_other_op p t k count m j r whole x.op

-- how many registers the present call has, and its caller
abbrev pub register_count : Seen → ℕ
register_count y = length (registers_before y)

abbrev pub caller_count : Seen → ℕ
caller_count y = length (top_of (under_top (thread_of y.before (thread_in y.moment)).calls))

abbrev pub back_register : NumberedProgram → Seen → Instr → ℕ → ℕ → ℕ → Bool → Asked
back_register p y x t j r whole =
    if not (t == thread_in y.moment) then only (register_demand t j r whole ∷ [])
    else if not (j == depth_of y) then back_other p (thread_in y.moment) (depth_of y) (caller_count y) y.moment x j r whole (kind_in y)
    else if nat_lt r (register_count y) then back_top p (thread_in y.moment) (depth_of y) y.number y.moment y.region x r whole (kind_in y) else only []

-- ---- a byte

abbrev pub byte_demand : ℕ → Bool → Demand
byte_demand b whole = record { cell = Byte b; whole = whole }

-- a store that may have written the byte is exact or an event
abbrev pub if_plain : Bool → ℕ → List Demand → Asked
if_plain true n qs = only qs
if_plain false n qs = fixing (Exact n) qs

abbrev pub back_store : ℕ → ℕ → ℕ → Access → ℕ → Bool → Op → Asked
back_store t k n a b whole (op.Store w v at) =
    if is_within (range_of a) b then if_plain a.event n (of_value t k true v)
    else if is_within (bounds_of a.pointer) b then if_plain a.event n (byte_demand b whole ∷ []) else only (byte_demand b whole ∷ [])
back_store t k n a b whole o = only (byte_demand b whole ∷ [])

abbrev pub back_written : Event → TurnKind → Asked
back_written e turns.Join = only (record { cell = Word e.object; whole = true } ∷ [])
back_written e kind = only []

abbrev pub back_write : Event → Option Write → ℕ → Bool → Asked
back_write e None b whole = only (byte_demand b whole ∷ [])
back_write e (Some w) b whole = if is_within (range_of (write_by w)) b then back_written e e.kind else only (byte_demand b whole ∷ [])

abbrev pub back_freed : ℕ → Option FreeRegion → ℕ → Bool → Asked
back_freed n None b whole = only (byte_demand b whole ∷ [])
back_freed n (Some q) b whole = if may_write q.accesses b then fixing (Pinned n) (byte_demand b whole ∷ []) else only (byte_demand b whole ∷ [])

abbrev pub back_byte : ℕ → ℕ → ℕ → Option FreeRegion → Instr → ℕ → Bool → StepKind → Asked
back_byte t k n region x b whole (kinds.Access a) = back_store t k n a b whole x.op
back_byte t k n region x b whole (kinds.Event e) = back_write e e.write b whole
back_byte t k n region x b whole kind = back_freed n region b whole

-- ---- a thread's word

abbrev pub word_demand : ℕ → Bool → Demand
word_demand w whole = record { cell = Word w; whole = whole }

abbrev pub back_exit : ℕ → ℕ → Bool → Op → Asked
back_exit t k whole (op.Ret v) = only (of_optional t k whole v)
back_exit t k whole o = if t == 0 then only [] else only (of_operand t k whole o 0)

abbrev pub back_word_event : ℕ → ℕ → ℕ → Op → ℕ → Bool → TurnKind → Asked
back_word_event t k count o w whole turns.Exit = if w == t then (if nat_lt w count then back_exit t k whole o else only []) else only (word_demand w whole ∷ [])
back_word_event t k count o w whole turns.Create = if w == count then only (of_operand t k whole o 3) else only (word_demand w whole ∷ [])
back_word_event t k count o w whole kind = only (word_demand w whole ∷ [])

abbrev pub back_word : ℕ → ℕ → ℕ → Op → ℕ → Bool → StepKind → Asked
back_word t k count o w whole (kinds.Event e) = back_word_event t k count o w whole e.kind
back_word t k count o w whole kind = only (word_demand w whole ∷ [])

-- ---- a demand after a live step at this instruction

abbrev pub back_cell : NumberedProgram → Seen → Instr → Bool → Cell → Asked
back_cell p y x whole (Register t j r) = back_register p y x t j r whole
back_cell p y x whole (Byte b) = back_byte (thread_in y.moment) (depth_of y) y.number y.region x b whole (kind_in y)
back_cell p y x whole (Word w) = back_word (thread_in y.moment) (depth_of y) (length y.before.words) x.op w whole (kind_in y)

abbrev pub back : NumberedProgram → Seen → Option Instr → Demand → Asked
back p y None q = only (q ∷ [])
back p y (Some x) q = back_cell p y x q.whole q.cell
