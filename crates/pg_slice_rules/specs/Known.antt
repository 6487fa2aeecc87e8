-- What is known along a reference run under some decisions: of each register, each byte and each thread's word, from step to
-- step. What isn't live passes without a trace.
use Rattle.std.specs.Prelude.{ℕ, suc, ◌-◌, ◌%◌, ◌^◌, ◌==◌, ◌||◌, List, [], ◌∷◌, ◌++◌, length, map, replicate, Bool, true, false, Option, Some, None}
use Rattle.std.specs.Prelude.{slice_get, slice_set, slice_index, slice_index_or, if◌then◌else◌}
use Rattle.pg_precondition.specs.pg_num.Numbers.{signed, modulus}
use Rattle.pg_precondition.specs.pg_num.declared.width.Width.{Width}
use Rattle.pg_precondition.specs.pg_num.declared.width.Width.TheVariants.{W64}
use Rattle.pg_region_paths.specs.pg_ir.declared.library_call.LibraryCall.{LibraryCall}
use Rattle.pg_region_paths.specs.pg_ir.declared.library_call.LibraryCall.TheVariants as known
use Rattle.pg_region_paths.specs.pg_ir.declared.value.Value.{Value}
use Rattle.pg_region_paths.specs.pg_ir.declared.instr.Instr.{Instr}
use Rattle.pg_region_paths.specs.pg_ir.declared.instr.Op.{Op}
use Rattle.pg_region_paths.specs.pg_ir.declared.instr.Op.TheVariants as op
use Rattle.pg_region_paths.specs.pg_ir.Program.{NumberedProgram, types_of, parameter_count}
use Rattle.pg_region_paths.specs.pg_ir.Edges.{incoming_from, incoming_of, phis_of}
use Rattle.pg_run.specs.pg_run_memory.Initial.{initial_byte}
use Rattle.pg_precondition.specs.Values.{with_one}
use Rattle.pg_precondition.specs.pg_num.Inputs.{input_at}
use Rattle.pg_run.specs.pg_run_thread.LocalState.{Frame}
use Rattle.pg_run.specs.pg_run_thread.Operands.{operands_of}
use Rattle.pg_run.specs.pg_run_trace.declared.turn.TurnKind.{TurnKind}
use Rattle.pg_run.specs.pg_run_trace.declared.turn.TurnKind.TheVariants as turns
use Rattle.pg_run.specs.pg_run_trace.declared.step.StepKind.{StepKind}
use Rattle.pg_run.specs.pg_run_trace.declared.step.StepKind.TheVariants as kinds
use Rattle.pg_run.specs.pg_run_trace.declared.step.Access.{Access}
use Rattle.pg_run.specs.pg_run_trace.declared.step.Event.{Event}
use Rattle.pg_run.specs.pg_run_trace.declared.step.Write.{Write}
use Rattle.pg_run.specs.pg_run_trace.Steps.{range_of, write_by}
use Rattle.pg_slice_rules.specs.declared.decision.Decision.{Decision}
use Rattle.pg_slice_rules.specs.declared.decision.Decision.TheVariants.{Pinned, Exact}
use Rattle.pg_slice_rules.specs.Moments.{Moment, instr_in, thread_in}
use Rattle.pg_slice_rules.specs.Freeable.{FreeAccess, FreeRegion, Regions, bounds_of, region_at}
use Rattle.pg_slice_rules.specs.SymbolicValues.{Symbolic, Unknown, always, cut, from_all, loaded, moved, result_of, symbolic_of, spoiled, stored, unset, valued}
use Rattle.pg_slice_rules.specs.Extents.{Extent, edge_in, is_live, open_after}

-- ---- the run and the decisions

pub record Reference : Type 0 where
  pub program : NumberedProgram
  pub regions : Regions
  pub moments : List Moment

-- decisions as sets of step numbers
pub record Taken : Type 0 where
  pub pinned : ℕ → Bool
  pub exact : ℕ → Bool

abbrev pub has : Taken → Decision → Bool
has d (Pinned n) = d.pinned n
has d (Exact n) = d.exact n

-- ---- what is known

-- of one thread: the registers of its calls, the present one first, and the extents in which it stands
pub record SymbolicThread : Type 0 where
  pub calls : List (List Symbolic)
  pub extents : List Extent

-- of the run: its threads, each byte, and a word for each thread, its argument until it ends, then its exit value
pub record SymbolicState : Type 0 where
  pub threads : List SymbolicThread
  pub bytes : ℕ → Symbolic
  pub words : List Symbolic

abbrev pub fresh_registers : NumberedProgram → ℕ → List Symbolic
fresh_registers p f = replicate (length (types_of p f)) unset

abbrev pub fresh_thread : NumberedProgram → ℕ → SymbolicThread
fresh_thread p f = record { calls = fresh_registers p f ∷ []; extents = [] }

-- before the first step
abbrev pub start_of : NumberedProgram → SymbolicState
start_of p = record { threads = fresh_thread p p.main ∷ []; bytes = λ b. always (initial_byte p.globals b); words = always 0 ∷ [] }

abbrev pub no_thread : SymbolicThread
no_thread = record { calls = []; extents = [] }

abbrev pub thread_of : SymbolicState → ℕ → SymbolicThread
thread_of s t = slice_index_or s.threads t no_thread

abbrev pub top_of : List (List Symbolic) → List Symbolic
top_of [] = []
top_of (rs ∷ calls) = rs

abbrev pub with_top : (List Symbolic → List Symbolic) → List (List Symbolic) → List (List Symbolic)
with_top f [] = []
with_top f (rs ∷ calls) = f rs ∷ calls

abbrev pub under_top : List (List Symbolic) → List (List Symbolic)
under_top [] = []
under_top (rs ∷ calls) = calls

abbrev pub set_symbolic : Option ℕ → Symbolic → List Symbolic → List Symbolic
set_symbolic None s rs = rs
set_symbolic (Some r) s rs = slice_set rs r s

-- the registers of the present call of thread t
abbrev pub registers_of : SymbolicState → ℕ → List Symbolic
registers_of s t = top_of (thread_of s t).calls

-- what is known of the operands of an instruction
abbrev pub operand_symbolics : NumberedProgram → List Symbolic → Op → List Symbolic
operand_symbolics p rs o = map (symbolic_of p rs) (operands_of o)

abbrev pub operand_at : NumberedProgram → List Symbolic → Op → ℕ → Symbolic
operand_at p rs o k = slice_index_or (operand_symbolics p rs o) k unset

-- ---- edges

abbrev pub optional_symbolic : NumberedProgram → List Symbolic → Option Value → Symbolic
optional_symbolic p rs None = unset
optional_symbolic p rs (Some v) = symbolic_of p rs v

abbrev pub phi_symbolic : NumberedProgram → List Symbolic → ℕ → Instr → Symbolic
phi_symbolic p rs from x = optional_symbolic p rs (incoming_from (incoming_of x.op) from)

abbrev pub set_phis : List Symbolic → List Instr → List Symbolic → List Symbolic
set_phis rs [] ss = rs
set_phis rs (x ∷ xs) [] = rs
set_phis rs (x ∷ xs) (s ∷ ss) = set_phis (set_symbolic x.result s rs) xs ss

-- all phis of the block that is entered take their values together
abbrev pub along_edge : NumberedProgram → ℕ → Option ℕ → List Symbolic → List Symbolic
along_edge p from None rs = rs
along_edge p from (Some to) rs = set_phis rs (phis_of p to) (map (phi_symbolic p rs from) (phis_of p to))

-- ---- an instance of a region: registers and bytes that it may set are unknown

abbrev pub forgotten_from : ℕ → (ℕ → Bool) → Decision → List Symbolic → List Symbolic
forgotten_from r sets x [] = []
forgotten_from r sets x (s ∷ ss) = (if sets r then Unknown x else s) ∷ forgotten_from (suc r) sets x ss

abbrev pub forgotten_bytes : List FreeAccess → Decision → (ℕ → Symbolic) → ℕ → Symbolic
forgotten_bytes [] x bytes = bytes
forgotten_bytes (a ∷ xs) x bytes = forgotten_bytes xs x (if a.writes then spoiled (bounds_of a.at.last) x bytes else bytes)

-- ---- the registers after a live step of each kind

-- an instance, where the branch is freeable and isn't pinned; else the edge
abbrev pub after_branch : NumberedProgram → Bool → ℕ → Instr → Option ℕ → Option FreeRegion → List Symbolic → List Symbolic
after_branch p false n x edge (Some r) rs = forgotten_from 0 r.sets (Pinned n) rs
after_branch p pinned n x edge region rs = along_edge p x.block.0 edge rs

abbrev pub from_input : Symbolic → Symbolic
from_input s = from_all (s ∷ []) (λ gs. valued (λ input. with_one (slice_index_or (gs input) 0 None) (λ i. Some (input_at input (signed W64 i)))))

-- the register of a call of a known function that asks nothing of other threads
abbrev pub after_known : LibraryCall → Option ℕ → ℕ → Symbolic → List Symbolic → List Symbolic
after_known known.PgIn target result s rs = set_symbolic target (from_input s) rs
after_known known.PgInLen target result s rs = set_symbolic target (valued (λ input. Some (length input))) rs
after_known known.Malloc target result s rs = set_symbolic target (always result) rs
after_known k target result s rs = rs

abbrev pub target_of : Option Instr → Option ℕ
target_of None = None
target_of (Some x) = x.result

-- the caller's register that gets the value that a call returns
abbrev pub caller_target : NumberedProgram → List Frame → Option ℕ
caller_target p (f ∷ g ∷ fs) = target_of (slice_get p.instrs g.place)
caller_target p fs = None

abbrev pub entered : NumberedProgram → ℕ → List Symbolic → List Symbolic
entered p g arguments = arguments ++ replicate (length (types_of p g) - length arguments) unset

-- the calls after a step that is neither an access nor an event; the result is that of an allocation
abbrev pub after_op : NumberedProgram → Bool → ℕ → Moment → Option FreeRegion → ℕ → Instr → Op → List (List Symbolic) → List (List Symbolic)
after_op p pinned n m region result x (op.Br to) calls = with_top (along_edge p x.block.0 (Some to.0)) calls
after_op p pinned n m region result x (op.CondBr c a b) calls = with_top (after_branch p pinned n x (edge_in p m (Some x)) region) calls
after_op p pinned n m region result x (op.Switch w on other cases) calls = with_top (after_branch p pinned n x (edge_in p m (Some x)) region) calls
after_op p pinned n m region result x (op.Call g args) calls = entered p g (map (symbolic_of p (top_of calls)) args) ∷ calls
after_op p pinned n m region result x (op.Ret v) calls = with_top (set_symbolic (caller_target p m.calls) (optional_symbolic p (top_of calls) v)) (under_top calls)
after_op p pinned n m region result x (op.Alloca bytes) calls = with_top (set_symbolic x.result (always result)) calls
after_op p pinned n m region result x (op.CallLibrary k args) calls = with_top (λ rs. after_known k x.result result (operand_at p rs x.op 0) rs) calls
after_op p pinned n m region result x (op.Gep base indices) calls = with_top (λ rs. set_symbolic x.result (moved (operand_at p rs x.op 0) (result_of x.op (operand_symbolics p rs x.op))) rs) calls
after_op p pinned n m region result x o calls = with_top (λ rs. set_symbolic x.result (result_of o (operand_symbolics p rs o)) rs) calls

-- a load that isn't exact gives an unknown number
abbrev pub load_of : Bool → ℕ → Width → Access → (ℕ → Symbolic) → Symbolic
load_of true n w a bytes = cut (λ k. k % modulus w) (loaded bytes (range_of a).start a.bytes)
load_of false n w a bytes = Unknown (Exact n)

abbrev pub after_access : NumberedProgram → Bool → ℕ → Access → (ℕ → Symbolic) → Instr → Op → List Symbolic → List Symbolic
after_access p exact n a bytes x (op.Load w from) rs = set_symbolic x.result (load_of exact n w a bytes) rs
after_access p exact n a bytes x o rs = rs

-- the number that is printed and returned: the low byte
abbrev pub low_byte : Symbolic → Symbolic
low_byte s = cut (λ n. n % 2 ^ 8) s

-- a start gives the first parameter the thread's argument
abbrev pub started : ℕ → Symbolic → List Symbolic → List Symbolic
started parameters argument rs = if parameters == 0 then rs else slice_set rs 0 argument

abbrev pub function_in : List Frame → ℕ
function_in [] = 0
function_in (f ∷ fs) = f.function

-- the answer of a pthread call is its recorded number; the first half of a wait has none
abbrev pub after_event : NumberedProgram → Moment → Event → TurnKind → Symbolic → Instr → List (List Symbolic) → List (List Symbolic)
after_event p m e turns.Start argument x calls = with_top (started (parameter_count p (function_in m.calls)) argument) calls
after_event p m e turns.Exit argument x calls = []
after_event p m e turns.Wait argument x calls = calls
after_event p m e turns.Arrive argument x calls = calls
after_event p m e turns.Putchar argument x calls = with_top (λ rs. set_symbolic x.result (low_byte (operand_at p rs x.op 0)) rs) calls
after_event p m e kind argument x calls = with_top (set_symbolic x.result (always e.reply)) calls

-- ---- the whole state after a live step

abbrev pub returned_symbolic : NumberedProgram → List Symbolic → Option Value → Symbolic
returned_symbolic p rs None = always 0
returned_symbolic p rs (Some v) = symbolic_of p rs v

-- what an exit hands on: main's pthread_exit hands on 0
abbrev pub exit_symbolic : NumberedProgram → ℕ → List Symbolic → Op → Symbolic
exit_symbolic p t rs (op.Ret v) = returned_symbolic p rs v
exit_symbolic p t rs o = if t == 0 then always 0 else operand_at p rs o 0

abbrev pub words_after : NumberedProgram → ℕ → TurnKind → List Symbolic → Op → List Symbolic → List Symbolic
words_after p t turns.Exit rs o words = slice_set words t (exit_symbolic p t rs o)
words_after p t turns.Create rs o words = words ++ operand_at p rs o 3 ∷ []
words_after p t kind rs o words = words

abbrev pub threads_after : NumberedProgram → Event → TurnKind → List SymbolicThread → List SymbolicThread
threads_after p e turns.Create threads = threads ++ fresh_thread p (slice_index e.operands 2) ∷ []
threads_after p e kind threads = threads

-- a create writes the number of its thread, a join the exit value of the joined one
abbrev pub written_symbolic : Event → Write → TurnKind → List Symbolic → Symbolic
written_symbolic e w turns.Join words = slice_index_or words e.object unset
written_symbolic e w kind words = always w.number

abbrev pub bytes_by : Event → Option Write → List Symbolic → (ℕ → Symbolic) → ℕ → Symbolic
bytes_by e None words bytes = bytes
bytes_by e (Some w) words bytes = stored (range_of (write_by w)) (written_symbolic e w e.kind words) bytes

-- a store that is exact or an event passes its value on; another may have written anywhere in its bounds
abbrev pub bytes_stored : NumberedProgram → Bool → ℕ → Access → List Symbolic → Op → (ℕ → Symbolic) → ℕ → Symbolic
bytes_stored p known n a rs (op.Store w v at) bytes =
    if known then stored (range_of a) (symbolic_of p rs v) bytes else spoiled (bounds_of a.pointer) (Exact n) bytes
bytes_stored p known n a rs o bytes = bytes

abbrev pub bytes_freed : Bool → ℕ → Option FreeRegion → (ℕ → Symbolic) → ℕ → Symbolic
bytes_freed false n (Some r) bytes = forgotten_bytes r.accesses (Pinned n) bytes
bytes_freed pinned n region bytes = bytes

abbrev pub on_thread : (List (List Symbolic) → List (List Symbolic)) → ℕ → List SymbolicThread → List SymbolicThread
on_thread f t threads = slice_set threads t (let th = slice_index_or threads t no_thread in record th { calls = f th.calls })

abbrev pub result_in : StepKind → ℕ
result_in (kinds.Allocation operand result) = result
result_in k = 0

abbrev pub live_by : NumberedProgram → Taken → ℕ → Moment → Option FreeRegion → Instr → StepKind → SymbolicState → SymbolicState
live_by p d n m region x (kinds.Access a) s =
    let t = thread_in m in
    record s {
      threads = on_thread (with_top (after_access p (d.exact n) n a s.bytes x x.op)) t s.threads;
      bytes = bytes_stored p (d.exact n || a.event) n a (registers_of s t) x.op s.bytes;
    }
live_by p d n m region x (kinds.Event e) s =
    let t = thread_in m in
    record {
      threads = threads_after p e e.kind (on_thread (after_event p m e e.kind (slice_index_or s.words t unset) x) t s.threads);
      bytes = bytes_by e e.write s.words s.bytes;
      words = words_after p t e.kind (registers_of s t) x.op s.words;
    }
live_by p d n m region x k s =
    record s {
      threads = on_thread (after_op p (d.pinned n) n m region (result_in k) x x.op) (thread_in m) s.threads;
      bytes = bytes_freed (d.pinned n) n region s.bytes;
    }

abbrev pub live_after : NumberedProgram → Taken → ℕ → Moment → Option FreeRegion → Option Instr → SymbolicState → SymbolicState
live_after p d n m region None s = s
live_after p d n m region (Some x) s = live_by p d n m region x m.did.did.kind s

-- ---- the run

abbrev pub is_branch : StepKind → Bool
is_branch (kinds.Branch c) = true
is_branch k = false

abbrev pub region_of : NumberedProgram → Regions → Moment → Option Instr → Option FreeRegion
region_of p regions m None = None
region_of p regions m (Some x) = if is_branch m.did.did.kind then region_at p m (regions x.block.0) else None

-- a branch's edge; of other steps none
abbrev pub edge_of : NumberedProgram → Moment → StepKind → Option ℕ
edge_of p m (kinds.Event e) = None
edge_of p m k = edge_in p m (instr_in p m)

abbrev pub with_extents : ℕ → List Extent → List SymbolicThread → List SymbolicThread
with_extents t es threads = slice_set threads t (record (slice_index_or threads t no_thread) { extents = es })

-- after step n
abbrev pub after_step : Reference → Taken → ℕ → Moment → SymbolicState → SymbolicState
after_step R d n m s =
    let t = thread_in m in
    let es = (thread_of s t).extents in
    let region = region_of R.program R.regions m (instr_in R.program m) in
    let z = if is_live d.pinned es then live_after R.program d n m region (instr_in R.program m) s else s in
    record z { threads = with_extents t (open_after n (length m.calls) region (edge_of R.program m m.did.did.kind) es) z.threads }

-- a step with its number, the region that makes it freeable, whether it is live, and what is known before it
pub record Seen : Type 0 where
  pub number : ℕ
  pub moment : Moment
  pub region : Option FreeRegion
  pub live : Bool
  pub before : SymbolicState

unfoldable pub seen_from : Reference → Taken → ℕ → SymbolicState → List Moment → List Seen
seen_from R d n s [] = []
seen_from R d n s (m ∷ ms) =
    record {
      number = n;
      moment = m;
      region = region_of R.program R.regions m (instr_in R.program m);
      live = is_live d.pinned (thread_of s (thread_in m)).extents;
      before = s;
    }
    ∷ seen_from R d (suc n) (after_step R d n m s) ms

-- the steps of a reference run under decisions
abbrev pub seen_in : Reference → Taken → List Seen
seen_in R d = seen_from R d 0 (start_of R.program) R.moments
