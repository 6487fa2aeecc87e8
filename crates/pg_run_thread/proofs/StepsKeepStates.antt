-- A step keeps the state a state of the program.
use Rattle.std.proofs.Common.{◌≡◌, ℕ, ◌+◌, ◌<◌, ◌≤◌, ◌^◌, List, [], ◌∷◌, length, map, Bool, true, false, Option, Some, None, arith, refl, sym, ◌∙◌, ap}
use Rattle.std.proofs.Common.{subst, inl, inr}
use Rattle.std.specs.Prelude.{slice_get, slice_set, ◌==◌, if◌then◌else◌}
use Rattle.std.specs.List.{AllByRecursion}
use Rattle.pg_ir.specs.pg_num.Numbers.{modulus}
use Rattle.pg_ir.specs.pg_num.declared.layout.TheConstants.{THREAD_GRANULES}
use Rattle.pg_ir.specs.pg_num.declared.limits.TheConstants.{THREAD_LIMIT}
use Rattle.pg_ir.specs.declared.edge.Case.{Case}
use Rattle.pg_ir.specs.declared.function.Function.{Function}
use Rattle.pg_ir.specs.declared.library_call.LibraryCall.{LibraryCall}
use Rattle.pg_ir.specs.declared.library_call.LibraryCall.TheVariants as known
use Rattle.pg_ir.specs.declared.value.Scalar.{Scalar}
use Rattle.pg_ir.specs.declared.value.Scalar.TheVariants.{Ptr}
use Rattle.pg_ir.specs.declared.value.Value.{Value}
use Rattle.pg_ir.specs.declared.instr.Op.{Op}
use Rattle.pg_ir.specs.declared.instr.Op.TheVariants as op
use Rattle.pg_ir.specs.declared.instr.Instr.{Instr}
use Rattle.pg_ir.specs.Program.{NumberedProgram, types_of, types_in, function_of, result_of, parameter_count, parameter_count_in}
use Rattle.pg_ir.specs.Edges.{is_terminator, is_phi, targets_of}
use Rattle.pg_ir.specs.WellFormed.{IsProgram, FitsOp, FitsReturn, HaveTypes, parameter_types, IsInFunction, StartsAs, BeginsThread, IsMain, type_at, width_of, granules_for}
use Rattle.pg_ir.proofs.FunctionPlaces.{starts_within}
use Rattle.pg_run_thread.specs.declared.thread_memory.ThreadMemory.{ThreadMemory}
use Rattle.pg_run_thread.specs.LocalState.{Frame, LocalState, fresh, own_memory, top_height}
use Rattle.pg_run_thread.specs.Operands.{operand, given, number_at, operands_of}
use Rattle.pg_run_thread.specs.Compute.{chosen}
use Rattle.pg_run_thread.specs.EdgeStep.{case_of}
use Rattle.pg_run_thread.specs.Step.{next, after, frames_after, instr_after, op_after, library_after, heap_after, library_heap, heap_with, has_room, result_number, stepped, taken, returned, entered}
use Rattle.pg_run_thread.specs.Step.{target_in, begun_registers}
use Rattle.pg_run_thread.specs.Told.{id_of}
use Rattle.pg_run_thread.specs.States.{IsOf, IsStateOf, IsFrameOf, AreFramesOf, AreValuesOf, StandsAt, WaitFor, Calls, CallsFunction, CanStep}
use Rattle.pg_run_thread.specs.Needs.{CanDo}
use Rattle.pg_run_thread.proofs.PresentInstructions.{same_function}
use Rattle.pg_run_thread.proofs.StepRooms.{can_do}
use Rattle.pg_run_thread.proofs.Typed.{typed_number, set_value}
use Rattle.pg_run_thread.proofs.Ranges.{room_is}
use Rattle.pg_run_thread.proofs.OperationResults.{HasNumber, number_small}
use Rattle.pg_run_thread.proofs.Frames.{stepped_frame, moved_frame, entered_frame, entry_at, fresh_typed}

-- ---- the present frame goes on

phi_not : (p : NumberedProgram) (f : ℕ) (x : Instr) (o : Option Instr) → o ≡ Some x → StandsAt p f o → is_phi x.op ≡ false
phi_not p f x None e h = absurd h
phi_not p f x (Some y) e h = let same : y ≡ x = cc in subst (λ (z : Instr). is_phi z.op ≡ false) same h.1

-- what holds of the present instruction of a frame
pub record Here (p : NumberedProgram) (f : Frame) (x : Instr) : Type 0 where
  pub frame : IsFrameOf p f
  pub at : slice_get p.instrs f.place ≡ Some x
  pub function : function_of p x.block.0 ≡ f.function
  pub phi : is_phi x.op ≡ false
  pub fits : FitsOp p (types_of p f.function) (result_of p f.function) (type_at (types_of p f.function) x.result) x.op
  pub targets : AllByRecursion (λ (b : ℕ). IsInFunction f.function (slice_get p.blocks b)) (targets_of x.op)

here : (p : NumberedProgram) (f : Frame) (x : Instr) → IsProgram p → IsFrameOf p f → slice_get p.instrs f.place ≡ Some x → Here p f x
here p f x program h e =
    let same : function_of p x.block.0 ≡ f.function = same_function p f.function x (slice_get p.instrs f.place) e h.place in
    let fits = program.instrs f.place x e in
    record {
      frame = h;
      at = e;
      function = same;
      phi = phi_not p f.function x (slice_get p.instrs f.place) e h.place;
      fits = subst (λ (g : ℕ). FitsOp p (types_of p g) (result_of p g) (type_at (types_of p g) x.result) x.op) same fits.op;
      targets = subst (λ (g : ℕ). AllByRecursion (λ (b : ℕ). IsInFunction g (slice_get p.blocks b)) (targets_of x.op)) same fits.targets;
    }

-- the frame after an instruction that sets its register
set_frame : (p : NumberedProgram) (l : LocalState) (f : Frame) (x : Instr) (o : Op) (answer : ℕ) → x.op ≡ o → IsProgram p → l.thread < THREAD_LIMIT → Here p f x
    → HasNumber (own_memory l) o → is_terminator o ≡ false → IsFrameOf p (stepped f x.result (result_number p (own_memory l) f.registers o answer))
set_frame p l f x o answer e program t h n k =
    let fits = subst (λ (q : Op). FitsOp p (types_of p f.function) (result_of p f.function) (type_at (types_of p f.function) x.result) q) e h.fits in
    stepped_frame p f x (result_number p (own_memory l) f.registers o answer) program h.frame h.at h.function h.phi (ap is_terminator e ∙ k)
    (λ s r. number_small p (types_of p f.function) f.registers (result_of p f.function) (type_at (types_of p f.function) x.result) (own_memory l) o answer s program h.frame.registers fits t n r)

-- ---- a return

returned_small : (p : NumberedProgram) (types : List Scalar) (rs : List (Option ℕ)) (returns : Option Scalar) (v : Option Value) (s : Scalar) → IsProgram p → AreValuesOf types rs
    → FitsReturn p types returns v → returns ≡ Some s → number_at p rs (operands_of (op.Ret v)) 0 < modulus (width_of s)
returned_small p types rs None v s program h t e = absurd cc
returned_small p types rs (Some q) None s program h t e = absurd t
returned_small p types rs (Some q) (Some v) s program h t e = let same : q ≡ s = cc in typed_number p types rs s v program h (subst (λ (u : Scalar). FitsReturn p types (Some u) (Some v)) same t)

pub call_result : (p : NumberedProgram) (types : List Scalar) (returns result : Option Scalar) (g : ℕ) (o : Op) → CallsFunction g o → FitsOp p types returns result o → result ≡ result_of p g
call_result p types returns result g (op.Call f args) c t = t.0 ∙ ap (result_of p) c
call_result p types returns result g (op.Add w a b) c t = absurd c
call_result p types returns result g (op.Sub w a b) c t = absurd c
call_result p types returns result g (op.Mul w a b) c t = absurd c
call_result p types returns result g o c t = absurd c

call_goes_on : (g : ℕ) (o : Op) → CallsFunction g o → is_terminator o ≡ false
call_goes_on g (op.Call f args) c = refl
call_goes_on g o c = absurd c

caller_calls : (g : ℕ) (x : Instr) (o : Option Instr) → o ≡ Some x → Calls g o → CallsFunction g x.op
caller_calls g x None e c = absurd c
caller_calls g x (Some y) e c = let same : y ≡ x = cc in subst (λ (z : Instr). CallsFunction g z.op) same c

caller_there : (p : NumberedProgram) (f : Frame) (g : ℕ) (o : Option Instr) → slice_get p.instrs f.place ≡ o → Calls g o → (x : Instr) × (slice_get p.instrs f.place ≡ Some x)
caller_there p f g None e c = absurd c
caller_there p f g (Some x) e c = (x, e)

returned_frames : (p : NumberedProgram) (g height : ℕ) (fs : List Frame) (n : ℕ) → IsProgram p → WaitFor p g height fs
    → ((s : Scalar) → result_of p g ≡ Some s → n < modulus (width_of s)) → AreFramesOf p (returned p fs n)
returned_frames p g height [] n program h k = tt
returned_frames p g height (f ∷ fs) n program h k =
    let found = caller_there p f g (slice_get p.instrs f.place) refl h.1 in
    let x = found.0 in
    let at = here p f x program h.0 found.1 in
    let c : CallsFunction g x.op = caller_calls g x (slice_get p.instrs f.place) found.1 h.1 in
    let result = call_result p (types_of p f.function) (result_of p f.function) (type_at (types_of p f.function) x.result) g x.op c at.fits in
    let frame : IsFrameOf p (stepped f x.result n) = stepped_frame p f x n program h.0 found.1 at.function at.phi (call_goes_on g x.op c) (λ s r. k s (sym result ∙ r)) in
    (subst (λ (o : Option Instr). IsFrameOf p (stepped f (target_in o) n)) (sym found.1) frame, h.3)

-- ---- where a branch goes

chosen_in : (p : NumberedProgram) (f c a b : ℕ) → AllByRecursion (λ (d : ℕ). IsInFunction f (slice_get p.blocks d)) (a ∷ b ∷ []) → IsInFunction f (slice_get p.blocks (chosen c a b))
chosen_in p f c a b h = go (c == 0)
  where
    go : (t : Bool) → IsInFunction f (slice_get p.blocks (if t then b else a))
    go true = h.1.0
    go false = h.0

case_in : (p : NumberedProgram) (f : ℕ) (cases : List Case) (other k : ℕ)
    → AllByRecursion (λ (d : ℕ). IsInFunction f (slice_get p.blocks d)) (other ∷ map (λ (c : Case). c.to.0) cases) → IsInFunction f (slice_get p.blocks (case_of cases other k))
case_in p f [] other k h = h.0
case_in p f (c ∷ cs) other k h = go (c.value == k) (case_in p f cs other k (h.0, h.1.1))
  where
    go : (t : Bool) → IsInFunction f (slice_get p.blocks (case_of cs other k)) → IsInFunction f (slice_get p.blocks (if t then c.to.0 else case_of cs other k))
    go true more = h.1.0
    go false more = more

-- ---- the frames after an instruction

library_frames : (p : NumberedProgram) (halfway : Bool) (k : LibraryCall) (fs next_fs : List Frame) → AreFramesOf p fs → AreFramesOf p next_fs → AreFramesOf p (library_after halfway k fs next_fs)
library_frames p halfway known.PthreadExit fs next_fs h n = tt
library_frames p halfway known.PthreadCondWait fs next_fs h n = go halfway
  where
    go : (t : Bool) → AreFramesOf p (if t then next_fs else fs)
    go true = n
    go false = h
library_frames p halfway known.PthreadBarrierWait fs next_fs h n = go halfway
  where
    go : (t : Bool) → AreFramesOf p (if t then next_fs else fs)
    go true = n
    go false = h
library_frames p halfway k fs next_fs h n = n

wait_taller : (p : NumberedProgram) (g low high : ℕ) (fs : List Frame) → low ≤ high → WaitFor p g low fs → WaitFor p g high fs
wait_taller p g low high [] l h = tt
wait_taller p g low high (f ∷ fs) l h = (h.0, h.1, omega (arith, h.2), h.3)

-- a thread that has begun, with this present frame
abbrev pub running : ℕ → Bool → Frame → List Frame → ℕ → LocalState
running t halfway f fs heap = record { thread = t; begun = true; halfway = halfway; frames = f ∷ fs; heap = heap }

taken_frame : (p : NumberedProgram) (f : Frame) (granules : ℕ) → IsFrameOf p f → IsFrameOf p (taken f granules)
taken_frame p f granules h = record { place = h.place; registers = h.registers }

calls_here : (p : NumberedProgram) (f : Frame) (x : Instr) (g : ℕ) (args : List Value) → slice_get p.instrs f.place ≡ Some x → x.op ≡ op.Call g args → Calls g (slice_get p.instrs f.place)
calls_here p f x g args at e = subst (λ (o : Option Instr). Calls g o) (sym at) (subst (λ (q : Op). CallsFunction g q) (sym e) refl)

call_frames : (p : NumberedProgram) (f : Frame) (fs : List Frame) (x : Instr) (g : ℕ) (args : List Value) → IsProgram p → AreFramesOf p (f ∷ fs) → Here p f x → x.op ≡ op.Call g args
    → g < length p.functions → HaveTypes p (types_of p f.function) (parameter_types p g) args → AreFramesOf p (entered p g f.height (map (operand p f.registers) args) ∷ f ∷ fs)
unfolding entered
call_frames p f fs x g args program h i e within t =
    let frame = entered_frame p (types_of p f.function) f.registers g f.height args program within h.0.registers t in
    (frame, (h.0, calls_here p f x g args i.at e, omega arith, h.1))

op_still : (p : NumberedProgram) (t : ℕ) (hw : Bool) (f : Frame) (fs : List Frame) (heap : ℕ) (x : Instr) (answer : ℕ) (o : Op) → x.op ≡ o → IsProgram p
    → IsStateOf p (running t hw f fs heap) → Here p f x → CanDo p (running t hw f fs heap) o → AreFramesOf p (op_after p (running t hw f fs heap) x answer o)
op_still p t hw f fs heap x answer (op.Br to) e program h i can =
    let targets = subst (λ (q : Op). AllByRecursion (λ (b : ℕ). IsInFunction f.function (slice_get p.blocks b)) (targets_of q)) e i.targets in
    (moved_frame p f x.block.0 to.0 program i.frame targets.0, h.frames.1)
op_still p t hw f fs heap x answer (op.CondBr c a b) e program h i can =
    let targets = subst (λ (q : Op). AllByRecursion (λ (d : ℕ). IsInFunction f.function (slice_get p.blocks d)) (targets_of q)) e i.targets in
    (moved_frame p f x.block.0 _ program i.frame (chosen_in p f.function (given (operand p f.registers c)) a.0 b.0 targets), h.frames.1)
op_still p t hw f fs heap x answer (op.Switch w on other cases) e program h i can =
    let targets = subst (λ (q : Op). AllByRecursion (λ (d : ℕ). IsInFunction f.function (slice_get p.blocks d)) (targets_of q)) e i.targets in
    (moved_frame p f x.block.0 _ program i.frame (case_in p f.function cases other.0 (given (operand p f.registers on)) targets), h.frames.1)
op_still p t hw f fs heap x answer (op.Call g args) e program h i can =
    let fits = subst (λ (q : Op). FitsOp p (types_of p f.function) (result_of p f.function) (type_at (types_of p f.function) x.result) q) e i.fits in
    call_frames p f fs x g args program h.frames i e can.function fits.2
op_still p t hw f fs heap x answer (op.Ret v) e program h i can =
    let fits = subst (λ (q : Op). FitsOp p (types_of p f.function) (result_of p f.function) (type_at (types_of p f.function) x.result) q) e i.fits in
    returned_frames p f.function f.height fs (number_at p f.registers (operands_of (op.Ret v)) 0) program h.frames.1
    (λ s r. returned_small p (types_of p f.function) f.registers (result_of p f.function) v s program i.frame.registers fits.1 r)
op_still p t hw f fs heap x answer op.Unreachable e program h i can = absurd can
op_still p t hw f fs heap x answer (op.Alloca bytes) e program h i can =
    let l = running t hw f fs heap in (
      taken_frame p (stepped f x.result (result_number p (own_memory l) f.registers (op.Alloca bytes) answer)) (granules_for bytes)
          (set_frame p l f x (op.Alloca bytes) answer e program h.thread i can refl),
      wait_taller p f.function f.height (f.height + granules_for bytes) fs (omega arith) h.frames.1,
    )
op_still p t hw f fs heap x answer (op.CallLibrary k args) e program h i can =
    let l = running t hw f fs heap in
    library_frames p hw k (f ∷ fs) (stepped f x.result (result_number p (own_memory l) f.registers (op.CallLibrary k args) answer) ∷ fs) h.frames
    (set_frame p l f x (op.CallLibrary k args) answer e program h.thread i tt refl, h.frames.1)
op_still p t hw f fs heap x answer o e program h i can = (set_frame p (running t hw f fs heap) f x o answer e program h.thread i tt refl, h.frames.1)

-- ---- stack and heap after an instruction

waiting_height : (p : NumberedProgram) (g height : ℕ) (fs : List Frame) (n : ℕ) → WaitFor p g height fs → top_height (returned p fs n) ≤ height
waiting_height p g height [] n h = omega arith
waiting_height p g height (f ∷ fs) n h = h.2

entered_height : (p : NumberedProgram) (g height : ℕ) (values : List (Option ℕ)) → (entered p g height values).height ≡ height
unfolding entered
entered_height p g height values = refl

heap_room : (r : ThreadMemory) (n : ℕ) → r.stack + r.heap ≤ THREAD_GRANULES → r.stack + heap_with r n ≤ THREAD_GRANULES
heap_room r n h = go (has_room r (granules_for n)) refl
  where
    go : (b : Bool) → has_room r (granules_for n) ≡ b → r.stack + (if b then r.heap + granules_for n else r.heap) ≤ THREAD_GRANULES
    go false e = h
    go true e = omega (arith, room_is r (granules_for n) e)

-- where the stack is no more than it was, a call of a known function has room
known_region : (r : ThreadMemory) (k : LibraryCall) (n stack : ℕ) → r.stack + r.heap ≤ THREAD_GRANULES → stack ≤ r.stack → stack + library_heap r k n ≤ THREAD_GRANULES
known_region r known.Malloc n stack h l = omega (arith, heap_room r n h)
known_region r k n stack h l = omega arith

library_height : (halfway : Bool) (k : LibraryCall) (f g : Frame) (fs : List Frame) → g.height ≡ f.height → top_height (library_after halfway k (f ∷ fs) (g ∷ fs)) ≤ f.height
library_height halfway known.PthreadExit f g fs e = omega arith
library_height halfway known.PthreadCondWait f g fs e = go halfway
  where
    go : (t : Bool) → top_height (if t then g ∷ fs else f ∷ fs) ≤ f.height
    go true = omega (arith, e)
    go false = omega arith
library_height halfway known.PthreadBarrierWait f g fs e = go halfway
  where
    go : (t : Bool) → top_height (if t then g ∷ fs else f ∷ fs) ≤ f.height
    go true = omega (arith, e)
    go false = omega arith
library_height halfway k f g fs e = omega (arith, e)

op_region : (p : NumberedProgram) (t : ℕ) (hw : Bool) (f : Frame) (fs : List Frame) (heap : ℕ) (x : Instr) (answer : ℕ) (o : Op) → IsStateOf p (running t hw f fs heap)
    → CanDo p (running t hw f fs heap) o → top_height (op_after p (running t hw f fs heap) x answer o) + heap_after p (own_memory (running t hw f fs heap)) f.registers o ≤ THREAD_GRANULES
op_region p t hw f fs heap x answer (op.Call g args) h can = omega (arith, entered_height p g f.height (map (operand p f.registers) args), h.memory)
op_region p t hw f fs heap x answer (op.Ret v) h can = omega (arith, waiting_height p f.function f.height fs (number_at p f.registers (operands_of (op.Ret v)) 0) h.frames.1, h.memory)
op_region p t hw f fs heap x answer (op.Alloca bytes) h can = omega (arith, room_is (own_memory (running t hw f fs heap)) (granules_for bytes) can)
op_region p t hw f fs heap x answer (op.CallLibrary k args) h can = known_region (own_memory (running t hw f fs heap)) k (number_at p f.registers args 0) _ h.memory
    (library_height hw k f (stepped f x.result (result_number p (own_memory (running t hw f fs heap)) f.registers (op.CallLibrary k args) answer)) fs refl)
op_region p t hw f fs heap x answer o h can = h.memory

instr_still : (p : NumberedProgram) (t : ℕ) (hw : Bool) (f : Frame) (fs : List Frame) (heap : ℕ) (x : Instr) (answer : ℕ) → IsProgram p → IsStateOf p (running t hw f fs heap)
    → slice_get p.instrs f.place ≡ Some x → CanDo p (running t hw f fs heap) x.op → IsStateOf p (instr_after p (running t hw f fs heap) answer (Some x))
instr_still p t hw f fs heap x answer program h e can = record {
  thread = h.thread;
  frames = op_still p t hw f fs heap x answer x.op refl program h (here p f x program h.frames.0 e) can;
  start = λ b. absurd cc;
  memory = op_region p t hw f fs heap x answer x.op h can;
}

-- ---- the first step

main_in : (f : Option Function) → IsMain f → parameter_count_in f ≡ 0
main_in None h = absurd h
main_in (Some x) h = h.0

main_count : (p : NumberedProgram) → IsProgram p → parameter_count p p.main ≡ 0
unfolding parameter_count
main_count p program = main_in (slice_get p.functions p.main) program.main

thread_type : (o : Option Function) → BeginsThread o → slice_get (types_in o) 0 ≡ Some Ptr
thread_type None h = absurd h
thread_type (Some x) h = h.1

first_type : (p : NumberedProgram) (f : ℕ) → BeginsThread (slice_get p.functions f) → slice_get (types_of p f) 0 ≡ Some Ptr
unfolding types_of
first_type p f h = thread_type (slice_get p.functions f) h

either_typed : (types : List Scalar) (rs : List (Option ℕ)) (answer : ℕ) (b : Bool) → AreValuesOf types rs → slice_get types 0 ≡ Some Ptr → answer < 2 ^ 64
    → AreValuesOf types (if b then rs else slice_set rs 0 (Some answer))
either_typed types rs answer true h e l = h
either_typed types rs answer false h e l = set_value types rs 0 Ptr (Some answer) h e l

begun_typed : (p : NumberedProgram) (f answer : ℕ) (rs : List (Option ℕ)) → IsProgram p → StartsAs p f → AreValuesOf (types_of p f) rs → answer < 2 ^ 64
    → AreValuesOf (types_of p f) (begun_registers (parameter_count p f) rs answer)
begun_typed p f answer rs program (inl e) h l = let z : parameter_count p f ≡ 0 = ap (parameter_count p) e ∙ main_count p program in rw z h
begun_typed p f answer rs program (inr b) h l = either_typed (types_of p f) rs answer (parameter_count p f == 0) h (first_type p f b) l

done_here : (p : NumberedProgram) (t : ℕ) (hw : Bool) (f : Frame) (fs : List Frame) (heap : ℕ) (x : Instr) → IsProgram p → IsStateOf p (running t hw f fs heap)
    → slice_get p.instrs f.place ≡ Some x → CanStep (next p (running t hw f fs heap)) → CanDo p (running t hw f fs heap) x.op
unfolding IsOf id_of
done_here p t hw f fs heap x program h e can = can_do p (running t hw f fs heap) x program h refl (omega arith) e can

state_still : (p : NumberedProgram) (t : ℕ) (b hw : Bool) (fs : List Frame) (heap answer : ℕ) → IsProgram p
    → IsStateOf p (record { thread = t; begun = b; halfway = hw; frames = fs; heap = heap }) → CanStep (next p (record { thread = t; begun = b; halfway = hw; frames = fs; heap = heap }))
    → answer < 2 ^ 64 → IsStateOf p (frames_after p (record { thread = t; begun = b; halfway = hw; frames = fs; heap = heap }) b fs answer)
state_still p t b hw [] heap answer program h can l = h
state_still p t false hw (f ∷ fs) heap answer program h can l = record {
  thread = h.thread;
  frames = (record { place = h.frames.0.place; registers = begun_typed p f.function answer f.registers program (h.start refl) h.frames.0.registers l }, h.frames.1);
  start = λ b. absurd cc;
  memory = h.memory;
}
state_still p t true hw (f ∷ fs) heap answer program h can l = go (slice_get p.instrs f.place) refl h.frames.0.place
  where
    go : (o : Option Instr) → slice_get p.instrs f.place ≡ o → StandsAt p f.function o → IsStateOf p (instr_after p (running t hw f fs heap) answer o)
    go None e s = absurd s
    go (Some x) e s = instr_still p t hw f fs heap x answer program h e (done_here p t hw f fs heap x program h e can)

pub still_of : (p : NumberedProgram) (l : LocalState) (answer : ℕ) → IsProgram p → IsOf p l → CanStep (next p l) → answer < 2 ^ 64 → IsOf p (after p l answer)
unfolding IsOf after
still_of p l answer program h can k = state_still p l.thread l.begun l.halfway l.frames l.heap answer program h can k

pub fresh_of : (p : NumberedProgram) (t f : ℕ) → IsProgram p → StartsAs p f → t < THREAD_LIMIT → IsOf p (fresh p t f)
unfolding IsOf fresh
fresh_of p t f program s k = record {
  thread = k;
  frames = (record { place = entry_at p f program (starts_within p f program s); registers = fresh_typed (types_of p f) }, tt);
  start = λ b. s;
  memory = omega arith;
}
