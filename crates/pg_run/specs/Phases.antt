-- How far a thread has come, by its local state and by its stage among the objects.
use Rattle.std.specs.Prelude.{List, [], ◌∷◌, Bool, true, false, Option, Some, None, slice_get, if◌then◌else◌}
use Rattle.pg_run_trace.specs.pg_ir.declared.library_call.LibraryCall.{LibraryCall}
use Rattle.pg_run_trace.specs.pg_ir.declared.library_call.LibraryCall.TheVariants as known
use Rattle.pg_run_trace.specs.pg_ir.declared.instr.Op.{Op}
use Rattle.pg_run_trace.specs.pg_ir.declared.instr.Op.TheVariants as op
use Rattle.pg_run_trace.specs.pg_ir.declared.instr.Instr.{Instr}
use Rattle.pg_run_trace.specs.pg_ir.declared.request.Request.{Request}
use Rattle.pg_run_trace.specs.pg_ir.declared.request.Request.TheVariants as requests
use Rattle.pg_run_trace.specs.pg_ir.Program.{NumberedProgram}
use Rattle.pg_run_objects.specs.declared.status.Stage.{Stage}
use Rattle.pg_run_objects.specs.declared.status.Stage.TheVariants as stages
use Rattle.pg_run_thread.specs.declared.action.Action.{Action}
use Rattle.pg_run_thread.specs.declared.action.Action.TheVariants as actions
use Rattle.pg_run_thread.specs.LocalState.{Frame, LocalState}

-- not begun, between waits, between the halves of a wait on a condition or of one at a barrier, ended
pub data Phase : Type 0 where
  Fresh : Phase
  Going : Phase
  InCondition : Phase
  InBarrier : Phase
  Over : Phase

-- ---- by the local state

abbrev pub library_phase : Bool → LibraryCall → Phase
library_phase halfway known.PthreadCondWait = if halfway then InCondition else Going
library_phase halfway known.PthreadBarrierWait = if halfway then InBarrier else Going
library_phase halfway k = Going

abbrev pub op_phase : Bool → Op → Phase
op_phase halfway (op.CallLibrary k args) = library_phase halfway k
op_phase halfway o = Going

abbrev pub instr_phase : Bool → Option Instr → Phase
instr_phase halfway None = Going
instr_phase halfway (Some x) = op_phase halfway x.op

abbrev pub frames_phase : NumberedProgram → Bool → Bool → List Frame → Phase
frames_phase p begun halfway [] = Over
frames_phase p false halfway (f ∷ fs) = Fresh
frames_phase p true halfway (f ∷ fs) = instr_phase halfway (slice_get p.instrs f.place)

unfoldable pub phase_of : NumberedProgram → LocalState → Phase
phase_of p l = frames_phase p l.begun l.halfway l.frames

-- ---- by the stage

abbrev pub stage_phase : Stage → Phase
stage_phase stages.Made = Fresh
stage_phase stages.Running = Going
stage_phase (stages.Waiting signalled) = InCondition
stage_phase (stages.Arrived barrier released last) = InBarrier
stage_phase stages.Ended = Over

-- ---- around a step

abbrev pub request_before : Request → Phase
request_before requests.Start = Fresh
request_before (requests.Wake c m) = InCondition
request_before (requests.Leave o) = InBarrier
request_before r = Going

abbrev pub request_after : Request → Phase
request_after (requests.Exit n is_return) = Over
request_after (requests.Wait c m) = InCondition
request_after (requests.Arrive o) = InBarrier
request_after r = Going

-- the phase in which an action is done, and the phase after it
abbrev pub phase_before : Action → Phase
phase_before (actions.Event r) = request_before r
phase_before action = Going

abbrev pub phase_after : Action → Phase
phase_after (actions.Event r) = request_after r
phase_after action = Going
