-- What holds of each action of a program's thread: if it holds of every trap, it is to be shown of what
-- is done where operands are set and places are found.
use Rattle.std.proofs.Common.{◌≡◌, ℕ, ◌+◌, List, length, Bool, true, false, Option, Some, None, Result, Ok, Err, refl}
use Rattle.std.specs.Prelude.{not, nat_le, ◌==◌, if◌then◌else◌}
use Rattle.pg_run_trace.specs.pg_num.Places.{ByteRange}
use Rattle.pg_run_trace.specs.pg_num.Pointers.{is_in_range, is_aligned, byte_place}
use Rattle.pg_run_trace.specs.pg_num.declared.limits.TheConstants.{CALL_DEPTH_LIMIT, THREAD_REGISTER_LIMIT}
use Rattle.pg_run_trace.specs.pg_num.declared.operations.DivideFault.{DivideFault}
use Rattle.pg_run_trace.specs.pg_num.declared.operations.DivideFault.TheVariants as divide
use Rattle.pg_run_trace.specs.pg_num.declared.places.PlaceFault.TheVariants as fault
use Rattle.pg_run_trace.specs.pg_ir.declared.request.Request.{Request}
use Rattle.pg_run_trace.specs.pg_ir.declared.request.Request.TheVariants as requests
use Rattle.pg_run_trace.specs.pg_ir.declared.request.TrapName.{TrapName}
use Rattle.pg_run_trace.specs.pg_ir.declared.request.TrapName.TheVariants as traps
use Rattle.pg_run_trace.specs.pg_ir.declared.value.Value.{Value}
use Rattle.pg_run_trace.specs.pg_ir.Program.{NumberedProgram, types_of}
use Rattle.pg_run_trace.specs.pg_ir.Edges.{phis_of}
use Rattle.pg_run_thread.specs.declared.action.Action.{Action}
use Rattle.pg_run_thread.specs.declared.action.Action.TheVariants as actions
use Rattle.pg_run_thread.specs.EdgeStep.{have_values}
use Rattle.pg_run_thread.specs.Operands.{argument}
use Rattle.pg_run_thread.specs.Step.{on_value, are_set, on_all, placed, on_place, on_object, on_null, edge_action, call_action, divided_action, object_action, init_action, barrier_init_action}
use Rattle.pg_run_thread.specs.Step.{create_action, join_at, join_action, wait_request, wait_action}

-- it holds of every trap
abbrev pub OfTraps : (Action → Type 0) → Type 0
OfTraps Q = (n : TrapName) → Q (actions.Trap n)

pub on_value_is : (Q : Action → Type 0) (o : Option ℕ) (act : ℕ → Action) → OfTraps Q → ((n : ℕ) → o ≡ Some n → Q (act n)) → Q (on_value o act)
on_value_is Q None act t h = t traps.Unset
on_value_is Q (Some n) act t h = h n refl

set_or_trap : (Q : Action → Type 0) (b : Bool) (act : Action) → OfTraps Q → Q act → Q (if b then act else actions.Trap traps.Unset)
set_or_trap Q true act t h = h
set_or_trap Q false act t h = t traps.Unset

pub on_all_is : (Q : Action → Type 0) (p : NumberedProgram) (rs : List (Option ℕ)) (vs : List Value) (act : Action) → OfTraps Q → Q act → Q (on_all p rs vs act)
on_all_is Q p rs vs act t h = set_or_trap Q (are_set p rs vs) act t h

placed_is : (Q : Action → Type 0) (bytes start : ℕ) (a b : Bool) (act : ByteRange → Action) → OfTraps Q → ((r : ByteRange) → r.bytes ≡ bytes → Q (act r))
    → Q (placed (if not a then Err fault.OutOfRange else if not b then Err fault.Misaligned else Ok (record { start = start; bytes = bytes })) act)
placed_is Q bytes start false b act t h = t traps.OutOfRange
placed_is Q bytes start true false act t h = t traps.Misaligned
placed_is Q bytes start true true act t h = h (record { start = start; bytes = bytes }) refl

pub on_place_is : (Q : Action → Type 0) (word bytes : ℕ) (act : ByteRange → Action) → OfTraps Q → ((r : ByteRange) → r.bytes ≡ bytes → Q (act r)) → Q (on_place word bytes act)
on_place_is Q word bytes act t h = placed_is Q bytes (byte_place word) (is_in_range word bytes) (is_aligned word bytes) act t h

pub on_object_is : (Q : Action → Type 0) (word : ℕ) (act : ℕ → Action) → OfTraps Q → ((o : ℕ) → Q (act o)) → Q (on_object word act)
on_object_is Q word act t h = on_place_is Q word 8 (λ r. act r.start) t (λ r e. h r.start)

null_or_trap : (Q : Action → Type 0) (b : Bool) (act : Action) → OfTraps Q → Q act → Q (if b then act else actions.Trap traps.BadAttribute)
null_or_trap Q true act t h = h
null_or_trap Q false act t h = t traps.BadAttribute

pub on_null_is : (Q : Action → Type 0) (attribute : ℕ) (act : Action) → OfTraps Q → Q act → Q (on_null attribute act)
on_null_is Q attribute act t h = null_or_trap Q (attribute == 0) act t h

pub edge_is : (Q : Action → Type 0) (p : NumberedProgram) (rs : List (Option ℕ)) (from to : ℕ) → OfTraps Q → Q actions.Local → Q (edge_action p rs from to)
unfolding edge_action
edge_is Q p rs from to t h = set_or_trap Q (have_values p rs from (phis_of p to)) actions.Local t h

call_or_trap : (Q : Action → Type 0) (a b : Bool) → OfTraps Q → Q actions.Local → Q (if a then actions.Trap traps.CallDepth else if b then actions.Local else actions.Trap traps.Registers)
call_or_trap Q true b t h = t traps.CallDepth
call_or_trap Q false true t h = h
call_or_trap Q false false t h = t traps.Registers

pub call_is : (Q : Action → Type 0) (p : NumberedProgram) (g depth used : ℕ) → OfTraps Q → Q actions.Local → Q (call_action p g depth used)
unfolding call_action
call_is Q p g depth used t h = call_or_trap Q (nat_le CALL_DEPTH_LIMIT depth) (nat_le (used + length (types_of p g)) THREAD_REGISTER_LIMIT) t h

pub divided_is : (Q : Action → Type 0) (r : Result ℕ DivideFault) → OfTraps Q → Q actions.Local → Q (divided_action r)
divided_is Q (Ok n) t h = h
divided_is Q (Err divide.Zero) t h = t traps.DivideByZero
divided_is Q (Err divide.Overflow) t h = t traps.DivideOverflow

pub room_is : (Q : Action → Type 0) (b : Bool) → OfTraps Q → Q actions.Local → Q (if b then actions.Local else actions.Trap traps.StackFull)
room_is Q true t h = h
room_is Q false t h = t traps.StackFull

-- ---- calls of known functions

pub number_is : (Q : Action → Type 0) (p : NumberedProgram) (rs : List (Option ℕ)) (args : List Value) (act : ℕ → Action) → OfTraps Q → ((n : ℕ) → Q (act n))
    → Q (on_value (argument p rs args 0) act)
number_is Q p rs args act t h = on_value_is Q (argument p rs args 0) act t (λ n e. h n)

pub object_is : (Q : Action → Type 0) (p : NumberedProgram) (rs : List (Option ℕ)) (args : List Value) (request : ℕ → Request) → OfTraps Q
    → ((o : ℕ) → Q (actions.Event (request o))) → Q (object_action p rs args request)
object_is Q p rs args request t h = number_is Q p rs args _ t (λ w. on_object_is Q w _ t h)

pub init_is : (Q : Action → Type 0) (p : NumberedProgram) (rs : List (Option ℕ)) (args : List Value) (request : ℕ → Request) → OfTraps Q
    → ((o : ℕ) → Q (actions.Event (request o))) → Q (init_action p rs args request)
init_is Q p rs args request t h =
    number_is Q p rs args _ t (λ w.
    on_value_is Q (argument p rs args 1) _ t (λ a e.
    on_object_is Q w _ t (λ o. on_null_is Q a _ t (h o))))

pub barrier_init_is : (Q : Action → Type 0) (p : NumberedProgram) (rs : List (Option ℕ)) (args : List Value) → OfTraps Q → ((o n : ℕ) → Q (actions.Event (requests.BarrierInit o n)))
    → Q (barrier_init_action p rs args)
barrier_init_is Q p rs args t h =
    number_is Q p rs args _ t (λ w.
    on_value_is Q (argument p rs args 1) _ t (λ a e.
    on_value_is Q (argument p rs args 2) _ t (λ n f.
    on_object_is Q w _ t (λ o. on_null_is Q a _ t (h o n)))))

pub wait_is : (Q : Action → Type 0) (p : NumberedProgram) (halfway : Bool) (rs : List (Option ℕ)) (args : List Value) → OfTraps Q
    → ((c m : ℕ) → Q (actions.Event (wait_request halfway c m))) → Q (wait_action p halfway rs args)
wait_is Q p halfway rs args t h =
    number_is Q p rs args _ t (λ c.
    on_value_is Q (argument p rs args 1) _ t (λ m e.
    on_object_is Q c _ t (λ x. on_object_is Q m _ t (λ y. h x y))))

pub create_is : (Q : Action → Type 0) (p : NumberedProgram) (rs : List (Option ℕ)) (args : List Value) → OfTraps Q
    → ((r : ByteRange) (f n : ℕ) → r.bytes ≡ 8 → argument p rs args 2 ≡ Some f → Q (actions.Event (requests.Create r f n))) → Q (create_action p rs args)
create_is Q p rs args t h =
    number_is Q p rs args _ t (λ w.
    on_value_is Q (argument p rs args 1) _ t (λ a e1.
    on_value_is Q (argument p rs args 2) _ t (λ f e2.
    on_value_is Q (argument p rs args 3) _ t (λ n e3.
    on_place_is Q w 8 _ t (λ r k. on_null_is Q a _ t (h r f n k e2))))))

pub either : (Q : Action → Type 0) (b : Bool) (a c : Action) → Q a → Q c → Q (if b then a else c)
either Q true a c h k = h
either Q false a c h k = k

join_at_is : (Q : Action → Type 0) (target w : ℕ) → OfTraps Q → Q (actions.Event (requests.Join target None))
    → ((r : ByteRange) → r.bytes ≡ 8 → Q (actions.Event (requests.Join target (Some r)))) → Q (join_at target w)
join_at_is Q target w t h k = either Q (w == 0) _ _ h (on_place_is Q w 8 _ t k)

pub join_is : (Q : Action → Type 0) (p : NumberedProgram) (rs : List (Option ℕ)) (args : List Value) → OfTraps Q → ((target : ℕ) → Q (actions.Event (requests.Join target None)))
    → ((target : ℕ) (r : ByteRange) → r.bytes ≡ 8 → Q (actions.Event (requests.Join target (Some r)))) → Q (join_action p rs args)
join_is Q p rs args t h k = number_is Q p rs args _ t (λ n. on_value_is Q (argument p rs args 1) _ t (λ w e. join_at_is Q n w t (h n) (k n)))
