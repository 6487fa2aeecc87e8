-- Synchronisation by the table of POSIX.1-2017: for each request, the check that fails first, whether it
-- is ready, and what it does. Checks come in this order: the kinds of the named objects, room for those
-- that are missing, and their state.
use Rattle.std.specs.Prelude.{ℕ, ◌+◌, ◌%◌, ◌==◌, ◌&&◌, ◌||◌, not, nat_lt, nat_le, List, [], ◌∷◌, ◌++◌, length, filter, find, map, Bool, true, false, Option}
use Rattle.std.specs.Prelude.{Some, None, is_some, Result, Ok, Err, slice_get, slice_set, if◌then◌else◌}
use Rattle.std.specs.List.{list_all, list_any}
use Rattle.pg_ir.specs.pg_num.declared.limits.TheConstants.{THREAD_LIMIT, OBJECT_LIMIT}
use Rattle.pg_ir.specs.declared.request.Request.{Request}
use Rattle.pg_ir.specs.declared.request.Request.TheVariants.{Start, Exit, Create, Join, MutexInit, Lock, Trylock, Unlock, MutexDestroy, CondInit, Wait, Wake, Signal, Broadcast, CondDestroy}
use Rattle.pg_ir.specs.declared.request.Request.TheVariants.{BarrierInit, Arrive, Leave, BarrierDestroy, Out, Putchar}
use Rattle.pg_ir.specs.declared.request.TrapName.{TrapName}
use Rattle.pg_ir.specs.declared.request.TrapName.TheVariants.{NotOwner, WrongObject, BusyObject, TooManyObjects, TooManyThreads, BadJoin}
use Rattle.pg_run_objects.specs.declared.errno.TheConstants.{EBUSY, EINVAL, PTHREAD_BARRIER_SERIAL_THREAD}
use Rattle.pg_run_objects.specs.declared.object.Object.{Object}
use Rattle.pg_run_objects.specs.declared.object.Object.TheVariants.{Mutex, Condition, Barrier}
use Rattle.pg_run_objects.specs.declared.object.Entry.{Entry}
use Rattle.pg_run_objects.specs.declared.status.Stage.{Stage}
use Rattle.pg_run_objects.specs.declared.status.Stage.TheVariants.{Made, Running, Waiting, Arrived, Ended}
use Rattle.pg_run_objects.specs.declared.status.Status.{Status}
use Rattle.pg_run_objects.specs.declared.status.Waiter.{Waiter}
use Rattle.pg_run_objects.specs.declared.reply.Reply.{Reply}
use Rattle.pg_run_objects.specs.declared.reply.SyncTrap.{SyncTrap}
use Rattle.pg_run_objects.specs.Objects.{object_at, put_object, drop_object, is_missing, may_be_mutex, may_be_condition, may_be_barrier, is_barrier, is_free, is_held_by, has_arrived}

-- the objects by place, the threads by number, those that wait on a condition in the order in which
-- they came, and whether main has returned
pub record Sync : Type 0 where
  pub objects : List Entry
  pub threads : List Status
  pub waiters : List Waiter
  pub returned : Bool

abbrev pub made : Status
made = record { stage = Made; joined = false }

-- thread 0 is made
unfoldable pub fresh : Sync
fresh = record { objects = []; threads = made ∷ []; waiters = []; returned = false }

-- ---- threads

abbrev pub stage_in : Option Status → Stage
stage_in None = Ended
stage_in (Some s) = s.stage

abbrev pub stage_of : Sync → ℕ → Stage
stage_of y t = stage_in (slice_get y.threads t)

abbrev pub has_ended : Stage → Bool
has_ended Ended = true
has_ended s = false

abbrev pub is_signalled : Stage → Bool
is_signalled (Waiting signalled) = signalled
is_signalled s = false

abbrev pub is_released : Stage → Bool
is_released (Arrived barrier released last) = released
is_released s = false

abbrev pub was_last : Stage → Bool
was_last (Arrived barrier released last) = last
was_last s = false

abbrev pub all_ended : List Status → Bool
all_ended ss = list_all (λ s. has_ended s.stage) ss

-- the run is over: main has returned, or every thread has ended
unfoldable pub over : Sync → Bool
over y = y.returned || all_ended y.threads

abbrev pub may_join : ℕ → ℕ → Option Status → Bool
may_join t n None = false
may_join t n (Some s) = not (n == t) && not s.joined

-- ---- waiters

abbrev pub waits_on : ℕ → Waiter → Bool
waits_on c w = w.condition == c

abbrev pub has_waiters : ℕ → List Waiter → Bool
has_waiters c ws = list_any (waits_on c) ws

-- ---- checks

-- the first trap of two checks
abbrev pub first_trap : Option TrapName → Option TrapName → Option TrapName
first_trap None later = later
first_trap (Some name) later = Some name

abbrev pub unless : Bool → TrapName → Option TrapName
unless true name = None
unless false name = Some name

abbrev pub one_if : Bool → ℕ
one_if true = 1
one_if false = 0

-- the table has room for so many objects more
abbrev pub room_for : Sync → ℕ → Option TrapName
room_for y n = unless (n == 0 || nat_le (length y.objects + n) OBJECT_LIMIT) TooManyObjects

-- an operation on one object: its kind, its room, its state
abbrev pub check_one : Sync → Bool → Option Object → Option TrapName → Option TrapName
check_one y kind o state = first_trap (unless kind WrongObject) (first_trap (room_for y (one_if (is_missing o))) state)

-- an operation on a condition and a mutex
abbrev pub missing_of : Sync → ℕ → ℕ → ℕ
missing_of y c m = one_if (is_missing (object_at c y.objects)) + one_if (is_missing (object_at m y.objects) && not (c == m))

abbrev pub check_two : Sync → ℕ → ℕ → Option TrapName → Option TrapName
check_two y c m state =
    first_trap (unless (may_be_condition (object_at c y.objects)) WrongObject)
    (first_trap (unless (may_be_mutex (object_at m y.objects)) WrongObject)
    (first_trap (room_for y (missing_of y c m)) state))

-- a barrier that isn't in the table is of the wrong kind
abbrev pub check_barrier : Option Object → Option TrapName → Option TrapName
check_barrier o state = first_trap (unless (is_barrier o) WrongObject) state

-- the trap of the check that fails first
unfoldable pub check : Sync → ℕ → Request → Option TrapName
check y t (Create at f a) = unless (nat_lt (length y.threads) THREAD_LIMIT) TooManyThreads
check y t (Join n at) = unless (may_join t n (slice_get y.threads n)) BadJoin
check y t (MutexInit o) = let x = object_at o y.objects in check_one y (may_be_mutex x) x (unless (is_free x) BusyObject)
check y t (Lock o) = let x = object_at o y.objects in check_one y (may_be_mutex x) x None
check y t (Trylock o) = let x = object_at o y.objects in check_one y (may_be_mutex x) x None
check y t (Unlock o) = let x = object_at o y.objects in check_one y (may_be_mutex x) x (unless (is_held_by t x) NotOwner)
check y t (MutexDestroy o) = let x = object_at o y.objects in check_one y (may_be_mutex x) x (unless (is_free x) BusyObject)
check y t (CondInit o) = let x = object_at o y.objects in check_one y (may_be_condition x) x (unless (not (has_waiters o y.waiters)) BusyObject)
check y t (Wait c m) = check_two y c m (unless (is_held_by t (object_at m y.objects)) NotOwner)
check y t (Wake c m) = check_two y c m None
check y t (Signal o) = let x = object_at o y.objects in check_one y (may_be_condition x) x None
check y t (Broadcast o) = let x = object_at o y.objects in check_one y (may_be_condition x) x None
check y t (CondDestroy o) = let x = object_at o y.objects in check_one y (may_be_condition x) x (unless (not (has_waiters o y.waiters)) BusyObject)
check y t (BarrierInit o n) = let x = object_at o y.objects in check_one y (may_be_barrier x) x (unless (n == 0 || not (has_arrived x)) BusyObject)
check y t (Arrive o) = check_barrier (object_at o y.objects) None
check y t (Leave o) = unless (may_be_barrier (object_at o y.objects)) WrongObject
check y t (BarrierDestroy o) = let x = object_at o y.objects in check_barrier x (unless (not (has_arrived x)) BusyObject)
check y t _ = None

-- ---- readiness

-- what a request whose checks hold waits for
abbrev pub may_go : Sync → ℕ → Request → Bool
may_go y t (Join n at) = has_ended (stage_of y n)
may_go y t (Lock o) = is_free (object_at o y.objects)
may_go y t (Wake c m) = is_signalled (stage_of y t) && is_free (object_at m y.objects)
may_go y t (Leave o) = is_released (stage_of y t)
may_go y t _ = true

-- an operation whose checks fail is ready, and traps
unfoldable pub ready : Sync → ℕ → Request → Bool
ready y t r = is_some (check y t r) || may_go y t r

-- ---- effects

abbrev pub set_stage_in : Option Status → Stage → Status
set_stage_in None s = record { stage = s; joined = false }
set_stage_in (Some x) s = record x { stage = s }

-- thread t comes to this stage
abbrev pub at_stage : ℕ → Stage → List Status → List Status
at_stage t s ss = slice_set ss t (set_stage_in (slice_get ss t) s)

abbrev pub signalled : List Status → Waiter → List Status
signalled ss w = at_stage w.thread.0 (Waiting true) ss

abbrev pub signal_each : List Waiter → List Status → List Status
signal_each [] ss = ss
signal_each (w ∷ ws) ss = signal_each ws (signalled ss w)

-- the first that waits on the condition leaves the waiters
abbrev pub without_first : ℕ → List Waiter → List Waiter
without_first c [] = []
without_first c (w ∷ ws) = if waits_on c w then ws else w ∷ without_first c ws

abbrev pub first_of : Option Waiter → List Waiter
first_of None = []
first_of (Some w) = w ∷ []

-- the thread that has waited longest is signalled
abbrev pub signal : Sync → ℕ → Sync
signal y c = record y {
  threads = signal_each (first_of (find (waits_on c) y.waiters)) y.threads;
  waiters = without_first c y.waiters;
}

-- all that wait are signalled
abbrev pub broadcast : Sync → ℕ → Sync
broadcast y c = record y {
  threads = signal_each (filter (waits_on c) y.waiters) y.threads;
  waiters = filter (λ w. not (waits_on c w)) y.waiters;
}

abbrev pub is_at : ℕ → Stage → Bool
is_at b (Arrived barrier released last) = (barrier == b) && not released
is_at b s = false

abbrev pub release : ℕ → Status → Status
release b s = if is_at b s.stage then record s { stage = Arrived b true false } else s

-- the last to arrive releases all that have arrived in this round
abbrev pub arrive_at : Sync → ℕ → ℕ → Option Object → Sync
arrive_at y t b (Some (Barrier count arrived)) =
    if nat_lt (arrived + 1) count
    then record y { objects = put_object b (Barrier count (arrived + 1)) y.objects; threads = at_stage t (Arrived b false false) y.threads }
    else record y { objects = put_object b (Barrier count 0) y.objects; threads = at_stage t (Arrived b true true) (map (release b) y.threads) }
arrive_at y t b o = y

abbrev pub joined_in : Option Status → Status
joined_in None = record { stage = Ended; joined = true }
joined_in (Some s) = record s { joined = true }

abbrev pub hold : Sync → ℕ → ℕ → List Entry
hold y t m = put_object m (Mutex (Some (record { 0 = t }))) y.objects

abbrev pub give_back : ℕ → List Entry → List Entry
give_back m es = put_object m (Mutex None) es

abbrev pub answer : ℕ → Reply
answer n = record { value = n; exit_of = None }

-- an object of a destroyed condition or mutex is made again by a wake
abbrev pub wake : Sync → ℕ → ℕ → ℕ → Sync
wake y t c m = record y {
  objects = put_object m (Mutex (Some (record { 0 = t }))) (put_object c Condition y.objects);
  threads = at_stage t Running y.threads;
}

abbrev pub wait : Sync → ℕ → ℕ → ℕ → Sync
wait y t c m = record y {
  objects = give_back m (put_object c Condition y.objects);
  threads = at_stage t (Waiting false) y.threads;
  waiters = y.waiters ++ record { condition = c; thread = record { 0 = t } } ∷ [];
}

-- the state and the answer after a request whose checks hold and that is ready
unfoldable pub done : Sync → ℕ → Request → Sync × Reply
done y t Start = (record y { threads = at_stage t Running y.threads }, answer 0)
done y t (Exit v is_return) = (record y { threads = at_stage t Ended y.threads; returned = y.returned || (is_return && t == 0) }, answer 0)
done y t (Create at f a) = (record y { threads = y.threads ++ made ∷ [] }, answer 0)
done y t (Join n at) = (record y { threads = slice_set y.threads n (joined_in (slice_get y.threads n)) }, record { value = 0; exit_of = Some (record { 0 = n }) })
done y t (MutexInit o) = (record y { objects = give_back o y.objects }, answer 0)
done y t (Lock o) = (record y { objects = hold y t o }, answer 0)
done y t (Trylock o) = if is_free (object_at o y.objects) then (record y { objects = hold y t o }, answer 0) else (y, answer EBUSY)
done y t (Unlock o) = (record y { objects = give_back o y.objects }, answer 0)
done y t (MutexDestroy o) = (record y { objects = drop_object o y.objects }, answer 0)
done y t (CondInit o) = (record y { objects = put_object o Condition y.objects }, answer 0)
done y t (Wait c m) = (wait y t c m, answer 0)
done y t (Wake c m) = (wake y t c m, answer 0)
done y t (Signal o) = (signal (record y { objects = put_object o Condition y.objects }) o, answer 0)
done y t (Broadcast o) = (broadcast (record y { objects = put_object o Condition y.objects }) o, answer 0)
done y t (CondDestroy o) = (record y { objects = drop_object o y.objects }, answer 0)
done y t (BarrierInit o n) = if n == 0 then (y, answer EINVAL) else (record y { objects = put_object o (Barrier n 0) y.objects }, answer 0)
done y t (Arrive o) = (arrive_at y t o (object_at o y.objects), answer 0)
done y t (Leave o) = (record y { threads = at_stage t Running y.threads }, answer (if was_last (stage_of y t) then PTHREAD_BARRIER_SERIAL_THREAD else 0))
done y t (BarrierDestroy o) = (record y { objects = drop_object o y.objects }, answer 0)
done y t (Out n ends_line) = (y, answer 0)
done y t (Putchar n) = (y, answer (n % 256))

abbrev pub on_check : Option TrapName → Sync → Sync × Reply → Sync × Result Reply TrapName
on_check None y after = (after.0, Ok after.1)
on_check (Some name) y after = (y, Err name)

-- a request that traps leaves the state as it was
unfoldable pub applied : Sync → ℕ → Request → Sync × Result Reply TrapName
applied y t r = on_check (check y t r) y (done y t r)

-- an answer, with the name of its trap
abbrev pub named : Result Reply SyncTrap → Result Reply TrapName
named (Ok r) = Ok r
named (Err trap) = Err trap.0
