-- The kind and the object of a request.
use Rattle.std.specs.Prelude.{ℕ}
use Rattle.pg_ir.specs.declared.request.Request.{Request}
use Rattle.pg_ir.specs.declared.request.Request.TheVariants as requests
use Rattle.pg_run_trace.specs.declared.turn.TurnKind.{TurnKind}
use Rattle.pg_run_trace.specs.declared.turn.TurnKind.TheVariants as kinds

abbrev pub kind_of : Request → TurnKind
kind_of requests.Start = kinds.Start
kind_of (requests.Exit v is_return) = kinds.Exit
kind_of (requests.Create at f a) = kinds.Create
kind_of (requests.Join n at) = kinds.Join
kind_of (requests.MutexInit o) = kinds.MutexInit
kind_of (requests.Lock o) = kinds.Lock
kind_of (requests.Trylock o) = kinds.Trylock
kind_of (requests.Unlock o) = kinds.Unlock
kind_of (requests.MutexDestroy o) = kinds.MutexDestroy
kind_of (requests.CondInit o) = kinds.CondInit
kind_of (requests.Wait c m) = kinds.Wait
kind_of (requests.Wake c m) = kinds.Wake
kind_of (requests.Signal o) = kinds.Signal
kind_of (requests.Broadcast o) = kinds.Broadcast
kind_of (requests.CondDestroy o) = kinds.CondDestroy
kind_of (requests.BarrierInit o n) = kinds.BarrierInit
kind_of (requests.Arrive o) = kinds.Arrive
kind_of (requests.Leave o) = kinds.Leave
kind_of (requests.BarrierDestroy o) = kinds.BarrierDestroy
kind_of (requests.Out n ends_line) = kinds.Out
kind_of (requests.Putchar n) = kinds.Putchar

-- what the request of thread t names, where so many threads are made: a thread by its number, a mutex,
-- condition variable or barrier by its byte place, a print by 0
abbrev pub object_of : ℕ → ℕ → Request → ℕ
object_of t made requests.Start = t
object_of t made (requests.Exit v is_return) = t
object_of t made (requests.Create at f a) = made
object_of t made (requests.Join n at) = n
object_of t made (requests.MutexInit o) = o
object_of t made (requests.Lock o) = o
object_of t made (requests.Trylock o) = o
object_of t made (requests.Unlock o) = o
object_of t made (requests.MutexDestroy o) = o
object_of t made (requests.CondInit o) = o
object_of t made (requests.Wait c m) = c
object_of t made (requests.Wake c m) = c
object_of t made (requests.Signal o) = o
object_of t made (requests.Broadcast o) = o
object_of t made (requests.CondDestroy o) = o
object_of t made (requests.BarrierInit o n) = o
object_of t made (requests.Arrive o) = o
object_of t made (requests.Leave o) = o
object_of t made (requests.BarrierDestroy o) = o
object_of t made (requests.Out n ends_line) = 0
object_of t made (requests.Putchar n) = 0

-- kinds by their number, in the order in which they are declared
abbrev pub kind_number : TurnKind → ℕ
kind_number kinds.Start = 0
kind_number kinds.Exit = 1
kind_number kinds.Create = 2
kind_number kinds.Join = 3
kind_number kinds.MutexInit = 4
kind_number kinds.Lock = 5
kind_number kinds.Trylock = 6
kind_number kinds.Unlock = 7
kind_number kinds.MutexDestroy = 8
kind_number kinds.CondInit = 9
kind_number kinds.Wait = 10
kind_number kinds.Wake = 11
kind_number kinds.Signal = 12
kind_number kinds.Broadcast = 13
kind_number kinds.CondDestroy = 14
kind_number kinds.BarrierInit = 15
kind_number kinds.Arrive = 16
kind_number kinds.Leave = 17
kind_number kinds.BarrierDestroy = 18
kind_number kinds.Out = 19
kind_number kinds.Putchar = 20
kind_number kinds.Load = 21
kind_number kinds.Store = 22
