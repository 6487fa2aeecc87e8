-- The names of the functions that a program may call without defining them.
use Rattle.std.specs.Prelude.{ℕ, List, [], ◌∷◌, Option, codes}
use Rattle.std.specs.List.{find}
use Rattle.std.specs.Str.{bytes_eq}
use Rattle.pg_ir.specs.declared.library_call.LibraryCall.{LibraryCall}
use Rattle.pg_ir.specs.declared.library_call.LibraryCall.TheVariants.{PgIn, PgInLen, PgOut, PgPrint, Putchar, Malloc, Free, PthreadCreate}
use Rattle.pg_ir.specs.declared.library_call.LibraryCall.TheVariants.{PthreadJoin, PthreadExit, PthreadMutexInit, PthreadMutexLock}
use Rattle.pg_ir.specs.declared.library_call.LibraryCall.TheVariants.{PthreadMutexTrylock, PthreadMutexUnlock, PthreadMutexDestroy}
use Rattle.pg_ir.specs.declared.library_call.LibraryCall.TheVariants.{PthreadCondInit, PthreadCondWait, PthreadCondSignal}
use Rattle.pg_ir.specs.declared.library_call.LibraryCall.TheVariants.{PthreadCondBroadcast, PthreadCondDestroy, PthreadBarrierInit}
use Rattle.pg_ir.specs.declared.library_call.LibraryCall.TheVariants.{PthreadBarrierWait, PthreadBarrierDestroy}

unfoldable pub known_name : LibraryCall → List ℕ
known_name PgIn = codes "pg_in"
known_name PgInLen = codes "pg_in_len"
known_name PgOut = codes "pg_out"
known_name PgPrint = codes "pg_print"
known_name Putchar = codes "putchar"
known_name Malloc = codes "malloc"
known_name Free = codes "free"
known_name PthreadCreate = codes "pthread_create"
known_name PthreadJoin = codes "pthread_join"
known_name PthreadExit = codes "pthread_exit"
known_name PthreadMutexInit = codes "pthread_mutex_init"
known_name PthreadMutexLock = codes "pthread_mutex_lock"
known_name PthreadMutexTrylock = codes "pthread_mutex_trylock"
known_name PthreadMutexUnlock = codes "pthread_mutex_unlock"
known_name PthreadMutexDestroy = codes "pthread_mutex_destroy"
known_name PthreadCondInit = codes "pthread_cond_init"
known_name PthreadCondWait = codes "pthread_cond_wait"
known_name PthreadCondSignal = codes "pthread_cond_signal"
known_name PthreadCondBroadcast = codes "pthread_cond_broadcast"
known_name PthreadCondDestroy = codes "pthread_cond_destroy"
known_name PthreadBarrierInit = codes "pthread_barrier_init"
known_name PthreadBarrierWait = codes "pthread_barrier_wait"
known_name PthreadBarrierDestroy = codes "pthread_barrier_destroy"

abbrev pub all_known : List LibraryCall
all_known =
    PgIn ∷ PgInLen ∷ PgOut ∷ PgPrint ∷ Putchar ∷ Malloc ∷ Free ∷ PthreadCreate ∷ PthreadJoin ∷ PthreadExit
    ∷ PthreadMutexInit ∷ PthreadMutexLock ∷ PthreadMutexTrylock ∷ PthreadMutexUnlock ∷ PthreadMutexDestroy
    ∷ PthreadCondInit ∷ PthreadCondWait ∷ PthreadCondSignal ∷ PthreadCondBroadcast ∷ PthreadCondDestroy
    ∷ PthreadBarrierInit ∷ PthreadBarrierWait ∷ PthreadBarrierDestroy ∷ []

-- the known function of a name
unfoldable pub known_named : List ℕ → Option LibraryCall
known_named text = find (λ k. bytes_eq (known_name k) text) all_known
