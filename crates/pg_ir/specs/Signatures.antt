-- The parameters and results of the known functions, as the C library and POSIX.1-2017 declare them
-- on a machine of 64 bits.
use Rattle.std.specs.Prelude.{List, [], ◌∷◌, Option, Some, None}
use Rattle.pg_num.specs.declared.width.Width.TheVariants.{W32, W64}
use Rattle.pg_ir.specs.declared.value.Scalar.{Scalar}
use Rattle.pg_ir.specs.declared.value.Scalar.TheVariants.{Int, Ptr}
use Rattle.pg_ir.specs.declared.library_call.LibraryCall.{LibraryCall}
use Rattle.pg_ir.specs.declared.library_call.LibraryCall.TheVariants.{PgIn, PgInLen, PgOut, PgPrint, Putchar, Malloc, Free, PthreadCreate, PthreadJoin, PthreadExit, PthreadMutexInit, PthreadMutexLock}
use Rattle.pg_ir.specs.declared.library_call.LibraryCall.TheVariants.{PthreadMutexTrylock, PthreadMutexUnlock, PthreadMutexDestroy, PthreadCondInit, PthreadCondWait, PthreadCondSignal}
use Rattle.pg_ir.specs.declared.library_call.LibraryCall.TheVariants.{PthreadCondBroadcast, PthreadCondDestroy, PthreadBarrierInit, PthreadBarrierWait, PthreadBarrierDestroy}

abbrev pub parameters_of : LibraryCall → List Scalar
parameters_of PgIn = Int W64 ∷ []
parameters_of PgInLen = []
parameters_of PgOut = Int W64 ∷ []
parameters_of PgPrint = Int W64 ∷ []
parameters_of Putchar = Int W32 ∷ []
parameters_of Malloc = Int W64 ∷ []
parameters_of Free = Ptr ∷ []
parameters_of PthreadCreate = Ptr ∷ Ptr ∷ Ptr ∷ Ptr ∷ []
parameters_of PthreadJoin = Int W64 ∷ Ptr ∷ []
parameters_of PthreadExit = Ptr ∷ []
parameters_of PthreadMutexInit = Ptr ∷ Ptr ∷ []
parameters_of PthreadMutexLock = Ptr ∷ []
parameters_of PthreadMutexTrylock = Ptr ∷ []
parameters_of PthreadMutexUnlock = Ptr ∷ []
parameters_of PthreadMutexDestroy = Ptr ∷ []
parameters_of PthreadCondInit = Ptr ∷ Ptr ∷ []
parameters_of PthreadCondWait = Ptr ∷ Ptr ∷ []
parameters_of PthreadCondSignal = Ptr ∷ []
parameters_of PthreadCondBroadcast = Ptr ∷ []
parameters_of PthreadCondDestroy = Ptr ∷ []
parameters_of PthreadBarrierInit = Ptr ∷ Ptr ∷ Int W32 ∷ []
parameters_of PthreadBarrierWait = Ptr ∷ []
parameters_of PthreadBarrierDestroy = Ptr ∷ []

abbrev pub returned_by : LibraryCall → Option Scalar
returned_by PgIn = Some (Int W64)
returned_by PgInLen = Some (Int W64)
returned_by PgOut = None
returned_by PgPrint = None
returned_by Putchar = Some (Int W32)
returned_by Malloc = Some Ptr
returned_by Free = None
returned_by PthreadExit = None
returned_by _ = Some (Int W32)
