-- The name of each trap, as it is printed.
use Rattle.std.specs.Prelude.{ℕ, List, codes}
use Rattle.pg_ir.specs.declared.request.TrapName.{TrapName}
use Rattle.pg_ir.specs.declared.request.TrapName.TheVariants.{DivideByZero, DivideOverflow, OutOfRange, Misaligned, Unset, Unreachable, CallDepth, Registers, StackFull, NotOwner}
use Rattle.pg_ir.specs.declared.request.TrapName.TheVariants.{WrongObject, BusyObject, TooManyObjects, TooManyThreads, BadAttribute, BadJoin, Deadlock}

abbrev pub trap_text : TrapName → List ℕ
trap_text DivideByZero = codes "DivideByZero"
trap_text DivideOverflow = codes "DivideOverflow"
trap_text OutOfRange = codes "OutOfRange"
trap_text Misaligned = codes "Misaligned"
trap_text Unset = codes "Unset"
trap_text Unreachable = codes "Unreachable"
trap_text CallDepth = codes "CallDepth"
trap_text Registers = codes "Registers"
trap_text StackFull = codes "StackFull"
trap_text NotOwner = codes "NotOwner"
trap_text WrongObject = codes "WrongObject"
trap_text BusyObject = codes "BusyObject"
trap_text TooManyObjects = codes "TooManyObjects"
trap_text TooManyThreads = codes "TooManyThreads"
trap_text BadAttribute = codes "BadAttribute"
trap_text BadJoin = codes "BadJoin"
trap_text Deadlock = codes "Deadlock"
