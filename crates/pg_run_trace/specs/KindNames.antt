-- The name of each kind of event, as it is printed.
use Rattle.std.specs.Prelude.{ℕ, List, [], ◌∷◌, Option, codes}
use Rattle.std.specs.List.{find}
use Rattle.std.specs.Str.{bytes_eq}
use Rattle.pg_run_trace.specs.declared.turn.TurnKind.{TurnKind}
use Rattle.pg_run_trace.specs.declared.turn.TurnKind.TheVariants as kinds

abbrev pub kind_text : TurnKind → List ℕ
kind_text kinds.Start = codes "start"
kind_text kinds.Exit = codes "exit"
kind_text kinds.Create = codes "create"
kind_text kinds.Join = codes "join"
kind_text kinds.MutexInit = codes "mutex-init"
kind_text kinds.Lock = codes "lock"
kind_text kinds.Trylock = codes "trylock"
kind_text kinds.Unlock = codes "unlock"
kind_text kinds.MutexDestroy = codes "mutex-destroy"
kind_text kinds.CondInit = codes "cond-init"
kind_text kinds.Wait = codes "wait"
kind_text kinds.Wake = codes "wake"
kind_text kinds.Signal = codes "signal"
kind_text kinds.Broadcast = codes "broadcast"
kind_text kinds.CondDestroy = codes "cond-destroy"
kind_text kinds.BarrierInit = codes "barrier-init"
kind_text kinds.Arrive = codes "arrive"
kind_text kinds.Leave = codes "leave"
kind_text kinds.BarrierDestroy = codes "barrier-destroy"
kind_text kinds.Out = codes "out"
kind_text kinds.Putchar = codes "putchar"
kind_text kinds.Load = codes "load"
kind_text kinds.Store = codes "store"

-- each kind once
abbrev pub all_kinds : List TurnKind
all_kinds =
    kinds.Start ∷ kinds.Exit ∷ kinds.Create ∷ kinds.Join ∷ kinds.MutexInit ∷ kinds.Lock ∷ kinds.Trylock ∷ kinds.Unlock
    ∷ kinds.MutexDestroy ∷ kinds.CondInit ∷ kinds.Wait ∷ kinds.Wake ∷ kinds.Signal ∷ kinds.Broadcast ∷ kinds.CondDestroy
    ∷ kinds.BarrierInit ∷ kinds.Arrive ∷ kinds.Leave ∷ kinds.BarrierDestroy ∷ kinds.Out ∷ kinds.Putchar ∷ kinds.Load ∷ kinds.Store ∷ []

-- the kind of a name, none where no kind has it
unfoldable pub kind_named : List ℕ → Option TurnKind
kind_named text = find (λ k. bytes_eq (kind_text k) text) all_kinds
