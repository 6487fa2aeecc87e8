-- Small traces, on which the definitions are computed.
use Rattle.std.specs.Prelude.{ℕ, ◌*◌, ◌^◌, List, [], ◌∷◌, Bool, true, false, Option, Some, None}
use Rattle.pg_run_trace.specs.declared.turn.TurnKind.{TurnKind}
use Rattle.pg_run_trace.specs.declared.turn.TurnKind.TheVariants as turns
use Rattle.pg_run_trace.specs.declared.step.Step.{Step}
use Rattle.pg_run_trace.specs.declared.step.StepKind.TheVariants as kinds
use Rattle.pg_run_trace.specs.declared.step.Write.{Write}

-- a load or a store of eight bytes of this granule
abbrev pub access : ℕ → ℕ → ℕ → Bool → Step
access t id granule writes = record {
  thread = record { 0 = t };
  instr = record { 0 = id };
  kind = kinds.Access (record { pointer = granule * 2 ^ 42; number = 0; bytes = 8; writes = writes; event = false });
}

-- what a thread asks for
abbrev pub asks : ℕ → ℕ → TurnKind → ℕ → Option Write → Step
asks t id kind object write = record {
  thread = record { 0 = t };
  instr = record { 0 = id };
  kind = kinds.Event (record { kind = kind; object = object; operands = 0 ∷ 0 ∷ 0 ∷ 0 ∷ []; reply = 0; write = write });
}

abbrev pub plain : ℕ → ℕ → TurnKind → ℕ → Step
plain t id kind object = asks t id kind object None

-- a write of the number of a new thread to this granule
abbrev pub create : ℕ → ℕ → ℕ → ℕ → Step
create t id new granule = asks t id turns.Create new (Some (record { pointer = granule * 2 ^ 42; number = new }))

-- both threads store to granule 5, each under the mutex at place 8
abbrev pub locked : List Step
locked =
    plain 0 0 turns.Start 0 ∷ create 0 1 1 7 ∷ plain 1 10 turns.Start 1
    ∷ plain 0 2 turns.Lock 8 ∷ access 0 3 5 true ∷ plain 0 4 turns.Unlock 8
    ∷ plain 1 11 turns.Lock 8 ∷ access 1 12 5 true ∷ plain 1 13 turns.Unlock 8 ∷ []

-- the same without the mutex
abbrev pub unlocked : List Step
unlocked = plain 0 0 turns.Start 0 ∷ create 0 1 1 7 ∷ plain 1 10 turns.Start 1 ∷ access 0 3 5 true ∷ access 1 12 5 true ∷ []

-- the main thread stores before it creates a thread, which loads and ends, and stores again once it has joined it
abbrev pub joined : List Step
joined =
    plain 0 0 turns.Start 0 ∷ access 0 1 5 true ∷ create 0 2 1 7 ∷ plain 1 10 turns.Start 1
    ∷ access 1 11 5 false ∷ plain 1 12 turns.Exit 1 ∷ plain 0 3 turns.Join 1 ∷ access 0 4 5 true ∷ []

-- a thread loads what the create of another thread writes
abbrev pub created : List Step
created = plain 0 0 turns.Start 0 ∷ create 0 1 1 7 ∷ plain 1 10 turns.Start 1 ∷ access 1 11 6 false ∷ create 0 2 2 6 ∷ []
