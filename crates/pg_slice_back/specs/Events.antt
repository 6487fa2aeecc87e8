-- What an event sets and writes.
use Rattle.std.specs.Prelude.{ℕ, Bool, true, false, Option, Some, None, if◌then◌else◌}
use Rattle.pg_run_trace.specs.declared.turn.TurnKind.{TurnKind}
use Rattle.pg_run_trace.specs.declared.turn.TurnKind.TheVariants as turns
use Rattle.pg_run_trace.specs.declared.step.Write.{Write}
use Rattle.pg_run_trace.specs.Steps.{range_of, write_by}
use Rattle.pg_slice_rules.specs.SymbolicValues.{is_within}
use Rattle.pg_law_demands.specs.Back.{is_target}

abbrev pub is_exit : TurnKind → Bool
is_exit turns.Exit = true
is_exit kind = false

-- the register that one may set that is no exit: of a start the first
abbrev pub event_target : Option ℕ → TurnKind → Option ℕ
event_target target turns.Start = Some 0
event_target target kind = target

-- the call from which on it may set registers: an exit ends all of the thread
abbrev pub event_depth : ℕ → TurnKind → ℕ
event_depth k kind = if is_exit kind then 0 else k

abbrev pub event_sets : Option ℕ → TurnKind → ℕ → Bool
event_sets target kind r = if is_exit kind then true else is_target (event_target target kind) r

abbrev pub event_writes : Option Write → ℕ → Bool
event_writes None b = false
event_writes (Some w) b = is_within (range_of (write_by w)) b
