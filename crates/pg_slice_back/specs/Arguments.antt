-- Operands of events.
use Rattle.std.specs.Prelude.{Bool, true, false}
use Rattle.pg_run_trace.specs.declared.turn.TurnKind.{TurnKind}
use Rattle.pg_run_trace.specs.declared.turn.TurnKind.TheVariants as turns

-- it prints its operand, and gives it back
abbrev pub is_putchar : TurnKind → Bool
is_putchar turns.Putchar = true
is_putchar kind = false
