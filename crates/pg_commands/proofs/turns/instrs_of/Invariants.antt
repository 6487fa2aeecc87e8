use Rattle.std.proofs.Common.{◌≡◌, map, take}
use Rattle.pg_session_book.specs.pg_run_trace.declared.turn.Race.{Race}
use Rattle.pg_commands.proofs.turns.instrs_of.Given as goal

abbrev pub invariant-loop-race : goal.invariant-loop-race
invariant-loop-race l = l.ids.items ≡ map (λ (r : Race). r.instr) (take l.race-index l.races)
