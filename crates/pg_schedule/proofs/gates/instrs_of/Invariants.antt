use Rattle.std.proofs.Common.{◌≡◌, map, take}
use Rattle.pg_run_trace.specs.declared.turn.Race.{Race}
use Rattle.pg_schedule.proofs.gates.instrs_of.Given as goal

abbrev pub invariant-loop-race : goal.invariant-loop-race
invariant-loop-race l = l.ids.items ≡ map (λ (r : Race). r.instr) (take l.race-index l.races)
