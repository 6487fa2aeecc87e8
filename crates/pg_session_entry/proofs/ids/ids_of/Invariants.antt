use Rattle.std.proofs.Common.{◌≡◌, map, take}
use Rattle.pg_run_trace.specs.declared.step.Step.{Step}
use Rattle.pg_session_entry.proofs.ids.ids_of.Given as goal

abbrev pub invariant-loop-i : goal.invariant-loop-i
invariant-loop-i l = l.ids.items ≡ map (λ (x : Step). x.instr) (take l.i l.t.steps)
