use Rattle.std.proofs.Common.{◌≡◌, take}
use Rattle.std.specs.List.{filter_map}
use Rattle.pg_run_trace.specs.declared.step.Step.{Step}
use Rattle.pg_run_trace.specs.Races.{reply_in}
use Rattle.pg_session_entry.proofs.replies.replies_of.Given as goal

abbrev pub invariant-loop-i : goal.invariant-loop-i
invariant-loop-i l = l.replies.items ≡ filter_map (λ (x : Step). reply_in x.kind) (take l.i l.t.steps)
