use Rattle.std.proofs.Common.{◌≡◌, map, take}
use Rattle.std.specs.List.{filter_map}
use Rattle.pg_run_trace.specs.declared.step.Step.{Step}
use Rattle.pg_run_trace.specs.Races.{reply_in, with_gated}
use Rattle.pg_schedule.proofs.schedule.replies.Given as goal

abbrev pub invariant-loop-i : goal.invariant-loop-i
invariant-loop-i l = l.replies.items ≡ filter_map (λ (x : Step). reply_in x.kind) (map (with_gated l.gated) (take l.i l.t.steps))
