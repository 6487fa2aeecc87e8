use Rattle.std.proofs.Common.{sym, ◌∙◌}
use Rattle.pg_run.specs.FullGuided.{full_guided_of}
use Rattle.pg_law_runs.proofs.of_pg_law_effects.FullGuidedRun.{full_is}
use Rattle.pg_law_runs.proofs.PermittedRuns as law
use Rattle.pg_law_order.proofs.guided.the_full_guided_run_ends_as_the_ordered_one.Goals as goal

pub returns-clause-run : goal.returns-clause-run
returns-clause-run c p input turns gated full w can o n =
    let g = full_is p input turns gated in
    law.ends p input turns gated can full w o (full_guided_of p input turns gated).trace (full_guided_of p input turns gated).state g.permitted (g.full n).0

pub returns-clause-end : goal.returns-clause-end
returns-clause-end c p input turns gated full w can o n =
    let g = full_is p input turns gated in
    sym (g.full n).1 ∙ (law.ends p input turns gated can full w o (full_guided_of p input turns gated).trace (full_guided_of p input turns gated).state g.permitted (g.full n).0).end
