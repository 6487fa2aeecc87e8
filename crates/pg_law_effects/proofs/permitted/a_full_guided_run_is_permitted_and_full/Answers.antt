use Rattle.pg_run.specs.Guided.{guided_of}
use Rattle.pg_law_effects.proofs.FullGuidedRun.{full_is}
use Rattle.pg_law_effects.proofs.permitted.a_full_guided_run_is_permitted_and_full.Goals as goal
use Rattle.std.proofs.Common.{sym, ◌∙◌}

pub returns-clause-permitted : goal.returns-clause-permitted
returns-clause-permitted c = λ p input turns gated. (full_is p input turns gated).permitted

pub returns-clause-end : goal.returns-clause-end
returns-clause-end c = λ p input turns gated. (full_is p input turns gated).end

pub returns-clause-full : goal.returns-clause-full
returns-clause-full c = λ p input turns gated n. let k = full_is p input turns gated in let h = k.full n in (h.0, h.1 ∙ sym k.end)
