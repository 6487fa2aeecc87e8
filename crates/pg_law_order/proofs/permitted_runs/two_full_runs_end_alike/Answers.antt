use Rattle.pg_law_runs.proofs.PermittedRuns as law
use Rattle.std.proofs.Common.{sym, ◌∙◌, ap}
use Rattle.pg_run.specs.State.{State}
use Rattle.pg_law_order.proofs.permitted_runs.two_full_runs_end_alike.Goals as goal

pub returns : goal.returns
returns c p input turns gated full xs ys w z v can o h f k g =
    let a = law.ends p input turns gated can full w o xs z h f in
    let b = law.ends p input turns gated can full w o ys v k g in
    (a.state ∙ sym b.state, ap (λ (s : State). s.printed) (a.state ∙ sym b.state), a.end ∙ sym b.end)
