use Rattle.std.proofs.Common.{subst}
use Rattle.std.specs.List.{AllByRecursion}
use Rattle.pg_run_trace.specs.declared.step.StepKind.{StepKind}
use Rattle.pg_slice_passes.specs.pg_slice_decisions.Steps.{taken_by}
use Rattle.pg_law_demands.specs.Cells.{IsMet}
use Rattle.pg_law_demands.specs.Demands.{kind_demands}
use Rattle.pg_slice_back.proofs.own.put_own.Goals as goal

pub returns-in_ok-put_event-in-Event : goal.returns-in_ok-put_event-in-Event
returns-in_ok-put_event-in-Event c = λ s y th dp number h m.
    let d = taken_by c.args.decisions.now in
    c.in_ok-put_event-in-Event.ensures d s y th dp (subst (λ (k : StepKind). AllByRecursion (IsMet s) (kind_demands d y c.args.instr.now k)) c.in-Event.is h) m
