use Rattle.std.proofs.Common.{List, sym, ◌∙◌, subst}
use Rattle.std.specs.List.{AllByRecursion}
use Rattle.pg_law_demands.specs.Cells.{Demand, IsMet}
use Rattle.pg_slice_back.proofs.EventOperands.{called}
use Rattle.pg_slice_back.proofs.arguments.put_called.Goals as goal

pub returns : goal.returns
returns c = λ s y th dp h m.
    c.in_ok-put_checked.ensures s y th dp (subst (λ (qs : List Demand). AllByRecursion (IsMet s) qs) (called y c.args.instr.now c.args.kind (sym c.is_start.ensures ∙ c.if-is_start.false)) h) m
