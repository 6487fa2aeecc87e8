use Rattle.std.proofs.Common.{Option, sym, subst}
use Rattle.std.specs.List.{AllByRecursion}
use Rattle.pg_ir.specs.declared.value.Value.{Value}
use Rattle.pg_law_demands.specs.Cells.{IsMet}
use Rattle.pg_law_demands.specs.Back.{of_optional}
use Rattle.pg_slice_back.proofs.phis.take_phi.Goals as goal

pub returns-then-is_within-clause-wanted : goal.returns-then-is_within-clause-wanted
returns-then-is_within-clause-wanted c = λ s f h.
    let t = c.args.at.thread.0 in
    let k = c.args.at.depth in
    let whole = c.in-Some.whole in
    let was = c.in-Some.ensures.was in
    c.in_ok-want.ensures s t k
    (subst (λ (o : Option Value). AllByRecursion (IsMet s) (of_optional t k whole o)) (sym c.phi_operand.ensures) (f was.0 whole was.1 (c.is_within.ensures c.if-is_within.true was.0 was.1) was.2)) h
