use Rattle.std.proofs.Common.{map, ◌∙◌, sym, ap}
use Rattle.pg_run_trace.specs.Steps.{access_in}
use Rattle.pg_slice_memory.specs.pg_slice_values.SymbolicNodes.{symbolic_by}
use Rattle.pg_slice_checks.specs.Steps.{access_index, at}
use Rattle.pg_slice_checks.proofs.AskedByCases.{bounds_of_access}
use Rattle.pg_slice_checks.proofs.step.bounds_needs.Goals as goal

pub returns-in_ok-need_bounds : goal.returns-in_ok-need_bounds
returns-in_ok-need_bounds c = λ ns h.
    let s = at (map (symbolic_by ns) c.args.operands.now) (access_index c.args.op.now c.args.kind.now) in
    let is_ = ap (λ k. at (map (symbolic_by ns) c.args.operands.now) k) (sym c.access_index.ensures) ∙ c.operand-at.ensures.value ns in
    rw (bounds_of_access s (access_in c.args.kind.now) c.in-Some.pointer c.in-Some.ensures)
    (rw is_ (c.in_ok-need_bounds.ensures ns (c.operand-at.ensures.is _ h)))
