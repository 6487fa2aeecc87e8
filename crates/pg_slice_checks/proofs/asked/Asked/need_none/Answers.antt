use Rattle.std.proofs.Common.{ap, length}
use Rattle.pg_slice_memory.specs.pg_slice_values.declared.symbolic_node.SymbolicNode.TheVariants as symbolic_node
use Rattle.pg_slice_memory.specs.pg_slice_values.SymbolicNodes.{IsSymbolicNode, number_by}
use Rattle.pg_slice_checks.proofs.OneNeedMore.{many_checks}
use Rattle.pg_slice_checks.proofs.asked.Asked.need_none.Goals as goal

pub returns-in_ok-check_others-in-Known : goal.returns-in_ok-check_others-in-Known
returns-in_ok-check_others-in-Known c = λ ns h.
    let below : IsSymbolicNode (length ns) (symbolic_node.Known c.in-Known.value c.in-Known.bounds) = rw c.in-Known.is at h in
    rw c.in-Known.is (many_checks ns c.args.self.now c.check_others.new.self c.in-Known.value (number_by ns c.in-Known.bounds) c.args.cases.now
    (ap (λ v. v.items) c.in_ok-check_others-in-Known.ensures.missing) c.in_ok-check_others-in-Known.ensures.checks below.0)
