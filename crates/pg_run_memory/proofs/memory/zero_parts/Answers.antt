use Rattle.pg_run_memory.proofs.Padding.{zero_parts}
use Rattle.pg_run_memory.proofs.memory.zero_parts.Goals as goal

pub invariant_of-result : goal.invariant_of-result
invariant_of-result c =
    zero_parts c.in_ok-zeros.field-0 c.in_ok-zeros-2.field-0 c.args.globals c.args.threads c.in_ok-zeros.ensures c.in_ok-zeros-2.ensures c.requires.globals c.requires.threads
