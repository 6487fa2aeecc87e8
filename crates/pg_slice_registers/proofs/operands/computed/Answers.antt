use Rattle.std.proofs.Common.{length, ap, sym, ◌∙◌}
use Rattle.std.proofs.lemmas.List.{length-map}
use Rattle.pg_run_thread.specs.Operands.{operands_of}
use Rattle.pg_slice_registers.proofs.operands.computed.Goals as goal

pub result-requires-clause-count : goal.result-requires-clause-count
result-requires-clause-count c =
    ap length c.as_slice.ensures.value
    ∙ sym (length-map c.in_ok-operands.operands.items _)
    ∙ ap length c.in_ok-operands.ensures.value
    ∙ length-map (operands_of c.args.op.now) _
