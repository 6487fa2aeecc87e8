use Rattle.std.proofs.Common.{◌∙◌, sym}
use Rattle.pg_run_thread.proofs.Computed.{along_operands}
use Rattle.pg_run_thread.proofs.compute.computed_of.Goals as goal

pub returns-in-Gep : goal.returns-in-Gep
returns-in-Gep c =
    rw c.in-Gep.is
    ((rw (c.as_slice.ensures.items, c.number_of-in-Gep.ensures) at c.moved.ensures)
    ∙ sym (along_operands c.args.p.now c.args.registers.now _ c.in-Gep.base c.in-Gep.indices))
