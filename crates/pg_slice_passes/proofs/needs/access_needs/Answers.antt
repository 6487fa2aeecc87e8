use Rattle.pg_slice_registers.specs.SymbolicRegisterNodes.{registers_by}
use Rattle.pg_slice_checks.specs.pg_slice_memory.Changes as bytes
use Rattle.pg_slice_passes.proofs.FixedPaths.{fixed_adds}
use Rattle.pg_slice_passes.proofs.needs.access_needs.Goals as goal

pub returns-then-is_fixed_path-clause-adds : goal.returns-then-is_fixed_path-clause-adds
returns-then-is_fixed_path-clause-adds c = λ ns a g q.
    let frame = c.args.frame.now in
    let regs = registers_by ns frame.registers.now in
    fixed_adds frame.p.now ns (bytes.symbolics_of frame.p.now ns frame.memory.now) regs c.args.access.now c.args.asked.now
    (c.is_fixed_path.ensures.loads c.if-is_fixed_path.true) (c.is_fixed_path.ensures.root c.if-is_fixed_path.true regs) a q
