use Rattle.std.proofs.Common.{◌≡◌, Some, arith}
use Rattle.std.specs.Prelude.{slice_get}
use Rattle.std.proofs.lemmas.Grind.{common_steps}
use Rattle.std.proofs.lemmas.Option.{gets}
use Rattle.pg_ir.proofs.BlockParts.{can_go_on}
use Rattle.pg_ir.proofs.ReadableOperands.{instr_reads}
use Rattle.pg_ir.proofs.program.Program.instr.Goals as goal

pub returns-clause-fits : goal.returns-clause-fits
returns-clause-fits c = rw (← c.self.view_is) (c.self.invariant.program.instrs c.args.id.0 _ (grind (arith, common_steps, gets)))

pub returns-clause-operands : goal.returns-clause-operands
returns-clause-operands c =
    let e : slice_get c.self.inside.instrs.items c.args.id.0 ≡ Some c.index.result.now = grind (arith, common_steps, gets) in
    rw (← c.self.view_is) (instr_reads _ c.args.id.0 c.index.result.now (c.self.invariant.program.instrs c.args.id.0 c.index.result.now e))

pub returns-clause-edges : goal.returns-clause-edges
returns-clause-edges c =
    let e : slice_get c.self.inside.instrs.items c.args.id.0 ≡ Some c.index.result.now = grind (arith, common_steps, gets) in
    rw (← c.self.view_is) (can_go_on _ c.args.id.0 c.index.result.now c.self.invariant.program (c.self.invariant.program.instrs c.args.id.0 c.index.result.now e))
