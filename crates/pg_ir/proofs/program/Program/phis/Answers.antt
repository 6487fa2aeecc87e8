use Rattle.pg_ir.proofs.GrowingTables.{phis_read}
use Rattle.pg_ir.proofs.program.Program.phis.Goals as goal

pub first_phis-requires : goal.first_phis-requires
first_phis-requires c = rw c.instrs_of.ensures (phis_read c.args.self.now _ _ _ _ _ c.args.b.0 c.index-table.result.now c.self.view_is c.self.invariant c.requires c.index-table.ensures)
