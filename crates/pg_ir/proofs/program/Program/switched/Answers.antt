use Rattle.pg_ir.proofs.GrowingTables.{cases_read}
use Rattle.pg_ir.proofs.program.Program.switched.Goals as goal

pub rows_at-rows-requires : goal.rows_at-rows-requires
rows_at-rows-requires c = rw c.deref.ensures.value (cases_read c.args.self.now _ _ _ _ _ c.args.from.0 c.index-left.result.now c.args.cases.now c.self.view_is c.self.invariant c.requires.from
    c.index-left.ensures c.requires.cases)
