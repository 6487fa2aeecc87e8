use Rattle.pg_ir.proofs.GrowingTables.{none_entered, no_tables}
use Rattle.pg_ir.proofs.parts.Parts.tables.Goals as goal

pub push_blocks-requires-clause-entered : goal.push_blocks-requires-clause-entered
push_blocks-requires-clause-entered c = rw (c.deref_mut.ensures.value, c.in_ok-entered.ensures) (none_entered c.args.self.now _ _)

pub push_blocks-requires-clause-tables : goal.push_blocks-requires-clause-tables
push_blocks-requires-clause-tables c = rw c.new.ensures.items (no_tables c.args.self.now _ _ _)
