use Rattle.std.proofs.Common.{arith}
use Rattle.pg_check_types.proofs.TableTypes.{entry_layout, entry_shorter, types_count}
use Rattle.pg_check_types.proofs.table.TypeTable.layout.Goals as goal

pub entry-shape-requires : goal.entry-shape-requires
entry-shape-requires c = let a = types_count c.args.self.now in omega (arith, a, c.requires)

pub returns-clause-layout : goal.returns-clause-layout
returns-clause-layout c = entry_layout c.args.self.now c.args.number c.entry-shape.result.0 c.entry-shape.result.1 c.entry-shape.ensures.table c.entry-shape.ensures.entry

pub returns-clause-shorter : goal.returns-clause-shorter
returns-clause-shorter c = entry_shorter c.args.self.now c.args.number c.entry-shape.result.0 c.entry-shape.result.1 c.entry-shape.ensures.table c.entry-shape.ensures.entry
