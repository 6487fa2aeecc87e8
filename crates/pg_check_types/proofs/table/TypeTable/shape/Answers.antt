use Rattle.std.proofs.Common.{arith}
use Rattle.pg_check_types.proofs.TableTypes.{entry_type, types_count}
use Rattle.pg_check_types.proofs.table.TypeTable.shape.Goals as goal

pub entry-shape-requires : goal.entry-shape-requires
entry-shape-requires c = let a = types_count c.args.self.now in omega (arith, a, c.requires)

pub returns-clause-same : goal.returns-clause-same
returns-clause-same c = entry_type c.args.self.now c.args.number c.entry-shape.result.0 c.entry-shape.result.1 c.entry-shape.ensures.table c.entry-shape.ensures.entry

pub returns-clause-below : goal.returns-clause-below
returns-clause-below c = c.entry-shape.ensures.table.refers c.args.number c.entry-shape.result.0 c.entry-shape.result.1 c.entry-shape.ensures.entry
