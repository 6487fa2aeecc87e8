use Rattle.pg_ir.proofs.GrowingTables.{values_front, cases_end}
use Rattle.pg_ir.proofs.prepare.push_cases.Goals as goal

pub returns-clause-front : goal.returns-clause-front
returns-clause-front c = values_front _ _ _ c.in_ok-extend_from_slice.ensures.items

pub returns-clause-table : goal.returns-clause-table
returns-clause-table c = cases_end c.args.cases.now _ _ _ c.in_ok-sorted.ensures (rw c.as_slice.ensures.value at c.in_ok-extend_from_slice.ensures.items)
