use Rattle.std.proofs.Common.{◌≡◌, ◌+◌, ◌++◌, drop}
use Rattle.pg_ir.specs.Tables.{case_rows}
use Rattle.pg_ir.proofs.prepare.listed_rows.Given as goal

abbrev pub invariant-loop-k : goal.invariant-loop-k
invariant-loop-k l = l.rows.items ++ case_rows (l.k + 1) (drop l.k l.cases) ≡ case_rows 1 l.fn.cases
