-- The lists that instructions and functions hold.
use Rattle.std.specs.Prelude.{List, ℕ}
use Rattle.pg_ir.specs.declared.edge.Case.{Case}
use Rattle.pg_ir.specs.declared.edge.Incoming.{Incoming}
use Rattle.pg_ir.specs.declared.value.Index.{Index}
use Rattle.pg_ir.specs.declared.value.Scalar.{Scalar}
use Rattle.pg_ir.specs.declared.value.Value.{Value}

abbrev pub ValueList : Type 0
ValueList = List Value

abbrev pub ScalarList : Type 0
ScalarList = List Scalar

abbrev pub ByteList : Type 0
ByteList = List ℕ

abbrev pub IncomingList : Type 0
IncomingList = List Incoming

abbrev pub CaseList : Type 0
CaseList = List Case

abbrev pub IndexList : Type 0
IndexList = List Index
