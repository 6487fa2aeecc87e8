-- The lists that a schedule holds.
use Rattle.std.specs.Prelude.{List, ℕ}
use Rattle.pg_ir.specs.declared.ids.InstrId.{InstrId}
use Rattle.pg_run_trace.specs.declared.turn.Turn.{Turn}

abbrev pub TurnList : Type 0
TurnList = List Turn

abbrev pub ReplyList : Type 0
ReplyList = List ℕ

abbrev pub InstrIdList : Type 0
InstrIdList = List InstrId
