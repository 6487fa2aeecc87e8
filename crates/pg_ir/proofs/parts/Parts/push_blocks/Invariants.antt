use Rattle.std.proofs.Common.{◌≡◌, length}
use Rattle.pg_ir.specs.Tables.{AreEntered, AreTables}
use Rattle.pg_ir.proofs.parts.Parts.push_blocks.Given as goal

abbrev pub invariant-loop : goal.invariant-loop
invariant-loop l = record {
  count : length l.tables.blocks.items ≡ l.counter;
  entered : AreEntered l.self l.tables.values.items l.entered;
  tables : AreTables l.self l.tables.edges.items l.tables.values.items l.tables.cases.items l.tables.blocks.items;
}
