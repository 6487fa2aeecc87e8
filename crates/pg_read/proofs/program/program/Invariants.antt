use Rattle.std.proofs.Common.{◌≤◌, ◌-◌, length, drop}
use Rattle.pg_read_grammar.specs.ReaderItems.{begins_next_item, next_item_at, items_end_at, program_at}
use Rattle.pg_read.specs.ItemStates.{items_of}
use Rattle.pg_read_grammar.proofs.Loops.{Runs}
use Rattle.pg_read.proofs.program.program.Given as goal

abbrev pub invariant-reading : goal.invariant-reading
invariant-reading l = (l.place ≤ length l.text.tokens.now) × Runs begins_next_item next_item_at items_end_at (items_of l.items) (drop l.place l.text.tokens.now) (program_at l.text.tokens.now)

abbrev pub decreases-reading : goal.decreases-reading
decreases-reading l = length l.text.tokens.now - l.place
