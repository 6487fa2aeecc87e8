-- What a book keeps of an entry.
use Rattle.std.specs.Prelude.{ℤ, List, map}
use Rattle.pg_ir.specs.declared.ids.InstrId.{InstrId}
use Rattle.pg_run_trace.specs.declared.turn.Turn.{Turn}
use Rattle.pg_book.specs.declared.book.Book.{Book}
use Rattle.pg_book.specs.declared.book.BookEntry.{BookEntry}

pub record BookEntryParts : Type 0 where
  -- the input that was recorded
  pub input : List ℤ
  -- the turns of its schedule
  pub turns : List Turn
  -- the loads and stores that are turns
  pub gated : List InstrId

abbrev pub parts_of : BookEntry → BookEntryParts
parts_of e = record { input = e.input.items; turns = e.turns.items; gated = e.gated.items }

-- the parts of each entry, in order
abbrev pub parts_in : Book → List BookEntryParts
parts_in b = map parts_of b.entries.items
