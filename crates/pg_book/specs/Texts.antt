-- The text of a book: what an entry is as a JSON value.
use Rattle.std.specs.Prelude.{ℕ, ℤ, List, [], ◌∷◌, ◌++◌, codes}
use Rattle.serde_json.specs.Data.{Data, Items, array, item, member, no_items, no_members, number, object, string, unsigned}
use Rattle.serde_json.specs.Find.{of_integer}
use Rattle.serde_json.specs.Written.{compact_text}
use Rattle.pg_ir.specs.declared.ids.InstrId.{InstrId}
use Rattle.pg_run_trace.specs.declared.turn.Turn.{Turn}
use Rattle.pg_run_trace.specs.KindNames.{kind_text}
use Rattle.pg_book.specs.Parts.{BookEntryParts}

abbrev pub natural : ℕ → Data
natural n = number (unsigned n)

abbrev pub integer : ℤ → Data
integer n = number (of_integer n)

-- the values of these things, in order
abbrev pub each : {A : Type 0} → (A → Data) → List A → Items
each value_of [] = no_items
each value_of (x ∷ xs) = item (value_of x) (each value_of xs)

abbrev pub id_value : InstrId → Data
id_value id = natural id.0

-- its thread, its instruction, the name of its kind, its object
abbrev pub turn_value : Turn → Data
turn_value t = array (item (natural t.thread.0) (item (natural t.instr.0) (item (string (kind_text t.kind)) (item (natural t.object) no_items))))

abbrev pub entry_value : BookEntryParts → Data
entry_value e = object (member (codes "gated") (array (each id_value e.gated)) (member (codes "input") (array (each integer e.input))
    (member (codes "turns") (array (each turn_value e.turns)) no_members)))

abbrev pub book_value : List BookEntryParts → Data
book_value es = object (member (codes "entries") (array (each entry_value es)) (member (codes "peregrine") (natural 1) no_members))

-- the text of a book: the value's text without blanks, and a line feed
abbrev pub book_text : List BookEntryParts → List ℕ
book_text es = compact_text (book_value es) ++ 10 ∷ []
