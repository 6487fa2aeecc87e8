-- Books: which bytes are a book, and why others are none.
use Rattle.std.specs.Prelude.{◌≡◌, ◌≤◌, ◌<◌, ◌^◌, ℕ, ℤ, pos, negsuc, List, length, true, IsUtf8, Some, None}
use Rattle.std.specs.List.{All}
use Rattle.serde_json.specs.Data.{Data, Items}
use Rattle.serde_json.specs.Events.{items_len}
use Rattle.serde_json.specs.Read.{read}
use Rattle.pg_num.specs.declared.limits.TheConstants.{CACHE_LIMIT, NUMBERS_LIMIT, RECORDING_STEP_LIMIT, THREAD_LIMIT}
use Rattle.pg_ir.specs.declared.ids.InstrId.{InstrId}
use Rattle.pg_run_trace.specs.declared.turn.Turn.{Turn}
use Rattle.pg_book.specs.declared.read.BookFault.{BookFault}
use Rattle.pg_book.specs.declared.read.BookFault.TheVariants as faults
use Rattle.pg_book.specs.Parts.{BookEntryParts}
use Rattle.pg_book.specs.Values.{all_as, as_entry, ascend_from, entries_in, first_other}

-- the bytes are JSON of this value: of equal keys of an object the last counts, and blanks and the order of keys don't
abbrev pub IsJson : List ℕ → Data → Type 0
IsJson bytes d = IsUtf8 bytes × (read bytes ≡ Some d)

-- the bytes are JSON of a value with a list of entries, and the list is so
pub record HasEntries (bytes : List ℕ) (IsSo : Items → Type 0) : Type 0 where
  pub value : Data
  pub json : IsJson bytes value
  pub items : Items
  pub outer : entries_in value ≡ Some items
  pub so : IsSo items

-- the bytes are a book with these entries
abbrev pub IsBook : List ℕ → List BookEntryParts → Type 0
IsBook bytes es = HasEntries bytes (λ items. (items_len items ≤ CACHE_LIMIT) × (all_as as_entry items ≡ Some es))

-- why bytes are no book: each fault is there only where those before it aren't
abbrev pub IsFault : BookFault → List ℕ → Type 0
IsFault faults.NotJson bytes = (d : Data) → IsJson bytes d → ⊥
IsFault faults.Outer bytes = (d : Data) × IsJson bytes d × (entries_in d ≡ None)
IsFault faults.TooMany bytes = HasEntries bytes (λ items. CACHE_LIMIT < items_len items)
IsFault (faults.Shape n) bytes = HasEntries bytes (λ items. (items_len items ≤ CACHE_LIMIT) × (first_other 0 items ≡ Some n))
IsFault faults.OutOfMemory bytes = Unit {0}

-- why items are no entries, each of them
abbrev pub IsFaultOfItems : BookFault → Items → Type 0
IsFaultOfItems (faults.Shape n) items = first_other 0 items ≡ Some n
IsFaultOfItems faults.OutOfMemory items = Unit {0}
IsFaultOfItems e items = ⊥

-- ---- entries that may stand in a book

-- an integer of 64 bits
abbrev pub IsSigned : ℤ → Type 0
IsSigned (pos n) = n < 2 ^ 63
IsSigned (negsuc n) = n < 2 ^ 63

pub record IsTurnWithin (t : Turn) : Type 0 where
  pub thread : t.thread.0 < THREAD_LIMIT
  pub instr : t.instr.0 < 2 ^ 32
  pub object : t.object < 2 ^ 64

-- a number of 32 bits
abbrev pub IsIdInRange : InstrId → Type 0
IsIdInRange id = id.0 < 2 ^ 32

-- numbers within the ranges of a turn's types, the thread's aside
pub record IsTurnInRange (t : Turn) : Type 0 where
  pub instr : t.instr.0 < 2 ^ 32
  pub object : t.object < 2 ^ 64

-- the numbers of an entry are within the ranges of their types
pub record HasRanges (e : BookEntryParts) : Type 0 where
  pub numbers : All IsSigned e.input
  pub each_turn : All IsTurnInRange e.turns
  pub ids : All IsIdInRange e.gated

-- few numbers, few turns, and strictly ascending instructions, each within its range
pub record IsWithin (e : BookEntryParts) : Type 0 where
  pub input : length e.input ≤ NUMBERS_LIMIT
  pub numbers : All IsSigned e.input
  pub turns : length e.turns ≤ RECORDING_STEP_LIMIT
  pub each_turn : All IsTurnWithin e.turns
  pub gated : ascend_from 0 e.gated ≡ true
  pub ids : All (λ (id : InstrId). id.0 < 2 ^ 32) e.gated

-- the limits of an entry that the types of its numbers don't have
pub record IsLimited (e : BookEntryParts) : Type 0 where
  pub input : length e.input ≤ NUMBERS_LIMIT
  pub turns : length e.turns ≤ RECORDING_STEP_LIMIT
  pub threads : All (λ (t : Turn). t.thread.0 < THREAD_LIMIT) e.turns
  pub gated : ascend_from 0 e.gated ≡ true

-- few entries, each so limited
abbrev pub AreLimited : List BookEntryParts → Type 0
AreLimited es = (length es ≤ CACHE_LIMIT) × All IsLimited es

-- few entries, each within its limits
abbrev pub AreWithin : List BookEntryParts → Type 0
AreWithin es = (length es ≤ CACHE_LIMIT) × All IsWithin es
