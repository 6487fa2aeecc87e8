-- Which entries a JSON value has, if it is the value of a book.
use Rattle.std.specs.Prelude.{ℕ, ◌+◌, ◌^◌, ◌==◌, ◌&&◌, nat_lt, nat_le, ℤ, Bool, true, false, List, [], ◌∷◌, codes, if◌then◌else◌}
use Rattle.std.specs.Prelude.{Option, Some, None, is_some, option_map, option_and_then, unwrap_or}
use Rattle.serde_json.specs.Data.{Data, Items, item, no_items}
use Rattle.serde_json.specs.Events.{items_len, members_len}
use Rattle.serde_json.specs.Find.{as_array, as_i64, as_number, as_object, as_str, as_u64, at, get}
use Rattle.pg_num.specs.declared.limits.TheConstants.{NUMBERS_LIMIT, RECORDING_STEP_LIMIT, THREAD_LIMIT}
use Rattle.pg_ir.specs.declared.ids.InstrId.{InstrId}
use Rattle.pg_run_trace.specs.declared.turn.Turn.{Turn}
use Rattle.pg_run_trace.specs.declared.turn.TurnKind.{TurnKind}
use Rattle.pg_run_trace.specs.KindNames.{kind_named}
use Rattle.pg_book.specs.Parts.{BookEntryParts}

-- ---- numbers

-- a whole number below 2^64
abbrev pub as_natural : Data → Option ℕ
as_natural d = option_and_then as_u64 (as_number d)

-- a whole number of 64 bits with a sign
abbrev pub as_signed : Data → Option ℤ
as_signed d = option_and_then as_i64 (as_number d)

abbrev pub if_below : ℕ → ℕ → Option ℕ
if_below bound n = if nat_lt n bound then Some n else None

abbrev pub as_natural_below : ℕ → Data → Option ℕ
as_natural_below bound d = option_and_then (if_below bound) (as_natural d)

abbrev pub as_id : Data → Option InstrId
as_id d = option_map (λ n. record { 0 = n }) (as_natural_below (2 ^ 32) d)

-- ---- lists and objects

-- what the items are, where each is one
abbrev pub all_as : {A : Type 0} → (Data → Option A) → Items → Option (List A)
all_as as_one no_items = Some []
all_as as_one (item d ds) = option_and_then (λ x. option_map (λ xs. x ∷ xs) (all_as as_one ds)) (as_one d)

-- a list of so many items
abbrev pub has_items : ℕ → Data → Bool
has_items count d = unwrap_or (option_map (λ ds. items_len ds == count) (as_array d)) false

-- an object of so many members
abbrev pub has_members : ℕ → Data → Bool
has_members count d = unwrap_or (option_map (λ ms. members_len ms == count) (as_object d)) false

-- the list under a key
abbrev pub list_at : List ℕ → Data → Option Items
list_at key d = option_and_then as_array (get key d)

abbrev pub if_at_most : ℕ → Items → Option Items
if_at_most count ds = if nat_le (items_len ds) count then Some ds else None

-- what the items are, where they are at most so many and each is one
abbrev pub few_as : {A : Type 0} → (Data → Option A) → ℕ → Items → Option (List A)
few_as as_one count ds = option_and_then (all_as as_one) (if_at_most count ds)

-- ---- turns

abbrev pub as_kind : Data → Option TurnKind
as_kind d = option_and_then kind_named (as_str d)

abbrev pub turn_with : Option ℕ → Option InstrId → Option TurnKind → Option ℕ → Option Turn
turn_with (Some t) (Some i) (Some k) (Some o) = Some (record { thread = record { 0 = t }; instr = i; kind = k; object = o })
turn_with t i k o = None

-- a list of four: a thread, an instruction, the name of a kind, an object
abbrev pub as_turn : Data → Option Turn
as_turn d = if has_items 4 d then turn_with (option_and_then (as_natural_below THREAD_LIMIT) (at 0 d)) (option_and_then as_id (at 1 d))
    (option_and_then as_kind (at 2 d)) (option_and_then as_natural (at 3 d)) else None

-- ---- entries

-- strictly ascending, from this number on
abbrev pub ascend_from : ℕ → List InstrId → Bool
ascend_from least [] = true
ascend_from least (id ∷ ids) = nat_le least id.0 && ascend_from (id.0 + 1) ids

abbrev pub if_ascending : List InstrId → Option (List InstrId)
if_ascending ids = if ascend_from 0 ids then Some ids else None

abbrev pub as_gated : Items → Option (List InstrId)
as_gated ds = option_and_then if_ascending (all_as as_id ds)

abbrev pub entry_with : Option (List InstrId) → Option (List ℤ) → Option (List Turn) → Option BookEntryParts
entry_with (Some gated) (Some input) (Some turns) = Some (record { input = input; turns = turns; gated = gated })
entry_with gated input turns = None

-- an object with just these three keys, each with a list
abbrev pub as_entry : Data → Option BookEntryParts
as_entry d = if has_members 3 d then entry_with (option_and_then as_gated (list_at (codes "gated") d))
    (option_and_then (few_as as_signed NUMBERS_LIMIT) (list_at (codes "input") d))
    (option_and_then (few_as as_turn RECORDING_STEP_LIMIT) (list_at (codes "turns") d)) else None

-- ---- books

abbrev pub is_one : Data → Bool
is_one d = unwrap_or (option_map (λ n. n == 1) (as_natural d)) false

-- an object with two members, the number 1 the one under "peregrine"
abbrev pub is_outer : Data → Bool
is_outer d = has_members 2 d && unwrap_or (option_map is_one (get (codes "peregrine") d)) false

-- the list of the entries, which is the other member
abbrev pub entries_in : Data → Option Items
entries_in d = if is_outer d then list_at (codes "entries") d else None

-- the number of the first item that is no entry, where they are numbered from n on
abbrev pub first_other : ℕ → Items → Option ℕ
first_other n no_items = None
first_other n (item d ds) = if is_some (as_entry d) then first_other (n + 1) ds else Some n
