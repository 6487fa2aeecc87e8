-- What a function says of the reading that it does.
use Rattle.std.specs.Prelude.{◌≡◌, ◌≤◌, ℕ, List, length, drop, Result, Ok, Err}
use Rattle.pg_read_grammar.specs.declared.token.Token.{Token}
use Rattle.pg_read_grammar.specs.declared.token.ReadRefusal.{ReadRefusal}
use Rattle.pg_read_grammar.specs.declared.token.ReadError.{ReadError}
use Rattle.pg_read_grammar.specs.declared.token.ReadError.TheVariants.{Memory, Refused}
use Rattle.pg_read_grammar.specs.Reading.{Read, Good, Bad}

-- What a refusal says of the reading: the place of the refused token, and its fault.
abbrev pub Refuses : {Y : Type 0} → List Token → ℕ → ReadRefusal → Read Y → Type 0
Refuses ts at r read = (read ≡ Bad r.fault (drop r.at ts)) × (at ≤ r.at) × (r.at ≤ length ts)

-- what a function that failed says of it, unless memory ran out
abbrev pub Fails : {Y : Type 0} → List Token → ℕ → ReadError → Read Y → Type 0
Fails ts at Memory read = Unit {0}
Fails ts at (Refused r) read = Refuses ts at r read

-- What a function returned, with its value and the place after it, is what reading gives.
abbrev pub Gives : {X Y : Type 0} → List Token → ℕ → (X → Y) → (X → ℕ) → X → Read Y → Type 0
Gives ts at value to x read = (read ≡ Good (value x) (drop (to x) ts)) × (at ≤ to x) × (to x ≤ length ts)

abbrev pub Reads : {X Y : Type 0} → List Token → ℕ → (X → Y) → (X → ℕ) → Result X ReadError → Read Y → Type 0
Reads ts at value to (Ok x) read = Gives ts at value to x read
Reads ts at value to (Err e) read = Fails ts at e read

-- the same of a function that takes no memory
abbrev pub Takes : {X Y : Type 0} → List Token → ℕ → (X → Y) → (X → ℕ) → Result X ReadRefusal → Read Y → Type 0
Takes ts at value to (Ok x) read = Gives ts at value to x read
Takes ts at value to (Err r) read = Refuses ts at r read

-- read, with nothing kept
abbrev pub done : List Token → Read (Unit {0})
done ts = Good tt ts
