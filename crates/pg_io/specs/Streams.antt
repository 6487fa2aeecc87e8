-- What is read from a source and written to a sink over several calls. The words on known bytes are those of `std::io`.
use Rattle.std.specs.Prelude.{ℕ, ◌≤◌, List, length, take, Option}
use Rattle.std.specs.Io.KnownBytes.{Appends, Consumes}

-- at most n bytes were taken from what the source told
abbrev pub TakesAtMost : Option (List ℕ) → Option (List ℕ) → ℕ → Type 0
TakesAtMost old new n = (bytes : List ℕ) × Consumes old new bytes × (length bytes ≤ n)

-- a front of the text, maybe nothing of it, was put behind what the sink told
abbrev pub AppendsFront : Option (List ℕ) → Option (List ℕ) → List ℕ → Type 0
AppendsFront old new text = (n : ℕ) × Appends old new (take n text)
