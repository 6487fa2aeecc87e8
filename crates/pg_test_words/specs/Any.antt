-- A rule that says nothing.
use Rattle.std.specs.Prelude.{ℕ, ⊤}
use Rattle.atomic_table.specs.Table.{State, Me, Step}
use Rattle.pg_words.specs.Calls.{NoSlot}

abbrev pub Holds : NoSlot → State NoSlot NoSlot → Type 0
Holds k s = ⊤

abbrev pub Tells : Step NoSlot → Me NoSlot NoSlot → ℕ → Me NoSlot NoSlot → Type 0
Tells st me n after = ⊤
