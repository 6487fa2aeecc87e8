-- Blocks that are quiet within no set of blocks.
use Rattle.std.specs.Prelude.{◌≡◌, ℕ, ◌<◌, List, length, Bool, true, false, Option, Some, None}
use Rattle.pg_region_paths.specs.pg_ir.Program.{NumberedProgram}
use Rattle.pg_region_accesses.specs.Accesses.{RootedList, block_accesses}
use Rattle.pg_region_accesses.specs.Tables.{in_table}

-- a block is one of these exactly where it is quiet within no set of blocks: each other is quiet within a set that sets no register
pub record AreLoud (p : NumberedProgram) (gated : ℕ → Bool) (sums : ℕ → Option RootedList) (loud : List Bool) : Type 0 where
  pub never : (b : ℕ) → in_table loud b ≡ true → (is_set : ℕ → Bool) → block_accesses false p gated sums is_set b ≡ None
  pub quiet : (b : ℕ) → b < length p.blocks → in_table loud b ≡ false → (accesses : RootedList) × (block_accesses false p gated sums (λ r. false) b ≡ Some accesses)
