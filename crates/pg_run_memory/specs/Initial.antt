-- Memory before the first step of a run.
use Rattle.std.specs.Prelude.{ℕ, ◌+◌, ◌-◌, ◌*◌, List, [], ◌∷◌, length, nat_le, nat_lt, ◌&&◌, if◌then◌else◌, slice_index}
use Rattle.pg_ir.specs.declared.function.GlobalInfo.{GlobalInfo}
use Rattle.pg_run_memory.specs.Memory.{Words, memory_of}

-- the bytes of f, with those of a list from a start on
abbrev pub with_bytes_at : ℕ → List ℕ → (ℕ → ℕ) → ℕ → ℕ
with_bytes_at start bytes f at =
    if nat_le start at && nat_lt at (start + length bytes) then slice_index bytes (at - start) else f at

-- a byte that a global begins with, and zero at each other place
abbrev pub initial_byte : List GlobalInfo → ℕ → ℕ
initial_byte [] at = 0
initial_byte (g ∷ gs) at = with_bytes_at (g.start * 8) g.bytes (initial_byte gs) at

-- the memory before the first step
unfoldable pub initial : List GlobalInfo → Words
initial globals = memory_of (initial_byte globals)
