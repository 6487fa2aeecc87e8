-- The parts of what is known of a run on one line: the bytes of memory at their places, and behind them the registers of the
-- calls of the threads.
use Rattle.std.specs.Prelude.{ℕ, ◌+◌, ◌*◌}

-- the place of a call's first register, the call by how many calls its thread has with it on top
abbrev pub call_place : ℕ → ℕ → ℕ
call_place t k = 67108864 + (t * 512 + k) * 4096

abbrev pub register_place : ℕ → ℕ → ℕ → ℕ
register_place t k r = call_place t k + r
