-- Memory as it is kept: the granules of the globals and those of the threads, each with zeros behind the
-- last that was written.
use Rattle.std.specs.Prelude.{◌≡◌, ℕ, zero, suc, ◌-◌, ◌++◌, [], ◌∷◌, length}
use Rattle.pg_ir.specs.pg_num.declared.layout.TheConstants.{GLOBALS_END, GRANULE_COUNT}
use Rattle.pg_run_memory.specs.Memory.{Words, IsMemory}

-- words with zeros behind them up to a length
unfoldable pub padded : ℕ → Words → Words
padded zero ws = ws
padded (suc n) [] = 0 ∷ padded n []
padded (suc n) (w ∷ ws) = w ∷ padded n ws

pub record AreParts (globals threads : Words) : Type 0 where
  pub globals_end : length globals ≡ GLOBALS_END
  pub threads_end : length threads ≡ GRANULE_COUNT - GLOBALS_END
  pub memory : IsMemory (globals ++ threads)
