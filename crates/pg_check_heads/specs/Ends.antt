-- Where globals end, as it is kept: exact up to the first granule at which none may end.
use Rattle.std.specs.Prelude.{ℕ, ◌+◌, min}
use Rattle.pg_num.specs.declared.layout.TheConstants.{GLOBALS_END}

abbrev pub ended : ℕ → ℕ
ended n = min n (GLOBALS_END + 1)
