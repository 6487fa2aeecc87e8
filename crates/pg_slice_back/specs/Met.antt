-- What has to be known is known.
use Rattle.std.specs.Prelude.{◌≡◌, ℕ, Bool, true, Some}
use Rattle.pg_slice_rules.specs.Known.{SymbolicState}
use Rattle.pg_law_demands.specs.Cells.{IsMet}
use Rattle.pg_law_demands.specs.Back.{byte_demand, register_demand}
use Rattle.pg_slice_demands.specs.declared.demanded.Demanded.{Demanded}
use Rattle.pg_slice_demands.specs.Asked.{asked_of, asks_byte}

pub record AreMet (s : SymbolicState) (m : Demanded) : Type 0 where
  pub registers : (t k r : ℕ) (w : Bool) → asked_of m t k r ≡ Some w → IsMet s (register_demand t k r w)
  pub bytes : (b : ℕ) → asks_byte m b ≡ true → IsMet s (byte_demand b true)
