-- Decisions as lists of step numbers.
use Rattle.std.specs.Prelude.{◌≡◌, ℕ, List, length, Bool}
use Rattle.pg_slice_rules.specs.declared.decision.Decisions.{Decisions}
use Rattle.pg_slice_decisions.specs.Marks.{members_from}

-- the lists are those of two sets of numbers below n: ascending and without doubles
pub record AreListed (n : ℕ) (d : Decisions) : Type 0 where
  pub pins : List Bool
  pub exacts : List Bool
  pub pinned : d.pinned.items ≡ members_from 0 pins
  pub exact : d.exact.items ≡ members_from 0 exacts
  pub pin_count : length pins ≡ n
  pub exact_count : length exacts ≡ n
