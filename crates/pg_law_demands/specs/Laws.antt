-- What the laws say.
use Rattle.std.specs.Prelude.{◌≡◌, Contains, true}
use Rattle.pg_law_least.specs.pg_slice_rules.declared.decision.Decision.{Decision}
use Rattle.pg_law_least.specs.pg_slice_rules.Known.{Reference, Taken, has}
use Rattle.pg_law_least.specs.pg_slice_rules.Closed.{AreWithin, IsClosed}
use Rattle.pg_law_demands.specs.Demands.{demanded}

-- each decision that is demanded is in each larger set that is closed
abbrev pub DemandsAreAbove : Reference → Type 0
DemandsAreAbove R = (d e : Taken) → IsClosed R e → AreWithin d e → (x : Decision) → Contains (demanded R d) x → has e x ≡ true
