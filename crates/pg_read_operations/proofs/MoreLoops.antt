-- A loop over items behind commas, where something else may stand behind the last comma.
use Rattle.std.proofs.Common.{[], false, length, arith, refl, Bool, List}
use Rattle.pg_read_grammar.specs.declared.token.Token.{Token}
use Rattle.pg_read_grammar.specs.declared.class.Class.{Class}
use Rattle.pg_read_grammar.specs.Reading.{Read}
use Rattle.pg_read_grammar.specs.ReaderOps.{Listing, begins_listing, listing_at, listing_end_at, more_at}
use Rattle.pg_read_grammar.proofs.Loops.{Runs}
use Rattle.pg_read_operations.specs.Listings.{listing}

-- behind these items, the rest of the list is whole
abbrev pub More : {A : Type 0} → (Class → Bool) → (List Token → Read A) → (List Token → Read (Unit {0})) → Listing A → List Token → Read (Listing A) → Type 0
More fi r end s ts whole = Runs (begins_listing fi) (listing_at r) (listing_end_at end) s ts whole

pub more_start : {A : Type 0} (fi : Class → Bool) (r : List Token → Read A) (end : List Token → Read (Unit {0})) (ts : List Token) → More fi r end (listing [] false) ts (more_at fi r end ts)
unfolding more_at
more_start fi r end ts = (length ts, omega arith, refl)
