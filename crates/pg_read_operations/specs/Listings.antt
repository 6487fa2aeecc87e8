-- Items behind commas, as the code keeps them between two steps.
use Rattle.std.specs.Prelude.{List, Bool, map}
use Rattle.pg_read_grammar.specs.ReaderOps as reader
use Rattle.pg_read_operations.specs.declared.listing.Listing.{Listing}

abbrev pub listing : {A : Type 0} → List A → Bool → reader.Listing A
listing items comma = record { items = items; comma = comma }

abbrev pub listing_of : {X A : Type 0} → (X → A) → Listing X → reader.Listing A
listing_of v l = listing (map v l.items.items) l.comma
