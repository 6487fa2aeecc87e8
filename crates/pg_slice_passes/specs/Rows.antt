-- Footprints in rows: of those that are kept each row has some that stand one behind another, for one step.
use Rattle.std.specs.Prelude.{◌≡◌, ℕ, ◌+◌, ◌≤◌, ◌⊎◌, List, [], ◌∷◌, ◌++◌, length, take, drop, replicate, Bool, true, if◌then◌else◌}
use Rattle.std.specs.List.{list_any, AllByRecursion}
use Rattle.pg_slice_conflicts.specs.declared.footprint.Footprint.{Footprint}
use Rattle.pg_slice_rules.specs.declared.decision.Decision.{Decision}
use Rattle.pg_slice_rules.specs.Known.{Taken}
use Rattle.pg_slice_passes.specs.declared.footprints.Owner.{Owner}
use Rattle.pg_slice_passes.specs.declared.footprints.Footprints.{Footprints}
use Rattle.pg_slice_passes.specs.declared.rows.Row.{Row}
use Rattle.pg_slice_passes.specs.Footprints.{met_asks}

-- what a row has of a list, and what rows have, one after another
abbrev pub in_row : {A : Type 0} → List A → Row → List A
in_row xs r = take r.count (drop r.from xs)

abbrev pub in_rows : {A : Type 0} → List A → List Row → List A
in_rows xs [] = []
in_rows xs (r ∷ rs) = in_row xs r ++ in_rows xs rs

abbrev pub owners_in : List Row → List Owner
owners_in [] = []
owners_in (r ∷ rs) = replicate r.count r.owner ++ owners_in rs

-- all footprints with their owners, in the order in which they were added
abbrev pub all_footprints : Footprints → List Footprint
all_footprints p = in_rows p.kept.items p.rows.items

abbrev pub all_owners : Footprints → List Owner
all_owners p = owners_in p.rows.items

-- a row has only some of so many
abbrev pub IsWithin : ℕ → Row → Type 0
IsWithin count r = r.from + r.count ≤ count

-- rows have only kept footprints, and what is true of one of the kept ones is true of one in a row
pub record AreRows (p : Footprints) : Type 0 where
  pub within : AllByRecursion (IsWithin (length p.kept.items)) p.rows.items
  pub used : (t : Footprint → Bool) → list_any t p.kept.items ≡ true → list_any t (all_footprints p) ≡ true

-- ---- one more

-- the last row has one more, which is the kept one with this number
pub record GoesOn (o : Owner) (n : ℕ) (old new : List Row) : Type 0 where
  pub front : List Row
  pub row : Row
  pub was : old ≡ front ++ row ∷ []
  pub owner : row.owner ≡ o
  pub number : n ≡ row.from + row.count
  pub longer : new ≡ front ++ record { owner = o; from = row.from; count = row.count + 1 } ∷ []

-- it has a row of its own
abbrev pub Begins : Owner → ℕ → List Row → List Row → Type 0
Begins o n old new = new ≡ old ++ record { owner = o; from = n; count = 1 } ∷ []

abbrev pub AddsNumber : Owner → ℕ → List Row → List Row → Type 0
AddsNumber o n old new = GoesOn o n old new ⊎ Begins o n old new

-- a footprint was added with its owner; where no kept one was seen to be equal to it, it is kept
pub record AddsOne (f : Footprint) (o : Owner) (old new : Footprints) : Type 0 where
  pub more : List Footprint
  pub kept : new.kept.items ≡ old.kept.items ++ more
  pub each : AllByRecursion (λ (g : Footprint). g ≡ f) more
  pub footprints : all_footprints new ≡ all_footprints old ++ f ∷ []
  pub owners : all_owners new ≡ all_owners old ++ o ∷ []
  pub rows : AreRows new

-- ---- what is asked

-- by footprints of one step, and whether they are met
abbrev pub asks_of_one : Taken → Owner → List Footprint → List Bool → List Decision
asks_of_one d o [] ms = []
asks_of_one d o (f ∷ fs) [] = []
asks_of_one d o (f ∷ fs) (m ∷ ms) = (if m then met_asks d f.of_region o else []) ++ asks_of_one d o fs ms

abbrev pub asks_of_rows : Taken → List Footprint → List Bool → List Row → List Decision
asks_of_rows d ks ms [] = []
asks_of_rows d ks ms (r ∷ rs) = asks_of_one d r.owner (in_row ks r) (in_row ms r) ++ asks_of_rows d ks ms rs
