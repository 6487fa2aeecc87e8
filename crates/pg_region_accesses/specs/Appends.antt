-- A list to which accesses are added, or that something isn't quiet.
use Rattle.std.specs.Prelude.{◌≡◌, ◌++◌, Bool, true, false, Option, Some, None}
use Rattle.pg_region_accesses.specs.Accesses.{RootedList}

-- the accesses stand behind the old ones if there are any to be had, and else the answer is false
abbrev pub Appends : Option RootedList → RootedList → Bool → RootedList → Type 0
Appends (Some xs) old true new = new ≡ old ++ xs
Appends None old false new = Unit {0}
Appends _ old b new = ⊥

-- these accesses behind others
abbrev pub behind : RootedList → Option RootedList → Option RootedList
behind old None = None
behind old (Some xs) = Some (old ++ xs)
