-- Finding a place in the table of objects.
use Rattle.std.specs.Prelude.{ℕ, ◌<◌, ◌==◌, Bool, false, List, [], ◌∷◌, Option, Some, None, if◌then◌else◌}
use Rattle.pg_run_objects.specs.declared.object.Object.{Object}
use Rattle.pg_run_objects.specs.declared.object.Entry.{Entry}

-- each of these entries is before a place
unfoldable pub AllBelow : ℕ → List Entry → Type 0
AllBelow b [] = Unit {0}
AllBelow b (e ∷ es) = (e.place < b) × AllBelow b es

abbrev pub place_is : ℕ → Option Entry → Bool
place_is b None = false
place_is b (Some e) = e.place == b

abbrev pub object_here : ℕ → Option Entry → Option Object
object_here b None = None
object_here b (Some e) = if e.place == b then Some e.object else None
