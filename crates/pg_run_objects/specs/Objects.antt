-- The table of objects: a finite map from byte places, as a list in ascending order of its places.
use Rattle.std.specs.Prelude.{ℕ, ◌+◌, ◌≤◌, ◌==◌, nat_lt, Bool, true, false, List, [], ◌∷◌, Option, Some, None, if◌then◌else◌}
use Rattle.pg_run_objects.specs.declared.object.Object.{Object}
use Rattle.pg_run_objects.specs.declared.object.Object.TheVariants.{Mutex, Condition, Barrier}
use Rattle.pg_run_objects.specs.declared.object.Entry.{Entry}

abbrev pub entry : ℕ → Object → Entry
entry b o = record { place = b; object = o }

-- the object at a place, if there is one
unfoldable pub object_at : ℕ → List Entry → Option Object
object_at b [] = None
object_at b (e ∷ es) = if nat_lt e.place b then object_at b es else if e.place == b then Some e.object else None

-- the table with this object at a place
unfoldable pub put_object : ℕ → Object → List Entry → List Entry
put_object b o [] = entry b o ∷ []
put_object b o (e ∷ es) =
    if nat_lt e.place b then e ∷ put_object b o es
    else if e.place == b then entry b o ∷ es
    else entry b o ∷ e ∷ es

-- the table without an object at a place
unfoldable pub drop_object : ℕ → List Entry → List Entry
drop_object b [] = []
drop_object b (e ∷ es) =
    if nat_lt e.place b then e ∷ drop_object b es
    else if e.place == b then es
    else e ∷ es

-- ---- what stands at a place

abbrev pub is_missing : Option Object → Bool
is_missing None = true
is_missing (Some o) = false

-- a mutex, or nothing, which the first operation makes a mutex
abbrev pub may_be_mutex : Option Object → Bool
may_be_mutex None = true
may_be_mutex (Some (Mutex holder)) = true
may_be_mutex (Some o) = false

-- a condition variable, or nothing, which the first operation makes one
abbrev pub may_be_condition : Option Object → Bool
may_be_condition None = true
may_be_condition (Some Condition) = true
may_be_condition (Some o) = false

abbrev pub may_be_barrier : Option Object → Bool
may_be_barrier None = true
may_be_barrier (Some (Barrier count arrived)) = true
may_be_barrier (Some o) = false

abbrev pub is_barrier : Option Object → Bool
is_barrier (Some (Barrier count arrived)) = true
is_barrier o = false

-- no thread holds it
abbrev pub is_free : Option Object → Bool
is_free (Some (Mutex (Some t))) = false
is_free o = true

abbrev pub is_held_by : ℕ → Option Object → Bool
is_held_by t (Some (Mutex (Some u))) = u.0 == t
is_held_by t o = false

-- threads have arrived at it in this round
abbrev pub has_arrived : Option Object → Bool
has_arrived (Some (Barrier count arrived)) = nat_lt 0 arrived
has_arrived o = false

-- ---- order

-- each place is at least this one, and above the place before it
unfoldable pub IsAscendingFrom : ℕ → List Entry → Type 0
IsAscendingFrom b [] = Unit {0}
IsAscendingFrom b (e ∷ es) = (b ≤ e.place) × IsAscendingFrom (e.place + 1) es
