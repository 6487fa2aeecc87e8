-- Steps of different threads in overlapping intervals whose bounds meet.
use Rattle.std.specs.Prelude.{◌≡◌, ◌++◌, ◌==◌, ℕ, true, false}
use Rattle.pg_run_trace.specs.Races.{overlap}
use Rattle.pg_run_trace.specs.Steps.{access_in}
use Rattle.pg_slice_rules.specs.Extents.{is_live}
use Rattle.pg_slice_rules.specs.Known.{Reference, Taken, thread_of}
use Rattle.pg_slice_rules.specs.Moments.{Moment, thread_in}
use Rattle.pg_slice_rules.specs.Rules.{any_conflict, is_plain, footprint_of, footprints_in}
use Rattle.pg_slice_walk.specs.pg_law_least.Along.{region_in}
use Rattle.pg_slice_walk.specs.pg_law_least.Keeps.{every}
use Rattle.pg_slice_walk.specs.pg_law_demands.Along.{known_at}

-- each freeable branch step in whose extent the step lies is pinned
abbrev pub IsLiveAt : Reference → Taken → ℕ → Moment → Type 0
IsLiveAt R e n m = is_live e.pinned (thread_of (known_at R every n) (thread_in m)).extents ≡ true

-- bounds of the first step's region meet some of the second's access or region
pub record AreDisturbed (R : Reference) (m y : Moment) : Type 0 where
  pub apart : (thread_in m == thread_in y) ≡ false
  pub together : overlap m.did y.did ≡ true
  pub meet : any_conflict (footprints_in (region_in R m)) (footprint_of (access_in y.did.did.kind) ++ footprints_in (region_in R y)) ≡ true

-- the bounds of the accesses of both meet, and the first isn't an event
pub record AreShared (m y : Moment) : Type 0 where
  pub plain : is_plain m.did.did.kind ≡ true
  pub apart : (thread_in m == thread_in y) ≡ false
  pub together : overlap m.did y.did ≡ true
  pub meet : any_conflict (footprint_of (access_in m.did.did.kind)) (footprint_of (access_in y.did.did.kind)) ≡ true
