-- The extents that are open before the steps of a run, as they are kept: each by the number behind that of its branch step, and
-- of that step the next older one.
use Rattle.std.specs.Prelude.{◌≡◌, ◌<◌, ◌≤◌, ℕ, suc, List, [], ◌∷◌, Option, None, Some, option_map, slice_get, slice_index_or, filter, not}
use Rattle.std.specs.List.{AllByRecursion}
use Rattle.pg_slice_rules.specs.Extents.{Extent, ends}
use Rattle.pg_slice_rules.specs.Freeable.{FreeRegion}
use Rattle.pg_slice_rules.specs.Known.{Reference, thread_of}
use Rattle.pg_slice_rules.specs.Moments.{Moment, thread_in}
use Rattle.pg_slice_back.specs.pg_law_least.Keeps.{AreStacked, every}
use Rattle.pg_slice_back.specs.pg_law_demands.Along.{known_at}
use Rattle.pg_slice_back.specs.pg_slice_replay.declared.run.ReferenceRun.{ReferenceRun}
use Rattle.pg_slice_back.specs.pg_slice_replay.Kept.{landmark_at}
use Rattle.pg_slice_back.specs.pg_slice_replay.Landmarks.{Landmark}

-- the extents from the one before this number on, the last begun first
abbrev pub IsChain : List ℕ → ℕ → List Extent → Type 0
IsChain holders h [] = h ≡ 0
IsChain holders h (x ∷ older) = (u : ℕ) × (h ≡ suc x.step) × (slice_get holders x.step ≡ Some u) × IsChain holders u older

-- an extent is that of its branch step
pub record IsNoted (r : ReferenceRun) (x : Extent) : Type 0 where
  pub landmark : Landmark
  pub stands : landmark_at r x.step ≡ Some landmark
  pub depth : landmark.depth ≡ x.depth
  pub join : option_map (λ (f : FreeRegion). f.join) landmark.region ≡ Some x.join

pub record IsHeld (r : ReferenceRun) (holders : List ℕ) (h : ℕ) (es : List Extent) : Type 0 where
  pub chain : IsChain holders h es
  pub noted : AllByRecursion (IsNoted r) es

-- of each step the innermost extent that is open before it
pub record Holds (R : Reference) (r : ReferenceRun) (holders : List ℕ) : Type 0 where
  pub by : (n : ℕ) (m : Moment) → slice_get R.moments n ≡ Some m → IsHeld r holders (slice_index_or holders n 0) (thread_of (known_at R every n) (thread_in m)).extents

-- each is older than its step
pub record AreOlder (holders : List ℕ) : Type 0 where
  pub by : (n : ℕ) → slice_index_or holders n 0 ≤ n

-- behind the beginning of step n, by the number before it
abbrev pub begun_by : Option FreeRegion → ℕ → ℕ → ℕ
begun_by None n before = before
begun_by (Some r) n before = suc n

-- before step n: of each step before it the innermost extent, and of each thread
pub record AreHeld (R : Reference) (r : ReferenceRun) (n : ℕ) (holders tops : List ℕ) : Type 0 where
  pub before : (j : ℕ) (m : Moment) → j < n → slice_get R.moments j ≡ Some m → IsHeld r holders (slice_index_or holders j 0) (thread_of (known_at R every j) (thread_in m)).extents
  pub now : (u : ℕ) → IsHeld r holders (slice_index_or tops u 0) (thread_of (known_at R every n) u).extents

-- of the extents from one on, those that stay open are among those from another on
abbrev pub IsLeft : ReferenceRun → List ℕ → ℕ → Option ℕ → ℕ → ℕ → Type 0
IsLeft r holders depth edge first next =
    (es : List Extent) → AreStacked depth edge es → IsHeld r holders first es →
    (older : List Extent) × IsHeld r holders next older × AreStacked depth edge older
    × (filter (λ (e : Extent). not (ends depth edge e)) es ≡ filter (λ (e : Extent). not (ends depth edge e)) older)
