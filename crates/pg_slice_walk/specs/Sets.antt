-- What the region of a branch step may set of what has to be known.
use Rattle.std.specs.Prelude.{◌≡◌, ◌<◌, ℕ, Bool, true, false, Some, IfSome}
use Rattle.pg_slice_rules.specs.Freeable.{FreeRegion}
use Rattle.pg_slice_back.specs.pg_law_least.Keeps.{may_write}
use Rattle.pg_slice_back.specs.pg_slice_replay.declared.run.ReferenceRun.{ReferenceRun}
use Rattle.pg_slice_back.specs.pg_slice_replay.Kept.{landmark_at}
use Rattle.pg_slice_back.specs.pg_slice_replay.Landmarks.{Landmark}
use Rattle.pg_slice_demands.specs.declared.demanded.Demanded.{Demanded}
use Rattle.pg_slice_demands.specs.Asked.{asked_of, asks_byte}
use Rattle.pg_slice_back.specs.Sets.{AsksRegion}

-- nothing that has to be known
pub record SetsNone (q : FreeRegion) (t depth : ℕ) (w : Demanded) : Type 0 where
  pub registers : (i : ℕ) (v : Bool) → asked_of w t depth i ≡ Some v → q.sets i ≡ false
  pub bytes : (b : ℕ) → asks_byte w b ≡ true → may_write q.accesses b ≡ false

-- and nothing is asked of calls that begin in the extent
pub record Passes (q : FreeRegion) (t depth : ℕ) (w : Demanded) : Type 0 where
  pub none : SetsNone q t depth w
  pub above : (j i : ℕ) (v : Bool) → asked_of w t j i ≡ Some v → depth < j → ⊥

-- of step b of a replay, in a call with so many registers
pub record SetsAt (r : ReferenceRun) (b t count : ℕ) (w : Demanded) : Type 0 where
  pub by : IfSome (landmark_at r b) (λ (l : Landmark). IfSome l.region (λ (q : FreeRegion). AsksRegion (Some q) t l.depth count w))

pub record PassesAt (r : ReferenceRun) (b t : ℕ) (w : Demanded) : Type 0 where
  pub by : IfSome (landmark_at r b) (λ (l : Landmark). IfSome l.region (λ (q : FreeRegion). Passes q t l.depth w))
