-- The greatest ranks that a table keeps of its nodes.
use Rattle.std.specs.Prelude.{◌≡◌, ℕ, ◌==◌, ◌&&◌, ◌||◌, not, nat_lt, List, Bool, length, slice_index_or}
use Rattle.std.specs.List.{list_any}
use Rattle.pg_run_trace.specs.declared.best.Best.{Best}
use Rattle.pg_slice_conflicts.specs.declared.pass.Touch.{Touch}
use Rattle.pg_run_trace.specs.Best.{IsBest, no_best, other}

abbrev pub best_at : List Best → ℕ → Best
best_at table v = slice_index_or table v no_best

abbrev pub AreBest : List Best → Type 0
AreBest table = (v : ℕ) → IsBest (best_at table v)

-- at this node there is a rank of a thread other than u above a number
abbrev pub has_above : List Best → ℕ → ℕ → ℕ → Bool
has_above table v u need = nat_lt need (other (best_at table v) u)

-- a touch has such a rank
abbrev pub gives : Touch → ℕ → ℕ → Bool
gives x u need = not (x.thread.0 == u) && nat_lt need x.rank

abbrev pub is_among : ℕ → List ℕ → Bool
is_among v vs = list_any (λ w. w == v) vs

-- a table with the rank of a touch noted at these nodes
pub record Noted (old noted : List Best) (vs : List ℕ) (x : Touch) : Type 0 where
  pub as_many : length noted ≡ length old
  pub best : AreBest noted
  pub above : (v u need : ℕ) → has_above noted v u need ≡ (has_above old v u need || (is_among v vs && gives x u need))

-- one of these nodes has a rank of another thread above the one that y needs
abbrev pub any_above : List Best → Touch → List ℕ → Bool
any_above table y vs = list_any (λ v. has_above table v y.thread.0 y.need) vs
