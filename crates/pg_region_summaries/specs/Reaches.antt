-- What the calls of functions reach, by the graph of calls.
use Rattle.std.specs.Prelude.{◌≡◌, ℕ, ◌-◌, ◌<◌, ◌^◌, ◌↔◌, List, length, true, false, Contains, slice_index_or}
use Rattle.pg_cfg.specs.Graphs.{EdgeLists, IsReach}
use Rattle.pg_region_summaries.specs.declared.reaches.Reach.{Reach}

-- no function has this number
abbrev pub NO_FUNCTION : ℕ
NO_FUNCTION = 2 ^ 32 - 1

pub record IsReachOf (calls : EdgeLists) (f : ℕ) (r : Reach) : Type 0 where
  pub reached : List ℕ
  pub reach : IsReach calls f NO_FUNCTION reached
  pub size : r.size ≡ length reached
  pub recursive : (r.is_recursive ≡ true) ↔ Contains reached f

abbrev pub reach_at : List Reach → ℕ → Reach
reach_at reaches f = slice_index_or reaches f (record { size = 0; is_recursive = false })

abbrev pub AreReaches : EdgeLists → ℕ → List Reach → Type 0
AreReaches calls n reaches = (f : ℕ) → f < n → IsReachOf calls f (reach_at reaches f)
