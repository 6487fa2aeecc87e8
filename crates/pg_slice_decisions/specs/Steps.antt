-- Decisions by tables of the steps that are pinned and of those that are exact.
use Rattle.std.specs.Prelude.{◌≡◌, ℕ, ◌+◌, ◌<◌, length}
use Rattle.pg_slice_rules.specs.declared.decision.Decision.{Decision}
use Rattle.pg_slice_rules.specs.declared.decision.Decision.TheVariants.{Pinned, Exact}
use Rattle.pg_slice_rules.specs.Known.{Taken}
use Rattle.pg_slice_decisions.specs.declared.steps.DecisionSet.{DecisionSet}
use Rattle.pg_slice_decisions.specs.Marks.{in_set, left_in}

abbrev pub taken_by : DecisionSet → Taken
taken_by s = record { pinned = in_set s.pinned.items; exact = in_set s.exact.items }

-- the sets are of the decisions on n steps
pub record AreOf (n : ℕ) (s : DecisionSet) : Type 0 where
  pub pinned : length s.pinned.items ≡ n
  pub exact : length s.exact.items ≡ n

-- how many decisions aren't taken
abbrev pub left_by : DecisionSet → ℕ
left_by s = left_in s.pinned.items + left_in s.exact.items

-- the step that a decision fixes
abbrev pub step_of : Decision → ℕ
step_of (Pinned n) = n
step_of (Exact n) = n
