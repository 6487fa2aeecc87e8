-- Closed decisions, the slice, and the inputs that it admits.
use Rattle.std.specs.Prelude.{◌≡◌, ℤ, List, [], ◌++◌, Bool, true}
use Rattle.std.specs.List.{list_all}
use Rattle.pg_precondition.specs.Values.{is_met}
use Rattle.pg_slice_rules.specs.declared.decision.Decision.{Decision}
use Rattle.pg_slice_rules.specs.Known.{Reference, Seen, Taken, has, seen_in}
use Rattle.pg_slice_rules.specs.Rules.{Condition, all_of, asks_disturbed, asks_bounds, asks_pins, asks_shared, asks_values, bounds_needs, need_conditions, value_needs}

-- the decisions that are missing
abbrev pub asks_at : Reference → Taken → List Seen → Seen → List Decision
asks_at R d all x = asks_pins d x ++ asks_values R d x ++ asks_bounds R x ++ asks_disturbed d all x ++ asks_shared d all x

unfoldable pub asks : Reference → Taken → List Decision
asks R d = let all = seen_in R d in all_of (asks_at R d all) all

-- ---- closed decisions

-- the five rules, none of which asks for more
pub record IsClosed (R : Reference) (d : Taken) : Type 0 where
  pub pins : all_of (asks_pins d) (seen_in R d) ≡ []
  pub values : all_of (asks_values R d) (seen_in R d) ≡ []
  pub bounds : all_of (asks_bounds R) (seen_in R d) ≡ []
  pub disturbed : all_of (asks_disturbed d (seen_in R d)) (seen_in R d) ≡ []
  pub shared : all_of (asks_shared d (seen_in R d)) (seen_in R d) ≡ []

-- each decision of the first is one of the second
abbrev pub AreWithin : Taken → Taken → Type 0
AreWithin d e = (x : Decision) → has d x ≡ true → has e x ≡ true

-- the closed decisions that are contained in all that are closed
pub record IsSlice (R : Reference) (d : Taken) : Type 0 where
  pub closed : IsClosed R d
  pub least : (e : Taken) → IsClosed R e → AreWithin d e

-- ---- the precondition

abbrev pub conditions_at : Reference → Taken → Seen → List Condition
conditions_at R d x = all_of need_conditions (value_needs R d x) ++ all_of need_conditions (bounds_needs R x)

-- what an input must give
unfoldable pub conditions : Reference → Taken → List Condition
conditions R d = all_of (conditions_at R d) (seen_in R d)

-- each number is there, and is what it must be
unfoldable pub admits : Reference → Taken → List ℤ → Bool
admits R d input = list_all (λ (c : Condition). is_met c.test (c.value input)) (conditions R d)
