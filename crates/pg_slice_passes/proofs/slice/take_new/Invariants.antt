use Rattle.std.proofs.Common.{◌≡◌, ◌<◌, ◌⊎◌, true, false, take}
use Rattle.std.specs.Prelude.{Contains}
use Rattle.pg_slice_rules.specs.declared.decision.Decision.{Decision}
use Rattle.pg_slice_rules.specs.Known.{has}
use Rattle.pg_slice_decisions.specs.Steps.{AreOf, left_by, step_of, taken_by}
use Rattle.pg_slice_passes.proofs.slice.take_new.Given as goal

abbrev pub invariant-loop-i : goal.invariant-loop-i
invariant-loop-i l =
    AreOf l.steps l.d
    × ((x : Decision) → Contains (take l.i l.missing) x → step_of x < l.steps → has (taken_by l.d) x ≡ true)
    × ((y : Decision) → has (taken_by l.initial.d) y ≡ true → has (taken_by l.d) y ≡ true)
    × ((y : Decision) → has (taken_by l.d) y ≡ true → (has (taken_by l.initial.d) y ≡ true) ⊎ Contains l.missing y)
    × (l.any ≡ false → l.d ≡ l.initial.d)
    × (l.any ≡ true → left_by l.d < left_by l.initial.d)
