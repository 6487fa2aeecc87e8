-- What a step asks for, by what is known of the operands of its instruction. A step is fixed where it is pinned or exact.
use Rattle.std.specs.Prelude.{◌≡◌, ℕ, zero, suc, ◌<◌, ◌≤◌, ◌||◌, List, [], ◌∷◌, ◌++◌, length, map, Bool, true, false, Option, Some, None, IfSome, slice_index}
use Rattle.std.specs.Prelude.{slice_index_or, if◌then◌else◌}
use Rattle.pg_ir.specs.declared.instr.Op.{Op}
use Rattle.pg_precondition.specs.declared.check.Test.TheVariants as test
use Rattle.pg_run_trace.specs.declared.turn.TurnKind.{TurnKind}
use Rattle.pg_run_trace.specs.declared.turn.TurnKind.TheVariants as turns
use Rattle.pg_run_trace.specs.declared.step.Access.{Access}
use Rattle.pg_run_trace.specs.declared.step.Event.{Event}
use Rattle.pg_run_trace.specs.declared.step.Write.{Write}
use Rattle.pg_run_trace.specs.declared.step.StepKind.{StepKind}
use Rattle.pg_run_trace.specs.declared.step.StepKind.TheVariants as kinds
use Rattle.pg_run_trace.specs.Steps.{access_in}
use Rattle.pg_slice_memory.specs.pg_slice_rules.SymbolicValues.{Symbolic, unset}
use Rattle.pg_slice_memory.specs.pg_slice_rules.Rules.{Need, Value, Bounds, address_index, checked_of, edge_tests, is_malloc, same_bounds, write_index}

abbrev pub at : List Symbolic → ℕ → Symbolic
at ss k = slice_index_or ss k unset

abbrev pub equal_needs : List Symbolic → Event → List ℕ → List Need
equal_needs ss e ks = map (λ k. Value (at ss k) (test.Eq (slice_index e.operands k) ∷ [])) ks

abbrev pub is_start : TurnKind → Bool
is_start turns.Start = true
is_start kind = false

abbrev pub event_needs : List Symbolic → Op → Event → TurnKind → List Need
event_needs ss o e turns.Start = []
event_needs ss o e kind = equal_needs ss e (checked_of o)

-- the values that have to be known
abbrev pub value_needs : Bool → List Symbolic → Op → StepKind → List Need
value_needs fixed ss o (kinds.Branch c) = if fixed then Value (at ss 0) (edge_tests o c) ∷ [] else []
value_needs fixed ss o (kinds.Access a) = if a.event || fixed then Value (at ss (address_index o)) (test.Eq a.pointer ∷ []) ∷ [] else []
value_needs fixed ss o (kinds.Allocation operand result) = if is_malloc o then Value (at ss 0) (test.Eq operand ∷ []) ∷ [] else []
value_needs fixed ss o (kinds.Event e) = event_needs ss o e e.kind
value_needs fixed ss o k = []

-- the operand that is the address of a step's access
abbrev pub access_index : Op → StepKind → ℕ
access_index o (kinds.Event e) = write_index o
access_index o k = address_index o

abbrev pub bounds_by : Symbolic → Option Access → List Need
bounds_by s None = []
bounds_by s (Some a) = Bounds s (same_bounds a.pointer) ∷ []

-- the bounds that have to be known
abbrev pub bounds_needs : List Symbolic → Op → StepKind → List Need
bounds_needs ss o kind = bounds_by (at ss (access_index o kind)) (access_in kind)

abbrev pub step_needs : Bool → List Symbolic → Op → StepKind → List Need
step_needs fixed ss o kind = value_needs fixed ss o kind ++ bounds_needs ss o kind

-- ---- what is read of the operands

-- the numbers below n
abbrev pub below : ℕ → List ℕ
below zero = []
below (suc n) = below n ++ n ∷ []

-- n operands are enough for what a step of this kind asks for
abbrev pub AreEnough : Op → StepKind → ℕ → Type 0
AreEnough o (kinds.Branch c) n = 0 < n
AreEnough o (kinds.Access a) n = address_index o < n
AreEnough o (kinds.Allocation operand result) n = is_malloc o ≡ true → 0 < n
AreEnough o (kinds.Event e) n = (length (checked_of o) ≤ n) × IfSome e.write (λ (w : Write). write_index o < n)
AreEnough o k n = Unit {0}
