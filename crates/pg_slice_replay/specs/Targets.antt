-- The registers that the calls of threads set in their callers, as they are kept: of each thread a row, by the number of calls
-- below a call.
use Rattle.std.specs.Prelude.{◌≡◌, ℕ, ◌+◌, ◌*◌, ◌-◌, ◌<◌, nat_lt, List, [], ◌∷◌, length, Option, Some, None, slice_get, slice_set, if◌then◌else◌}
use Rattle.pg_num.specs.declared.limits.TheConstants.{CALL_DEPTH_LIMIT}
use Rattle.pg_ir.specs.Program.{NumberedProgram}
use Rattle.pg_run_thread.specs.LocalState.{Frame}
use Rattle.pg_run_thread.specs.Operands.{flat}
use Rattle.pg_law_effects.specs.pg_run.Readers.{frames_of}
use Rattle.pg_law_effects.specs.pg_run.State.{State}
use Rattle.pg_slice_rules.specs.Known.{target_of}

-- where the register of a call of thread t stands above which so many calls are
abbrev pub place_of : ℕ → ℕ → ℕ
place_of t below = t * CALL_DEPTH_LIMIT + below

-- with the register of a call above so many
abbrev pub with_target : List (Option ℕ) → ℕ → ℕ → Option ℕ → List (Option ℕ)
with_target targets t below target = if nat_lt below CALL_DEPTH_LIMIT then slice_set targets (place_of t below) target else targets

-- of a call with so many calls, itself included; the first call of a thread has none
abbrev pub target_in : List (Option ℕ) → ℕ → ℕ → Option ℕ
target_in targets t depth = if nat_lt depth 2 then None else flat (slice_get targets (place_of t (depth - 1)))

-- each call of a thread but its first has the register that is kept for it
abbrev pub AreTargetsOf : NumberedProgram → List (Option ℕ) → ℕ → List Frame → Type 0
AreTargetsOf p targets t [] = Unit {0}
AreTargetsOf p targets t (f ∷ []) = Unit {0}
AreTargetsOf p targets t (f ∷ g ∷ fs) =
    (length (g ∷ fs) < CALL_DEPTH_LIMIT) × (slice_get targets (place_of t (length (g ∷ fs))) ≡ Some (target_of (slice_get p.instrs g.place))) × AreTargetsOf p targets t (g ∷ fs)

pub record AreTargets (p : NumberedProgram) (targets : List (Option ℕ)) (s : State) : Type 0 where
  pub count : length targets ≡ 16384
  pub each : (t : ℕ) → AreTargetsOf p targets t (frames_of s t)
