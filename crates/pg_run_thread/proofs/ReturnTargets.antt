-- Where a return goes.
use Rattle.std.proofs.Common.{◌≡◌, ℕ, ◌<◌, List, [], ◌∷◌, length, Option, Some, None, refl, arith}
use Rattle.std.specs.Prelude.{slice_get}
use Rattle.std.proofs.lemmas.Option.{slice_get_within}
use Rattle.pg_ir.specs.declared.instr.Instr.{Instr}
use Rattle.pg_ir.specs.Program.{NumberedProgram}
use Rattle.pg_run_thread.specs.LocalState.{Frame}
use Rattle.pg_run_thread.specs.Step.{returned, under_top}
use Rattle.pg_run_thread.specs.Told.{place_in, or_zero}
use Rattle.pg_run_thread.specs.Needs.{CallerFits, ResultFits}

result_below : (p : NumberedProgram) (rs : List (Option ℕ)) (i : ℕ) (o : Option Instr) → slice_get p.instrs i ≡ o → ResultFits rs o → i < length p.instrs
result_below p rs i None e h = absurd h
result_below p rs i (Some x) e h = slice_get_within p.instrs i x e

pub caller_below : (p : NumberedProgram) (fs : List Frame) → CallerFits p fs → 0 < length fs → place_in fs < length p.instrs
caller_below p [] h g = absurd (omega arith)
caller_below p (f ∷ fs) h g = result_below p f.registers f.place (slice_get p.instrs f.place) refl h

-- a return from the first frame leaves none
pub alone : (p : NumberedProgram) (fs : List Frame) (n : ℕ) → length fs ≡ 1 → returned p (under_top fs) n ≡ []
alone p [] n h = refl
alone p (f ∷ []) n h = refl
alone p (f ∷ g ∷ gs) n h = absurd (omega arith)

pub or_zero_zero : (target : Option ℕ) → or_zero target 0 ≡ 0
or_zero_zero None = refl
or_zero_zero (Some r) = refl
