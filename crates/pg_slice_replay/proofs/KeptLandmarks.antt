-- What is kept of a step stands for its landmark.
use Rattle.std.proofs.Common.{◌≡◌, ℕ, ℤ, zero, suc, ◌+◌, ◌≤◌, List, [], ◌∷◌, ◌++◌, length, map, drop, Option, Some, refl, sym, ap, ◌∙◌, subst, arith}
use Rattle.std.specs.Prelude.{slice_get}
use Rattle.std.specs.List.{AllByRecursion}
use Rattle.pg_ir.specs.declared.ids.InstrId.{InstrId}
use Rattle.pg_ir.specs.Program.{NumberedProgram, function_of}
use Rattle.pg_region.specs.Regions.{block_in, block_of}
use Rattle.pg_run_trace.specs.declared.step.Step.{Step}
use Rattle.pg_law_effects.specs.pg_run.MachineStep.{Did, step}
use Rattle.pg_law_effects.specs.pg_run.Readers.{depth_of, frames_in, frames_of}
use Rattle.pg_law_effects.specs.pg_run.Runs.{IsRun, Takes}
use Rattle.pg_law_effects.specs.pg_run.State.{State}
use Rattle.pg_slice_rules.specs.Freeable.{FreeRegion}
use Rattle.pg_slice_rules.specs.Known.{edge_of, function_in}
use Rattle.pg_slice_rules.specs.Moments.{state_after}
use Rattle.pg_slice_replay.specs.declared.at.At.{At}
use Rattle.pg_slice_replay.specs.declared.found.FoundRegion.{FoundRegion}
use Rattle.pg_slice_replay.specs.declared.row.Row.{Row}
use Rattle.pg_slice_replay.specs.Kept.{FitsRow, landmark_in}
use Rattle.pg_slice_replay.specs.Landmarks.{Landmark, landmark_with, moment_in, told_along}
use Rattle.pg_slice_replay.specs.Sought.{IsFreed}
use Rattle.pg_slice_replay.specs.Targets.{AreTargets, target_in}
use Rattle.pg_slice_replay.proofs.PresentInstructions.{IsPresent}
use Rattle.pg_slice_replay.proofs.AddedRows.{fits_last, fits_more, map_last, rows_more}
use Rattle.pg_slice_replay.proofs.TargetsKept.{target_is}

function_is : (p : NumberedProgram) (s : State) (x : Step) → IsPresent p s x → function_of p (block_of p x.instr.0) ≡ function_in (frames_of s x.thread.0)
function_is p s x n =
    let block : block_of p x.instr.0 ≡ n.instr.block.0 = ap block_in (ap (slice_get p.instrs) n.is_place ∙ n.is_instr) in
    let calls : frames_of s x.thread.0 ≡ n.top ∷ n.below = ap frames_in n.is_local ∙ n.is_calls in
    ap (function_of p) block ∙ n.in_function ∙ sym (ap function_in calls)

pub row_is : (p : NumberedProgram) (s : State) (x : Step) (targets : List (Option ℕ)) (free : Option FreeRegion) (regions : List FoundRegion) (old new xs : List At) (r : Row)
    → IsPresent p s x → AreTargets p targets s → r.depth ≡ depth_of s x.thread.0 → r.function ≡ function_of p (block_of p x.instr.0) →
    r.edge ≡ edge_of p (moment_in s x) x.kind → r.target ≡ target_in targets x.thread.0 (depth_of s x.thread.0) → IsFreed free regions old new xs r.free
    → landmark_in new regions r ≡ landmark_with p free s x
row_is p s x targets free regions old new xs r n h d f e t k =
    rw (d, f ∙ function_is p s x n, e, t ∙ target_is p targets s x.thread.0 h, k.given) refl

-- ---- the rows so far, and what is left of the trace

drop_step : (xs : List Step) (i : ℕ) (x : Step) → slice_get xs i ≡ Some x → drop i xs ≡ x ∷ drop (i + 1) xs
drop_step [] zero x e = absurd cc
drop_step [] (suc i) x e = absurd cc
drop_step (y ∷ xs) zero x e = let q : y ≡ x = cc in ap (λ (z : Step). z ∷ xs) q
drop_step (y ∷ xs) (suc i) x e = let q : suc i + 1 ≡ suc (i + 1) = omega arith in rw q (drop_step xs i x e)

-- the first of the steps that are left
pub takes_next : (gated : List InstrId) (p : NumberedProgram) (input : List ℤ) (s z : State) (xs : List Step) (i : ℕ) (x : Step) → slice_get xs i ≡ Some x
    → IsRun gated p input s (drop i xs) z → (k : Takes gated p input s x) × IsRun gated p input k.after (drop (i + 1) xs) z
takes_next gated p input s z xs i x e h = subst (λ (l : List Step). IsRun gated p input s l z) (drop_step xs i x e) h

told_next : (tell : State → Step → Landmark) (gated : List InstrId) (p : NumberedProgram) (input : List ℤ) (s z : State) (xs : List Step) (i : ℕ) (x : Step) → slice_get xs i ≡ Some x
    → step gated p input s x.thread.0 ≡ Did x z → told_along tell gated p input s (drop i xs) ≡ tell s x ∷ told_along tell gated p input z (drop (i + 1) xs)
unfolding told_along
told_next tell gated p input s z xs i x e d =
    ap (told_along tell gated p input s) (drop_step xs i x e)
    ∙ ap (λ (w : State). tell s x ∷ told_along tell gated p input w (drop (i + 1) xs)) (ap (state_after s) d)

seam : (ls : List Landmark) (l : Landmark) (rest : List Landmark) → (ls ++ l ∷ []) ++ rest ≡ ls ++ l ∷ rest
seam [] l rest = refl
seam (m ∷ ls) l rest = ap (λ k. m ∷ k) (seam ls l rest)

pub rows_next : (tell : State → Step → Landmark) (gated : List InstrId) (p : NumberedProgram) (input : List ℤ) (s z : State) (xs : List Step) (i : ℕ) (x : Step)
    (regions : List FoundRegion) (old new added : List At) (rs : List Row) (r : Row) (whole : List Landmark) → slice_get xs i ≡ Some x → step gated p input s x.thread.0 ≡ Did x z →
    AllByRecursion (FitsRow old regions) rs → new ≡ old ++ added → landmark_in new regions r ≡ tell s x
    → map (landmark_in old regions) rs ++ told_along tell gated p input s (drop i xs) ≡ whole →
    map (landmark_in new regions) (rs ++ r ∷ []) ++ told_along tell gated p input z (drop (i + 1) xs) ≡ whole
rows_next tell gated p input s z xs i x regions old new added rs r whole e d fits n l w =
    let rest = told_along tell gated p input z (drop (i + 1) xs) in
    let same : map (landmark_in new regions) rs ≡ map (landmark_in old regions) rs = ap (λ (ats : List At). map (landmark_in ats regions) rs) n ∙ rows_more old added regions rs fits in
    ap (λ (k : List Landmark). k ++ rest) (map_last (landmark_in new regions) rs r)
    ∙ seam (map (landmark_in new regions) rs) (landmark_in new regions r) rest
    ∙ ap (λ (k : List Landmark). k ++ landmark_in new regions r ∷ rest) same
    ∙ ap (λ (m : Landmark). map (landmark_in old regions) rs ++ m ∷ rest) l
    ∙ ap (λ (k : List Landmark). map (landmark_in old regions) rs ++ k) (sym (told_next tell gated p input s z xs i x e d))
    ∙ w

pub fits_next : (regions : List FoundRegion) (old new added : List At) (rs : List Row) (r : Row) → AllByRecursion (FitsRow old regions) rs → new ≡ old ++ added → FitsRow new regions r
    → AllByRecursion (FitsRow new regions) (rs ++ r ∷ [])
fits_next regions old new added rs r fits n f = fits_last new regions rs r (subst (λ (ats : List At). AllByRecursion (FitsRow ats regions) rs) (sym n) (fits_more old added regions rs fits)) f

drop_end : (xs : List Step) (i : ℕ) → length xs ≤ i → drop i xs ≡ []
drop_end [] zero h = refl
drop_end [] (suc i) h = refl
drop_end (x ∷ xs) zero h = absurd (omega (arith, h))
drop_end (x ∷ xs) (suc i) h = drop_end xs i (omega (arith, h))

append_none : (ls : List Landmark) → ls ++ [] ≡ ls
append_none [] = refl
append_none (l ∷ ls) = ap (λ k. l ∷ k) (append_none ls)

-- behind the last step
pub rows_whole : (tell : State → Step → Landmark) (gated : List InstrId) (p : NumberedProgram) (input : List ℤ) (s : State) (xs : List Step) (i : ℕ) (ls whole : List Landmark)
    → length xs ≤ i → ls ++ told_along tell gated p input s (drop i xs) ≡ whole → ls ≡ whole
unfolding told_along
rows_whole tell gated p input s xs i ls whole le e =
    sym (append_none ls) ∙ ap (λ (k : List Landmark). ls ++ k) (ap (told_along tell gated p input s) (sym (drop_end xs i le))) ∙ e
