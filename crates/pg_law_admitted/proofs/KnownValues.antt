-- Of a prefix that keeps the invariant: its steps outside instances, and the values that are known at them.
use Rattle.std.proofs.Common.{◌≡◌, ℕ, ℤ, zero, suc, ◌==◌, ◌++◌, Bool, true, false, cond, List, [], ◌∷◌, map, Option, Some, None, refl, ap, ◌∙◌, subst}
use Rattle.std.specs.Prelude.{filter, slice_get}
use Rattle.std.specs.List.{AllByRecursion as AllOf}
use Rattle.pg_region_accesses.specs.Accesses.{RootedList}
use Rattle.pg_ir.specs.declared.ids.InstrId.{InstrId}
use Rattle.pg_law_threads.proofs.DoneLists.{all_map}
use Rattle.pg_run_thread.specs.LocalState.{Frame, LocalState}
use Rattle.pg_slice_rules.specs.Known.{Taken, thread_of}
use Rattle.pg_slice_rules.specs.SymbolicValues.{Known, OnInput, Symbolic}
use Rattle.pg_law_effects.specs.Views.{local_at}
use Rattle.pg_law_plan.specs.pg_law_runs.Cuts.{IsFrontOf}
use Rattle.pg_law_plan.specs.Likes.{AreCallsLike, AreLike, IsLike, StandLike}
use Rattle.pg_law_plan.specs.Units.{ReferenceRun, standing_of, units_of}
use Rattle.pg_law_plan.proofs.SameReplies.{map_join}
use Rattle.pg_law_admitted.specs.Invariant.{IsOfUnit, Portion, owner, units_by, units_done}
use Rattle.pg_law_admitted.specs.Prefixes.{HasKnownValues, KeepsValues, instr_at, instrs_done}

-- ---- the same instructions

module _ (r : ReferenceRun) (d : Taken) (input : List ℤ) (sums : ℕ → Option RootedList) where
  instrs_are : (t : ℕ) (es : List Portion) → AllOf (IsOfUnit r d input sums) es → instrs_done t es ≡ map instr_at (units_by t (units_done es))
  instrs_are t [] h = refl
  instrs_are t (e ∷ es) h =
      ap (λ (i : ℕ). map (λ (p : Portion). p.step.instr) (cond (t == i) (e ∷ filter (λ (p : Portion). t == p.step.thread.0) es) (filter (λ (p : Portion). t == p.step.thread.0) es)))
      (ap (λ v. v.0) h.0.told.thread)
      ∙ go (t == owner e.unit) (instrs_are t es h.1)
    where
      go : (b : Bool) → instrs_done t es ≡ map instr_at (units_by t (units_done es)) →
          map (λ (p : Portion). p.step.instr) (cond b (e ∷ filter (λ (p : Portion). t == p.step.thread.0) es) (filter (λ (p : Portion). t == p.step.thread.0) es))
          ≡ map instr_at (cond b (e.unit ∷ units_by t (units_done es)) (units_by t (units_done es)))
      go true k = ap (λ (l : List InstrId). e.step.instr ∷ l) k ∙ ap (λ (i : InstrId). i ∷ map instr_at (units_by t (units_done es))) h.0.told.instr
      go false k = k

  same : (t : ℕ) (es : List Portion) → AllOf (IsOfUnit r d input sums) es → IsFrontOf (units_by t (units_done es)) (units_by t (units_of r d))
      → IsFrontOf (instrs_done t es) (map instr_at (units_by t (units_of r d)))
  same t es h f = (
    map instr_at f.0,
    ap (λ (l : List InstrId). Rattle.std.proofs.Common.◌++◌ l (map instr_at f.0)) (instrs_are t es h) ∙ map_join instr_at (units_by t (units_done es)) f.0 ∙ ap (map instr_at) f.1,
  )

  -- ---- known values

  register_known : (ks : List Symbolic) (vs : List (Option ℕ)) (k : ℕ) (f g : OnInput) → AreLike input ks vs → slice_get ks k ≡ Some (Known f g) → slice_get vs k ≡ Some (f input)
  register_known [] vs k f g h e = absurd cc
  register_known (s ∷ ks) [] k f g h e = absurd h
  register_known (s ∷ ks) (v ∷ vs) zero f g h e =
      let same : s ≡ Known f g = cc in
      let like : IsLike input (Known f g) v = subst (λ (z : Symbolic). IsLike input z v) same h.0 in
      ap (λ (o : Option ℕ). Some o) like.0
  register_known (s ∷ ks) (v ∷ vs) (suc k) f g h e = register_known ks vs k f g h.1 e

  call_known : (fs : List Frame) (calls : List (List Symbolic)) (gs : List Frame) (i k : ℕ) (ks : List Symbolic) (f g : OnInput) → AreCallsLike input fs calls gs → slice_get calls i ≡ Some ks
      → slice_get ks k ≡ Some (Known f g) →
      (frame : Frame) × (slice_get gs i ≡ Some frame) × (slice_get frame.registers k ≡ Some (f input))
  call_known fs [] gs i k ks f g h e v = absurd cc
  call_known [] (c ∷ calls) gs i k ks f g h e v = absurd h
  call_known (x ∷ fs) (c ∷ calls) [] i k ks f g h e v = absurd h
  call_known (x ∷ fs) (c ∷ calls) (y ∷ gs) zero k ks f g h e v = let same : c ≡ ks =
      cc in (y, refl, register_known ks y.registers k f g (subst (λ (l : List Symbolic). AreLike input l y.registers) same h.0.registers) v)
  call_known (x ∷ fs) (c ∷ calls) (y ∷ gs) (suc i) k ks f g h e v = call_known fs calls gs i k ks f g h.1 e v

  known : (e : Portion) → IsOfUnit r d input sums e → HasKnownValues input e
  known e h l i k ks f g at c v = go (local_at e.unit.state (owner e.unit))
      (subst (λ (o : Option LocalState). StandLike input (standing_of (local_at e.unit.state (owner e.unit)) (thread_of e.unit.seen.before (owner e.unit)).calls) o) at h.rests.thread)
    where
      go : (o : Option LocalState) → StandLike input (standing_of o (thread_of e.unit.seen.before (owner e.unit)).calls) (Some l)
          → (frame : Frame) × (slice_get l.frames i ≡ Some frame) × (slice_get frame.registers k ≡ Some (f input))
      go None s = absurd s
      go (Some z) s = call_known z.frames (thread_of e.unit.seen.before (owner e.unit)).calls l.frames i k ks f g s.calls c v

  pub values : (es : List Portion) → AllOf (IsOfUnit r d input sums) es → ((t : ℕ) → IsFrontOf (units_by t (units_done es)) (units_by t (units_of r d))) → KeepsValues r d input es
  values es h f = record { same = λ t. same t es h (f t); known = all_map known es h }
