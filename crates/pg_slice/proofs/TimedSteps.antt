-- The steps of a run by their numbers, with their threads and intervals.
use Rattle.std.proofs.Common.{◌≡◌, ℕ, zero, suc, ◌<◌, ℤ, Bool, true, false, List, [], ◌∷◌, ◌++◌, Option, Some, None, length, option_map, slice_get, refl, sym, ap}
use Rattle.std.proofs.Common.{◌∙◌, subst, arith}
use Rattle.std.specs.Prelude.{◌==◌, ◌&&◌, not, nat_lt, slice_index_or, IfSome, is_some}
use Rattle.std.proofs.lemmas.Bool.{true≢false}
use Rattle.pg_ir.specs.declared.ids.InstrId.{InstrId}
use Rattle.pg_ir.specs.Program.{NumberedProgram}
use Rattle.pg_schedule.specs.declared.interval.Interval.{Interval}
use Rattle.pg_schedule.specs.declared.interval.Turns.TheVariants.{Recorded}
use Rattle.pg_schedule.specs.Intervals.{intervals_of}
use Rattle.pg_run_trace.specs.declared.step.Step.{Step}
use Rattle.pg_run_trace.specs.Steps.{access_of}
use Rattle.pg_slice_rules.specs.declared.decision.Decision.TheVariants.{Pinned, Exact}
use Rattle.pg_slice_rules.specs.Freeable.{FreeRegion}
use Rattle.pg_slice_rules.specs.Known.{Taken, is_branch}
use Rattle.pg_slice_rules.specs.Moments.{Moment, moments_of}
use Rattle.pg_slice_rules.specs.Rules.{any_conflict, is_plain, footprint_of, footprints_in}
use Rattle.pg_slice_walk.specs.pg_law_least.Along.{region_in}
use Rattle.pg_slice_walk.specs.pg_slice_replay.declared.run.ReferenceRun.{ReferenceRun}
use Rattle.pg_slice_walk.specs.pg_slice_replay.Kept.{landmark_at}
use Rattle.pg_slice_walk.specs.pg_slice_replay.Landmarks.{Landmark, landmark_of}
use Rattle.pg_slice_walk.specs.pg_slice_passes.Given.{reference_of}
use Rattle.pg_slice_walk.proofs.of_pg_slice_passes.OneStepMore.{has_moment}
use Rattle.pg_slice.specs.Settled.{AreLive, AreTogether, Disturbs, IsOwed, Shares}
use Rattle.pg_slice_walk.specs.Settled.{ArePinned}
use Rattle.pg_slice_walk.proofs.StepMoments.{has_at, index_same}
use Rattle.pg_slice.proofs.FixedByRules.{bound_pinned, disturbed_pinned, shared_exact}
use Rattle.pg_slice.proofs.MoreDecisions.{is_live_at}

some_is : {A : Type 0} (x y : A) → Some x ≡ Some y → x ≡ y
some_is x y q = cc

module _ (xs : List Step) (intervals : List Interval) (are : intervals ≡ intervals_of Recorded xs) where
  -- the moment of a step
  pub record IsTimedAt (n : ℕ) (x : Step) (i : Interval) (m : Moment) : Type 0 where
    pub did : m.did.did ≡ x
    pub low : m.did.low ≡ i.low
    pub high : m.did.high ≡ i.high

  pub timed_at : (gated : List InstrId) (p : NumberedProgram) (input : List ℤ) (n : ℕ) (x : Step) (i : Interval) (m : Moment)
      → slice_get xs n ≡ Some x → i ≡ slice_index_or intervals n i →
      slice_get (moments_of gated p input xs) n ≡ Some m → IsTimedAt n x i m
  timed_at gated p input n x i m h at q =
      let k = has_moment gated p input xs n x i intervals are h at in
      let e : k.moment ≡ m = some_is k.moment m (sym k.stands ∙ q) in
      subst (λ (y : Moment). IsTimedAt n x i y) e (record { did = k.did; low = k.low; high = k.high })

  pub are_together : (n y : ℕ) (x z : Step) (i j : Interval) → slice_get xs n ≡ Some x → slice_get xs y ≡ Some z
      → i ≡ slice_index_or intervals n i → j ≡ slice_index_or intervals y j →
      (x.thread.0 == z.thread.0) ≡ false → (not (nat_lt i.high j.low) && not (nat_lt j.high i.low)) ≡ true → AreTogether xs n y
  are_together n y x z i j h g at aty apart over = record {
    by = λ p regions gated input m my q qy.
        let a = timed_at gated p input n x i m h at q in
        let b = timed_at gated p input y z j my g aty qy in
        (rw (a.did, b.did) apart, rw (a.high, b.high, a.low, b.low) over);
  }

  an_interval : Interval
  an_interval = record { low = 0; high = 0 }

  did_at : (gated : List InstrId) (p : NumberedProgram) (input : List ℤ) (n : ℕ) (x : Step) (m : Moment) → slice_get xs n ≡ Some x
      → slice_get (moments_of gated p input xs) n ≡ Some m → m.did.did ≡ x
  did_at gated p input n x m h q = (timed_at gated p input n x (slice_index_or intervals n an_interval) m h (index_same intervals n an_interval) q).did

  pub disturbs_by : (r : ReferenceRun) (n y : ℕ) (z : Step) → slice_get xs y ≡ Some z → AreTogether xs n y →
      IfSome (landmark_at r n) (λ (l : Landmark). IfSome (landmark_at r y) (λ (k : Landmark).
      any_conflict (footprints_in l.region) (footprint_of (access_of z) ++ footprints_in k.region) ≡ true)) → Disturbs r xs n y
  disturbs_by r n y z g together meet = record {
    by = λ p regions gated input marks m my q qy.
        let R = reference_of p regions gated input xs in
        let t = together.by p regions gated input m my q qy in
        let b : my.did.did ≡ z = did_at gated p input y z my g qy in
        let e : landmark_at r n ≡ Some (landmark_of p regions m) = marks n ∙ ap (option_map (landmark_of p regions)) q in
        let f : landmark_at r y ≡ Some (landmark_of p regions my) = marks y ∙ ap (option_map (landmark_of p regions)) qy in
        let c : any_conflict (footprints_in (region_in R m)) (footprint_of (access_of z) ++ footprints_in (region_in R my)) ≡ true =
        subst (λ (o : Option Landmark). IfSome o (λ (k : Landmark). any_conflict (footprints_in (region_in R m)) (footprint_of (access_of z) ++ footprints_in k.region) ≡ true)) f
        (subst (λ (o : Option Landmark). IfSome o (λ (l : Landmark). IfSome (landmark_at r y) (λ (k : Landmark).
        any_conflict (footprints_in l.region) (footprint_of (access_of z) ++ footprints_in k.region) ≡ true))) e meet) in
        record {
          apart = t.0;
          together = t.1;
          meet = subst (λ (w : Step). any_conflict (footprints_in (region_in R m)) (footprint_of (access_of w) ++ footprints_in (region_in R my)) ≡ true)
              (sym b) c;
        };
  }

  pub shares_by : (n y : ℕ) (x z : Step) → slice_get xs n ≡ Some x → slice_get xs y ≡ Some z → AreTogether xs n y → is_plain x.kind ≡ true →
      any_conflict (footprint_of (access_of x)) (footprint_of (access_of z)) ≡ true → Shares xs n y
  shares_by n y x z h g together plain meet = record {
    by = λ p regions gated input m my q qy.
        let t = together.by p regions gated input m my q qy in
        let a : m.did.did ≡ x = did_at gated p input n x m h q in
        let b : my.did.did ≡ z = did_at gated p input y z my g qy in
        record {
          plain = subst (λ (w : Step). is_plain w.kind ≡ true) (sym a) plain;
          apart = t.0;
          together = t.1;
          meet = subst (λ (w : Step). any_conflict (footprint_of (access_of m.did.did)) (footprint_of (access_of w)) ≡ true) (sym b)
              (subst (λ (w : Step). any_conflict (footprint_of (access_of w)) (footprint_of (access_of z)) ≡ true) (sym a) meet);
        };
  }

  none_in_region : (o : Option FreeRegion) → is_some o ≡ false → o ≡ None
  none_in_region None q = refl
  none_in_region (Some f) q = absurd (true≢false q)

  -- ---- what is owed

  module _ (r : ReferenceRun) (hs : List ℕ) (d : Taken) (n : ℕ) (x : Step) (h : slice_get xs n ≡ Some x) (here : ArePinned hs d (slice_index_or hs n 0)) where
    pub owed_bound : is_branch x.kind ≡ true → IfSome (landmark_at r n) (λ (l : Landmark). false ≡ is_some l.region) → IsOwed r hs xs d (Pinned n)
    owed_bound branch bound = record {
      by = λ p regions gated input marks keeps holds e closed w.
          let R = reference_of p regions gated input xs in
          let k = has_at xs gated p input n x h in
          let f : landmark_at r n ≡ Some (landmark_of p regions k.0) = marks n ∙ ap (option_map (landmark_of p regions)) k.1 in
          let g : false ≡ is_some (region_in R k.0) = subst (λ (o : Option Landmark). IfSome o (λ (l : Landmark). false ≡ is_some l.region)) f bound in
          bound_pinned R keeps e closed n k.0 k.1 (is_live_at R r hs d e n k.0 holds k.1 w here)
          (subst (λ (z : Step). is_branch z.kind ≡ true) (sym k.2) branch) (none_in_region (region_in R k.0) (sym g));
    }

    module _ (y : ℕ) (z : Step) (g : slice_get xs y ≡ Some z) (there : ArePinned hs d (slice_index_or hs y 0)) where
      pub owed_pin : Disturbs r xs n y → IsOwed r hs xs d (Pinned n)
      owed_pin f = record {
        by = λ p regions gated input marks keeps holds e closed w.
            let R = reference_of p regions gated input xs in
            let k = has_at xs gated p input n x h in
            let l = has_at xs gated p input y z g in
            disturbed_pinned R keeps e closed n k.0 k.1 (is_live_at R r hs d e n k.0 holds k.1 w here) y l.0 l.1
            (is_live_at R r hs d e y l.0 holds l.1 w there) (f.by p regions gated input marks k.0 l.0 k.1 l.1);
      }

      pub owed_exact : Shares xs n y → IsOwed r hs xs d (Exact n)
      owed_exact f = record {
        by = λ p regions gated input marks keeps holds e closed w.
            let R = reference_of p regions gated input xs in
            let k = has_at xs gated p input n x h in
            let l = has_at xs gated p input y z g in
            shared_exact R keeps e closed n k.0 k.1 (is_live_at R r hs d e n k.0 holds k.1 w here) y l.0 l.1
            (is_live_at R r hs d e y l.0 holds l.1 w there) (f.by p regions gated input k.0 l.0 k.1 l.1);
      }

-- a step that is there
pub step_there : (xs : List Step) (y : ℕ) → y < length xs → (z : Step) × (slice_get xs y ≡ Some z)
step_there [] y l = absurd (omega (arith, l))
step_there (x ∷ xs) zero l = (x, refl)
step_there (x ∷ xs) (suc y) l = step_there xs y (omega (arith, l))

-- by a live step that was found
pub pin_by : (xs : List Step) (intervals : List Interval) → intervals ≡ intervals_of Recorded xs
    → (r : ReferenceRun) (hs : List ℕ) (d : Taken) (live : List Bool) (n : ℕ) (x : Step) → slice_get xs n ≡ Some x →
    ArePinned hs d (slice_index_or hs n 0) → AreLive hs d live → (y : ℕ) → (y < length xs) × (slice_index_or live y false ≡ true) × Disturbs r xs n y → IsOwed r hs xs d (Pinned n)
pin_by xs intervals are r hs d live n x h here all y f =
    let z = step_there xs y f.0 in
    owed_pin xs intervals are r hs d n x h here y z.0 z.1 (all.by y f.1) f.2

pub exact_by : (xs : List Step) (intervals : List Interval) → intervals ≡ intervals_of Recorded xs
    → (r : ReferenceRun) (hs : List ℕ) (d : Taken) (live : List Bool) (n : ℕ) (x : Step) → slice_get xs n ≡ Some x →
    ArePinned hs d (slice_index_or hs n 0) → AreLive hs d live → (y : ℕ) → (y < length xs) × (slice_index_or live y false ≡ true) × Shares xs n y → IsOwed r hs xs d (Exact n)
exact_by xs intervals are r hs d live n x h here all y f =
    let z = step_there xs y f.0 in
    owed_exact xs intervals are r hs d n x h here y z.0 z.1 (all.by y f.1) f.2
