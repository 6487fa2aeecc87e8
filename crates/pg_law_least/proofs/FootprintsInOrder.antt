-- The steps of a reference run and their footprints are in order.
use Rattle.std.proofs.Common.{◌≡◌, ◌≢◌, ℕ, suc, ℤ, ◌≤◌, Bool, true, false, List, [], ◌∷◌, ◌++◌, map, refl, sym, ap, ◌∙◌, subst, arith}
use Rattle.std.specs.List.{AllByRecursion}
use Rattle.pg_ir.specs.declared.ids.InstrId.{InstrId}
use Rattle.pg_ir.specs.Program.{NumberedProgram}
use Rattle.pg_law_threads.specs.Intervals.{Timed}
use Rattle.pg_law_threads.specs.Steps.{EachPair}
use Rattle.pg_run_trace.specs.declared.step.Step.{Step}
use Rattle.pg_run_trace.specs.Races.{recorded, timed_by}
use Rattle.pg_slice_rules.specs.pg_run.MachineStep.{step}
use Rattle.pg_slice_rules.specs.pg_run.State.{State, initial}
use Rattle.pg_law_threads.specs.Intervals.{owners}
use Rattle.pg_law_threads.proofs.OwnTurns.{own_turns}
use Rattle.pg_law_threads.proofs.TimedSteps.{low_high}
use Rattle.pg_slice_conflicts.specs.declared.footprint.Footprint.{Footprint}
use Rattle.pg_slice_conflicts.specs.Meets.{InOrder}
use Rattle.pg_slice_rules.specs.Freeable.{Regions}
use Rattle.pg_slice_rules.specs.Known.{Reference, SymbolicState, Seen, Taken, after_step, seen_from, seen_in, start_of}
use Rattle.pg_slice_rules.specs.Moments.{Moment, moments_from, moments_of, state_after}
use Rattle.pg_slice_rules.specs.Rules as rules
use Rattle.pg_law_least.specs.FootprintLaws.{AreInOrder}
use Rattle.pg_law_least.specs.Footprints.{access_footprints, of_step, footprints_of, region_footprints}

-- ---- footprints

abbrev stand : Footprint → Footprint → Type 0
stand p q = p.thread.0 ≢ q.thread.0 → p.low ≤ q.high

-- a footprint of this step
record IsOf (x : Seen) (p : Footprint) : Type 0 where
  thread : p.thread.0 ≡ x.moment.did.did.thread.0
  low : p.low ≡ x.moment.did.low
  high : p.high ≡ x.moment.did.high

pub all_append : {A : Type 0} (P : A → Type 0) (xs ys : List A) → AllByRecursion P xs → AllByRecursion P ys → AllByRecursion P (xs ++ ys)
all_append P [] ys a b = b
all_append P (x ∷ xs) ys a b = (a.0, all_append P xs ys a.1 b)

pub all_weaker : {A : Type 0} (P Q : A → Type 0) (xs : List A) → ((x : A) → P x → Q x) → AllByRecursion P xs → AllByRecursion Q xs
all_weaker P Q [] f a = tt
all_weaker P Q (x ∷ xs) f a = (f x a.0, all_weaker P Q xs f a.1)

all_of_step : (r : Bool) (x : Seen) (fs : List rules.Footprint) → AllByRecursion (IsOf x) (map (of_step r x) fs)
all_of_step r x [] = tt
all_of_step r x (f ∷ fs) = (record { thread = refl; low = refl; high = refl }, all_of_step r x fs)

footprints_are_of : (x : Seen) → AllByRecursion (IsOf x) (access_footprints x ++ region_footprints x)
footprints_are_of x = all_append (IsOf x) (access_footprints x) (region_footprints x) (all_of_step false x (rules.access_footprint x)) (all_of_step true x (rules.region_footprints x))

-- those of one step are of one thread
own_order : (x : Seen) (ps : List Footprint) → AllByRecursion (IsOf x) ps → EachPair stand ps
own_order x [] a = tt
own_order x (p ∷ ps) a = (all_weaker (IsOf x) (stand p) ps (λ q h n. absurd (n (a.0.thread ∙ sym h.thread))) a.1, own_order x ps a.1)

-- a step stands before those of later ones
later : (x : Seen) (ys : List Seen) → AllByRecursion (λ y. x.moment.did.low ≤ y.moment.did.high) ys → AllByRecursion (λ (q : Footprint). x.moment.did.low ≤ q.high) (footprints_of ys)
later x [] a = tt
later x (y ∷ ys) a =
    all_append (λ (q : Footprint). x.moment.did.low ≤ q.high) (access_footprints y ++ region_footprints y) (footprints_of ys)
    (all_weaker (IsOf y) (λ (q : Footprint). x.moment.did.low ≤ q.high) (access_footprints y ++ region_footprints y) (λ q h. subst (λ n. x.moment.did.low ≤ n) (sym h.high) a.0) (footprints_are_of y))
    (later x ys a.1)

pairs_append : (ps qs : List Footprint) → EachPair stand ps → EachPair stand qs → AllByRecursion (λ p. AllByRecursion (stand p) qs) ps → EachPair stand (ps ++ qs)
pairs_append [] qs a b c = b
pairs_append (p ∷ ps) qs a b c = (all_append (stand p) ps qs a.0 c.0, pairs_append ps qs a.1 b c.1)

pub footprints_order : (ys : List Seen) → AreInOrder ys → InOrder (footprints_of ys)
footprints_order [] o = tt
footprints_order (y ∷ ys) o =
    pairs_append (access_footprints y ++ region_footprints y) (footprints_of ys) (own_order y (access_footprints y ++ region_footprints y) (footprints_are_of y)) (footprints_order ys o.1)
    (all_weaker (IsOf y) (λ p. AllByRecursion (stand p) (footprints_of ys)) (access_footprints y ++ region_footprints y)
    (λ p h. all_weaker (λ (q : Footprint). y.moment.did.low ≤ q.high) (stand p) (footprints_of ys) (λ q l n. subst (λ k. k ≤ q.high) (sym h.low) l) (later y ys o.0))
    (footprints_are_of y))

-- ---- steps

abbrev did_of : List Seen → List (Timed Step)
did_of [] = []
did_of (x ∷ xs) = x.moment.did ∷ did_of xs

abbrev did_in : List Moment → List (Timed Step)
did_in [] = []
did_in (m ∷ ms) = m.did ∷ did_in ms

moments_did : (gated : List InstrId) (p : NumberedProgram) (input : List ℤ) (s : State) (xs : List (Timed Step)) → did_in (moments_from gated p input s xs) ≡ xs
unfolding moments_from
moments_did gated p input s [] = refl
moments_did gated p input s (x ∷ xs) = ap (λ l. x ∷ l) (moments_did gated p input (state_after s (step gated p input s x.did.thread.0)) xs)

seen_did : (R : Reference) (d : Taken) (n : ℕ) (s : SymbolicState) (ms : List Moment) → did_of (seen_from R d n s ms) ≡ did_in ms
unfolding seen_from
seen_did R d n s [] = refl
seen_did R d n s (m ∷ ms) = ap (λ l. m.did ∷ l) (seen_did R d (suc n) (after_step R d n m s) ms)

all_did : (P : Timed Step → Type 0) (xs : List Seen) → AllByRecursion P (did_of xs) → AllByRecursion (λ x. P x.moment.did) xs
all_did P [] a = tt
all_did P (x ∷ xs) a = (a.0, all_did P xs a.1)

order_did : (xs : List Seen) → EachPair (λ (x y : Timed Step). x.low ≤ y.high) (did_of xs) → AreInOrder xs
order_did [] o = tt
order_did (x ∷ xs) o = (all_did (λ y. x.moment.did.low ≤ y.high) xs o.0, order_did xs o.1)

pub steps_order : (gated : List InstrId) (p : NumberedProgram) (regions : Regions) (input : List ℤ) (xs : List Step) (d : Taken) →
    AreInOrder (seen_in (record { program = p; regions = regions; moments = moments_of gated p input xs }) d)
steps_order gated p regions input xs d =
    let R : Reference = record { program = p; regions = regions; moments = moments_of gated p input xs } in
    order_did (seen_in R d) (subst (EachPair (λ (x y : Timed Step). x.low ≤ y.high))
    (sym (seen_did R d 0 (start_of p) R.moments ∙ moments_did gated p input (initial p) (timed_by recorded xs)))
    (low_high recorded (owners recorded xs) 0 xs (omega arith) (own_turns recorded xs)))
