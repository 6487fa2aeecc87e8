-- How many registers the calls of a run's steps have, kept along the run.
use Rattle.std.proofs.Common.{◌≡◌, ℕ, ℤ, zero, suc, ◌+◌, ◌<◌, ◌≤◌, List, [], ◌∷◌, ◌++◌, length, Option, Some, refl, sym, ap, ◌∙◌, subst, inl, inr}
use Rattle.std.proofs.Common.{◌⊎◌, arith}
use Rattle.std.specs.Prelude.{IfSome, slice_get, slice_index_or}
use Rattle.std.proofs.lemmas.Bool.{cases_lt}
use Rattle.pg_ir.specs.declared.ids.InstrId.{InstrId}
use Rattle.pg_ir.specs.Program.{NumberedProgram}
use Rattle.pg_schedule.specs.declared.interval.Interval.{Interval}
use Rattle.pg_schedule.specs.declared.interval.Turns.TheVariants.{Recorded}
use Rattle.pg_schedule.specs.Intervals.{intervals_of}
use Rattle.pg_run_trace.specs.declared.step.Step.{Step}
use Rattle.pg_slice_rules.specs.Moments.{Moment, moments_of, thread_in}
use Rattle.pg_slice_rules.specs.Known.{Reference, Taken, after_step, start_of}
use Rattle.pg_law_least.specs.Keeps.{ExtentsKeep, every}
use Rattle.pg_slice_passes.specs.Given.{AreSteps, FitsStep}
use Rattle.pg_slice_passes.proofs.OneStepMore.{has_moment}
use Rattle.pg_law_demands.specs.Along.{known_at, known_from}
use Rattle.pg_slice_back.specs.declared.registers.Counts.{Counts}
use Rattle.pg_slice_back.specs.Counted.{AreCounted, AreCountedTo, IsCounted}
use Rattle.pg_law_demands.proofs.StepBack.{of_every}
use Rattle.pg_slice_back.proofs.KnownBefore.{at_step, next_step}

an_interval : Interval
an_interval = record { low = 0; high = 0 }

index_same : {A : Type 0} (xs : List A) (n : ℕ) (z : A) → slice_index_or xs n z ≡ slice_index_or xs n (slice_index_or xs n z)
index_same [] n z = refl
index_same (x ∷ xs) zero z = refl
index_same (x ∷ xs) (suc n) z = index_same xs n z

-- the moment of a step of a trace
pub has_at : (gated : List InstrId) (p : NumberedProgram) (input : List ℤ) (xs : List Step) (n : ℕ) (x : Step) → slice_get xs n ≡ Some x →
    (m : Moment) × (slice_get (moments_of gated p input xs) n ≡ Some m) × (m.did.did ≡ x)
has_at gated p input xs n x h =
    let is = intervals_of Recorded xs in
    let k = has_moment gated p input xs n x (slice_index_or is n an_interval) is refl h (index_same is n an_interval) in
    (k.moment, k.stands, k.did)

module _ (R : Reference) (keeps : ExtentsKeep R) (n : ℕ) (m : Moment) (q : slice_get R.moments n ≡ Some m) where
  pub begun_at : thread_in m < length (known_at R every n).threads
  begun_at = keeps.known (of_every R n m (known_at R every n)) (at_step R keeps every n m q).in_run

  pub next_is : known_at R every (suc n) ≡ after_step R every n m (known_at R every n)
  next_is = let z : 0 + n ≡ n = omega arith in subst (λ (i : ℕ). known_at R every (suc n) ≡ after_step R every i m (known_at R every n)) z
      (next_step R every 0 n (start_of R.program) R.moments m q)

get_more : {A : Type 0} (xs ys : List A) (i : ℕ) (x : A) → slice_get xs i ≡ Some x → slice_get (xs ++ ys) i ≡ Some x
get_more [] ys i x h = absurd cc
get_more (z ∷ xs) ys zero x h = h
get_more (z ∷ xs) ys (suc i) x h = get_more xs ys i x h

get_last : {A : Type 0} (xs : List A) (x : A) → slice_get (xs ++ x ∷ []) (length xs) ≡ Some x
get_last [] x = refl
get_last (y ∷ xs) x = get_last xs x

some_is : {A : Type 0} (x y : A) → Some x ≡ Some y → x ≡ y
some_is x y q = cc

-- with the counts before one step more
pub counted_more : (R : Reference) (m : Moment) (cs new : List Counts) (c : Counts) → slice_get R.moments (length cs) ≡ Some m → new ≡ cs ++ c ∷ [] → IsCounted R (length cs) m c →
    AreCountedTo R (length cs) cs → AreCountedTo R (suc (length cs)) new
counted_more R m cs new c q e k a = record { by = λ j z l h. go j z h (cases_lt j (length cs)) l }
  where
    last : (j : ℕ) (z : Moment) → j ≡ length cs → slice_get R.moments j ≡ Some z → (d : Counts) × (slice_get new j ≡ Some d) × IsCounted R j z d
    last j z i h =
        let g : m ≡ z = some_is m z (sym q ∙ subst (λ (i : ℕ). slice_get R.moments i ≡ Some z) i h) in
        let s : slice_get new (length cs) ≡ Some c = ap (λ (xs : List Counts). slice_get xs (length cs)) e ∙ get_last cs c in
        (c, subst (λ (i : ℕ). slice_get new i ≡ Some c) (sym i) s, subst (λ (i : ℕ). IsCounted R i z c) (sym i) (subst (λ (z : Moment). IsCounted R (length cs) z c) g k))

    go : (j : ℕ) (z : Moment) → slice_get R.moments j ≡ Some z → (j < length cs) ⊎ (length cs ≤ j) → j < suc (length cs)
        → (d : Counts) × (slice_get new j ≡ Some d) × IsCounted R j z d
    go j z h (inl l) b = let k = a.by j z l h in (k.0, ap (λ (xs : List Counts). slice_get xs j) e ∙ get_more cs (c ∷ []) j k.0 k.1, k.2)
    go j z h (inr l) b = last j z (omega (arith, l, b)) h

pub none_counted : (R : Reference) → AreCountedTo R 0 []
none_counted R = record { by = λ j m l q. absurd (omega (arith, l)) }

pub all_counted : (R : Reference) (n : ℕ) (cs : List Counts) → length R.moments ≡ n → AreCountedTo R n cs → AreCounted R cs
all_counted R n cs l a = record { by = λ j m q. a.by j m (let h = place R.moments j m q in omega (arith, h, l)) q }
  where
    place : (ms : List Moment) (j : ℕ) (m : Moment) → slice_get ms j ≡ Some m → j < length ms
    place [] j m q = absurd cc
    place (x ∷ ms) zero m q = omega arith
    place (x ∷ ms) (suc j) m q = let h = place ms j m q in omega (arith, h)

pub first_known : (R : Reference) (d : Taken) → known_at R d 0 ≡ start_of R.program
unfolding known_from
first_known R d = refl

pub step_fits : (p : NumberedProgram) (xs : List Step) (n : ℕ) (x : Step) → AreSteps p xs → slice_get xs n ≡ Some x → FitsStep p x
step_fits p xs n x f q = subst (λ (o : Option Step). IfSome o (FitsStep p)) q (f n)
