-- Steps by their numbers.
use Rattle.std.proofs.Common.{◌≡◌, ℕ, ◌==◌, ◌+◌, ◌<◌, Bool, true, false, List, [], ◌∷◌, length, map, Some, refl, sym, ap, ◌∙◌, arith, zero, suc, get_or}
use Rattle.std.specs.Prelude.{slice_get, is_some, ◌&&◌}
use Rattle.std.specs.List.{list_any, position_from}
use Rattle.std.proofs.lemmas.Bool.{true≢false}
use Rattle.pg_run_trace.specs.declared.step.Step.{Step}
use Rattle.pg_run_trace.specs.Races.{asked, timed_by, is_access, is_unordered}
use Rattle.pg_schedule.specs.declared.interval.Interval.{Interval}
use Rattle.pg_schedule.specs.Intervals.{interval_of}
use Rattle.pg_schedule.proofs.StepPositions.{timed_get, timed_length}
use Rattle.pg_schedule.specs.Partners.{is_racing_at, partner_of}

pub length_map : {A B : Type 0} (f : A → B) (zs : List A) → length (map f zs) ≡ length zs
length_map f [] = refl
length_map f (z ∷ zs) = ap suc (length_map f zs)

pub intervals_length : (xs : List Step) (ns : List Interval) → ns ≡ map interval_of (timed_by asked xs) → length ns ≡ length xs
intervals_length xs ns e = ap length e ∙ length_map interval_of (timed_by asked xs) ∙ timed_length asked xs

pub get_some : {A : Type 0} (zs : List A) (i : ℕ) → i < length zs → (z : A) × (slice_get zs i ≡ Some z)
get_some [] i h = absurd (omega arith)
get_some (z ∷ zs) zero h = (z, refl)
get_some (z ∷ zs) (suc i) h = get_some zs i (omega arith)

pub position_any : {A : Type 0} (test : A → Bool) (k : ℕ) (zs : List A) → is_some (position_from test k zs) ≡ list_any test zs
position_any test k [] = refl
position_any test k (z ∷ zs) = go (test z) refl (position_any test (k + 1) zs)
  where
    go : (b : Bool) → test z ≡ b → is_some (position_from test (k + 1) zs) ≡ list_any test zs → is_some (position_from test k (z ∷ zs)) ≡ list_any test (z ∷ zs)
    go true w ih = rw w refl
    go false w ih = rw w ih

tests_true : (a b c d : Bool) → (a && b) ≡ true → d ≡ c → d ≡ (a && b && c)
tests_true true true c d h e = e
tests_true true false c d h e = absurd (true≢false (sym h))
tests_true false b c d h e = absurd (true≢false (sym h))

tests_false : (a b c : Bool) → (a && b) ≡ false → false ≡ (a && b && c)
tests_false true true c h = absurd (true≢false h)
tests_false true false c h = refl
tests_false false b c h = refl

module _ (xs : List Step) (ns : List Interval) (e : ns ≡ map interval_of (timed_by asked xs)) (id i : ℕ) (x : Step) (h : slice_get xs i ≡ Some x) where
  pub racing_true : (is_access x.kind && (x.instr.0 == id)) ≡ true → is_some (partner_of (timed_by asked xs) (slice_get (timed_by asked xs) i))
      ≡ is_racing_at (timed_by asked xs) id (slice_get (timed_by asked xs) i)
  racing_true v =
      let at = timed_get asked xs ns i x (record { low = 0; high = 0 }) e h in
      rw at (tests_true (is_access x.kind) (x.instr.0 == id) _ _ v
      (position_any (is_unordered (record { did = x; low = (get_or ns i (record { low = 0; high = 0 })).low; high = (get_or ns i (record { low = 0; high = 0 })).high })) 0 (timed_by asked xs)))

  pub racing_false : (is_access x.kind && (x.instr.0 == id)) ≡ false → false ≡ is_racing_at (timed_by asked xs) id (slice_get (timed_by asked xs) i)
  racing_false v =
      let at = timed_get asked xs ns i x (record { low = 0; high = 0 }) e h in
      rw at (tests_false (is_access x.kind) (x.instr.0 == id) _ v)
