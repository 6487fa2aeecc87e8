-- Functions are worked behind those that they call, so each summary stands by the final ones.
use Rattle.std.proofs.Common.{◌≡◌, ◌≢◌, ℕ, ◌+◌, ◌<◌, ◌≤◌, ◌==◌, ◌&&◌, ◌||◌, Bool, true, false, not, List, length, Option, Some, None, refl, sym, ap}
use Rattle.std.proofs.Common.{◌∙◌, subst, arith, inl, inr, ◌⊎◌}
use Rattle.std.specs.Prelude.{nat_lt}
use Rattle.std.proofs.lemmas.Bool.{true≢false, cases_eq, eqb-true, eqb-false, eq-eqb, ne_eqb, ltb-true, lt-ltb, and_parts, and_from, or_cases, or_left, or_right, not-true, not_from_false}
use Rattle.std.proofs.lemmas.Bool.{false_from_ne_true, true_from_ne_false}
use Rattle.pg_ir.specs.Program.{NumberedProgram}
use Rattle.pg_ir.specs.WellFormed.{IsProgram}
use Rattle.pg_region_accesses.specs.Accesses.{RootedList}
use Rattle.pg_region_accesses.specs.Tables.{in_table}
use Rattle.pg_region_summaries.specs.declared.reaches.Reach.{Reach}
use Rattle.pg_region_summaries.specs.Calls.{Calls, CallsReach, CanBeQuiet}
use Rattle.pg_region_summaries.specs.Calls.CallsReach.{direct, further}
use Rattle.pg_region_summaries.specs.Callees.{calls_of}
use Rattle.pg_region_summaries.specs.Creates.{is_started}
use Rattle.pg_region_summaries.specs.Reaches.{AreReaches, reach_at}
use Rattle.pg_region_summaries.specs.Summaries.{summary_by, AreSummaries}
use Rattle.pg_region_summaries.specs.Work.{may_be_quiet, is_done, AreWorked}
use Rattle.pg_region_summaries.proofs.ThreadFunctions.{started_true, true_started}
use Rattle.pg_region_summaries.proofs.InstructionPlaces.{callee_small}
use Rattle.pg_region_summaries.proofs.SummariesOfCallees.{summary_same, callee_some}
use Rattle.pg_region_summaries.proofs.CallWalks.{fewer, reaches_itself, recurs}

-- ---- the order in which functions are worked

-- n functions are reached from g: fewer than so many, or as many and g stands before f
abbrev before : ℕ → ℕ → ℕ → ℕ → Bool
before size f n g = nat_lt n size || ((n == size) && nat_lt g f)

before_cases : (size f n g : ℕ) → before size f n g ≡ true → (n < size) ⊎ ((n ≡ size) × (g < f))
before_cases size f n g e = go (or_cases (nat_lt n size) ((n == size) && nat_lt g f) e)
  where
    go : (nat_lt n size ≡ true) ⊎ (((n == size) && nat_lt g f) ≡ true) → (n < size) ⊎ ((n ≡ size) × (g < f))
    go (inl q) = inl (ltb-true n size q)
    go (inr q) = let h = and_parts (n == size) (nat_lt g f) q in inr (eqb-true n size h.0, ltb-true g f h.1)

before_less : (size f n g : ℕ) → n < size → before size f n g ≡ true
before_less size f n g lt = or_left (nat_lt n size) ((n == size) && nat_lt g f) (lt-ltb n size lt)

before_same : (size f n g : ℕ) → n ≡ size → g < f → before size f n g ≡ true
before_same size f n g e lt = or_right (nat_lt n size) ((n == size) && nat_lt g f) (and_from (n == size) (nat_lt g f) (eq-eqb n size e) (lt-ltb g f lt))

module _ (p : NumberedProgram) (started : List Bool) (reaches : List Reach) where
  may_parts : (g : ℕ) → may_be_quiet p started reaches g ≡ true → (g ≢ p.main) × (in_table started g ≡ false) × ((reach_at reaches g).is_recursive ≡ false)
  may_parts g e =
      let a = and_parts (not (g == p.main)) (not (in_table started g) && not (reach_at reaches g).is_recursive) e in
      let b = and_parts (not (in_table started g)) (not (reach_at reaches g).is_recursive) a.1 in
      (eqb-false g p.main (not-true (g == p.main) a.0), not-true (in_table started g) b.0, not-true (reach_at reaches g).is_recursive b.1)

  done_parts : (size f g : ℕ) → is_done p started reaches size f g ≡ true
      → (may_be_quiet p started reaches g ≡ true) × (((reach_at reaches g).size < size) ⊎ (((reach_at reaches g).size ≡ size) × (g < f)))
  done_parts size f g e =
      let a = and_parts (may_be_quiet p started reaches g) (before size f (reach_at reaches g).size g) e in
      (a.0, before_cases size f (reach_at reaches g).size g a.1)

  done_from : (size f g : ℕ) → may_be_quiet p started reaches g ≡ true → ((reach_at reaches g).size < size) ⊎ (((reach_at reaches g).size ≡ size) × (g < f))
      → is_done p started reaches size f g ≡ true
  done_from size f g m (inl lt) = and_from (may_be_quiet p started reaches g) (before size f (reach_at reaches g).size g) m (before_less size f (reach_at reaches g).size g lt)
  done_from size f g m (inr h) = and_from (may_be_quiet p started reaches g) (before size f (reach_at reaches g).size g) m (before_same size f (reach_at reaches g).size g h.0 h.1)

  newer : (size f g : ℕ) → is_done p started reaches size f g ≡ true → is_done p started reaches size (f + 1) g ≡ true
  newer size f g e = let a = done_parts size f g e in done_from size (f + 1) g a.0 (go a.1)
    where
      go : ((reach_at reaches g).size < size) ⊎ (((reach_at reaches g).size ≡ size) × (g < f)) → ((reach_at reaches g).size < size) ⊎ (((reach_at reaches g).size ≡ size) × (g < f + 1))
      go (inl lt) = inl lt
      go (inr h) = inr (h.0, omega (arith, h.1))

  older : (size f g : ℕ) → is_done p started reaches size (f + 1) g ≡ true → ((reach_at reaches g).size ≡ size → g ≢ f) → is_done p started reaches size f g ≡ true
  older size f g e ne = let a = done_parts size (f + 1) g e in done_from size f g a.0 (go a.1)
    where
      go : ((reach_at reaches g).size < size) ⊎ (((reach_at reaches g).size ≡ size) × (g < f + 1)) → ((reach_at reaches g).size < size) ⊎ (((reach_at reaches g).size ≡ size) × (g < f))
      go (inl lt) = inl lt
      go (inr h) = let d = ne h.0 in inr (h.0, omega (arith, h.1, d))

  module _ (gated : ℕ → Bool) where
    -- nothing is done yet
    pub none_worked : (sums : ℕ → Option RootedList) → ((f : ℕ) → sums f ≡ None) → AreWorked p gated sums (is_done p started reaches 0 0)
    none_worked sums h = record { worked = λ f lt e. absurd (none f (done_parts 0 0 f e).1); others = λ f lt e. h f }
      where
        none : (f : ℕ) → ((reach_at reaches f).size < 0) ⊎ (((reach_at reaches f).size ≡ 0) × (f < 0)) → ⊥
        none f (inl lt) = omega (arith, lt)
        none f (inr k) = omega (arith, k.1)

    -- a function that isn't worked now
    pub worked_skip : (sums : ℕ → Option RootedList) (size f : ℕ) → AreWorked p gated sums (is_done p started reaches size f)
        → ((reach_at reaches f).size ≡ size → may_be_quiet p started reaches f ≡ false) →
        AreWorked p gated sums (is_done p started reaches size (f + 1))
    worked_skip sums size f h no' = record {
      worked = λ g lt e. h.worked g lt (older size f g e (λ q i. skipped g (done_parts size (f + 1) g e).0 q i));
      others = λ g lt e. h.others g lt (false_from_ne_true (is_done p started reaches size f g) (λ t. true≢false (sym (newer size f g t) ∙ e)));
    }
      where
        skipped : (g : ℕ) → may_be_quiet p started reaches g ≡ true → (reach_at reaches g).size ≡ size → g ≡ f → ⊥
        skipped g m q i = true≢false (sym m ∙ ap (may_be_quiet p started reaches) i ∙ no' (subst (λ (z : ℕ). (reach_at reaches z).size ≡ size) i q))

    -- a round is over: all functions that reach so many are worked
    pub round_over : (sums : ℕ → Option RootedList) (size f : ℕ) → length p.functions ≤ f → AreWorked p gated sums (is_done p started reaches size f)
        → AreWorked p gated sums (is_done p started reaches (size + 1) 0)
    round_over sums size f le h = record {
      worked = λ g lt e. let a = done_parts (size + 1) 0 g e in h.worked g lt (done_from size f g a.0 (back g lt a.1 (cases_eq (reach_at reaches g).size size)));
      others = λ g lt e. h.others g lt (false_from_ne_true (is_done p started reaches size f g) (λ t. true≢false (sym (on g t) ∙ e)));
    }
      where
        back : (g : ℕ) → g < length p.functions → ((reach_at reaches g).size < size + 1) ⊎ (((reach_at reaches g).size ≡ size + 1) × (g < 0))
            → ((reach_at reaches g).size ≡ size) ⊎ ((reach_at reaches g).size ≡ size → ⊥) →
            ((reach_at reaches g).size < size) ⊎ (((reach_at reaches g).size ≡ size) × (g < f))
        back g lt (inl k) (inl q) = inr (q, omega (arith, lt, le))
        back g lt (inl k) (inr ne) = inl (omega (arith, k, ne))
        back g lt (inr k) d = absurd (omega (arith, k.1))

        on : (g : ℕ) → is_done p started reaches size f g ≡ true → is_done p started reaches (size + 1) 0 g ≡ true
        on g e = let a = done_parts size f g e in done_from (size + 1) 0 g a.0 (inl (less a.1))
          where
            less : ((reach_at reaches g).size < size) ⊎ (((reach_at reaches g).size ≡ size) × (g < f)) → (reach_at reaches g).size < size + 1
            less (inl lt) = omega (arith, lt)
            less (inr k) = omega (arith, k.0)

    module _ (program : IsProgram p) (all : AreReaches (calls_of p) (length p.functions) reaches) where
      -- a function that is worked now
      pub worked_more : (sums new : ℕ → Option RootedList) (size f : ℕ) → f < length p.functions → AreWorked p gated sums (is_done p started reaches size f)
          → may_be_quiet p started reaches f ≡ true → (reach_at reaches f).size ≡ size →
          new f ≡ summary_by p gated sums f → ((g : ℕ) → g ≢ f → new g ≡ sums g) → AreWorked p gated new (is_done p started reaches size (f + 1))
      worked_more sums new size f lf h m at now other = record { worked = λ g lt e. worked g lt e (cases_eq g f); others = λ g lt e. others g lt e (cases_eq g f) }
        where
          kept : (g : ℕ) → g < length p.functions → (reach_at reaches g).size ≤ size → summary_by p gated sums g ≡ summary_by p gated new g
          kept g lt le = summary_same p gated sums new g program
              (λ k c. sym (other k (λ e. omega (arith, fewer p reaches g f program all lt lf (subst (λ (z : ℕ). Calls p g z) e c) (may_parts f m).2, le, at))))

          reached : (g : ℕ) → ((reach_at reaches g).size < size) ⊎ (((reach_at reaches g).size ≡ size) × (g < f + 1)) → (reach_at reaches g).size ≤ size
          reached g (inl lt) = omega (arith, lt)
          reached g (inr k) = omega (arith, k.0)

          worked : (g : ℕ) → g < length p.functions → is_done p started reaches size (f + 1) g ≡ true → (g ≡ f) ⊎ (g ≡ f → ⊥) → new g ≡ summary_by p gated new g
          worked g lt e (inl q) = subst (λ (z : ℕ). new z ≡ summary_by p gated new z) (sym q) (now ∙ kept f lf (omega (arith, at)))
          worked g lt e (inr ne) = other g ne ∙ h.worked g lt (older size f g e (λ q. ne)) ∙ kept g lt (reached g (done_parts size (f + 1) g e).1)

          others : (g : ℕ) → g < length p.functions → is_done p started reaches size (f + 1) g ≡ false → (g ≡ f) ⊎ (g ≡ f → ⊥) → new g ≡ None
          others g lt e (inl q) = absurd (true≢false (sym (done_from size (f + 1) f m (inr (at, omega arith))) ∙ ap (is_done p started reaches size (f + 1)) (sym q) ∙ e))
          others g lt e (inr ne) = other g ne ∙ h.others g lt (false_from_ne_true (is_done p started reaches size f g) (λ t. true≢false (sym (newer size f g t) ∙ e)))

      module _ (named : (f : ℕ) → f < length p.functions → in_table started f ≡ is_started p f) (sums : ℕ → Option RootedList) (size : ℕ)
          (most : (f : ℕ) → f < length p.functions → (reach_at reaches f).size < size)
          (h : AreWorked p gated sums (is_done p started reaches size 0)) where
        may_true : (f : ℕ) → f < length p.functions → CanBeQuiet p f → may_be_quiet p started reaches f ≡ true
        may_true f lt can =
            and_from (not (f == p.main)) (not (in_table started f) && not (reach_at reaches f).is_recursive) (not_from_false (f == p.main) (ne_eqb f p.main can.not_main))
            (and_from (not (in_table started f)) (not (reach_at reaches f).is_recursive)
            (not_from_false (in_table started f) (false_from_ne_true (in_table started f) (λ t. can.not_started (true_started p f (sym (named f lt) ∙ t)))))
            (not_from_false (reach_at reaches f).is_recursive (false_from_ne_true (reach_at reaches f).is_recursive (λ t. can.ends f (inl refl) (reaches_itself p reaches f program all lt t)))))

        some_done : (f : ℕ) (xs : RootedList) → f < length p.functions → sums f ≡ Some xs → is_done p started reaches size 0 f ≡ true
        some_done f xs lt e = true_from_ne_false (is_done p started reaches size 0 f) (λ t. let q : Some xs ≡ None = sym e ∙ h.others f lt t in cc)

        some_once : (f : ℕ) (xs : RootedList) → f < length p.functions → sums f ≡ Some xs → CallsReach p f f → ⊥
        some_once f xs lt e r = true≢false (sym (recurs p reaches f program all lt r) ∙ (may_parts f (done_parts size 0 f (some_done f xs lt e)).0).2)

        some_by : (f : ℕ) (xs : RootedList) → f < length p.functions → sums f ≡ Some xs → summary_by p gated sums f ≡ Some xs
        some_by f xs lt e = sym (h.worked f lt (some_done f xs lt e)) ∙ e

        -- what a quiet function reaches is quiet
        reached_some : (f g : ℕ) (xs : RootedList) → f < length p.functions → sums f ≡ Some xs → CallsReach p f g → (g < length p.functions) × (bs : RootedList) × (sums g ≡ Some bs)
        reached_some f g xs lt e (direct c) = let b = callee_some p gated sums f g xs program (some_by f xs lt e) c in (callee_small p f g program c, b.0, b.1)
        reached_some f g xs lt e (further {g = y} r c) =
            let a = reached_some f y xs lt e r in
            let b = callee_some p gated sums y g a.1 program (some_by y a.1 a.0 a.2) c in
            (callee_small p y g program c, b.0, b.1)

        can_be : (f : ℕ) (xs : RootedList) → f < length p.functions → sums f ≡ Some xs → CanBeQuiet p f
        can_be f xs lt e = record { not_main = m.0; not_started = λ s. true≢false (sym (started_true p f s) ∙ sym (named f lt) ∙ m.1); ends = ends }
          where
            m : (f ≢ p.main) × (in_table started f ≡ false) × ((reach_at reaches f).is_recursive ≡ false)
            m = may_parts f (done_parts size 0 f (some_done f xs lt e)).0

            ends : (g : ℕ) → (g ≡ f) ⊎ CallsReach p f g → CallsReach p g g → ⊥
            ends g (inl q) r = some_once f xs lt e (subst (λ (z : ℕ). CallsReach p z z) q r)
            ends g (inr w) r = let a = reached_some f g xs lt e w in some_once g a.1 a.0 a.2 r

        pub all_worked : AreSummaries p gated sums
        all_worked = record {
          quiet = λ f lt can. h.worked f lt (done_from size 0 f (may_true f lt can) (inl (most f lt)));
          others = λ f xs lt e. can_be f xs lt e;
        }
