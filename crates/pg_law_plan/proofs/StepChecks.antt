-- What closed decisions and their precondition give at a step on an admitted input.
use Rattle.std.proofs.Common.{◌≡◌, ℤ, Bool, true, false, List, [], ◌∷◌, ◌++◌, Some, refl}
use Rattle.std.specs.Prelude.{◌&&◌, not}
use Rattle.std.specs.List.{AllByRecursion as AllOf, list_all}
use Rattle.std.proofs.lemmas.Bool.{and_from, and_parts}
use Rattle.pg_precondition.specs.declared.check.Test.{Test}
use Rattle.pg_precondition.specs.Values.{is_met}
use Rattle.pg_law_threads.proofs.DoneLists.{all_map, both_of}
use Rattle.pg_slice_rules.specs.Closed.{IsClosed, admits, conditions, conditions_at}
use Rattle.pg_slice_rules.specs.Known.{Reference, Seen, Taken, seen_in}
use Rattle.pg_slice_rules.specs.Rules.{Condition, Need, Value, Bounds, all_of, asks_bounds, asks_pins, asks_values, conditions_with, bounds_needs, is_bound, need_blames, need_conditions}
use Rattle.pg_slice_rules.specs.Rules.{value_needs, value_of}
use Rattle.pg_slice_rules.specs.SymbolicValues.{OnInput, Known, Bounded, Unknown, bounds_word}
use Rattle.pg_law_plan.proofs.UnitsArePlan.{append_none, none_asked, not_asked}

-- what is asked of a value holds on the input
abbrev pub Holds : List ℤ → Need → Type 0
Holds input (Value s tests) = (f : OnInput) × (value_of s ≡ Some f) × AllOf (λ (t : Test). is_met t (f input) ≡ true) tests
Holds input (Bounds s t) = (f : OnInput) × (bounds_word s ≡ Some f) × (is_met t (f input) ≡ true)

pub record IsGood (R : Reference) (d : Taken) (input : List ℤ) (x : Seen) : Type 0 where
  pub values : AllOf (Holds input) (value_needs R d x)
  pub bounds : AllOf (Holds input) (bounds_needs R x)
  pub pins : (is_bound x && not (d.pinned x.number)) ≡ false

module _ (input : List ℤ) where
  abbrev met : Condition → Bool
  met c = is_met c.test (c.value input)

  with_met : (f : OnInput) (ts : List Test) → list_all (λ (c : Condition). is_met c.test (c.value input)) (conditions_with f ts) ≡ true → AllOf (λ (t : Test). is_met t (f input) ≡ true) ts
  with_met f [] h = tt
  with_met f (t ∷ ts) h = let p = and_parts (is_met t (f input)) (list_all (λ (c : Condition). is_met c.test (c.value input)) (conditions_with f ts)) h in (p.0, with_met f ts p.1)

  one_met : (b : Bool) → (b && true) ≡ true → b ≡ true
  one_met true h = refl
  one_met false h = h

  holds_by : (q : Need) → need_blames q ≡ [] → list_all (λ (c : Condition). is_met c.test (c.value input)) (need_conditions q) ≡ true → Holds input q
  holds_by (Value (Known f g) ts) b h = (f, refl, with_met f ts h)
  holds_by (Value (Bounded f x) ts) b h = absurd cc
  holds_by (Value (Unknown x) ts) b h = absurd cc
  holds_by (Bounds (Known f g) t) b h = (g, refl, one_met (is_met t (g input)) h)
  holds_by (Bounds (Bounded f x) t) b h = (f, refl, one_met (is_met t (f input)) h)
  holds_by (Bounds (Unknown x) t) b h = absurd cc

  pub all_append : (xs ys : List Condition) → list_all (λ (c : Condition). is_met c.test (c.value input)) (xs ++ ys) ≡ true
      → (list_all (λ (c : Condition). is_met c.test (c.value input)) xs ≡ true) × (list_all (λ (c : Condition). is_met c.test (c.value input)) ys ≡ true)
  all_append [] ys h = (refl, h)
  all_append (x ∷ xs) ys h =
      let p = and_parts (is_met x.test (x.value input)) (list_all (λ (c : Condition). is_met c.test (c.value input)) (xs ++ ys)) h in
      let k = all_append xs ys p.1 in
      (and_from (is_met x.test (x.value input)) (list_all (λ (c : Condition). is_met c.test (c.value input)) xs) p.0 k.0, k.1)

  hold_by : (qs : List Need) → all_of need_blames qs ≡ [] → list_all (λ (c : Condition). is_met c.test (c.value input)) (all_of need_conditions qs) ≡ true → AllOf (Holds input) qs
  hold_by [] b h = tt
  hold_by (q ∷ qs) b h =
      let k = append_none (need_blames q) (all_of need_blames qs) b in
      let j = all_append (need_conditions q) (all_of need_conditions qs) h in
      (holds_by q k.0 j.0, hold_by qs k.1 j.1)

  module _ (R : Reference) (d : Taken) where
    each_met : (xs : List Seen) → list_all (λ (c : Condition). is_met c.test (c.value input)) (all_of (conditions_at R d) xs) ≡ true
        → AllOf (λ (x : Seen). list_all (λ (c : Condition). is_met c.test (c.value input)) (conditions_at R d x) ≡ true) xs
    each_met [] h = tt
    each_met (x ∷ xs) h = let j = all_append (conditions_at R d x) (all_of (conditions_at R d) xs) h in (j.0, each_met xs j.1)

    met_all : admits R d input ≡ true → AllOf (λ (x : Seen). list_all (λ (c : Condition). is_met c.test (c.value input)) (conditions_at R d x) ≡ true) (seen_in R d)
    unfolding admits conditions
    met_all h = each_met (seen_in R d) h

    pub all_good : IsClosed R d → admits R d input ≡ true → AllOf (IsGood R d input) (seen_in R d)
    all_good closed h =
        all_map (λ x k. good x k.0 k.1.0 k.1.1.0 k.1.1.1) (seen_in R d)
        (both_of (λ (x : Seen). asks_values R d x ≡ []) _ (seen_in R d) (none_asked (asks_values R d) (seen_in R d) closed.values)
        (both_of (λ (x : Seen). asks_bounds R x ≡ []) _ (seen_in R d) (none_asked (asks_bounds R) (seen_in R d) closed.bounds)
        (both_of (λ (x : Seen). asks_pins d x ≡ []) (λ (x : Seen). list_all (λ (c : Condition). is_met c.test (c.value input)) (conditions_at R d x) ≡ true) (seen_in R d)
        (none_asked (asks_pins d) (seen_in R d) closed.pins) (met_all h))))
      where
        good : (x : Seen) → asks_values R d x ≡ [] → asks_bounds R x ≡ [] → asks_pins d x ≡ []
            → list_all (λ (c : Condition). is_met c.test (c.value input)) (conditions_at R d x) ≡ true → IsGood R d input x
        good x a b c k =
            let j = all_append (all_of need_conditions (value_needs R d x)) (all_of need_conditions (bounds_needs R x)) k in
            record { values = hold_by (value_needs R d x) a j.0; bounds = hold_by (bounds_needs R x) b j.1; pins = not_asked (is_bound x && not (d.pinned x.number)) _ c }
