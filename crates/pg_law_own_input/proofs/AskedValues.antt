-- What is asked of values is given, where each is like the machine's.
use Rattle.std.proofs.Common.{◌≡◌, ℕ, ℤ, true, List, [], ◌∷◌, ◌++◌, Option, Some, None, refl, sym, subst}
use Rattle.std.specs.Prelude.{◌==◌}
use Rattle.std.specs.List.{AllByRecursion as AllOf, list_all}
use Rattle.std.proofs.lemmas.Bool.{and_from, eq-eqb}
use Rattle.pg_num.specs.Pointers.{pointer_of}
use Rattle.pg_precondition.specs.declared.check.Test.{Test}
use Rattle.pg_precondition.specs.Values.{is_met}
use Rattle.pg_slice_rules.specs.Closed.{admits, conditions, conditions_at}
use Rattle.pg_slice_rules.specs.Known.{Reference, Seen, Taken, seen_in}
use Rattle.pg_slice_rules.specs.Rules.{Condition, Need, Value, Bounds, all_of, conditions_with, bounds_needs, if_some, need_blames, need_conditions, same_bounds, value_needs}
use Rattle.pg_slice_rules.specs.SymbolicValues.{OnInput, Known, Bounded, Unknown}
use Rattle.pg_law_plan.specs.Likes.{HaveSameBounds, HasBoundsOf, IsLike}
use Rattle.pg_law_plan.proofs.StepChecks.{Holds, IsGood}
use Rattle.pg_law_plan.proofs.UnitsArePlan.{append_none}

module _ (input : List ℤ) where
  -- ---- what the machine gives

  -- a number that is like the value meets what is asked of it
  abbrev pub IsGiven : Need → Type 0
  IsGiven (Value s ts) = (n : ℕ) × IsLike input s (Some n) × AllOf (λ (t : Test). is_met t (Some n) ≡ true) ts
  IsGiven (Bounds s t) = (n : ℕ) × IsLike input s (Some n) × (t ≡ same_bounds n)

  met_bounds : (n word : ℕ) → HaveSameBounds word n → is_met (same_bounds n) (Some word) ≡ true
  met_bounds n word h = and_from ((pointer_of word).start == (pointer_of n).start) ((pointer_of word).length == (pointer_of n).length)
      (eq-eqb (pointer_of word).start (pointer_of n).start (sym h.start)) (eq-eqb (pointer_of word).length (pointer_of n).length (sym h.length))

  bounded : (n : ℕ) (o : Option ℕ) → HasBoundsOf o (Some n) → is_met (same_bounds n) o ≡ true
  bounded n None h = absurd h
  bounded n (Some word) h = met_bounds n word h

  holds : (q : Need) → need_blames q ≡ [] → IsGiven q → Holds input q
  holds (Value (Known f g) ts) b h = (f, refl, subst (λ (o : Option ℕ). AllOf (λ (t : Test). is_met t o ≡ true) ts) h.1.0 h.2)
  holds (Value (Bounded f x) ts) b h = absurd cc
  holds (Value (Unknown x) ts) b h = absurd cc
  holds (Bounds (Known f g) t) b h = (g, refl, subst (λ (z : Test). is_met z (g input) ≡ true) (sym h.2) (bounded h.0 (g input) h.1.1))
  holds (Bounds (Bounded f x) t) b h = (f, refl, subst (λ (z : Test). is_met z (f input) ≡ true) (sym h.2) (bounded h.0 (f input) h.1))
  holds (Bounds (Unknown x) t) b h = absurd cc

  -- what is asked and known holds
  pub hold_all : (qs : List Need) → all_of need_blames qs ≡ [] → AllOf IsGiven qs → AllOf (Holds input) qs
  hold_all [] b h = tt
  hold_all (q ∷ qs) b h = let k = append_none (need_blames q) (all_of need_blames qs) b in (holds q k.0 h.0, hold_all qs k.1 h.1)

  -- ---- lists of needs

  pub both_given : (xs ys : List Need) → AllOf IsGiven xs → AllOf IsGiven ys → AllOf IsGiven (xs ++ ys)
  both_given [] ys h k = k
  both_given (x ∷ xs) ys h k = (h.0, both_given xs ys h.1 k)

  pub each_given : {A : Type 0} (f : A → List Need) (xs : List A) → AllOf (λ (x : A). AllOf IsGiven (f x)) xs → AllOf IsGiven (all_of f xs)
  each_given f [] h = tt
  each_given f (x ∷ xs) h = both_given (f x) (all_of f xs) h.0 (each_given f xs h.1)

  -- ---- conditions

  abbrev Met : List Condition → Type 0
  Met cs = list_all (λ (c : Condition). is_met c.test (c.value input)) cs ≡ true

  both_met : (xs ys : List Condition) → Met xs → Met ys → Met (xs ++ ys)
  both_met [] ys h k = k
  both_met (x ∷ xs) ys h k =
      let p = Rattle.std.proofs.lemmas.Bool.and_parts (is_met x.test (x.value input)) (list_all (λ (c : Condition). is_met c.test (c.value input)) xs) h in
      and_from (is_met x.test (x.value input)) (list_all (λ (c : Condition). is_met c.test (c.value input)) (xs ++ ys)) p.0 (both_met xs ys p.1 k)

  with_met : (f : OnInput) (ts : List Test) → AllOf (λ (t : Test). is_met t (f input) ≡ true) ts → Met (conditions_with f ts)
  with_met f [] h = refl
  with_met f (t ∷ ts) h = and_from (is_met t (f input)) (list_all (λ (c : Condition). is_met c.test (c.value input)) (conditions_with f ts)) h.0 (with_met f ts h.1)

  need_met : (q : Need) → Holds input q → Met (need_conditions q)
  need_met (Value s ts) h = subst (λ (o : Option OnInput). Met (if_some o ts)) (sym h.1) (with_met h.0 ts h.2)
  need_met (Bounds s t) h = subst (λ (o : Option OnInput). Met (if_some o (t ∷ []))) (sym h.1) (with_met h.0 (t ∷ []) (h.2, tt))

  needs_met : (qs : List Need) → AllOf (Holds input) qs → Met (all_of need_conditions qs)
  needs_met [] h = refl
  needs_met (q ∷ qs) h = both_met (need_conditions q) (all_of need_conditions qs) (need_met q h.0) (needs_met qs h.1)

  module _ (R : Reference) (d : Taken) where
    each_met : (xs : List Seen) → AllOf (IsGood R d input) xs → Met (all_of (conditions_at R d) xs)
    each_met [] h = refl
    each_met (x ∷ xs) h = both_met (conditions_at R d x) (all_of (conditions_at R d) xs)
        (both_met (all_of need_conditions (value_needs R d x)) (all_of need_conditions (bounds_needs R x)) (needs_met (value_needs R d x) h.0.values) (needs_met (bounds_needs R x) h.0.bounds))
        (each_met xs h.1)

    -- an input on which all that is asked holds is admitted
    pub admitted_by : AllOf (IsGood R d input) (seen_in R d) → admits R d input ≡ true
    unfolding admits conditions
    admitted_by h = each_met (seen_in R d) h
