-- Where a decision that is asked for comes from.
use Rattle.std.proofs.Common.{◌≡◌, Bool, true, false, List, [], ◌∷◌, ◌++◌, refl, subst, inl, inr, ◌⊎◌}
use Rattle.std.specs.Prelude.{Contains, ◌&&◌, not, if◌then◌else◌}
use Rattle.std.specs.List.{AllByRecursion}
use Rattle.std.proofs.lemmas.List.Elements.{Contains-append_cases, Contains-append_left, Contains-append_right}
use Rattle.pg_slice_rules.specs.declared.decision.Decision.{Decision}
use Rattle.pg_slice_rules.specs.Known.{Reference, Seen, Taken}
use Rattle.pg_slice_rules.specs.Rules.{all_of, asks_disturbed, asks_bounds, asks_pins, asks_shared, asks_values}
use Rattle.pg_slice_rules.specs.Closed.{asks_at}
use Rattle.pg_region_paths.proofs.Elements.{cases as cases_in, here, none_in, there}

pub all_in : {A : Type 0} (P : A → Type 0) (xs : List A) (z : A) → AllByRecursion P xs → Contains xs z → P z
all_in P [] z h c = absurd (none_in z c)
all_in P (x ∷ xs) z h c = go (cases_in x xs z c) (λ d. all_in P xs z h.1 d)
  where
    go : (x ≡ z) ⊎ Contains xs z → (Contains xs z → P z) → P z
    go (inl e) more = subst P e h.0
    go (inr d) more = more d

pub in_all_of : {A B : Type 0} (f : A → List B) (xs : List A) (z : B) → Contains (all_of f xs) z → (x : A) × Contains xs x × Contains (f x) z
in_all_of f [] z c = absurd (none_in z c)
in_all_of {A} f (x ∷ xs) z c = go (Contains-append_cases (f x) (all_of f xs) z c) (λ d. in_all_of f xs z d)
  where
    go : Contains (f x) z ⊎ Contains (all_of f xs) z → (Contains (all_of f xs) z → (y : A) × Contains xs y × Contains (f y) z) → (y : A) × Contains (x ∷ xs) y × Contains (f y) z
    go (inl d) more = (x, here x xs, d)
    go (inr d) more = let h = more d in (h.0, there x xs h.0 h.1, h.2)

pub of_all : {A B : Type 0} (f : A → List B) (xs : List A) (x : A) (z : B) → Contains xs x → Contains (f x) z → Contains (all_of f xs) z
of_all f [] x z c d = absurd (none_in x c)
of_all f (y ∷ xs) x z c d = go (cases_in y xs x c) (λ k. of_all f xs x z k d)
  where
    go : (y ≡ x) ⊎ Contains xs x → (Contains xs x → Contains (all_of f xs) z) → Contains (f y ++ all_of f xs) z
    go (inl e) more = Contains-append_left (f y) (all_of f xs) z (rw e d)
    go (inr k) more = Contains-append_right (f y) (all_of f xs) z (more k)

-- where nothing is asked of all, nothing is asked of one
pub none_asked : {A B : Type 0} (f : A → List B) (ys : List A) (y : A) → all_of f ys ≡ [] → Contains ys y → (z : B) → Contains (f y) z → ⊥
none_asked {A} {B} f ys y h c z d = none_in z (subst (λ (zs : List B). Contains zs z) h (of_all f ys y z c d))

-- what is asked for where a test holds and it isn't taken
pub asked_if : (b c : Bool) (y x : Decision) → Contains (if b && not c then y ∷ [] else []) x → (y ≡ x) × (b ≡ true) × (c ≡ false)
asked_if true true y x h = absurd (none_in x h)
asked_if false c y x h = absurd (none_in x h)
asked_if true false y x h = go (cases_in y [] x h)
  where
    go : (y ≡ x) ⊎ Contains [] x → (y ≡ x) × (◌≡◌ {A = Bool} true true) × (◌≡◌ {A = Bool} false false)
    go (inl e) = (e, refl, refl)
    go (inr d) = absurd (none_in x d)

-- one of the rules asks for it
pub data IsAskedBy (R : Reference) (d : Taken) (all : List Seen) (y : Seen) (x : Decision) : Type 0 where
  By_pins : Contains (asks_pins d y) x → IsAskedBy R d all y x
  By_values : Contains (asks_values R d y) x → IsAskedBy R d all y x
  By_bounds : Contains (asks_bounds R y) x → IsAskedBy R d all y x
  By_disturbed : Contains (asks_disturbed d all y) x → IsAskedBy R d all y x
  By_shared : Contains (asks_shared d all y) x → IsAskedBy R d all y x

pub asked_by : (R : Reference) (d : Taken) (all : List Seen) (y : Seen) (x : Decision) → Contains (asks_at R d all y) x → IsAskedBy R d all y x
asked_by R d all y x c = shared (Contains-append_cases (asks_pins d y ++ asks_values R d y ++ asks_bounds R y ++ asks_disturbed d all y) (asks_shared d all y) x c)
  where
    pins : Contains (asks_pins d y) x ⊎ Contains (asks_values R d y) x → IsAskedBy R d all y x
    pins (inl h) = By_pins h
    pins (inr h) = By_values h

    bounds : Contains (asks_pins d y ++ asks_values R d y) x ⊎ Contains (asks_bounds R y) x → IsAskedBy R d all y x
    bounds (inl h) = pins (Contains-append_cases (asks_pins d y) (asks_values R d y) x h)
    bounds (inr h) = By_bounds h

    disturbed : Contains (asks_pins d y ++ asks_values R d y ++ asks_bounds R y) x ⊎ Contains (asks_disturbed d all y) x → IsAskedBy R d all y x
    disturbed (inl h) = bounds (Contains-append_cases (asks_pins d y ++ asks_values R d y) (asks_bounds R y) x h)
    disturbed (inr h) = By_disturbed h

    shared : Contains (asks_pins d y ++ asks_values R d y ++ asks_bounds R y ++ asks_disturbed d all y) x ⊎ Contains (asks_shared d all y) x → IsAskedBy R d all y x
    shared (inl h) = disturbed (Contains-append_cases (asks_pins d y ++ asks_values R d y ++ asks_bounds R y) (asks_disturbed d all y) x h)
    shared (inr h) = By_shared h
