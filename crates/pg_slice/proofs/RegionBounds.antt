-- Bounds of regions that meet others.
use Rattle.std.proofs.Common.{◌≡◌, ℕ, zero, suc, Bool, true, false, List, [], ◌∷◌, map, Option, Some, None, option_map, slice_get, refl, sym, ap, ◌∙◌}
use Rattle.std.specs.Prelude.{◌||◌, IfSome}
use Rattle.std.specs.List.{list_any}
use Rattle.pg_slice_rules.specs.Freeable.{FreeAccess, FreeRegion, bounds_of}
use Rattle.pg_slice_rules.specs.Rules.{Footprint, footprints_in}
use Rattle.pg_slice_walk.specs.pg_slice_replay.Landmarks.{Landmark}
use Rattle.pg_slice_walk.specs.pg_slice_replay.Given.{access_as}
use Rattle.pg_slice_walk.specs.pg_slice_replay.declared.run.FreeAccess.{FreeAccess as ACodeAccess}
use Rattle.pg_slice.specs.Footprints.{pointer_footprint}

some_is : {A : Type 0} (x y : A) → Some x ≡ Some y → x ≡ y
some_is x y q = cc

any_true : (a : Bool) → (a || true) ≡ true
any_true true = refl
any_true false = refl

-- one of a list, by its place
any_at : {A B : Type 0} (f : B → Bool) (g : A → B) (xs : List A) (k : ℕ) (x : A) → slice_get xs k ≡ Some x → f (g x) ≡ true → list_any f (map g xs) ≡ true
any_at f g [] k x h q = absurd cc
any_at f g (y ∷ xs) zero x h q = rw (ap (λ z. f (g z)) (some_is y x h) ∙ q) refl
any_at f g (y ∷ xs) (suc k) x h q = rw (any_at f g xs k x h q) (any_true (f (g y)))

abbrev bounds_footprint : FreeAccess → Footprint
bounds_footprint a = record { bytes = bounds_of a.at.last; writes = a.writes }

in_region : (f : Footprint → Bool) (o : Option FreeRegion) (k : ℕ) (res : Option ACodeAccess) (a : ACodeAccess) → res ≡ Some a
    → IfSome o (λ (q : FreeRegion). option_map access_as res ≡ slice_get q.accesses k) →
    f (pointer_footprint (record { word = a.last; writes = a.writes })) ≡ true → IfSome o (λ (q : FreeRegion). list_any f (footprints_in o) ≡ true)
in_region f None k res a e h q = tt
in_region f (Some r) k res a e h q = any_at f bounds_footprint r.accesses k (access_as a) (sym h ∙ ap (option_map access_as) e) q

-- the bounds with this number of a region pass a test
pub region_has : (f : Footprint → Bool) (o : Option Landmark) (k : ℕ) (res : Option ACodeAccess) (a : ACodeAccess) → res ≡ Some a →
    IfSome o (λ (l : Landmark). IfSome l.region (λ (q : FreeRegion). option_map access_as res ≡ slice_get q.accesses k))
    → (b : Bool) → b ≡ f (pointer_footprint (record { word = a.last; writes = a.writes })) →
    IfSome o (λ (l : Landmark). IfSome l.region (λ (q : FreeRegion). b ≡ true → list_any f (footprints_in l.region) ≡ true))
region_has f None k res a e h b c = tt
region_has f (Some l) k res a e h b c = go l.region h
  where
    go : (o : Option FreeRegion) → IfSome o (λ (q : FreeRegion). option_map access_as res ≡ slice_get q.accesses k)
        → IfSome o (λ (q : FreeRegion). b ≡ true → list_any f (footprints_in o) ≡ true)
    go None h = tt
    go (Some r) h = λ q. in_region f (Some r) k res a e h (sym c ∙ q)

-- the same where a test says so of some other
pub region_meets : {B : Type 0} (f : Footprint → B → Bool) (o : Option Landmark) (other : Option B) (k : ℕ) (res : Option ACodeAccess) (a : ACodeAccess) → res ≡ Some a →
    IfSome o (λ (l : Landmark). IfSome l.region (λ (q : FreeRegion). option_map access_as res ≡ slice_get q.accesses k)) → (b : Bool) →
    IfSome other (λ (y : B). b ≡ true → f (pointer_footprint (record { word = a.last; writes = a.writes })) y ≡ true) →
    IfSome o (λ (l : Landmark). IfSome l.region (λ (q : FreeRegion). IfSome other (λ (y : B). b ≡ true → list_any (λ (x : Footprint). f x y) (footprints_in l.region) ≡ true)))
region_meets f None other k res a e h b c = tt
region_meets {B} f (Some l) other k res a e h b c = go l.region h other c
  where
    some_region : (r : FreeRegion) (y : B) → IfSome (Some r) (λ (q : FreeRegion). list_any (λ (x : Footprint). f x y) (footprints_in (Some r)) ≡ true)
        → list_any (λ (x : Footprint). f x y) (footprints_in (Some r)) ≡ true
    some_region r y q = q

    go : (o : Option FreeRegion) → IfSome o (λ (q : FreeRegion). option_map access_as res ≡ slice_get q.accesses k) → (other : Option B) →
        IfSome other (λ (y : B). b ≡ true → f (pointer_footprint (record { word = a.last; writes = a.writes })) y ≡ true) →
        IfSome o (λ (q : FreeRegion). IfSome other (λ (y : B). b ≡ true → list_any (λ (x : Footprint). f x y) (footprints_in o) ≡ true))
    go None h other c = tt
    go (Some r) h None c = tt
    go (Some r) h (Some y) c = λ q. some_region r y (in_region (λ (x : Footprint). f x y) (Some r) k res a e h (c q))
