-- The footprints of the regions of steps, one after another.
use Rattle.std.proofs.Common.{◌≡◌, ℕ, zero, suc, ◌+◌, ◌<◌, ◌≤◌, Bool, true, false, List, [], ◌∷◌, ◌++◌, length, map, drop, Option, Some, None, IfSome}
use Rattle.std.proofs.Common.{option_map, slice_get, refl, sym, ap, ◌∙◌, subst, arith, append_assoc}
use Rattle.std.specs.Prelude.{if◌then◌else◌, is_some}
use Rattle.std.proofs.lemmas.Bool.{false≢true}
use Rattle.pg_slice_rules.specs.Freeable.{FreeAccess, FreeRegion, bounds_of}
use Rattle.pg_slice_rules.specs.Known.{Seen}
use Rattle.pg_slice_rules.specs.Rules as rules
use Rattle.pg_slice_conflicts.specs.declared.footprint.Footprint.{Footprint}
use Rattle.pg_law_demands.specs.pg_law_least.Footprints.{access_footprints, of_step, region_footprints}
use Rattle.pg_schedule.specs.declared.interval.Interval.{Interval}
use Rattle.pg_slice_replay.specs.declared.run.ReferenceRun.{ReferenceRun}
use Rattle.pg_slice_replay.specs.Kept.{landmark_at, landmark_in, step_count}
use Rattle.pg_slice_replay.specs.Landmarks.{Landmark}
use Rattle.pg_run_trace.specs.declared.step.Step.{Step}
use Rattle.pg_run_trace.specs.declared.step.Access.{Access}
use Rattle.pg_run_trace.specs.Steps.{access_in}
use Rattle.pg_slice_passes.specs.declared.footprints.Owner.{Owner}
use Rattle.pg_slice_passes.specs.Passes.{IsTimed}
use Rattle.pg_slice_passes.specs.Footprints.{owner, owners_at, footprint_by}

-- ---- a step that there is

got : {A B : Type 0} (f : A → B) (xs : List A) (n : ℕ) → n < length xs → is_some (option_map f (slice_get xs n)) ≡ true
got f [] n h = absurd (omega (arith, h))
got f (x ∷ xs) zero h = refl
got f (x ∷ xs) (suc n) h = got f xs n (omega (arith, h))

pub is_there : (r : ReferenceRun) (n : ℕ) → n < step_count r → is_some (landmark_at r n) ≡ true
is_there r n h = got (landmark_in r.ats.items r.regions.items) r.rows.items n h

none_of : {A : Type 0} (o : Option A) → false ≡ is_some o → o ≡ None
none_of None h = refl
none_of (Some a) h = absurd (false≢true h)

some_of : {A : Type 0} (o : Option A) → true ≡ is_some o → (a : A) × (o ≡ Some a)
some_of None h = absurd (false≢true (sym h))
some_of (Some a) h = (a, refl)

-- its region
pub no_region : (o : Option Landmark) (q : Option FreeRegion) → is_some o ≡ true → IfSome o (λ (l : Landmark). q ≡ l.region) → IfSome o (λ (l : Landmark). false ≡ is_some l.region)
    → q ≡ None
no_region None q h a b = absurd (false≢true h)
no_region (Some l) q h a b = a ∙ none_of l.region b

pub a_region : (o : Option Landmark) (q : Option FreeRegion) → is_some o ≡ true → IfSome o (λ (l : Landmark). q ≡ l.region) → IfSome o (λ (l : Landmark). true ≡ is_some l.region)
    → (f : FreeRegion) × (q ≡ Some f)
a_region None q h a b = absurd (false≢true h)
a_region (Some l) q h a b = let s = some_of l.region b in (s.0, a ∙ s.1)

-- what is said of it
pub of_region : (P : FreeRegion → Type 0) (o : Option Landmark) (q : Option FreeRegion) (f : FreeRegion) → is_some o ≡ true → IfSome o (λ (l : Landmark). q ≡ l.region) → q ≡ Some f
    → IfSome o (λ (l : Landmark). IfSome l.region P) → P f
of_region P None q f h a e b = absurd (false≢true h)
of_region P (Some l) q f h a e b = subst (λ (y : Option FreeRegion). IfSome y P) (sym a ∙ e) b

-- ---- its footprints

twice_mapped : {A B C : Type 0} (f : B → C) (g : A → B) (xs : List A) → map f (map g xs) ≡ map (λ a. f (g a)) xs
twice_mapped f g [] = refl
twice_mapped f g (x ∷ xs) = ap (λ l. f (g x) ∷ l) (twice_mapped f g xs)

pub footprints_of_region : (x : Seen) (f : FreeRegion) → x.live ≡ true → x.region ≡ Some f → region_footprints x ≡ map (footprint_by x) f.accesses
footprints_of_region x f l e =
    ap (λ (b : Bool). map (of_step true x) (if b then rules.footprints_in x.region else [])) l
    ∙ ap (λ (q : Option FreeRegion). map (of_step true x) (rules.footprints_in q)) e
    ∙ twice_mapped (of_step true x) (λ (a : FreeAccess). record { bytes = bounds_of a.at.last; writes = a.writes }) f.accesses

pub no_footprints : (x : Seen) → x.live ≡ true → x.region ≡ None → region_footprints x ≡ []
no_footprints x l e =
    ap (λ (b : Bool). map (of_step true x) (if b then rules.footprints_in x.region else [])) l
    ∙ ap (λ (q : Option FreeRegion). map (of_step true x) (rules.footprints_in q)) e

pub each_owned : {A B C : Type 0} (o : C) (g : A → B) (xs : List A) → map (λ (y : B). o) (map g xs) ≡ map (λ (a : A). o) xs
each_owned o g [] = refl
each_owned o g (x ∷ xs) = ap (λ l. o ∷ l) (each_owned o g xs)

pub footprint_is : (x : Seen) (step : Step) (i : Interval) (a : FreeAccess) (word : ℕ) (writes : Bool) → IsTimed x step i → a.at.last ≡ word → a.writes ≡ writes →
    record { thread = step.thread; low = i.low; high = i.high; start = (bounds_of word).start; bytes = (bounds_of word).bytes; writes = writes; of_region = true } ≡ footprint_by x a
footprint_is x step i a word writes t w e = rw (t.did, t.low, t.high, w, e) refl

-- that of its access
pub footprint_of_access : (x : Seen) (step : Step) (i : Interval) (a : Access) → IsTimed x step i → x.live ≡ true → access_in step.kind ≡ Some a →
    access_footprints x ≡ record {
      thread = step.thread;
      low = i.low;
      high = i.high;
      start = (bounds_of a.pointer).start;
      bytes = (bounds_of a.pointer).bytes;
      writes = a.writes;
      of_region = false;
    } ∷ []
footprint_of_access x step i a t l e =
    ap (λ (b : Bool). map (of_step false x) (if b then rules.footprint_of (access_in (rules.kind_in x)) else [])) l
    ∙ ap (λ (y : Step). map (of_step false x) (rules.footprint_of (access_in y.kind))) t.did
    ∙ ap (λ (o : Option Access). map (of_step false x) (rules.footprint_of o)) e
    ∙ rw (t.did, t.low, t.high) refl

pub no_access : (x : Seen) (step : Step) (i : Interval) → IsTimed x step i → access_in step.kind ≡ None → access_footprints x ≡ []
no_access x step i t e = go x.live
  where
    go : (b : Bool) → map (of_step false x) (if b then rules.footprint_of (access_in (rules.kind_in x)) else []) ≡ []
    go true = ap (λ (y : Step). map (of_step false x) (rules.footprint_of (access_in y.kind))) t.did ∙ ap (λ (o : Option Access). map (of_step false x) (rules.footprint_of o)) e
    go false = refl

-- ---- one after another

append_none : {A : Type 0} (xs : List A) → xs ++ [] ≡ xs
append_none [] = refl
append_none (x ∷ xs) = ap (λ ys. x ∷ ys) (append_none xs)

pub none_added : {A : Type 0} (xs ys : List A) → ys ≡ [] → xs ≡ xs ++ ys
none_added xs ys e = sym (append_none xs) ∙ ap (λ l. xs ++ l) (sym e)

dropped : {A : Type 0} (xs : List A) (i : ℕ) (a : A) → slice_get xs i ≡ Some a → drop i xs ≡ a ∷ drop (i + 1) xs
dropped [] i a h = absurd cc
dropped (x ∷ xs) zero a h = let e : x ≡ a = cc in rw e refl
dropped (x ∷ xs) (suc i) a h = let z : suc i + 1 ≡ suc (i + 1) = omega arith in rw z (dropped xs i a h)

pub one_more : {A B : Type 0} (f : A → B) (xs : List A) (i : ℕ) (a : A) (old new whole : List B) → slice_get xs i ≡ Some a → new ≡ old ++ f a ∷ [] →
    old ++ map f (drop i xs) ≡ whole → new ++ map f (drop (i + 1) xs) ≡ whole
one_more f xs i a old new whole h e k =
    ap (λ ys. ys ++ map f (drop (i + 1) xs)) e
    ∙ append_assoc old (f a ∷ []) (map f (drop (i + 1) xs))
    ∙ ap (λ ys. old ++ map f ys) (sym (dropped xs i a h))
    ∙ k

past_all : {A : Type 0} (xs : List A) (i : ℕ) → length xs ≤ i → drop i xs ≡ []
past_all [] zero h = refl
past_all [] (suc i) h = refl
past_all (x ∷ xs) zero h = absurd (omega (arith, h))
past_all (x ∷ xs) (suc i) h = past_all xs i (omega (arith, h))

pub all_done : {A B : Type 0} (f : A → B) (xs : List A) (i : ℕ) (old whole : List B) → length xs ≤ i → old ++ map f (drop i xs) ≡ whole → old ≡ whole
all_done f xs i old whole h k = sym (append_none old) ∙ ap (λ ys. old ++ map f ys) (sym (past_all xs i h)) ∙ k

-- an access that is handed out stands there
pub taken_out : {A B : Type 0} (f : A → B) (o : Option A) (a : A) (q : Option B) → o ≡ Some a → option_map f o ≡ q → q ≡ Some (f a)
taken_out f o a q e h = sym h ∙ ap (λ y. option_map f y) e

pub marked : (o : Option Landmark) (q : Option FreeRegion) (f : FreeRegion) → IfSome o (λ (l : Landmark). q ≡ l.region) → q ≡ Some f → IfSome o (λ (l : Landmark). l.region ≡ Some f)
marked None q f h e = tt
marked (Some l) q f h e = sym h ∙ e

map_both : {A B : Type 0} (f : A → B) (xs ys : List A) → map f (xs ++ ys) ≡ map f xs ++ map f ys
map_both f [] ys = refl
map_both f (x ∷ xs) ys = ap (λ l. f x ∷ l) (map_both f xs ys)

-- those of the access, then those of the region
pub then_added : {A : Type 0} (old between new xs ys : List A) → between ≡ old ++ xs → new ≡ between ++ ys → new ≡ old ++ (xs ++ ys)
then_added old between new xs ys e f = f ∙ ap (λ l. l ++ ys) e ∙ append_assoc old xs ys

pub then_owned : (x : Seen) (o : Owner) (old between new : List Owner) → o ≡ owner x → between ≡ old ++ map (λ (f : Footprint). o) (access_footprints x)
    → new ≡ between ++ map (λ (f : Footprint). o) (region_footprints x) → new ≡ old ++ owners_at x
then_owned x o old between new h e f =
    then_added old between new (map (λ (y : Footprint). o) (access_footprints x)) (map (λ (y : Footprint). o) (region_footprints x)) e f
    ∙ ap (λ l. old ++ l) (sym (map_both (λ (y : Footprint). o) (access_footprints x) (region_footprints x)))
    ∙ ap (λ (z : Owner). old ++ map (λ (y : Footprint). z) (access_footprints x ++ region_footprints x)) h

pub owner_is : (x : Seen) (step : Step) (i : Interval) (n : ℕ) (plain : Bool) → IsTimed x step i → x.number ≡ n → plain ≡ rules.is_plain step.kind
    → record { step = n; plain = plain } ≡ owner x
owner_is x step i n plain t e h = rw (sym e, h, sym t.did) refl

pub not_there : {A B : Type 0} (f : A → B) (o : Option A) (q : Option B) (b : B) → o ≡ None → option_map f o ≡ q → q ≡ Some b → ⊥
not_there f None q b e h k = let z : q ≡ None = sym h in absurd cc
not_there f (Some a) q b e h k = absurd cc
