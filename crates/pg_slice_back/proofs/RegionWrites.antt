-- What the accesses of a region may write.
use Rattle.std.proofs.Common.{◌≡◌, ◌<◌, ◌≤◌, ◌+◌, ◌⊎◌, inl, inr, ℕ, zero, suc, Bool, true, false, List, [], ◌∷◌, length, Option, Some, None, refl, sym, ap}
use Rattle.std.proofs.Common.{◌∙◌, subst, arith}
use Rattle.std.specs.Prelude.{◌&&◌, ◌||◌, if◌then◌else◌, is_some, nat_lt, slice_get, option_map, IfNone, IfSome}
use Rattle.std.proofs.lemmas.Bool.{cases_lt, le-ltb}
use Rattle.pg_slice_rules.specs.Freeable.{FreeAccess, FreeRegion, bounds_of}
use Rattle.pg_slice_rules.specs.SymbolicValues.{is_within}
use Rattle.pg_law_least.specs.Keeps.{may_write}
use Rattle.pg_slice_passes.specs.pg_slice_replay.declared.run.FreeAccess as declared
use Rattle.pg_slice_passes.specs.pg_slice_replay.Given.{access_as}
use Rattle.pg_slice_passes.specs.pg_slice_replay.Landmarks.{Landmark}
use Rattle.pg_slice_demands.specs.Asked.{asked_of, asks_byte}
use Rattle.pg_slice_demands.specs.declared.demanded.Demanded.{Demanded}
use Rattle.pg_slice_back.specs.Sets.{AsksByte, AsksOfAccess}

or_right : (a b : Bool) → b ≡ true → (a || b) ≡ true
or_right true b q = refl
or_right false b q = q

or_left : (a b : Bool) → a ≡ true → (a || b) ≡ true
or_left true b q = refl
or_left false b q = absurd cc

-- what one of them may write the region may
may_one : (xs : List FreeAccess) (k : ℕ) (a : FreeAccess) (b : ℕ) → slice_get xs k ≡ Some a → (a.writes && is_within (bounds_of a.at.last) b) ≡ true → may_write xs b ≡ true
may_one [] k a b q h = absurd cc
may_one (x ∷ xs) zero a b q h =
    let z : x ≡ a = cc in
    or_left (x.writes && is_within (bounds_of x.at.last) b) (may_write xs b) (subst (λ (y : FreeAccess). (y.writes && is_within (bounds_of y.at.last) b) ≡ true) (sym z) h)
may_one (x ∷ xs) (suc k) a b q h = or_right (x.writes && is_within (bounds_of x.at.last) b) (may_write xs b) (may_one xs k a b q h)

pub one_asks : (o : Option Landmark) (k : ℕ) (found : Option declared.FreeAccess) (a : declared.FreeAccess) → found ≡ Some a →
    IfSome o (λ (l : Landmark). IfSome l.region (λ (q : FreeRegion). option_map access_as found ≡ slice_get q.accesses k)) → (result : Bool) (w : Demanded) →
    (result ≡ true → AsksByte (λ b. a.writes && is_within (bounds_of a.last) b) w)
    → IfSome o (λ (l : Landmark). IfSome l.region (λ (q : FreeRegion). result ≡ true → AsksByte (may_write q.accesses) w))
one_asks None k found a is h result w f = tt
one_asks (Some l) k found a is h result w f = go l.region h
  where
    go : (o : Option FreeRegion) → IfSome o (λ (q : FreeRegion). option_map access_as found ≡ slice_get q.accesses k)
        → IfSome o (λ (q : FreeRegion). result ≡ true → AsksByte (may_write q.accesses) w)
    go None h = tt
    go (Some q) h = λ g. let z = f g in (z.0, may_one q.accesses k (access_as a) z.0 (sym h ∙ ap (option_map access_as) is) z.1, z.2)

-- ---- what isn't asked

-- of an access that is there nothing is asked, so nothing of the one with its number
pub none_asks : (o : Option Landmark) (k : ℕ) (found : Option declared.FreeAccess) (a : declared.FreeAccess) → found ≡ Some a →
    IfSome o (λ (l : Landmark). IfSome l.region (λ (q : FreeRegion). option_map access_as found ≡ slice_get q.accesses k)) → (result : Bool) (w : Demanded) →
    (result ≡ false → AsksByte (λ b. a.writes && is_within (bounds_of a.last) b) w → ⊥)
    → IfSome o (λ (l : Landmark). IfSome l.region (λ (q : FreeRegion). result ≡ false → AsksOfAccess (slice_get q.accesses k) w → ⊥))
none_asks None k found a is h result w f = tt
none_asks (Some l) k found a is h result w f = go l.region h
  where
    go : (o : Option FreeRegion) → IfSome o (λ (q : FreeRegion). option_map access_as found ≡ slice_get q.accesses k)
        → IfSome o (λ (q : FreeRegion). result ≡ false → AsksOfAccess (slice_get q.accesses k) w → ⊥)
    go None h = tt
    go (Some q) h = λ g asks. f g (subst (λ (x : Option FreeAccess). AsksOfAccess x w) (sym h ∙ ap (option_map access_as) is) asks)

-- there is no access with this number
pub none_there : (o : Option Landmark) (k : ℕ) (found : Option declared.FreeAccess) → found ≡ None →
    IfSome o (λ (l : Landmark). IfSome l.region (λ (q : FreeRegion). option_map access_as found ≡ slice_get q.accesses k)) → (result : Bool) (w : Demanded)
    → IfSome o (λ (l : Landmark). IfSome l.region (λ (q : FreeRegion). result ≡ false → AsksOfAccess (slice_get q.accesses k) w → ⊥))
none_there None k found is h result w = tt
none_there (Some l) k found is h result w = go l.region h
  where
    go : (o : Option FreeRegion) → IfSome o (λ (q : FreeRegion). option_map access_as found ≡ slice_get q.accesses k)
        → IfSome o (λ (q : FreeRegion). result ≡ false → AsksOfAccess (slice_get q.accesses k) w → ⊥)
    go None h = tt
    go (Some q) h = λ g asks. subst (λ (x : Option FreeAccess). AsksOfAccess x w) (sym h ∙ ap (option_map access_as) is) asks

-- a byte that some access may write is asked of that access
one_of : (xs : List FreeAccess) (b : ℕ) (w : Demanded) → may_write xs b ≡ true → asks_byte w b ≡ true
    → (k : ℕ) × (k < length xs) × AsksOfAccess (slice_get xs k) w
one_of [] b w h q = absurd cc
one_of (x ∷ xs) b w h q = go (x.writes && is_within (bounds_of x.at.last) b) refl (λ e. one_of xs b w e q)
  where
    go : (v : Bool) → (x.writes && is_within (bounds_of x.at.last) b) ≡ v → (may_write xs b ≡ true → (k : ℕ) × (k < length xs) × AsksOfAccess (slice_get xs k) w)
        → (k : ℕ) × (k < length (x ∷ xs)) × AsksOfAccess (slice_get (x ∷ xs) k) w
    go true e later = (0, omega arith, (b, e, q))
    go false e later = let r = later (ap (λ v. v || may_write xs b) (sym e) ∙ h) in (suc r.0, omega (arith, r.1), r.2)

pub of_none : (xs : List FreeAccess) (w : Demanded) → ((k : ℕ) → k < length xs → AsksOfAccess (slice_get xs k) w → ⊥) → AsksByte (may_write xs) w → ⊥
of_none xs w none asks = let r = one_of xs asks.0 w asks.1 asks.2 in none r.0 r.1 r.2

-- ---- a region of which nothing is asked

abbrev pub FewAsked : Option Landmark → ℕ → Demanded → Type 0
FewAsked o k w = IfSome o (λ (l : Landmark). IfSome l.region (λ (q : FreeRegion). (j : ℕ) → j < k → AsksOfAccess (slice_get q.accesses j) w → ⊥))

pub few_none : (o : Option Landmark) (w : Demanded) → FewAsked o 0 w
few_none None w = tt
few_none (Some l) w = go l.region
  where
    go : (o : Option FreeRegion) → IfSome o (λ (q : FreeRegion). (j : ℕ) → j < 0 → AsksOfAccess (slice_get q.accesses j) w → ⊥)
    go None = tt
    go (Some q) = λ j lt asks. omega (arith, lt)

pub few_next : (o : Option Landmark) (k : ℕ) (w : Demanded) (result : Bool) → result ≡ false → FewAsked o k w
    → IfSome o (λ (l : Landmark). IfSome l.region (λ (q : FreeRegion). result ≡ false → AsksOfAccess (slice_get q.accesses k) w → ⊥)) → FewAsked o (k + 1) w
few_next None k w result is few one = tt
few_next (Some l) k w result is few one = go l.region few one
  where
    at : (q : FreeRegion) → ((j : ℕ) → j < k → AsksOfAccess (slice_get q.accesses j) w → ⊥) → (AsksOfAccess (slice_get q.accesses k) w → ⊥) → (j : ℕ)
        → j < k + 1 → AsksOfAccess (slice_get q.accesses j) w → ⊥
    at q few one j lt asks = by (cases_lt j k)
      where
        by : (j < k) ⊎ (k ≤ j) → ⊥
        by (inl less) = few j less asks
        by (inr more) = let same : j ≡ k = omega (arith, more, lt) in one (subst (λ (i : ℕ). AsksOfAccess (slice_get q.accesses i) w) same asks)

    go : (o : Option FreeRegion) → IfSome o (λ (q : FreeRegion). (j : ℕ) → j < k → AsksOfAccess (slice_get q.accesses j) w → ⊥)
        → IfSome o (λ (q : FreeRegion). result ≡ false → AsksOfAccess (slice_get q.accesses k) w → ⊥)
        → IfSome o (λ (q : FreeRegion). (j : ℕ) → j < k + 1 → AsksOfAccess (slice_get q.accesses j) w → ⊥)
    go None few one = tt
    go (Some q) few one = at q few (one is)

pub none_written : (o : Option Landmark) (count k : ℕ) (w : Demanded) → count ≤ k
    → IfSome o (λ (l : Landmark). IfSome l.region (λ (q : FreeRegion). count ≡ length q.accesses)) → FewAsked o k w
    → IfSome o (λ (l : Landmark). IfSome l.region (λ (q : FreeRegion). AsksByte (may_write q.accesses) w → ⊥))
none_written None count k w all is few = tt
none_written (Some l) count k w all is few = go l.region is few
  where
    go : (o : Option FreeRegion) → IfSome o (λ (q : FreeRegion). count ≡ length q.accesses)
        → IfSome o (λ (q : FreeRegion). (j : ℕ) → j < k → AsksOfAccess (slice_get q.accesses j) w → ⊥)
        → IfSome o (λ (q : FreeRegion). AsksByte (may_write q.accesses) w → ⊥)
    go None is few = tt
    go (Some q) is few = of_none q.accesses w (λ j lt. few j (omega (arith, all, lt, is)))

-- what holds of a region holds of it whatever was answered
pub silent : (o : Option Landmark) (w : Demanded) (result : Bool) → IfSome o (λ (l : Landmark). IfSome l.region (λ (q : FreeRegion). AsksByte (may_write q.accesses) w → ⊥))
    → IfSome o (λ (l : Landmark). IfSome l.region (λ (q : FreeRegion). result ≡ false → AsksByte (may_write q.accesses) w → ⊥))
silent None w result h = tt
silent (Some l) w result h = go l.region h
  where
    go : (o : Option FreeRegion) → IfSome o (λ (q : FreeRegion). AsksByte (may_write q.accesses) w → ⊥)
        → IfSome o (λ (q : FreeRegion). result ≡ false → AsksByte (may_write q.accesses) w → ⊥)
    go None h = tt
    go (Some q) h = λ e. h

-- where no byte is asked, none is that a region may write
pub none_asked : (o : Option Landmark) (w : Demanded) → ((b : ℕ) → asks_byte w b ≡ true → ⊥)
    → IfSome o (λ (l : Landmark). IfSome l.region (λ (q : FreeRegion). AsksByte (may_write q.accesses) w → ⊥))
none_asked None w h = tt
none_asked (Some l) w h = go l.region
  where
    go : (o : Option FreeRegion) → IfSome o (λ (q : FreeRegion). AsksByte (may_write q.accesses) w → ⊥)
    go None = tt
    go (Some q) = λ a. h a.0 a.2

otherwise : (t c : Bool) → t ≡ false → (if t then c else false) ≡ false
otherwise true c e = absurd cc
otherwise false c e = refl

-- bytes that have no place aren't asked
pub none_found : (w : Demanded) (o : Option ℕ) → is_some o ≡ false → IfNone o ((b : ℕ) → 0 ≤ b → b < 18446744073709551615 → asks_byte w b ≡ false) → (b : ℕ) → asks_byte w b ≡ true → ⊥
none_found w (Some x) e h b q = absurd cc
none_found w None e h b q = by (cases_lt b 67108864)
  where
    by : (b < 67108864) ⊎ (67108864 ≤ b) → ⊥
    by (inl lt) = let z : false ≡ true = sym (h b (omega arith) (omega (arith, lt))) ∙ q in absurd cc
    by (inr le) =
        let z : asks_byte w b ≡ false = otherwise (nat_lt b 67108864) _ (le-ltb b 67108864 le) in
        let y : false ≡ true = sym z ∙ q in absurd cc

-- ---- registers

-- none of the first registers of a call that are set and among the first so many has to be known
abbrev pub Unasked : (ℕ → Bool) → ℕ → ℕ → ℕ → Demanded → ℕ → Type 0
Unasked sets t k count m from = (i : ℕ) (v : Bool) → i < from → i < count → sets i ≡ true → asked_of m t k i ≡ Some v → ⊥
