-- A search from a place, front by front.
use Rattle.std.proofs.Common.{◌≡◌, ℕ, zero, suc, ◌+◌, ◌-◌, ◌<◌, ◌≤◌, Bool, true, false, List, [], ◌∷◌, length, replicate, refl, sym, ap, subst, ◌∙◌}
use Rattle.std.proofs.Common.{arith, inl, inr}
use Rattle.std.specs.Prelude.{◌==◌, ◌||◌, ◌⊎◌}
use Rattle.std.specs.List.{flat_map, list_any}
use Rattle.std.proofs.lemmas.Bool.Decides.{nat_tests}
use Rattle.std.proofs.lemmas.List.{length-replicate}
use Rattle.pg_check_heads.specs.Circles.{arrives, has, is_seen, IsFront, Noted}
use Rattle.pg_check_heads.proofs.Reaching.{Found, from_flat, next_front, next_left, next_reached, Reached, found_now, never_found}

-- so many rounds of the search are done, of as many as there are places
pub record Searching (edges : ℕ → List ℕ) (target start n r : ℕ) (seen : List Bool) (front : List ℕ) : Type 0 where
  pub fronts : IsFront edges target seen front
  pub size : length seen ≡ n
  pub reached : Reached edges target start r front
  pub left : arrives n edges target start ≡ true → Found (arrives (n - r) edges target) front

abbrev pub Bounded : (ℕ → List ℕ) → ℕ → Type 0
Bounded edges n = (p w : ℕ) → has (edges p) w ≡ true → w < n

bound : (edges : ℕ → List ℕ) (n : ℕ) → Bounded edges n → (front : List ℕ) (w : ℕ) → has (flat_map edges front) w ≡ true → w < n
bound edges n b front w h = let l = from_flat edges front w h in b l.place w l.leads

pub next_round : (edges : ℕ → List ℕ) (target start n r : ℕ) (seen after : List Bool) (front next : List ℕ) → r < n → Bounded edges n → has (flat_map edges front) target ≡ false
    → Noted (flat_map edges front) seen after next → Searching edges target start n r seen front → Searching edges target start n (r + 1) after next
next_round edges target start n r seen after front next l b a noted s =
    let within : (w : ℕ) → has (flat_map edges front) w ≡ true → w < length seen = λ w h. subst (λ k. w < k) (sym s.size) (bound edges n b front w h) in
    let less : n - r ≡ suc (n - (r + 1)) = omega (arith, l) in
    record {
      fronts = next_front edges target seen after front next s.fronts a within noted;
      size = noted.same ∙ s.size;
      reached = next_reached edges target start r front next noted.from s.reached;
      left = λ e. next_left edges target seen after front next s.fronts a within noted (n - (r + 1)) (subst (λ k. Found (arrives k edges target) front) less (s.left e));
    }

unseen : (n v : ℕ) → is_seen (replicate n false) v ≡ false
unseen zero v = refl
unseen (suc n) zero = refl
unseen (suc n) (suc v) = unseen n v

alone : (start v : ℕ) → has (start ∷ []) v ≡ true → start ≡ v
alone start v h = by (start == v) refl h
  where
    by : (b : Bool) → (start == v) ≡ b → (b || false) ≡ true → start ≡ v
    by true e k = grind (arith, nat_tests)
    by false e k = absurd cc

same_nat : (n : ℕ) → (n == n) ≡ true
same_nat n = grind (arith, nat_tests)

-- the search begins
pub first_round : (edges : ℕ → List ℕ) (target start n : ℕ) (after : List Bool) (front : List ℕ) → start < n → (start == target) ≡ false
    → Noted (start ∷ []) (replicate n false) after front → Searching edges target start n 0 after front
first_round edges target start n after front l d noted = record {
  fronts = record {
    closed = λ v w s e. by_new v w (noted.new v s);
    among = noted.among;
    away = by_away (is_seen after target) refl;
  };
  size = noted.same ∙ length-replicate n false;
  reached = λ j f h e. let s = alone start f (noted.from f h) in subst (λ k. arrives k edges target start ≡ true) (zero_more j) (subst (λ p. arrives j edges target p ≡ true) (sym s) e);
  left = λ e. record {
    place = start;
    among = by_own (noted.new start (noted.noted start (ap (λ b. b || false) (same_nat start)) (subst (λ k. start < k) (sym (length-replicate n false)) l)));
    passes = ap (λ k. arrives k edges target start) all_left ∙ e;
  };
}
  where
    zero_more : (j : ℕ) → j ≡ 0 + j
    zero_more j = omega arith

    all_left : n - 0 ≡ n
    all_left = omega arith

    by_new : (v w : ℕ) → (is_seen (replicate n false) v ≡ true) ⊎ (has front v ≡ true) → (has front v ≡ true) ⊎ (is_seen after w ≡ true)
    by_new v w (inl s) = let x : true ≡ false = sym s ∙ unseen n v in absurd cc
    by_new v w (inr h) = inl h

    by_own : (is_seen (replicate n false) start ≡ true) ⊎ (has front start ≡ true) → has front start ≡ true
    by_own (inl s) = let x : true ≡ false = sym s ∙ unseen n start in absurd cc
    by_own (inr h) = h

    by_seen : (is_seen (replicate n false) target ≡ true) ⊎ (has front target ≡ true) → true ≡ false
    by_seen (inl s) = sym s ∙ unseen n target
    by_seen (inr h) =
        let s = alone start target (noted.from target h) in
        sym (same_nat start) ∙ ap (λ p. start == p) s ∙ d

    by_away : (b : Bool) → is_seen after target ≡ b → is_seen after target ≡ false
    by_away false e = e
    by_away true e = e ∙ by_seen (noted.new target e)

-- no place is left
pub nothing_left : (edges : ℕ → List ℕ) (target start n r : ℕ) (seen : List Bool) → Searching edges target start n r seen [] → false ≡ arrives n edges target start
nothing_left edges target start n r seen s = never_found edges target start n (λ e. none (s.left e))
  where
    none : Found (arrives (n - r) edges target) [] → ⊥
    none f = let h = f.among in cc

-- all rounds are done
pub all_done : (edges : ℕ → List ℕ) (target start n r : ℕ) (seen : List Bool) (front : List ℕ) → n ≤ r → Searching edges target start n r seen front
    → false ≡ arrives n edges target start
unfolding arrives
all_done edges target start n r seen front l s = never_found edges target start n (λ e. none (s.left e))
  where
    rest : n - r ≡ 0
    rest = omega (arith, l)

    none : Found (arrives (n - r) edges target) front → ⊥
    none f =
        let p : (f.place == target) ≡ true = sym (ap (λ k. arrives k edges target f.place) rest) ∙ f.passes in
        let t : f.place ≡ target = grind (arith, nat_tests) in
        let x : true ≡ false = sym (s.fronts.among f.place f.among) ∙ ap (λ v. is_seen seen v) t ∙ s.fronts.away in
        cc

pub is_found : (edges : ℕ → List ℕ) (target start n r : ℕ) (seen : List Bool) (front : List ℕ) → r < n → Searching edges target start n r seen front
    → has (flat_map edges front) target ≡ true → true ≡ arrives n edges target start
is_found edges target start n r seen front l s h = sym (found_now edges target start r n front l s.reached h)

-- the start is the target
pub at_once : (edges : ℕ → List ℕ) (target start n : ℕ) → (start == target) ≡ true → true ≡ arrives n edges target start
unfolding arrives
at_once edges target start zero e = sym e
at_once edges target start (suc n) e = sym (ap (λ b. b || list_any (arrives n edges target) (edges start)) e)
