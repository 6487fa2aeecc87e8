-- The passes of a direction answer a footprint just where it conflicts with one that it minds.
use Rattle.std.proofs.Common.{◌≡◌, ℕ, ◌+◌, ◌-◌, ◌<◌, ◌≤◌, ◌==◌, ◌≢◌, Bool, true, false, List, refl, sym, ap, ◌∙◌, arith}
use Rattle.std.specs.Prelude.{◌&&◌, ◌||◌, not, max, nat_lt}
use Rattle.std.proofs.lemmas.Bool.{eqb-false, le-ltb, lt-ltb, ltb-true, ltb-false}
use Rattle.pg_run_trace.specs.Races as races
use Rattle.pg_slice_conflicts.specs.declared.footprint.Footprint.{Footprint}
use Rattle.pg_slice_conflicts.specs.declared.places.Placed.{Placed}
use Rattle.pg_slice_conflicts.specs.Meets.{bytes_of, meets, overlap}
use Rattle.pg_slice_conflicts.specs.Passes.{answers_along, need_of, rank_of, same}
use Rattle.pg_slice_conflicts.specs.Places.{IsPlaced}
use Rattle.pg_slice_conflicts.proofs.TableAnswers.{eqb_turn}
use Rattle.pg_slice_conflicts.proofs.SharedPlaces.{share_places}
use Rattle.pg_slice_conflicts.proofs.ListTests.{or_false, same_tests}

-- what one pass answers, where it asks of those that write as w says and are of regions as r says
abbrev one_pass : Bool → Bool → Bool → Bool → Bool → Bool → Bool → Bool
one_pass w r yw yr xw xr rest = (same w yw && same r yr) && (((w || xw) && (r || not xr)) && rest)

-- just one of the four passes asks
four_passes : (yw yr xw xr rest : Bool) →
    (((one_pass false false yw yr xw xr rest || one_pass false true yw yr xw xr rest) || one_pass true false yw yr xw xr rest) || one_pass true true yw yr xw xr rest)
    ≡ (((yw || xw) && (yr || not xr)) && rest)
four_passes true true xw xr rest = refl
four_passes true false xw xr rest = or_false (not xr && rest)
four_passes false true xw xr rest = or_false ((xw && true) && rest || false) ∙ or_false ((xw && true) && rest)
four_passes false false xw xr rest = or_false (((xw && not xr) && rest || false) || false) ∙ or_false ((xw && not xr) && rest || false) ∙ or_false ((xw && not xr) && rest)

-- the parts of a meeting in another order
parts : (w m s t o : Bool) → ((w && m) && (s && (t && o))) ≡ (m && ((t && o) && (w && s)))
parts true true true t o = turn (t && o)
  where
    turn : (b : Bool) → b ≡ (b && true)
    turn true = refl
    turn false = refl
parts true true false t o = turn (t && o)
  where
    turn : (b : Bool) → false ≡ (b && false)
    turn true = refl
    turn false = refl
parts true false s t o = refl
parts false true s t o = turn (t && o)
  where
    turn : (b : Bool) → false ≡ (b && false)
    turn true = refl
    turn false = refl
parts false false s t o = refl

-- the intervals overlap, by ranks

not_lt : (a b : ℕ) → nat_lt a (b + 1) ≡ not (nat_lt b a)
not_lt a b = same_tests (nat_lt a (b + 1)) (not (nat_lt b a))
    (λ e. let l = ltb-true a (b + 1) e in ap not (le-ltb b a (omega (arith, l))))
    (λ e. let l = ltb-false b a (unnot (nat_lt b a) e) in lt-ltb a (b + 1) (omega (arith, l)))
  where
    unnot : (b : Bool) → not b ≡ true → b ≡ false
    unnot true e = sym e
    unnot false e = refl

forward_overlap : (x y : Footprint) → x.low ≤ y.high → nat_lt (need_of false y) (rank_of false x) ≡ overlap y x
forward_overlap x y le = not_lt y.low x.high ∙ sym (ap (λ b. not b && not (nat_lt x.high y.low)) (le-ltb y.high x.low le))

backward_overlap : (x y : Footprint) → x.low < 4294967296 → y.high < 4294967296 → y.low ≤ x.high → nat_lt (need_of true y) (rank_of true x) ≡ overlap y x
backward_overlap x y a b le =
    same_tests (nat_lt (4294967295 - y.high) (4294967296 - x.low)) (nat_lt x.low (y.high + 1))
    (λ e. let l = ltb-true (4294967295 - y.high) (4294967296 - x.low) e in lt-ltb x.low (y.high + 1) (omega (arith, l, a, b)))
    (λ e. let l = ltb-true x.low (y.high + 1) e in lt-ltb (4294967295 - y.high) (4294967296 - x.low) (omega (arith, l, a, b)))
    ∙ not_lt x.low y.high
    ∙ sym (ap (λ b. not (nat_lt y.high x.low) && not b) (le-ltb x.high y.low le) ∙ and_true (not (nat_lt y.high x.low)))
  where
    and_true : (b : Bool) → (b && true) ≡ b
    and_true true = refl
    and_true false = refl

and_turn : (a b : Bool) → (a && b) ≡ (b && a)
and_turn true true = refl
and_turn true false = refl
and_turn false true = refl
and_turn false false = refl

max_turn : (a b : ℕ) → max a b ≡ max b a
max_turn a b = omega arith

module _ (bytes : List ℕ) (x y : Placed) (p : IsPlaced bytes x) (q : IsPlaced bytes y) where
  -- what ranks say matters only for those of different threads
  apart : (t r o : Bool) → (y.footprint.thread.0 == x.footprint.thread.0) ≡ t → ((x.footprint.thread.0 ≡ y.footprint.thread.0 → ⊥) → r ≡ o)
      → (not (y.footprint.thread.0 == x.footprint.thread.0) && r) ≡ (not (y.footprint.thread.0 == x.footprint.thread.0) && o)
  apart true r o e h = rw e refl
  apart false r o e h = ap (λ c. not (y.footprint.thread.0 == x.footprint.thread.0) && c) (h (λ q. eqb-false y.footprint.thread.0 x.footprint.thread.0 e (sym q)))

  -- x answers y in a direction just where y meets x
  along : (b : Bool) → ((x.footprint.thread.0 ≡ y.footprint.thread.0 → ⊥) → nat_lt (need_of b y.footprint) (rank_of b x.footprint) ≡ overlap y.footprint x.footprint)
      → answers_along b x y ≡ meets y.footprint x.footprint
  along b e =
      four_passes y.footprint.writes y.footprint.of_region x.footprint.writes x.footprint.of_region
      ((nat_lt (max x.first y.first) x.end && nat_lt (max x.first y.first) y.end) && (not (x.footprint.thread.0 == y.footprint.thread.0) && nat_lt (need_of b y.footprint) (rank_of b x.footprint)))
      ∙ ap (λ s. ((y.footprint.writes || x.footprint.writes) && (y.footprint.of_region || not x.footprint.of_region))
      && (s && (not (x.footprint.thread.0 == y.footprint.thread.0) && nat_lt (need_of b y.footprint) (rank_of b x.footprint))))
      share_turn
      ∙ ap (λ s. ((y.footprint.writes || x.footprint.writes) && (y.footprint.of_region || not x.footprint.of_region)) && (races.share (bytes_of y.footprint) (bytes_of x.footprint) && s))
      (ap (λ t. not t && nat_lt (need_of b y.footprint) (rank_of b x.footprint)) (eqb_turn x.footprint.thread.0 y.footprint.thread.0)
      ∙ apart (y.footprint.thread.0 == x.footprint.thread.0) (nat_lt (need_of b y.footprint) (rank_of b x.footprint)) (overlap y.footprint x.footprint) refl e)
      ∙ parts (y.footprint.writes || x.footprint.writes) (y.footprint.of_region || not x.footprint.of_region) (races.share (bytes_of y.footprint) (bytes_of x.footprint))
      (not (y.footprint.thread.0 == x.footprint.thread.0))
      (overlap y.footprint x.footprint)
    where
      share_turn : (nat_lt (max x.first y.first) x.end && nat_lt (max x.first y.first) y.end) ≡ races.share (bytes_of y.footprint) (bytes_of x.footprint)
      share_turn =
          and_turn (nat_lt (max x.first y.first) x.end) (nat_lt (max x.first y.first) y.end)
          ∙ ap (λ m. nat_lt m y.end && nat_lt m x.end) (max_turn x.first y.first)
          ∙ sym (share_places bytes y x q p)

  pub forward : (x.footprint.thread.0 ≢ y.footprint.thread.0 → x.footprint.low ≤ y.footprint.high) → answers_along false x y ≡ meets y.footprint x.footprint
  forward le = along false (λ n. forward_overlap x.footprint y.footprint (le n))

  pub backward : (y.footprint.thread.0 ≢ x.footprint.thread.0 → y.footprint.low ≤ x.footprint.high) → answers_along true x y ≡ meets y.footprint x.footprint
  backward le = along true (λ n. backward_overlap x.footprint y.footprint p.low q.high (le (λ e. n (sym e))))
