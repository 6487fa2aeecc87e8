-- The numbers of an interval say what the words say.
use Rattle.std.proofs.Common.{◌≡◌, ℕ, ◌<◌, ◌≤◌, ◌⊎◌, Bool, true, false, List, length, Some, refl, sym, ap, ◌∙◌, arith, zero, suc, inl, inr}
use Rattle.std.specs.Prelude.{slice_get, ◌↔◌}
use Rattle.std.specs.Bool.{MatchBool}
use Rattle.std.proofs.lemmas.Bool.{cases_lt}
use Rattle.pg_law_threads.specs.Steps.{View}
use Rattle.pg_law_threads.specs.Intervals.{last_before, next_from, timed, IsLastTurn, IsNextTurn, EndsBefore}
use Rattle.pg_law_threads.proofs.LastAndNextTurn.{last_up, last_is, last_of_own, next_up, next_is, next_least, next_of_own, owner_below}
use Rattle.pg_law_threads.proofs.TimedSteps.{event_low, event_high, plain_low}

module _ (u : ℕ) (T : List ℕ) (k : ℕ) where
  last_word : (a : ℕ) → IsLastTurn u T k a → last_before u T k ≡ suc a
  last_word a h = let lt = last_of_own u T k a h.before h.own in go (last_before u T k) refl lt
    where
      go : (n : ℕ) → last_before u T k ≡ n → a < last_before u T k → last_before u T k ≡ suc a
      go zero e lt = absurd (omega (arith, e, lt))
      go (suc j) e lt = let r = last_is u T k j e in let r1 = r.1 in test (cases_lt a j)
        where
          test : (a < j) ⊎ (j ≤ a) → last_before u T k ≡ suc a
          test (inl l) = absurd (h.last j l (last_is u T k j e).1 (last_is u T k j e).0)
          test (inr g) = omega (arith, e, lt, g)

  word_last : (a : ℕ) → last_before u T k ≡ suc a → IsLastTurn u T k a
  word_last a e = record {
    own = (last_is u T k a e).0;
    before = (last_is u T k a e).1;
    last = λ i l m o. let lt = last_of_own u T k i m o in absurd (omega (arith, lt, e, l));
  }

  next_word : (b : ℕ) → IsNextTurn u T k b → next_from u T k ≡ b
  next_word b h = let le = next_of_own u T k b h.from h.own in go (next_is u T k) (cases_lt (next_from u T k) b) le
    where
      go : (slice_get T (next_from u T k) ≡ Some u) ⊎ (next_from u T k ≡ length T) → (next_from u T k < b) ⊎ (b ≤ next_from u T k) → next_from u T k ≤ b → next_from u T k ≡ b
      go o (inr ge) le = omega (arith, ge, le)
      go (inr e) (inl lt) le = let l = owner_below T b u h.own in absurd (omega (arith, e, lt, l))
      go (inl o) (inl lt) le = let up = next_up u T k (let l = owner_below T b u h.own in let f = h.from in omega (arith, l, f)) in absurd (h.first (next_from u T k) up lt o)

  word_next : k ≤ length T → next_from u T k < length T → IsNextTurn u T k (next_from u T k)
  word_next le lt = record {
    own = own (next_is u T k);
    from = next_up u T k le;
    first = λ i a b o. next_least u T k i a b o;
  }
    where
      own : (slice_get T (next_from u T k) ≡ Some u) ⊎ (next_from u T k ≡ length T) → slice_get T (next_from u T k) ≡ Some u
      own (inl o) = o
      own (inr e) = absurd (omega (arith, e, lt))

module _ {A : Type 0} (V : View A) (T : List ℕ) (k j : ℕ) (x y : A) (within : k ≤ length T) (until : j ≤ length T)
    (is_turn : V.is_event x ≡ true → slice_get T k ≡ Some (V.thread x)) (turn_is : V.is_event y ≡ true → slice_get T j ≡ Some (V.thread y)) where
  numbers_of_words : EndsBefore V T k j x y → (timed V T k x).high < (timed V T j y).low
  numbers_of_words h = let a = ends (V.is_event x) refl h.ends in let b = begins (V.is_event y) refl h.begins in let o = h.order in omega (arith, a, b, o)
    where
      ends : (e : Bool) → V.is_event x ≡ e → MatchBool e (h.end ≡ k) (IsNextTurn (V.thread x) T k h.end) → (timed V T k x).high ≡ h.end
      ends true v q = event_high V T k x is_turn v ∙ sym q
      ends false v q = next_word (V.thread x) T k h.end q

      begins : (e : Bool) → V.is_event y ≡ e → MatchBool e (h.begin ≡ j) (IsLastTurn (V.thread y) T j h.begin) → (timed V T j y).low ≡ suc h.begin
      begins true v q = event_low V T j y turn_is v ∙ ap suc (sym q)
      begins false v q = plain_low V T j y v ∙ last_word (V.thread y) T j h.begin q

  words_of_numbers : (timed V T k x).high < (timed V T j y).low → EndsBefore V T k j x y
  words_of_numbers lt = go (timed V T j y).low refl
    where
      go : (n : ℕ) → (timed V T j y).low ≡ n → EndsBefore V T k j x y
      go zero e = absurd (omega (arith, e, lt))
      go (suc a) e = record {
        end = (timed V T k x).high;
        begin = a;
        ends = ends (V.is_event x) refl;
        begins = begins (V.is_event y) refl;
        order = omega (arith, e, lt);
      }
        where
          begins : (b : Bool) → V.is_event y ≡ b → MatchBool b (a ≡ j) (IsLastTurn (V.thread y) T j a)
          begins true v = let q = event_low V T j y turn_is v in omega (arith, e, q)
          begins false v = word_last (V.thread y) T j a (sym (plain_low V T j y v) ∙ e)

          below : (timed V T j y).low ≤ length T
          below = low_end (V.is_event y) refl
            where
              low_end : (b : Bool) → V.is_event y ≡ b → (timed V T j y).low ≤ length T
              low_end true v = let q = event_low V T j y turn_is v in let l = owner_below T j (V.thread y) (turn_is v) in omega (arith, q, l)
              low_end false v = let q = plain_low V T j y v in let l = last_up (V.thread y) T j in omega (arith, q, l, until)

          ends : (b : Bool) → V.is_event x ≡ b → MatchBool b ((timed V T k x).high ≡ k) (IsNextTurn (V.thread x) T k (timed V T k x).high)
          ends true v = event_high V T k x is_turn v
          ends false v = word_next (V.thread x) T k within (omega (arith, lt, below))

  pub in_words : ((timed V T k x).high < (timed V T j y).low) ↔ EndsBefore V T k j x y
  in_words = (words_of_numbers, numbers_of_words)
