-- Footprints that share a byte share a place, and the other way round.
use Rattle.std.proofs.Common.{◌≡◌, ℕ, ◌+◌, ◌<◌, ◌≤◌, ◌⊎◌, inl, inr, List, sym, ap, ◌∙◌, arith}
use Rattle.std.specs.Prelude.{◌&&◌, max, nat_lt, slice_index_or, Contains}
use Rattle.std.proofs.lemmas.Bool.{cases_lt, lt-ltb, le-ltb}
use Rattle.pg_run_trace.specs.Races as races
use Rattle.pg_slice_conflicts.specs.declared.places.Placed.{Placed}
use Rattle.pg_slice_conflicts.specs.Meets.{bytes_of}
use Rattle.pg_slice_conflicts.specs.Places.{IsPlace, IsPlaced}

module _ (bytes : List ℕ) where
  -- places rise with bytes
  place_le : (a b k l : ℕ) → IsPlace bytes a k → IsPlace bytes b l → a ≤ b → k ≤ l
  place_le a b k l p q le = go (cases_lt l k)
    where
      go : (l < k) ⊎ (k ≤ l) → k ≤ l
      go (inl lt) =
          let w = p.within in
          let x = p.below l 0 lt in
          let y = q.from l 0 (omega arith) (omega (arith, w, lt)) in
          absurd (omega (arith, x, y, le))
      go (inr ge) = ge

  -- and strictly, from one of the bytes on
  place_lt : (a b k l : ℕ) → IsPlace bytes a k → IsPlace bytes b l → Contains bytes a → a < b → k < l
  place_lt a b k l p q c lt =
      let m = c.0 in
      let e : slice_index_or bytes m a ≡ a = c.2 in
      let low : k ≤ m = first (cases_lt m k) e in
      let high : m < l = second (cases_lt m l) e in
      omega (arith, low, high)
    where
      first : (c.0 < k) ⊎ (k ≤ c.0) → slice_index_or bytes c.0 a ≡ a → k ≤ c.0
      first (inl h) e = let x = p.below c.0 a h in absurd (omega (arith, x, e))
      first (inr h) e = h

      second : (c.0 < l) ⊎ (l ≤ c.0) → slice_index_or bytes c.0 a ≡ a → c.0 < l
      second (inl h) e = h
      second (inr h) e = let x = q.from c.0 a h c.1 in absurd (omega (arith, x, e, lt))

  place_test : (a b k l : ℕ) → IsPlace bytes a k → IsPlace bytes b l → Contains bytes a → nat_lt a b ≡ nat_lt k l
  place_test a b k l p q c = go (cases_lt a b)
    where
      go : (a < b) ⊎ (b ≤ a) → nat_lt a b ≡ nat_lt k l
      go (inl lt) = lt-ltb a b lt ∙ sym (lt-ltb k l (place_lt a b k l p q c lt))
      go (inr ge) = le-ltb a b ge ∙ sym (le-ltb k l (place_le b a l k q p ge))

  -- the greater of two first bytes has the greater of their places
  pub share_places : (x y : Placed) → IsPlaced bytes x → IsPlaced bytes y →
      races.share (bytes_of x.footprint) (bytes_of y.footprint) ≡ (nat_lt (max x.first y.first) x.end && nat_lt (max x.first y.first) y.end)
  share_places x y p q = go (cases_lt x.footprint.start y.footprint.start)
    where
      tests : (s k : ℕ) → IsPlace bytes s k → Contains bytes s → max x.footprint.start y.footprint.start ≡ s → max x.first y.first ≡ k →
          races.share (bytes_of x.footprint) (bytes_of y.footprint) ≡ (nat_lt (max x.first y.first) x.end && nat_lt (max x.first y.first) y.end)
      tests s k r c e f =
          ap (λ m. nat_lt m (x.footprint.start + x.footprint.bytes) && nat_lt m (y.footprint.start + y.footprint.bytes)) e
          ∙ ap (λ b. b && nat_lt s (y.footprint.start + y.footprint.bytes)) (place_test s (x.footprint.start + x.footprint.bytes) k x.end r p.end c)
          ∙ ap (λ b. nat_lt k x.end && b) (place_test s (y.footprint.start + y.footprint.bytes) k y.end r q.end c)
          ∙ sym (ap (λ m. nat_lt m x.end && nat_lt m y.end) f)

      go : (x.footprint.start < y.footprint.start) ⊎ (y.footprint.start ≤ x.footprint.start)
          → races.share (bytes_of x.footprint) (bytes_of y.footprint) ≡ (nat_lt (max x.first y.first) x.end && nat_lt (max x.first y.first) y.end)
      go (inl lt) =
          let l = place_le x.footprint.start y.footprint.start x.first y.first p.first q.first (omega (arith, lt)) in
          tests y.footprint.start y.first q.first q.start (omega (arith, lt)) (omega (arith, l))
      go (inr ge) =
          let l = place_le y.footprint.start x.footprint.start y.first x.first q.first p.first ge in
          tests x.footprint.start x.first p.first p.start (omega (arith, ge)) (omega (arith, l))
