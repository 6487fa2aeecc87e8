-- What the cells keep when a touch is noted byte by byte, and when it is noted whole.
use Rattle.std.proofs.Common.{◌≡◌, ℕ, ◌==◌, ◌+◌, ◌<◌, ◌≤◌, ◌⊎◌, Bool, true, false, List, [], ◌∷◌, ◌++◌, refl, sym, ap, ◌∙◌, arith, inl, inr}
use Rattle.std.specs.Prelude.{◌&&◌, not, max, nat_le, nat_lt, if◌then◌else◌}
use Rattle.std.proofs.lemmas.Bool.{cases_lt, eqb-true, eqb-false, lt-ltb, le-ltb, le-leb, lt-leb, and_from, and_right}
use Rattle.pg_run_trace.specs.Races.{is_in}
use Rattle.pg_schedule.specs.declared.cell.Cell.{Cell}
use Rattle.pg_schedule.specs.declared.touch.Touch.{Touch}
use Rattle.pg_run_trace.specs.Best.{IsBest, other}
use Rattle.pg_schedule.specs.Touches.{greatest, range_of, rank_if}
use Rattle.pg_schedule.specs.Cells.{AreBest, Keeps, Noted, holds, holds_in, no_cell, writes_at}
use Rattle.pg_schedule.proofs.GreatestRanks.{greatest_push}

-- ---- one byte more

pub in_last : (s n : ℕ) → is_in (record { start = s; bytes = n + 1 }) (s + n) ≡ true
in_last s n = and_from (nat_le s (s + n)) (nat_lt (s + n) (s + (n + 1))) (le-leb s (s + n) (omega arith)) (lt-ltb (s + n) (s + (n + 1)) (omega arith))

pub in_next : (s n : ℕ) → is_in (record { start = s; bytes = n }) (s + n) ≡ false
in_next s n = and_right (nat_le s (s + n)) (nat_lt (s + n) (s + n)) (le-ltb (s + n) (s + n) (omega arith))

pub in_same : (s n b : ℕ) → (b == s + n) ≡ false → is_in (record { start = s; bytes = n + 1 }) b ≡ is_in (record { start = s; bytes = n }) b
in_same s n b h = go (cases_lt b (s + n))
  where
    above : s + n ≤ b → (b ≡ s + n → ⊥) → s + (n + 1) ≤ b
    above ge ne = by (cases_lt (s + n) b)
      where
        by : (s + n < b) ⊎ (b ≤ s + n) → s + (n + 1) ≤ b
        by (inl lt) = omega (arith, lt)
        by (inr le) = absurd (ne (omega (arith, ge, le)))

    go : (b < s + n) ⊎ (s + n ≤ b) → is_in (record { start = s; bytes = n + 1 }) b ≡ is_in (record { start = s; bytes = n }) b
    go (inl lt) = ap (λ c. nat_le s b && c) (lt-ltb b (s + (n + 1)) (omega (arith, lt)) ∙ sym (lt-ltb b (s + n) lt))
    go (inr ge) = ap (λ c. nat_le s b && c) (le-ltb b (s + (n + 1)) (above ge (eqb-false b (s + n) h)) ∙ sym (le-ltb b (s + n) ge))

module _ (old mid more : ℕ → Cell) (y : Touch) (s n : ℕ) (c : Cell) (noted : Noted old mid (record { start = s; bytes = n }) y) where
  -- the cells with the next byte's cell changed
  pub noted_more : IsBest c.all → IsBest c.writes →
      ((u : ℕ) → other c.all u ≡ max (other (mid (s + n)).all u) (rank_if (not (y.thread.0 == u)) y.rank)) →
      ((u : ℕ) → other c.writes u ≡ max (other (mid (s + n)).writes u) (rank_if (y.writes && not (y.thread.0 == u)) y.rank)) →
      ((b : ℕ) → more b ≡ (if b == s + n then c else mid b)) → Noted old more (record { start = s; bytes = n + 1 }) y
  noted_more best_all best_writes all writes is = record { all = all_of; writes = writes_of; best = best_of }
    where
      all_of : (b u : ℕ) → other (more b).all u ≡ max (other (old b).all u) (rank_if (holds_in (record { start = s; bytes = n + 1 }) b u y) y.rank)
      all_of b u = go (b == s + n) refl
        where
          go : (t : Bool) → (b == s + n) ≡ t → other (more b).all u ≡ max (other (old b).all u) (rank_if (holds_in (record { start = s; bytes = n + 1 }) b u y) y.rank)
          go true e =
              let q = eqb-true b (s + n) e in
              let m : more b ≡ c = is b ∙ ap (λ t. if t then c else mid b) e in
              let h = noted.all (s + n) u ∙ ap (λ t. max (other (old (s + n)).all u) (rank_if (t && not (y.thread.0 == u)) y.rank)) (in_next s n) in
              let a = all u in
              ap (λ d. other d.all u) m ∙ a ∙ ap (λ r. max r (rank_if (not (y.thread.0 == u)) y.rank)) (h ∙ none (other (old (s + n)).all u))
              ∙ sym (ap (λ d. max (other (old d).all u) (rank_if (is_in (record { start = s; bytes = n + 1 }) d && not (y.thread.0 == u)) y.rank)) q
              ∙ ap (λ t. max (other (old (s + n)).all u) (rank_if (t && not (y.thread.0 == u)) y.rank)) (in_last s n))
            where
              none : (k : ℕ) → max k 0 ≡ k
              none k = omega arith
          go false e =
              let m : more b ≡ mid b = is b ∙ ap (λ t. if t then c else mid b) e in
              ap (λ d. other d.all u) m ∙ noted.all b u
              ∙ ap (λ t. max (other (old b).all u) (rank_if (t && not (y.thread.0 == u)) y.rank)) (sym (in_same s n b e))

      writes_of : (b u : ℕ) → other (more b).writes u ≡ max (other (old b).writes u) (rank_if (y.writes && holds_in (record { start = s; bytes = n + 1 }) b u y) y.rank)
      writes_of b u = go (b == s + n) refl
        where
          go : (t : Bool) → (b == s + n) ≡ t → other (more b).writes u ≡ max (other (old b).writes u) (rank_if (y.writes && holds_in (record { start = s; bytes = n + 1 }) b u y) y.rank)
          go true e =
              let q = eqb-true b (s + n) e in
              let m : more b ≡ c = is b ∙ ap (λ t. if t then c else mid b) e in
              let h = noted.writes (s + n) u ∙ ap (λ t. max (other (old (s + n)).writes u) (rank_if (y.writes && (t && not (y.thread.0 == u))) y.rank)) (in_next s n) in
              let a = writes u in
              ap (λ d. other d.writes u) m ∙ a ∙ ap (λ r. max r (rank_if (y.writes && not (y.thread.0 == u)) y.rank)) (h ∙ none y.writes (other (old (s + n)).writes u))
              ∙ sym (ap (λ d. max (other (old d).writes u) (rank_if (y.writes && (is_in (record { start = s; bytes = n + 1 }) d && not (y.thread.0 == u))) y.rank)) q
              ∙ ap (λ t. max (other (old (s + n)).writes u) (rank_if (y.writes && (t && not (y.thread.0 == u))) y.rank)) (in_last s n))
            where
              none : (w : Bool) (k : ℕ) → max k (rank_if (w && false) y.rank) ≡ k
              none true k = omega arith
              none false k = omega arith
          go false e =
              let m : more b ≡ mid b = is b ∙ ap (λ t. if t then c else mid b) e in
              ap (λ d. other d.writes u) m ∙ noted.writes b u
              ∙ ap (λ t. max (other (old b).writes u) (rank_if (y.writes && (t && not (y.thread.0 == u))) y.rank)) (sym (in_same s n b e))

      best_of : AreBest more
      best_of b = go (b == s + n) refl
        where
          go : (t : Bool) → (b == s + n) ≡ t → IsBest (more b).all × IsBest (more b).writes
          go true e = let m : more b ≡ c = is b ∙ ap (λ t. if t then c else mid b) e in rw m (best_all, best_writes)
          go false e = let m : more b ≡ mid b = is b ∙ ap (λ t. if t then c else mid b) e in rw m (noted.best b)

-- no byte
pub noted_none : (cells : ℕ → Cell) (y : Touch) (s : ℕ) → AreBest cells → Noted cells cells (record { start = s; bytes = 0 }) y
noted_none cells y s best = record {
  all = λ b u. same (is_in_next s b) (other (cells b).all u) (not (y.thread.0 == u));
  writes = λ b u. same_writes y.writes (is_in_next s b) (other (cells b).writes u) (not (y.thread.0 == u));
  best = best;
}
  where
    is_in_next : (s b : ℕ) → is_in (record { start = s; bytes = 0 }) b ≡ false
    is_in_next s b = go (cases_lt b s)
      where
        go : (b < s) ⊎ (s ≤ b) → is_in (record { start = s; bytes = 0 }) b ≡ false
        go (inl lt) = rw (lt-leb s b lt) refl
        go (inr ge) = and_right (nat_le s b) (nat_lt b (s + 0)) (le-ltb b (s + 0) (omega (arith, ge)))

    same : {t : Bool} → t ≡ false → (k : ℕ) (v : Bool) → k ≡ max k (rank_if (t && v) y.rank)
    same {t} e k v = rw e (omega arith)

    same_writes : (w : Bool) {t : Bool} → t ≡ false → (k : ℕ) (v : Bool) → k ≡ max k (rank_if (w && (t && v)) y.rank)
    same_writes true {t} e k v = rw e (omega arith)
    same_writes false {t} e k v = omega arith

-- ---- one touch more

pub keeps_none : (cells : ℕ → Cell) → ((b : ℕ) → cells b ≡ no_cell) → Keeps cells []
keeps_none cells h = record { all = λ b u. rw (h b) (same (0 == u) 0); writes = λ b u. rw (h b) (same (0 == u) 0); best = λ b. rw (h b) (omega arith, omega arith) }
  where
    same : (t : Bool) (k : ℕ) → (if t then k else k) ≡ k
    same true k = refl
    same false k = refl

module _ (cells more : ℕ → Cell) (xs : List Touch) (y : Touch) (k : Keeps cells xs) (noted : Noted cells more (range_of y) y) where
  pub keeps_push : Keeps more (xs ++ y ∷ [])
  keeps_push = record {
    all = λ b u. noted.all b u ∙ ap (λ r. max r (rank_if (holds b u y) y.rank)) (k.all b u) ∙ sym (greatest_push (holds b u) xs y);
    writes = λ b u. noted.writes b u ∙ ap (λ r. max r (rank_if (writes_at b u y) y.rank)) (k.writes b u) ∙ sym (greatest_push (writes_at b u) xs y);
    best = noted.best;
  }

  pub keeps_cons : Keeps more (y ∷ xs)
  keeps_cons = record {
    all = λ b u. noted.all b u ∙ ap (λ r. max r (rank_if (holds b u y) y.rank)) (k.all b u) ∙ turn (greatest (holds b u) xs) (rank_if (holds b u y) y.rank);
    writes = λ b u. noted.writes b u ∙ ap (λ r. max r (rank_if (writes_at b u y) y.rank)) (k.writes b u) ∙ turn (greatest (writes_at b u) xs) (rank_if (writes_at b u y) y.rank);
    best = noted.best;
  }
    where
      turn : (a c : ℕ) → max a c ≡ max c a
      turn a c = omega arith
