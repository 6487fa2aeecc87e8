-- The cells of bytes in blocks of eight.
use Rattle.std.proofs.Common.{◌≡◌, ℕ, ◌==◌, ◌+◌, ◌-◌, ◌*◌, ◌/◌, ◌%◌, ◌<◌, ◌≤◌, ◌⊎◌, Bool, true, false, List, Option, Some, None, length, replicate, set, refl, sym, ap, ◌∙◌, arith, zero, suc, inl, inr}
use Rattle.std.specs.Prelude.{◌&&◌, ◌||◌, not, max, nat_eq, nat_le, nat_lt, if◌then◌else◌}
use Rattle.std.proofs.lemmas.Bool.{cases_lt, eqb-true, eqb-false, eq-eqb, ne_eqb, lt-ltb, le-ltb, le-leb, lt-leb, and_right}
use Rattle.std.proofs.lemmas.List.{get_or-replicate, get_or-set_same, get_or-set_other, get_or_past}
use Rattle.std.proofs.lemmas.Nat.{div-add-mod', div-mul-add, mod-mul-add, mod_below}
use Rattle.indexmap.specs.IndexMap.{get}
use Rattle.pg_num.specs.Places.{ByteRange}
use Rattle.pg_run_trace.specs.Best.{IsBest, no_best, other}
use Rattle.pg_run_trace.specs.Races.{is_in}
use Rattle.pg_schedule.specs.declared.cell.Cell.{Cell}
use Rattle.pg_schedule.specs.declared.table.Table.{Table}
use Rattle.pg_schedule.specs.declared.touch.Touch.{Touch}
use Rattle.pg_schedule.specs.Touches.{any_byte, range_of, rank_if}
use Rattle.pg_schedule.specs.Cells.{AreBest, Noted, cell_at, cell_in, holds_in, is_above, met_by, no_cell, nth_cell}

-- ---- bytes and blocks

-- a byte of the same block
pub in_block : (s i : ℕ) → s % 8 + i < 8 → ((s + i) / 8 ≡ s / 8) × ((s + i) % 8 ≡ s % 8 + i)
in_block s i h =
    let e = div-add-mod' s 8 in
    let q : s / 8 * 8 + (s % 8 + i) ≡ s + i = omega (arith, e) in
    (ap (λ n. n / 8) (sym q) ∙ div-mul-add (s / 8) 8 (s % 8 + i) h, ap (λ n. n % 8) (sym q) ∙ mod-mul-add (s / 8) 8 (s % 8 + i) h)

le_shift : (k a c : ℕ) → nat_le (k + a) (k + c) ≡ nat_le a c
le_shift k a c = go (cases_lt c a)
  where
    go : (c < a) ⊎ (a ≤ c) → nat_le (k + a) (k + c) ≡ nat_le a c
    go (inl lt) = lt-leb (k + a) (k + c) (omega (arith, lt)) ∙ sym (lt-leb a c lt)
    go (inr le) = le-leb (k + a) (k + c) (omega (arith, le)) ∙ sym (le-leb a c le)

lt_shift : (k a c : ℕ) → nat_lt (k + a) (k + c) ≡ nat_lt a c
lt_shift k a c = go (cases_lt a c)
  where
    go : (a < c) ⊎ (c ≤ a) → nat_lt (k + a) (k + c) ≡ nat_lt a c
    go (inl lt) = lt-ltb (k + a) (k + c) (omega (arith, lt)) ∙ sym (lt-ltb a c lt)
    go (inr le) = le-ltb (k + a) (k + c) (omega (arith, le)) ∙ sym (le-ltb a c le)

module _ (s n : ℕ) where
  in_same_block : (b : ℕ) → b / 8 ≡ s / 8 → is_in (record { start = s % 8; bytes = n }) (b % 8) ≡ is_in (record { start = s; bytes = n }) b
  in_same_block b q =
      let m = s / 8 * 8 in
      let es = div-add-mod' s 8 in
      let eb : m + b % 8 ≡ b = ap (λ k. k * 8 + b % 8) (sym q) ∙ div-add-mod' b 8 in
      let en : m + (s % 8 + n) ≡ s + n = omega (arith, es) in
      ap (λ t. t && nat_lt (b % 8) (s % 8 + n)) (sym (le_shift m (s % 8) (b % 8)) ∙ ap (λ k. nat_le k (m + b % 8)) es ∙ ap (nat_le s) eb)
      ∙ ap (λ t. nat_le s b && t) (sym (lt_shift m (b % 8) (s % 8 + n)) ∙ ap (λ k. nat_lt k (m + (s % 8 + n))) eb ∙ ap (nat_lt b) en)

  in_other_block : (b : ℕ) → s % 8 + n ≤ 8 → (s / 8 == b / 8) ≡ false → is_in (record { start = s; bytes = n }) b ≡ false
  in_other_block b within ne = go (cases_lt b s) (cases_lt b (s + n))
    where
      go : (b < s) ⊎ (s ≤ b) → (b < s + n) ⊎ (s + n ≤ b) → is_in (record { start = s; bytes = n }) b ≡ false
      go (inl lt) c = rw (lt-leb s b lt) refl
      go (inr ge) (inr le) = and_right (nat_le s b) (nat_lt b (s + n)) (le-ltb b (s + n) le)
      go (inr ge) (inl lt) =
          let q : s + (b - s) ≡ b = omega (arith, ge) in
          absurd (eqb-false (s / 8) (b / 8) ne (sym (in_block s (b - s) (omega (arith, within, lt, ge))).0 ∙ ap (λ k. k / 8) q))

-- ---- whether a touch is met

any_same : (test other' : ℕ → Bool) (s t n : ℕ) → ((i : ℕ) → i < n → test (s + i) ≡ other' (t + i)) → any_byte test s n ≡ any_byte other' t n
any_same test other' s t zero h = refl
any_same test other' s t (suc n) h =
    ap (λ b. b || test (s + n)) (any_same test other' s t n (λ i lt. h i (omega (arith, lt)))) ∙ ap (λ b. any_byte other' t n || b) (h n (omega arith))

-- the bytes of a touch in one block are met where those of its cells are
pub met_in_block : (t : Table) (y : Touch) (block : Option (List Cell)) → y.start % 8 + y.bytes ≤ 8 → get nat_eq t.blocks (y.start / 8) ≡ block
    → any_byte (is_above (cell_in block) y) (y.start % 8) y.bytes ≡ any_byte (is_above (cell_at t) y) y.start y.bytes
met_in_block t y block h g = any_same (is_above (cell_in block) y) (is_above (cell_at t) y) (y.start % 8) y.start y.bytes same
  where
    same : (i : ℕ) → i < y.bytes → is_above (cell_in block) y (y.start % 8 + i) ≡ is_above (cell_at t) y (y.start + i)
    same i lt =
        let b = in_block y.start i (omega (arith, h, lt)) in
        ap (λ (c : Cell). nat_lt y.need (other (met_by y.writes c) y.thread.0))
        (sym (ap (λ q. cell_in (get nat_eq t.blocks q) ((y.start + i) % 8)) b.0 ∙ ap (cell_in (get nat_eq t.blocks (y.start / 8))) b.1 ∙ ap (λ o. cell_in o (y.start % 8 + i)) g))

none_above : (y : Touch) (b : ℕ) → is_above (cell_in None) y b ≡ false
none_above y b = ap (λ m. nat_lt y.need (other m y.thread.0)) (pick y.writes) ∙ ap (nat_lt y.need) (same (0 == y.thread.0)) ∙ le-ltb y.need 0 (omega arith)
  where
    pick : (w : Bool) → met_by w no_cell ≡ no_best
    pick true = refl
    pick false = refl

    same : (t : Bool) → ◌≡◌ {A = ℕ} (if t then 0 else 0) 0
    same true = refl
    same false = refl

-- no cell is above
pub none_met : (y : Touch) (s n : ℕ) → any_byte (is_above (cell_in None) y) s n ≡ false
none_met y s zero = refl
none_met y s (suc n) = ap (λ b. b || is_above (cell_in None) y (s + n)) (none_met y s n) ∙ none_above y (s + n)

-- ---- a touch noted in a block

-- the cells of a block among those of all
pub best_in_block : (cells : ℕ → ℕ → Cell) (k : ℕ) → AreBest (λ b. cells (b / 8) (b % 8)) → (i : ℕ) → i < 8 → IsBest (cells k i).all × IsBest (cells k i).writes
best_in_block cells k best i lt =
    let e : cells ((k * 8 + i) / 8) ((k * 8 + i) % 8) ≡ cells k i = ap (λ q. cells q ((k * 8 + i) % 8)) (div-mul-add k 8 i lt) ∙ ap (cells k) (mod-mul-add k 8 i lt) in
    rw (sym e) (best (k * 8 + i))

-- eight cells, and none behind them
pub best_of_eight : (cells : List Cell) → length cells ≡ 8 → ((i : ℕ) → i < 8 → IsBest (nth_cell cells i).all × IsBest (nth_cell cells i).writes) → AreBest (nth_cell cells)
best_of_eight cells e best i = go (cases_lt i 8)
  where
    go : (i < 8) ⊎ (8 ≤ i) → IsBest (nth_cell cells i).all × IsBest (nth_cell cells i).writes
    go (inl lt) = best i lt
    go (inr le) = rw (get_or_past cells i no_cell (omega (arith, e, le))) (omega arith, omega arith)

module _ (old new' : ℕ → ℕ → Cell) (y : Touch) (s n : ℕ) (within : s % 8 + n ≤ 8) (noted : Noted (old (s / 8)) (new' (s / 8)) (record { start = s % 8; bytes = n }) y)
    (same : (q i : ℕ) → (s / 8 == q) ≡ false → new' q i ≡ old q i) (best : AreBest (λ b. old (b / 8) (b % 8))) where
  -- where the cells of its block have it, all have it
  pub noted_block : Noted (λ b. old (b / 8) (b % 8)) (λ b. new' (b / 8) (b % 8)) (record { start = s; bytes = n }) y
  noted_block = record { all = all_of; writes = writes_of; best = best_of }
    where
      all_of : (b u : ℕ) → other (new' (b / 8) (b % 8)).all u ≡ max (other (old (b / 8) (b % 8)).all u) (rank_if (holds_in (record { start = s; bytes = n }) b u y) y.rank)
      all_of b u = go (s / 8 == b / 8) refl
        where
          go : (t : Bool) → (s / 8 == b / 8) ≡ t → other (new' (b / 8) (b % 8)).all u ≡ max (other (old (b / 8) (b % 8)).all u) (rank_if (holds_in (record { start = s; bytes = n }) b u y) y.rank)
          go true e =
              let q = sym (eqb-true (s / 8) (b / 8) e) in
              ap (λ k. other (new' k (b % 8)).all u) q ∙ noted.all (b % 8) u
              ∙ ap (λ k. max (other (old k (b % 8)).all u) (rank_if (holds_in (record { start = s % 8; bytes = n }) (b % 8) u y) y.rank)) (sym q)
              ∙ ap (λ t. max (other (old (b / 8) (b % 8)).all u) (rank_if (t && not (y.thread.0 == u)) y.rank)) (in_same_block s n b q)
          go false e =
              ap (λ (c : Cell). other c.all u) (same (b / 8) (b % 8) e)
              ∙ sym (ap (λ t. max (other (old (b / 8) (b % 8)).all u) (rank_if (t && not (y.thread.0 == u)) y.rank)) (in_other_block s n b within e) ∙ none (other (old (b / 8) (b % 8)).all u))
            where
              none : (k : ℕ) → max k 0 ≡ k
              none k = omega arith

      writes_of : (b u : ℕ) → other (new' (b / 8) (b % 8)).writes u ≡ max (other (old (b / 8) (b % 8)).writes u) (rank_if (y.writes && holds_in (record { start = s; bytes = n }) b u y) y.rank)
      writes_of b u = go (s / 8 == b / 8) refl
        where
          go : (t : Bool) → (s / 8 == b / 8) ≡ t → other (new' (b / 8) (b % 8)).writes u ≡ max (other (old (b / 8) (b % 8)).writes u) (rank_if (y.writes && holds_in (record { start = s; bytes = n }) b u y) y.rank)
          go true e =
              let q = sym (eqb-true (s / 8) (b / 8) e) in
              ap (λ k. other (new' k (b % 8)).writes u) q ∙ noted.writes (b % 8) u
              ∙ ap (λ k. max (other (old k (b % 8)).writes u) (rank_if (y.writes && holds_in (record { start = s % 8; bytes = n }) (b % 8) u y) y.rank)) (sym q)
              ∙ ap (λ t. max (other (old (b / 8) (b % 8)).writes u) (rank_if (y.writes && (t && not (y.thread.0 == u))) y.rank)) (in_same_block s n b q)
          go false e =
              ap (λ (c : Cell). other c.writes u) (same (b / 8) (b % 8) e)
              ∙ sym (ap (λ t. max (other (old (b / 8) (b % 8)).writes u) (rank_if (y.writes && (t && not (y.thread.0 == u))) y.rank)) (in_other_block s n b within e) ∙ none y.writes (other (old (b / 8) (b % 8)).writes u))
            where
              none : (w : Bool) (k : ℕ) → max k (rank_if (w && false) y.rank) ≡ k
              none true k = omega arith
              none false k = omega arith

      best_of : AreBest (λ b. new' (b / 8) (b % 8))
      best_of b = go (s / 8 == b / 8) refl
        where
          go : (t : Bool) → (s / 8 == b / 8) ≡ t → IsBest (new' (b / 8) (b % 8)).all × IsBest (new' (b / 8) (b % 8)).writes
          go true e =
              let m : new' (b / 8) (b % 8) ≡ new' (s / 8) (b % 8) = ap (λ k. new' k (b % 8)) (sym (eqb-true (s / 8) (b / 8) e)) in
              rw m (noted.best (b % 8))
          go false e = let m : new' (b / 8) (b % 8) ≡ old (b / 8) (b % 8) = same (b / 8) (b % 8) e in rw m (best b)

module _ (old same_old new' same_new : ℕ → Cell) (r : ByteRange) (y : Touch) (olds : (i : ℕ) → same_old i ≡ old i) (news : (i : ℕ) → same_new i ≡ new' i) where
  noted_same : Noted old new' r y → Noted same_old same_new r y
  noted_same noted = record {
    all = λ b u. ap (λ (c : Cell). other c.all u) (news b) ∙ noted.all b u ∙ ap (λ (c : Cell). max (other c.all u) (rank_if (holds_in r b u y) y.rank)) (sym (olds b));
    writes = λ b u. ap (λ (c : Cell). other c.writes u) (news b) ∙ noted.writes b u ∙ ap (λ (c : Cell). max (other c.writes u) (rank_if (y.writes && holds_in r b u y) y.rank)) (sym (olds b));
    best = λ b. rw (news b) (noted.best b);
  }

module _ (t u : Table) (y : Touch) (old new' : ℕ → Cell) (within : y.start % 8 + y.bytes ≤ 8) where
  -- a touch noted in the cells of one block of a table
  pub noted_in_table : ((i : ℕ) → cell_in (get nat_eq t.blocks (y.start / 8)) i ≡ old i) → ((i : ℕ) → cell_in (get nat_eq u.blocks (y.start / 8)) i ≡ new' i)
      → ((q : ℕ) → (y.start / 8 == q) ≡ false → get nat_eq u.blocks q ≡ get nat_eq t.blocks q) → AreBest (cell_at t)
      → Noted old new' (record { start = y.start % 8; bytes = y.bytes }) y → Noted (cell_at t) (cell_at u) (range_of y) y
  noted_in_table olds news others best noted =
      noted_block (λ q. cell_in (get nat_eq t.blocks q)) (λ q. cell_in (get nat_eq u.blocks q)) y y.start y.bytes within
      (noted_same old (cell_in (get nat_eq t.blocks (y.start / 8))) new' (cell_in (get nat_eq u.blocks (y.start / 8))) (record { start = y.start % 8; bytes = y.bytes }) y olds news noted)
      (λ q i h. ap (λ o. cell_in o i) (others q h)) best

-- ---- no cells

pub no_nth : (i : ℕ) → nth_cell (replicate 8 no_cell) i ≡ no_cell
no_nth i = go (cases_lt i 8)
  where
    go : (i < 8) ⊎ (8 ≤ i) → nth_cell (replicate 8 no_cell) i ≡ no_cell
    go (inl lt) = get_or-replicate 8 i no_cell no_cell lt
    go (inr le) = get_or_past (replicate 8 no_cell) i no_cell le

pub no_best_cells : AreBest (nth_cell (replicate 8 no_cell))
no_best_cells i = rw (no_nth i) (omega arith, omega arith)

-- ---- one cell changed

pub set_nth : (cells : List Cell) (k : ℕ) (cell : Cell) (b : ℕ) → k < length cells → nth_cell (set cells k cell) b ≡ (if b == k then cell else nth_cell cells b)
set_nth cells k cell b lt = go (b == k) refl
  where
    go : (v : Bool) → (b == k) ≡ v → nth_cell (set cells k cell) b ≡ (if b == k then cell else nth_cell cells b)
    go true e = ap (nth_cell (set cells k cell)) (eqb-true b k e) ∙ get_or-set_same cells k cell no_cell lt ∙ ap (λ v. if v then cell else nth_cell cells b) (sym e)
    go false e = get_or-set_other cells k b cell no_cell (eqb-false b k e) ∙ ap (λ v. if v then cell else nth_cell cells b) (sym e)

module _ (t u : Table) (byte : ℕ) (cell : Cell) (cells : List Cell) (len : 8 ≤ length cells) (old : (i : ℕ) → nth_cell cells i ≡ cell_in (get nat_eq t.blocks (byte / 8)) i)
    (put : (k : ℕ) → get nat_eq u.blocks k ≡ (if byte / 8 == k then Some (set cells (byte % 8) cell) else get nat_eq t.blocks k)) where
  pub set_in_block : (b : ℕ) → cell_at u b ≡ (if b == byte then cell else cell_at t b)
  set_in_block b = go (byte / 8 == b / 8) refl (b % 8 == byte % 8) refl
    where
      no : (b ≡ byte → ⊥) → cell_at t b ≡ (if b == byte then cell else cell_at t b)
      no ne = ap (λ v. if v then cell else cell_at t b) (sym (ne_eqb b byte ne))

      go : (v : Bool) → (byte / 8 == b / 8) ≡ v → (w : Bool) → (b % 8 == byte % 8) ≡ w → cell_at u b ≡ (if b == byte then cell else cell_at t b)
      go false e w f =
          ap (λ o. cell_in o (b % 8)) (put (b / 8) ∙ ap (λ v. if v then Some (set cells (byte % 8) cell) else get nat_eq t.blocks (b / 8)) e)
          ∙ no (λ q. eqb-false (byte / 8) (b / 8) e (ap (λ k. k / 8) (sym q)))
      go true e w f = by w f
        where
          at : cell_at u b ≡ nth_cell (set cells (byte % 8) cell) (b % 8)
          at = ap (λ o. cell_in o (b % 8)) (put (b / 8) ∙ ap (λ v. if v then Some (set cells (byte % 8) cell) else get nat_eq t.blocks (b / 8)) e)

          by : (w : Bool) → (b % 8 == byte % 8) ≡ w → cell_at u b ≡ (if b == byte then cell else cell_at t b)
          by true f =
              let q = eqb-true (b % 8) (byte % 8) f in
              let d = eqb-true (byte / 8) (b / 8) e in
              let m = mod_below byte 8 (omega arith) in
              let same : b ≡ byte = sym (div-add-mod' b 8) ∙ ap (λ k. b / 8 * 8 + k) q ∙ ap (λ k. k * 8 + byte % 8) (sym d) ∙ div-add-mod' byte 8 in
              at ∙ ap (nth_cell (set cells (byte % 8) cell)) q ∙ get_or-set_same cells (byte % 8) cell no_cell (omega (arith, m, len))
              ∙ ap (λ v. if v then cell else cell_at t b) (sym (eq-eqb b byte same))
          by false f =
              at ∙ get_or-set_other cells (byte % 8) (b % 8) cell no_cell (eqb-false (b % 8) (byte % 8) f) ∙ old (b % 8)
              ∙ ap (λ k. cell_in (get nat_eq t.blocks k) (b % 8)) (eqb-true (byte / 8) (b / 8) e) ∙ no (λ q. eqb-false (b % 8) (byte % 8) f (ap (λ k. k % 8) q))
