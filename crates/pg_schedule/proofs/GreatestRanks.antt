-- The greatest ranks of touches, and which touches are answered.
use Rattle.std.proofs.Common.{◌≡◌, ℕ, ◌==◌, ◌+◌, ◌<◌, ◌≤◌, ◌⊎◌, Bool, true, false, List, [], ◌∷◌, ◌++◌, refl, sym, ap, ◌∙◌, arith, zero, suc, inl, inr}
use Rattle.std.specs.Prelude.{◌&&◌, ◌||◌, not, max, nat_le, nat_lt}
use Rattle.std.specs.List.{list_any}
use Rattle.std.proofs.lemmas.Bool.{true≢false, cases_lt, ltb-true, lt-ltb, le-ltb, leb-true, le-leb, and_parts, and_from, or_cases, or_left, or_right}
use Rattle.pg_num.specs.Places.{ByteRange}
use Rattle.pg_run_trace.specs.Races.{is_in, share}
use Rattle.pg_schedule.specs.declared.cell.Cell.{Cell}
use Rattle.pg_schedule.specs.declared.touch.Touch.{Touch}
use Rattle.pg_run_trace.specs.Best.{other}
use Rattle.pg_schedule.specs.Touches.{answers, any_byte, greatest, range_of, rank_if}
use Rattle.pg_schedule.specs.Cells.{Keeps, holds, is_above, met_by}

pub greatest_push : (p : Touch → Bool) (xs : List Touch) (y : Touch) → greatest p (xs ++ y ∷ []) ≡ max (greatest p xs) (rank_if (p y) y.rank)
greatest_push p [] y = let z : max (rank_if (p y) y.rank) 0 ≡ max 0 (rank_if (p y) y.rank) = omega arith in z
greatest_push p (x ∷ xs) y = let ih = greatest_push p xs y in omega (arith, ih)

-- a rank above what is needed is that of a touch that passes
above : (p : Touch → Bool) (n : ℕ) (xs : List Touch) → n < greatest p xs → list_any (λ x. p x && nat_lt n x.rank) xs ≡ true
above p n [] h = absurd (omega arith)
above p n (x ∷ xs) h = go (p x) refl (above p n xs) (cases_lt n x.rank)
  where
    go : (b : Bool) → p x ≡ b → (n < greatest p xs → list_any (λ x. p x && nat_lt n x.rank) xs ≡ true) → (n < x.rank) ⊎ (x.rank ≤ n)
        → list_any (λ x. p x && nat_lt n x.rank) (x ∷ xs) ≡ true
    go true w ih (inl lt) = rw (w, lt-ltb n x.rank lt) refl
    go true w ih (inr le) = let z = rw w at h in rw (w, le-ltb n x.rank le) (ih (omega (arith, z, le)))
    go false w ih c = let z = rw w at h in rw w (ih (omega (arith, z)))

passed : (p : Touch → Bool) (n : ℕ) (xs : List Touch) → list_any (λ x. p x && nat_lt n x.rank) xs ≡ true → n < greatest p xs
passed p n [] h = absurd (true≢false (sym h))
passed p n (x ∷ xs) h = go (p x) (nat_lt n x.rank) refl refl (passed p n xs)
  where
    go : (b c : Bool) → p x ≡ b → nat_lt n x.rank ≡ c → (list_any (λ x. p x && nat_lt n x.rank) xs ≡ true → n < greatest p xs) → n < max (rank_if (p x) x.rank) (greatest p xs)
    go true true w v ih = let l = ltb-true n x.rank v in rw w (omega (arith, l))
    go true false w v ih = let z = ih (rw (w, v) at h) in rw w (omega (arith, z))
    go false c w v ih = let z = ih (rw w at h) in rw w (omega (arith, z))

-- ---- bytes

byte_found : (test : ℕ → Bool) (s n b : ℕ) → s ≤ b → b < s + n → test b ≡ true → any_byte test s n ≡ true
byte_found test s zero b h k t = absurd (omega arith)
byte_found test s (suc n) b h k t = go (cases_lt b (s + n)) (byte_found test s n b h)
  where
    go : (b < s + n) ⊎ (s + n ≤ b) → (b < s + n → test b ≡ true → any_byte test s n ≡ true) → any_byte test s (suc n) ≡ true
    go (inl lt) ih = or_left (any_byte test s n) (test (s + n)) (ih lt t)
    go (inr ge) ih = let e : b ≡ s + n = omega arith in or_right (any_byte test s n) (test (s + n)) (ap test (sym e) ∙ t)

record Found (test : ℕ → Bool) (s n : ℕ) : Type 0 where
  byte : ℕ
  from : s ≤ byte
  below : byte < s + n
  passes : test byte ≡ true

found_byte : (test : ℕ → Bool) (s n : ℕ) → any_byte test s n ≡ true → Found test s n
found_byte test s zero h = absurd (true≢false (sym h))
found_byte test s (suc n) h = go (or_cases (any_byte test s n) (test (s + n)) h) (found_byte test s n)
  where
    go : (any_byte test s n ≡ true) ⊎ (test (s + n) ≡ true) → (any_byte test s n ≡ true → Found test s n) → Found test s (suc n)
    go (inl e) ih = let f = ih e in let l = f.below in record { byte = f.byte; from = f.from; below = omega (arith, l); passes = f.passes }
    go (inr e) ih = record { byte = s + n; from = omega arith; below = omega arith; passes = e }

pub byte_none : (test : ℕ → Bool) (s n : ℕ) → any_byte test s n ≡ false → test (s + n) ≡ false → any_byte test s (n + 1) ≡ false
byte_none test s n h k = let e : n + 1 ≡ suc n = omega arith in rw (e, h) k

pub byte_more : (test : ℕ → Bool) (s n i : ℕ) → i < n → test (s + i) ≡ true → any_byte test s n ≡ true
byte_more test s n i lt t = byte_found test s n (s + i) (omega arith) (omega arith) t

-- ---- answers

-- what one touch is for the cell of a byte of another
abbrev for_byte : Touch → ℕ → Touch → Bool
for_byte y b x = (y.writes || x.writes) && holds b y.thread.0 x

met_greatest : (cells : ℕ → Cell) (xs : List Touch) (y : Touch) (b : ℕ) → Keeps cells xs → other (met_by y.writes (cells b)) y.thread.0 ≡ greatest (for_byte y b) xs
met_greatest cells xs y b k = go y.writes refl
  where
    go : (w : Bool) → y.writes ≡ w → other (met_by y.writes (cells b)) y.thread.0 ≡ greatest (for_byte y b) xs
    go true w = rw w (k.all b y.thread.0)
    go false w = rw w (k.writes b y.thread.0)

any_of : {A : Type 0} (f g : A → Bool) (zs : List A) → ((z : A) → f z ≡ true → g z ≡ true) → list_any f zs ≡ true → list_any g zs ≡ true
any_of f g [] h a = absurd (true≢false (sym a))
any_of f g (z ∷ zs) h a = go (f z) (g z) refl refl (any_of f g zs h)
  where
    go : (b c : Bool) → f z ≡ b → g z ≡ c → (list_any f zs ≡ true → list_any g zs ≡ true) → list_any g (z ∷ zs) ≡ true
    go b true w v ih = rw v refl
    go true false w v ih = absurd (true≢false (sym (h z w) ∙ v))
    go false false w v ih = rw v (ih (rw w at a))

share_holds : (r s : ByteRange) → share r s ≡ true → (is_in r (max r.start s.start) ≡ true) × (s.start ≤ max r.start s.start) × (max r.start s.start < s.start + s.bytes)
share_holds r s h =
    let p = and_parts (nat_lt (max r.start s.start) (r.start + r.bytes)) (nat_lt (max r.start s.start) (s.start + s.bytes)) h in (
      and_from (nat_le r.start (max r.start s.start)) (nat_lt (max r.start s.start) (r.start + r.bytes)) (le-leb r.start (max r.start s.start) (omega arith)) p.0,
      omega arith,
      ltb-true (max r.start s.start) (s.start + s.bytes) p.1,
    )

holds_share : (r s : ByteRange) (b : ℕ) → is_in r b ≡ true → s.start ≤ b → b < s.start + s.bytes → share r s ≡ true
holds_share r s b h d e =
    let p = and_parts (nat_le r.start b) (nat_lt b (r.start + r.bytes)) h in
    let a = leb-true r.start b p.0 in
    let c = ltb-true b (r.start + r.bytes) p.1 in
    and_from (nat_lt (max r.start s.start) (r.start + r.bytes)) (nat_lt (max r.start s.start) (s.start + s.bytes))
    (lt-ltb (max r.start s.start) (r.start + r.bytes) (omega (arith, a, c, d, e))) (lt-ltb (max r.start s.start) (s.start + s.bytes) (omega (arith, a, c, d, e)))

-- the parts of an answer in another order
answer_parts : (n v w h k : Bool) → ((n && ((v || w) && h)) && k) ≡ true → (n ≡ true) × ((w || v) ≡ true) × (h ≡ true) × (k ≡ true)
answer_parts true true true true true e = (refl, refl, refl, refl)
answer_parts true true false true true e = (refl, refl, refl, refl)
answer_parts true false true true true e = (refl, refl, refl, refl)
answer_parts true true w false k e = absurd (true≢false (sym e))
answer_parts true false true false k e = absurd (true≢false (sym e))
answer_parts true false false h k e = absurd (true≢false (sym e))
answer_parts true true w true false e = absurd (true≢false (sym e))
answer_parts true false true true false e = absurd (true≢false (sym e))
answer_parts false v w h k e = absurd (true≢false (sym e))

answer_from : (n v w h k : Bool) → n ≡ true → (w || v) ≡ true → h ≡ true → k ≡ true → ((n && ((v || w) && h)) && k) ≡ true
answer_from true true w true true a b c d = refl
answer_from true false true true true a b c d = refl
answer_from true false false h k a b c d = absurd (true≢false (sym b))
answer_from true v w false k a b c d = absurd (true≢false (sym c))
answer_from true v w true false a b c d = absurd (true≢false (sym d))
answer_from false v w h k a b c d = absurd (true≢false (sym a))

module _ (y : Touch) where
  -- x is above what y needs in the cell of a byte
  abbrev reaches : ℕ → Touch → Bool
  reaches b x = for_byte y b x && nat_lt y.need x.rank

  answers_of : (b : ℕ) (x : Touch) → y.start ≤ b → b < y.start + y.bytes → reaches b x ≡ true → answers x y ≡ true
  answers_of b x from below h =
      let p = and_parts (for_byte y b x) (nat_lt y.need x.rank) h in
      let q = and_parts (y.writes || x.writes) (holds b y.thread.0 x) p.0 in
      let r = and_parts (is_in (range_of x) b) (not (x.thread.0 == y.thread.0)) q.1 in
      answer_from (not (x.thread.0 == y.thread.0)) x.writes y.writes (share (range_of x) (range_of y)) (nat_lt y.need x.rank) r.1 q.0 (holds_share (range_of x) (range_of y) b r.0 from below) p.1

  -- an answer is one at a byte
  record AtByte (xs : List Touch) : Type 0 where
    byte : ℕ
    from : y.start ≤ byte
    below : byte < y.start + y.bytes
    reached : list_any (reaches byte) xs ≡ true

  at_byte : (xs : List Touch) → list_any (λ x. answers x y) xs ≡ true → AtByte xs
  at_byte [] h = absurd (true≢false (sym h))
  at_byte (x ∷ xs) h = go (answers x y) refl (at_byte xs)
    where
      go : (b : Bool) → answers x y ≡ b → (list_any (λ x. answers x y) xs ≡ true → AtByte xs) → AtByte (x ∷ xs)
      go true w ih =
          let p = answer_parts (not (x.thread.0 == y.thread.0)) x.writes y.writes (share (range_of x) (range_of y)) (nat_lt y.need x.rank) w in
          let s = share_holds (range_of x) (range_of y) p.2 in
          let b = max x.start y.start in
          let held : holds b y.thread.0 x ≡ true = and_from (is_in (range_of x) b) (not (x.thread.0 == y.thread.0)) s.0 p.0 in
          let r : reaches b x ≡ true = and_from (for_byte y b x) (nat_lt y.need x.rank) (and_from (y.writes || x.writes) (holds b y.thread.0 x) p.1 held) p.3 in
          record { byte = b; from = s.1; below = s.2; reached = rw r refl }
      go false w ih = let f = ih (rw w at h) in record { byte = f.byte; from = f.from; below = f.below; reached = or_right (reaches f.byte x) (list_any (reaches f.byte) xs) f.reached }

  -- by the cells one sees whether a touch is answered
  pub met : (cells : ℕ → Cell) (xs : List Touch) → Keeps cells xs → any_byte (is_above cells y) y.start y.bytes ≡ list_any (λ x. answers x y) xs
  met cells xs k = same (any_byte (is_above cells y) y.start y.bytes) (list_any (λ x. answers x y) xs) up down
    where
      same : (b c : Bool) → (b ≡ true → c ≡ true) → (c ≡ true → b ≡ true) → b ≡ c
      same true c f g = sym (f refl)
      same false true f g = g refl
      same false false f g = refl

      up : any_byte (is_above cells y) y.start y.bytes ≡ true → list_any (λ x. answers x y) xs ≡ true
      up h =
          let f = found_byte (is_above cells y) y.start y.bytes h in
          let lt = ltb-true y.need (other (met_by y.writes (cells f.byte)) y.thread.0) f.passes in
          let e = met_greatest cells xs y f.byte k in
          any_of (reaches f.byte) (λ x. answers x y) xs (λ x w. answers_of f.byte x f.from f.below w) (above (for_byte y f.byte) y.need xs (omega (arith, lt, e)))

      down : list_any (λ x. answers x y) xs ≡ true → any_byte (is_above cells y) y.start y.bytes ≡ true
      down h =
          let f = at_byte xs h in
          let lt = passed (for_byte y f.byte) y.need xs f.reached in
          let e = met_greatest cells xs y f.byte k in
          byte_found (is_above cells y) y.start y.bytes f.byte f.from f.below (lt-ltb y.need (other (met_by y.writes (cells f.byte)) y.thread.0) (omega (arith, lt, e)))
