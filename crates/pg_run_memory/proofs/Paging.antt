-- Words in pages: what a page's slot holds, and what a write changes.
use Rattle.std.proofs.Common.{◌≡◌, ℕ, zero, suc, ◌+◌, ◌*◌, ◌/◌, ◌%◌, ◌^◌, ◌<◌, ◌≤◌, ◌≢◌, [], ◌∷◌}
use Rattle.std.proofs.Common.{length, replicate, refl, sym, ap, ◌∙◌, arith, inl, inr, ◌⊎◌, slice_index, slice_set, subst, zero-add}
use Rattle.std.proofs.lemmas.Bool.{cases_lt, cases_eq}
use Rattle.std.proofs.lemmas.Bool.Decides.{nat_tests}
use Rattle.std.proofs.lemmas.Grind.{same_number_lists}
use Rattle.std.proofs.lemmas.List.{get_or-set_same, get_or-set_other, get_or_past, length-set, length-replicate}
use Rattle.std.proofs.lemmas.List.FromFn.{get_or-map-range_with_len, length-map-range_with_len}
use Rattle.pg_run_memory.specs.declared.pages.TheConstants.{PAGE_GRANULES}
use Rattle.pg_run_memory.specs.Memory.{Words}
use Rattle.pg_run_memory.specs.Pages.{ArePages, paged, place_in_arena, slot_count, used_with, with_slot}
use Rattle.pg_run_memory.proofs.InitialBytes.{zero_word}

-- ---- the words in order

pub paged_length : (t a : Words) → length (paged t a) ≡ length t * PAGE_GRANULES
unfolding paged
paged_length t a = length-map-range_with_len (λ g. slice_index a (place_in_arena t g)) 0 (length t * PAGE_GRANULES)

pub paged_get : (t a : Words) (g : ℕ) → g < length t * PAGE_GRANULES → slice_index (paged t a) g ≡ slice_index a (place_in_arena t g)
unfolding paged
paged_get t a g h = get_or-map-range_with_len (λ i. slice_index a (place_in_arena t i)) 0 (length t * PAGE_GRANULES) g g 0 h (zero-add g)

-- pages that hold the same words
same_pages : (t a u b : Words) → length t ≡ length u → ((g : ℕ) → g < length t * PAGE_GRANULES → slice_index a (place_in_arena t g) ≡ slice_index b (place_in_arena u g))
    → paged t a ≡ paged u b
same_pages t a u b e h = same_number_lists (paged t a) (paged u b) lengths each
  where
    lengths : length (paged t a) ≡ length (paged u b)
    lengths = paged_length t a ∙ ap (λ n. n * PAGE_GRANULES) e ∙ sym (paged_length u b)

    each : (g : ℕ) → g < length (paged t a) → slice_index (paged t a) g ≡ slice_index (paged u b) g
    each g k =
        let l : g < length t * PAGE_GRANULES = omega (arith, k, paged_length t a) in
        let m : g < length u * PAGE_GRANULES = omega (arith, l, e) in
        paged_get t a g l ∙ h g l ∙ sym (paged_get u b g m)

-- ---- how many slots are in use

count_within : (t : Words) → slot_count t ≤ length t
unfolding slot_count
count_within [] = omega arith
count_within (zero ∷ t) = let r = count_within t in omega (arith, r)
count_within (suc s ∷ t) = let r = count_within t in omega (arith, r)

-- a slot more
count_more : (t : Words) (page slot : ℕ) → page < length t → slice_index t page ≡ 0 → 0 < slot → slot_count (slice_set t page slot) ≡ slot_count t + 1
unfolding slot_count
count_more [] page slot h e p = absurd (omega arith)
count_more (zero ∷ t) zero zero h e p = absurd (omega arith)
count_more (zero ∷ t) zero (suc s) h e p = omega arith
count_more (suc r ∷ t) zero slot h e p = absurd (omega arith)
count_more (zero ∷ t) (suc page) slot h e p = count_more t page slot (omega arith) e p
count_more (suc r ∷ t) (suc page) slot h e p =
    let q = count_more t page slot (omega arith) e p in
    omega (arith, q)

count_none : (n : ℕ) → slot_count (replicate n 0) ≡ 0
unfolding slot_count
count_none zero = refl
count_none (suc n) = count_none n

-- ---- a page gets a slot

fresh_pages : (t a : Words) (used page : ℕ) → ArePages t a used → page < length t → slice_index t page ≡ 0 → ArePages (slice_set t page (used + 1)) a (used + 1)
fresh_pages t a used page h l e = record {
  room = rw (length-set t page (used + 1)) h.room;
  small = rw (length-set t page (used + 1)) h.small;
  counted = ap (λ n. n + 1) h.counted ∙ sym (count_more t page (used + 1) l e (omega arith));
  in_use = λ i. in_use i (cases_eq page i);
  apart = λ i j p q. apart i j (cases_eq page i) (cases_eq page j) p q;
  zeros = h.zeros;
  unused = λ k m. h.unused k (omega (arith, m));
}
  where
    here : slice_index (slice_set t page (used + 1)) page ≡ used + 1
    here = get_or-set_same t page (used + 1) 0 l

    there : (i : ℕ) → (page ≡ i → ⊥) → slice_index (slice_set t page (used + 1)) i ≡ slice_index t i
    there i n = get_or-set_other t page i (used + 1) 0 (λ q. n (sym q))

    in_use : (i : ℕ) → (page ≡ i) ⊎ (page ≡ i → ⊥) → slice_index (slice_set t page (used + 1)) i ≤ used + 1
    in_use i (inl q) = rw (← q) (omega (arith, here))
    in_use i (inr n) = omega (arith, there i n, h.in_use i)

    apart : (i j : ℕ) → (page ≡ i) ⊎ (page ≡ i → ⊥) → (page ≡ j) ⊎ (page ≡ j → ⊥) → 0 < slice_index (slice_set t page (used + 1)) i
        → slice_index (slice_set t page (used + 1)) i ≡ slice_index (slice_set t page (used + 1)) j → i ≡ j
    apart i j (inl q) (inl r) p s = sym q ∙ r
    apart i j (inl q) (inr n) p s =
        let x : slice_index (slice_set t page (used + 1)) i ≡ used + 1 = rw (← q) here in
        absurd (omega (arith, x, s, there j n, h.in_use j))
    apart i j (inr n) (inl r) p s =
        let x : slice_index (slice_set t page (used + 1)) j ≡ used + 1 = rw (← r) here in
        absurd (omega (arith, x, s, there i n, h.in_use i))
    apart i j (inr n) (inr m) p s = h.apart i j (omega (arith, p, there i n)) (sym (there i n) ∙ s ∙ there j m)

-- the page holds zeros as before
fresh_same : (t a : Words) (used page : ℕ) → ArePages t a used → page < length t → slice_index t page ≡ 0 → paged (slice_set t page (used + 1)) a ≡ paged t a
fresh_same t a used page h l e =
    same_pages (slice_set t page (used + 1)) a t a (length-set t page (used + 1)) (λ g _. each g (cases_eq page (g / PAGE_GRANULES)))
  where
    each : (g : ℕ) → (page ≡ g / PAGE_GRANULES) ⊎ (page ≡ g / PAGE_GRANULES → ⊥)
        → slice_index a (place_in_arena (slice_set t page (used + 1)) g) ≡ slice_index a (place_in_arena t g)
    each g (inl q) =
        let x : slice_index (slice_set t page (used + 1)) (g / PAGE_GRANULES) ≡ used + 1 = rw (← q) (get_or-set_same t page (used + 1) 0 l) in
        let y : slice_index t (g / PAGE_GRANULES) ≡ 0 = rw (← q) e in
        h.unused (place_in_arena (slice_set t page (used + 1)) g) (omega (arith, x))
        ∙ sym (h.zeros (place_in_arena t g) (omega (arith, y)))
    each g (inr n) =
        ap (λ s. slice_index a (s * PAGE_GRANULES + g % PAGE_GRANULES)) (get_or-set_other t page (g / PAGE_GRANULES) (used + 1) 0 (λ q. n (sym q)))

slot_new : (t : Words) (used page : ℕ) → slice_index t page ≡ 0 → (with_slot t used page ≡ slice_set t page (used + 1)) × (used_with t used page ≡ used + 1)
slot_new t used page e = rw e (refl, refl)

slot_kept : (t : Words) (used page : ℕ) → slice_index t page ≢ 0 → (with_slot t used page ≡ t) × (used_with t used page ≡ used)
slot_kept t used page n = (grind (arith, nat_tests), grind (arith, nat_tests))

slot_pages : (t a : Words) (used page : ℕ) → ArePages t a used → page < length t → ArePages (with_slot t used page) a (used_with t used page)
slot_pages t a used page h l = go (cases_eq (slice_index t page) 0)
  where
    go : (slice_index t page ≡ 0) ⊎ (slice_index t page ≡ 0 → ⊥) → ArePages (with_slot t used page) a (used_with t used page)
    go (inl e) = let s = slot_new t used page e in rw (s.0, s.1) (fresh_pages t a used page h l e)
    go (inr n) = let s = slot_kept t used page n in rw (s.0, s.1) h

slot_same : (t a : Words) (used page : ℕ) → ArePages t a used → page < length t → paged (with_slot t used page) a ≡ paged t a
slot_same t a used page h l = go (cases_eq (slice_index t page) 0)
  where
    go : (slice_index t page ≡ 0) ⊎ (slice_index t page ≡ 0 → ⊥) → paged (with_slot t used page) a ≡ paged t a
    go (inl e) = ap (λ u. paged u a) (slot_new t used page e).0 ∙ fresh_same t a used page h l e
    go (inr n) = ap (λ u. paged u a) (slot_kept t used page n).0

slot_given : (t : Words) (used page : ℕ) → page < length t → 0 < slice_index (with_slot t used page) page
slot_given t used page l = go (cases_eq (slice_index t page) 0)
  where
    go : (slice_index t page ≡ 0) ⊎ (slice_index t page ≡ 0 → ⊥) → 0 < slice_index (with_slot t used page) page
    go (inl e) = rw (slot_new t used page e).0 (rw (get_or-set_same t page (used + 1) 0 l) (omega arith))
    go (inr n) = rw (slot_kept t used page n).0 (omega (arith, n))

slot_length : (t : Words) (used page : ℕ) → length (with_slot t used page) ≡ length t
slot_length t used page = go (cases_eq (slice_index t page) 0)
  where
    go : (slice_index t page ≡ 0) ⊎ (slice_index t page ≡ 0 → ⊥) → length (with_slot t used page) ≡ length t
    go (inl e) = rw (slot_new t used page e).0 (length-set t page (used + 1))
    go (inr n) = rw (slot_kept t used page n).0 refl

-- ---- reads and writes

pub slot_small : (t a : Words) (used page : ℕ) → ArePages t a used → slice_index t page < 2 ^ 32
slot_small t a used page h = omega (arith, h.in_use page, count_within t, h.counted, h.small)

pub used_small : (t a : Words) (used : ℕ) → ArePages t a used → used < 2 ^ 32
used_small t a used h = omega (arith, count_within t, h.counted, h.small)

pub in_arena : (t a : Words) (used g : ℕ) → ArePages t a used → place_in_arena t g < length a
in_arena t a used g h = omega (arith, h.in_use (g / PAGE_GRANULES), count_within t, h.counted, h.room)

pub paged_read : (t a : Words) (used g : ℕ) → ArePages t a used → slice_index a (place_in_arena t g) ≡ slice_index (paged t a) g
paged_read t a used g h = go (cases_lt g (length t * PAGE_GRANULES))
  where
    go : (g < length t * PAGE_GRANULES) ⊎ (length t * PAGE_GRANULES ≤ g) → slice_index a (place_in_arena t g) ≡ slice_index (paged t a) g
    go (inl l) = sym (paged_get t a g l)
    go (inr l) =
        let e : slice_index t (g / PAGE_GRANULES) ≡ 0 = get_or_past t (g / PAGE_GRANULES) 0 (omega (arith, l)) in
        h.zeros (place_in_arena t g) (omega (arith, e))
        ∙ sym (get_or_past (paged t a) g 0 (omega (arith, l, paged_length t a)))

-- no two granules share a place, where one has a slot of its own
place_apart : (t a : Words) (used g k : ℕ) → ArePages t a used → 0 < slice_index t (g / PAGE_GRANULES) → (g ≡ k → ⊥) → place_in_arena t g ≡ place_in_arena t k → ⊥
place_apart t a used g k h p n e =
    let s : slice_index t (g / PAGE_GRANULES) ≡ slice_index t (k / PAGE_GRANULES) = omega (arith, e) in
    let q : g / PAGE_GRANULES ≡ k / PAGE_GRANULES = h.apart (g / PAGE_GRANULES) (k / PAGE_GRANULES) p s in
    n (omega (arith, e, s, q))

write_pages : (t a : Words) (used g w : ℕ) → ArePages t a used → 0 < slice_index t (g / PAGE_GRANULES) → ArePages t (slice_set a (place_in_arena t g) w) used
write_pages t a used g w h p = record {
  room = length-set a (place_in_arena t g) w ∙ h.room;
  small = h.small;
  counted = h.counted;
  in_use = h.in_use;
  apart = h.apart;
  zeros = λ k l. other k (omega (arith, l, p)) ∙ h.zeros k l;
  unused = λ k l. other k (omega (arith, l, h.in_use (g / PAGE_GRANULES))) ∙ h.unused k l;
}
  where
    other : (k : ℕ) → k ≢ place_in_arena t g → slice_index (slice_set a (place_in_arena t g) w) k ≡ slice_index a k
    other k n = get_or-set_other a (place_in_arena t g) k w 0 n

write_same : (t a : Words) (used g w : ℕ) → ArePages t a used → g < length t * PAGE_GRANULES → 0 < slice_index t (g / PAGE_GRANULES)
    → paged t (slice_set a (place_in_arena t g) w) ≡ slice_set (paged t a) g w
write_same t a used g w h l p =
    same_number_lists (paged t (slice_set a (place_in_arena t g) w)) (slice_set (paged t a) g w)
    (paged_length t (slice_set a (place_in_arena t g) w) ∙ sym (paged_length t a) ∙ sym (length-set (paged t a) g w))
    (λ k m. each k (omega (arith, m, paged_length t (slice_set a (place_in_arena t g) w))) (cases_eq g k))
  where
    here : slice_index (paged t (slice_set a (place_in_arena t g) w)) g ≡ slice_index (slice_set (paged t a) g w) g
    here =
        paged_get t (slice_set a (place_in_arena t g) w) g l
        ∙ get_or-set_same a (place_in_arena t g) w 0 (in_arena t a used g h)
        ∙ sym (get_or-set_same (paged t a) g w 0 (omega (arith, l, paged_length t a)))

    each : (k : ℕ) → k < length t * PAGE_GRANULES → (g ≡ k) ⊎ (g ≡ k → ⊥)
        → slice_index (paged t (slice_set a (place_in_arena t g) w)) k ≡ slice_index (slice_set (paged t a) g w) k
    each k m (inl e) = subst (λ i. slice_index (paged t (slice_set a (place_in_arena t g) w)) i ≡ slice_index (slice_set (paged t a) g w) i) e here
    each k m (inr n) =
        paged_get t (slice_set a (place_in_arena t g) w) k m
        ∙ get_or-set_other a (place_in_arena t g) (place_in_arena t k) w 0 (λ q. place_apart t a used g k h p n (sym q))
        ∙ sym (paged_get t a k m)
        ∙ sym (get_or-set_other (paged t a) g k w 0 (λ q. n (sym q)))

-- ---- a write to a page that gets a slot before, where it has none

-- the granule g of the memory m has a slot of its own
pub record HasSlot (t a m : Words) (used g : ℕ) : Type 0 where
  pub pages : ArePages t a used
  pub same : paged t a ≡ m
  pub within : g < length t * PAGE_GRANULES
  pub own : 0 < slice_index t (g / PAGE_GRANULES)

pub within_table : (t a m : Words) (g : ℕ) → paged t a ≡ m → g < length m → g < length t * PAGE_GRANULES
within_table t a m g e h = omega (arith, h, ap length e, paged_length t a)

pub has_slot : (t a m : Words) (used g : ℕ) (u : Words) (n : ℕ) → ArePages t a used → paged t a ≡ m → g < length m
    → u ≡ with_slot t used (g / PAGE_GRANULES) → n ≡ used_with t used (g / PAGE_GRANULES) → HasSlot u a m n g
has_slot t a m used g u n h s k e f =
    let w = within_table t a m g s k in
    let l : g / PAGE_GRANULES < length t = omega (arith, w) in
    rw (e, f) (record {
      pages = slot_pages t a used (g / PAGE_GRANULES) h l;
      same = slot_same t a used (g / PAGE_GRANULES) h l ∙ s;
      within = omega (arith, w, slot_length t used (g / PAGE_GRANULES));
      own = slot_given t used (g / PAGE_GRANULES) l;
    })

pub set_pages : (t a m : Words) (used g w place : ℕ) (b : Words) → HasSlot t a m used g → place ≡ place_in_arena t g → b ≡ slice_set a place w → ArePages t b used
set_pages t a m used g w place b h e f = rw (f, e) (write_pages t a used g w h.pages h.own)

pub set_same : (t a m : Words) (used g w place : ℕ) (b : Words) → HasSlot t a m used g → place ≡ place_in_arena t g → b ≡ slice_set a place w
    → paged t b ≡ slice_set m g w
set_same t a m used g w place b h e f = rw (f, e) (write_same t a used g w h.pages h.within h.own ∙ ap (λ v. slice_set v g w) h.same)

-- ---- the first pages

pub zero_pages : (t a : Words) (m n : ℕ) → t ≡ replicate m 0 → a ≡ replicate n 0 → n ≡ m * PAGE_GRANULES + PAGE_GRANULES → m * PAGE_GRANULES < 2 ^ 32 → ArePages t a 0
zero_pages t a m n e f s small = record {
  room = rw (e, f) (length-replicate {A = ℕ} n 0 ∙ s ∙ ap (λ x. x * PAGE_GRANULES + PAGE_GRANULES) (sym (length-replicate {A = ℕ} m 0)));
  small = rw e (rw (length-replicate {A = ℕ} m 0) small);
  counted = rw e (sym (count_none m));
  in_use = λ i. rw e (rw (zero_word m i) (omega arith));
  apart = λ i j p q. absurd (omega (arith, p, ap (λ x. slice_index x i) e ∙ zero_word m i));
  zeros = λ k l. rw f (zero_word n k);
  unused = λ k l. rw f (zero_word n k);
}

pub zero_paged : (t a : Words) (m n c : ℕ) → t ≡ replicate m 0 → a ≡ replicate n 0 → c ≡ m * PAGE_GRANULES → paged t a ≡ replicate c 0
zero_paged t a m n c e f s =
    same_number_lists (paged t a) (replicate c 0)
    (paged_length t a ∙ ap (λ u. length u * PAGE_GRANULES) e ∙ ap (λ x. x * PAGE_GRANULES) (length-replicate {A = ℕ} m 0) ∙ sym s ∙ sym (length-replicate {A = ℕ} c 0))
    (λ k l. paged_get t a k (omega (arith, l, paged_length t a)) ∙ ap (λ u. slice_index u (place_in_arena t k)) f ∙ zero_word n (place_in_arena t k) ∙ sym (zero_word c k))
