-- What the links of each byte have when a step is put before them, and what a walk along them finds.
use Rattle.std.proofs.Common.{◌≡◌, ℕ, ◌==◌, ◌+◌, ◌-◌, ◌<◌, ◌≤◌, ◌⊎◌, Bool, true, false, cond, List, [], ◌∷◌, ◌++◌, length, drop, Option, Some}
use Rattle.std.proofs.Common.{None, refl, sym, ap, ◌∙◌, subst, arith, zero, suc, inl, inr}
use Rattle.std.specs.Prelude.{◌&&◌, ◌||◌, not, max, min, nat_le, nat_lt, slice_get, if◌then◌else◌}
use Rattle.std.specs.List.{find, position_from}
use Rattle.std.proofs.lemmas.Bool.{eqb-true, lt-ltb, ltb-true, le-ltb, le-leb, leb-true, and_from, and_parts, and_right}
use Rattle.pg_law_threads.specs.Intervals.{Timed, did_of}
use Rattle.pg_run_trace.specs.declared.step.Access.{Access}
use Rattle.pg_run_trace.specs.declared.step.Step.{Step}
use Rattle.pg_run_trace.specs.Steps.{access_of, range_of}
use Rattle.pg_run_trace.specs.Races.{accesses_conflict, conflict, is_in, is_unordered, overlap, share}
use Rattle.pg_schedule.specs.Touches.{any_byte}
use Rattle.pg_schedule.proofs.GreatestRanks.{byte_more}
use Rattle.pg_schedule.specs.declared.links.Link.{Link}
use Rattle.pg_schedule.specs.declared.links.Links.{Links}
use Rattle.pg_schedule.specs.Links.{AreLinks, AreListed, IsLink, accesses_byte, head_at, holds_byte, is_unordered_at, is_unordered_with, lesser, linked, numbers_of, on_link, steps_from, with_step}
use Rattle.pg_schedule.proofs.NotedTouches.{in_last, in_next, in_same}

-- ---- chains

module _ (n : ℕ) (ls : List Link) (links : AreLinks n ls) where
  -- how many steps are allowed doesn't matter, where they are enough
  enough : (k m at : ℕ) → at ≤ k → at ≤ m → steps_from k ls at ≡ steps_from m ls at
  unfolding steps_from
  enough zero zero at h g = refl
  enough zero (suc m) zero h g = refl
  enough zero (suc m) (suc i) h g = absurd (omega (arith, h))
  enough (suc k) zero zero h g = refl
  enough (suc k) zero (suc i) h g = absurd (omega (arith, g))
  enough (suc k) (suc m) zero h g = refl
  enough (suc k) (suc m) (suc i) h g = by (λ at. enough k m at) (slice_get ls i) refl
    where
      by : ((at : ℕ) → at ≤ k → at ≤ m → steps_from k ls at ≡ steps_from m ls at) → (o : Option Link) → slice_get ls i ≡ o
          → on_link o (steps_from k ls) ≡ on_link o (steps_from m ls)
      by ih None e = refl
      by ih (Some l) e = let w = (links i l e).next in ap (λ (js : List ℕ). l.step ∷ js) (ih l.next (omega (arith, w, h)) (omega (arith, w, g)))

  -- the steps of a link and of those behind it
  pub linked_at : (at : ℕ) (l : Link) → 0 < at → slice_get ls (at - 1) ≡ Some l → linked ls at ≡ l.step ∷ linked ls l.next
  unfolding steps_from
  linked_at zero l h e = absurd (omega (arith, h))
  linked_at (suc i) l h e =
      let z : suc i - 1 ≡ i = omega arith in
      let g : slice_get ls i ≡ Some l = ap (slice_get ls) (sym z) ∙ e in
      let w = (links i l g).next in
      ap (λ (o : Option Link). on_link o (steps_from i ls)) g ∙ ap (λ (js : List ℕ). l.step ∷ js) (enough i l.next l.next w (omega arith))

  -- a link more changes no chain
  longer : (more : List Link) (k at : ℕ) → at ≤ length ls → steps_from k (ls ++ more) at ≡ steps_from k ls at
  unfolding steps_from
  longer more zero at h = refl
  longer more (suc k) zero h = refl
  longer more (suc k) (suc i) h = ap (λ (o : Option Link). on_link o (steps_from k (ls ++ more))) (inside ls i (omega (arith, h))) ∙ by (λ at. longer more k at) (slice_get ls i) refl
    where
      inside : (zs : List Link) (j : ℕ) → j < length zs → slice_get (zs ++ more) j ≡ slice_get zs j
      inside [] j l = absurd (omega (arith, l))
      inside (z ∷ zs) zero l = refl
      inside (z ∷ zs) (suc j) l = inside zs j (omega (arith, l))

      by : ((at : ℕ) → at ≤ length ls → steps_from k (ls ++ more) at ≡ steps_from k ls at) → (o : Option Link) → slice_get ls i ≡ o
          → on_link o (steps_from k (ls ++ more)) ≡ on_link o (steps_from k ls)
      by ih None e = refl
      by ih (Some l) e = let w = (links i l e).next in ap (λ (js : List ℕ). l.step ∷ js) (ih l.next (omega (arith, w, h)))

last_link : (ls : List Link) (l : Link) → slice_get (ls ++ l ∷ []) (length ls) ≡ Some l
last_link [] l = refl
last_link (x ∷ ls) l = last_link ls l

link_cases : (ls : List Link) (l m : Link) (i : ℕ) → slice_get (ls ++ l ∷ []) i ≡ Some m → (slice_get ls i ≡ Some m) ⊎ ((i ≡ length ls) × (l ≡ m))
link_cases [] l m zero e = let q : l ≡ m = cc in inr (refl, q)
link_cases [] l m (suc i) e = absurd cc
link_cases (x ∷ ls) l m zero e = inl e
link_cases (x ∷ ls) l m (suc i) e = by (link_cases ls l m i e)
  where
    by : (slice_get ls i ≡ Some m) ⊎ ((i ≡ length ls) × (l ≡ m)) → (slice_get ls i ≡ Some m) ⊎ ((suc i ≡ suc (length ls)) × (l ≡ m))
    by (inl a) = inl a
    by (inr b) = inr (ap suc b.0, b.1)

-- ---- a step put before those of one byte

in_none : (s b : ℕ) → is_in (record { start = s; bytes = 0 }) b ≡ false
in_none s b = go (nat_le s b) refl
  where
    go : (c : Bool) → nat_le s b ≡ c → is_in (record { start = s; bytes = 0 }) b ≡ false
    go true e = let l = leb-true s b e in and_right (nat_le s b) (nat_lt b (s + 0)) (le-ltb b (s + 0) (omega (arith, l)))
    go false e = ap (λ c. c && nat_lt b (s + 0)) e

listed_same : (n : ℕ) (t : Links) (f g : ℕ → List ℕ) → ((b : ℕ) → f b ≡ g b) → AreListed n t f → AreListed n t g
listed_same n t f g h a = record { chains = λ b. a.chains b ∙ h b; heads = a.heads; links = a.links }

pub noted_none : (n i : ℕ) (t : Links) (steps : ℕ → List ℕ) (s : ℕ) → AreListed n t steps → AreListed n t (λ b. with_step i steps b (is_in (record { start = s; bytes = 0 }) b))
noted_none n i t steps s a = listed_same n t steps (λ b. with_step i steps b (is_in (record { start = s; bytes = 0 }) b)) (λ b. sym (ap (with_step i steps b) (in_none s b))) a

module _ (n i s k : ℕ) (old new' : Links) (steps : ℕ → List ℕ) (lt : i < n)
    (a : AreListed n old (λ b. with_step i steps b (is_in (record { start = s; bytes = k }) b)))
    (heads : (b : ℕ) → head_at new' b ≡ (if b == s + k then length old.links.items + 1 else head_at old b))
    (links : new'.links.items ≡ old.links.items ++ record { step = i; next = head_at old (s + k) } ∷ []) where
  abbrev next : Link
  next = record { step = i; next = head_at old (s + k) }

  are_links : AreLinks n (old.links.items ++ next ∷ [])
  are_links j m e = by (link_cases old.links.items next m j e)
    where
      by : (slice_get old.links.items j ≡ Some m) ⊎ ((j ≡ length old.links.items) × (next ≡ m)) → IsLink n j m
      by (inl h) = a.links j m h
      by (inr h) = let z = h.0 in let w = a.heads (s + k) in subst (IsLink n j) h.1 (record { next = omega (arith, z, w); step = lt })

  pub noted_more : AreListed n new' (λ b. with_step i steps b (is_in (record { start = s; bytes = k + 1 }) b))
  noted_more = record { chains = λ b. chain_of b (b == s + k) refl; heads = λ b. head_of b (b == s + k) refl; links = subst (AreLinks n) (sym links) are_links }
    where
      chain_of : (b : ℕ) (c : Bool) → (b == s + k) ≡ c → linked new'.links.items (head_at new' b) ≡ with_step i steps b (is_in (record { start = s; bytes = k + 1 }) b)
      chain_of b true e =
          let q = eqb-true b (s + k) e in
          let h : head_at new' b ≡ length old.links.items + 1 = heads b ∙ ap (λ t. if t then length old.links.items + 1 else head_at old b) e in
          let z : length old.links.items + 1 - 1 ≡ length old.links.items = omega arith in
          ap (λ (ls : List Link). linked ls (head_at new' b)) links ∙ ap (linked (old.links.items ++ next ∷ [])) h
          ∙ linked_at n (old.links.items ++ next ∷ []) are_links (length old.links.items + 1) next (omega arith)
          (ap (slice_get (old.links.items ++ next ∷ [])) z ∙ last_link old.links.items next)
          ∙ ap (λ (js : List ℕ). i ∷ js) (longer n old.links.items a.links (next ∷ []) (head_at old (s + k)) (head_at old (s + k)) (a.heads (s + k)) ∙ a.chains (s + k)
          ∙ ap (with_step i steps (s + k)) (in_next s k))
          ∙ sym (ap (λ d. with_step i steps d (is_in (record { start = s; bytes = k + 1 }) d)) q ∙ ap (with_step i steps (s + k)) (in_last s k))
      chain_of b false e =
          let h : head_at new' b ≡ head_at old b = heads b ∙ ap (λ t. if t then length old.links.items + 1 else head_at old b) e in
          ap (λ (ls : List Link). linked ls (head_at new' b)) links ∙ ap (linked (old.links.items ++ next ∷ [])) h
          ∙ longer n old.links.items a.links (next ∷ []) (head_at old b) (head_at old b) (a.heads b) ∙ a.chains b
          ∙ ap (with_step i steps b) (sym (in_same s k b e))

      long : length new'.links.items ≡ length old.links.items + 1
      long = ap length links ∙ by old.links.items
        where
          by : (zs : List Link) → length (zs ++ next ∷ []) ≡ length zs + 1
          by [] = refl
          by (z ∷ zs) = let e = by zs in omega (arith, e)

      head_of : (b : ℕ) (c : Bool) → (b == s + k) ≡ c → head_at new' b ≤ length new'.links.items
      head_of b true e =
          let h : head_at new' b ≡ length old.links.items + 1 = heads b ∙ ap (λ t. if t then length old.links.items + 1 else head_at old b) e in
          omega (arith, h, long)
      head_of b false e =
          let h : head_at new' b ≡ head_at old b = heads b ∙ ap (λ t. if t then length old.links.items + 1 else head_at old b) e in
          let w = a.heads b in
          omega (arith, h, long, w)

-- as `noted_more`, by the number of the byte
pub noted_byte : (n i s k byte : ℕ) (old new' : Links) (steps : ℕ → List ℕ) → i < n → AreListed n old (λ b. with_step i steps b (is_in (record { start = s; bytes = k }) b))
    → byte ≡ s + k
    → ((b : ℕ) → head_at new' b ≡ (if b == byte then length old.links.items + 1 else head_at old b))
    → new'.links.items ≡ old.links.items ++ record { step = i; next = head_at old byte } ∷ []
    → AreListed n new' (λ b. with_step i steps b (is_in (record { start = s; bytes = k + 1 }) b))
noted_byte n i s k byte old new' steps lt a e heads links =
    noted_more n i s k old new' steps lt a (λ b. heads b ∙ ap (λ d. if b == d then length old.links.items + 1 else head_at old b) e)
    (links ∙ ap (λ d. let l : Link = record { step = i; next = head_at old d } in old.links.items ++ l ∷ []) e)

-- ---- from the last step on

pub listed_none : (n : ℕ) (t : Links) (xs : List Step) → ((b : ℕ) → head_at t b ≡ 0) → t.links.items ≡ []
    → AreListed n t (λ b. numbers_of (accesses_byte b) (length xs) (drop (length xs) xs))
unfolding steps_from
listed_none n t xs h e = record {
  chains = λ b. ap (linked t.links.items) (h b) ∙ sym (ap (numbers_of (accesses_byte b) (length xs)) (none xs));
  heads = λ b. let w = h b in omega (arith, w);
  links = λ i l g. absurd (let z : slice_get [] i ≡ Some l = ap (λ (ls : List Link). slice_get ls i) (sym e) ∙ g in no i z);
}
  where
    none : (ys : List Step) → drop (length ys) ys ≡ []
    none [] = refl
    none (y ∷ ys) = none ys

    no : {l : Link} (i : ℕ) → slice_get [] i ≡ Some l → ⊥
    no {l} i z = cc

front : (xs : List Step) (i : ℕ) (x : Step) → slice_get xs i ≡ Some x → drop i xs ≡ x ∷ drop (i + 1) xs
front [] i x h = absurd cc
front (y ∷ xs) zero x h = let q : y ≡ x = cc in ap (λ (z : Step). z ∷ xs) q
front (y ∷ xs) (suc i) x h = let ih = front xs i x h in let e : suc i + 1 ≡ suc (i + 1) = omega arith in rw e ih

-- the steps from i on are step i, if it accesses the byte, and those behind it
pub numbers_at : (xs : List Step) (i : ℕ) (x : Step) (b : ℕ) → slice_get xs i ≡ Some x
    → numbers_of (accesses_byte b) i (drop i xs) ≡ with_step i (λ c. numbers_of (accesses_byte c) (i + 1) (drop (i + 1) xs)) b (holds_byte b (access_of x))
numbers_at xs i x b h = ap (numbers_of (accesses_byte b) i) (front xs i x h)

pub listed_next : (n : ℕ) (t : Links) (xs : List Step) (k i : ℕ) (x : Step) (o : Option Access) → k < length xs → i ≡ length xs - (k + 1) → slice_get xs i ≡ Some x → access_of x ≡ o
    → AreListed n t (λ b. with_step i (λ c. numbers_of (accesses_byte c) (length xs - k) (drop (length xs - k) xs)) b (holds_byte b o))
    → AreListed n t (λ b. numbers_of (accesses_byte b) (length xs - (k + 1)) (drop (length xs - (k + 1)) xs))
listed_next n t xs k i x o lt q h e a = listed_same n t _ _ same a
  where
    next : length xs - k ≡ i + 1
    next = omega (arith, q, lt)

    same : (b : ℕ) → with_step i (λ c. numbers_of (accesses_byte c) (length xs - k) (drop (length xs - k) xs)) b (holds_byte b o)
        ≡ numbers_of (accesses_byte b) (length xs - (k + 1)) (drop (length xs - (k + 1)) xs)
    same b =
        ap (λ j. with_step i (λ c. numbers_of (accesses_byte c) j (drop j xs)) b (holds_byte b o)) next
        ∙ ap (λ p. with_step i (λ c. numbers_of (accesses_byte c) (i + 1) (drop (i + 1) xs)) b (holds_byte b p)) (sym e)
        ∙ sym (numbers_at xs i x b h) ∙ ap (λ j. numbers_of (accesses_byte b) j (drop j xs)) q

pub listed_start : (n : ℕ) (t : Links) (xs : List Step) (k : ℕ) → k ≡ 0 → ((b : ℕ) → head_at t b ≡ 0) → t.links.items ≡ []
    → AreListed n t (λ b. numbers_of (accesses_byte b) (length xs - k) (drop (length xs - k) xs))
listed_start n t xs k z h e =
    let q : length xs ≡ length xs - k = omega (arith, z) in
    listed_same n t _ _ (λ b. ap (λ j. numbers_of (accesses_byte b) j (drop j xs)) q) (listed_none n t xs h e)

pub listed_end : (n : ℕ) (t : Links) (xs : List Step) (k : ℕ) → k ≡ length xs → AreListed n t (λ b. numbers_of (accesses_byte b) (length xs - k) (drop (length xs - k) xs))
    → AreListed n t (λ b. numbers_of (accesses_byte b) 0 xs)
listed_end n t xs k z a = let q : length xs - k ≡ 0 = omega (arith, z) in listed_same n t _ _ (λ b. ap (λ j. numbers_of (accesses_byte b) j (drop j xs)) q) a

-- ---- a walk along links

module _ (p : ℕ → Bool) (js rest : List ℕ) (j : ℕ) (is : js ≡ j ∷ rest) (o : Option ℕ) (e : find p js ≡ o) where
  pub walk_found : p j ≡ true → Some j ≡ o
  walk_found h = sym (ap (find p) is ∙ ap (λ b. cond b (Some j) (find p rest)) h) ∙ e

  pub walk_missed : p j ≡ false → find p rest ≡ o
  walk_missed h = sym (ap (find p) is ∙ ap (λ b. cond b (Some j) (find p rest)) h) ∙ e

pub walk_end : (p : ℕ → Bool) (ls : List Link) (at : ℕ) (o : Option ℕ) → at ≡ 0 → find p (linked ls at) ≡ o → None ≡ o
unfolding steps_from
walk_end p ls at o z e = sym (ap (λ n. find p (linked ls n)) z) ∙ e

-- ---- positions

from_least : {A : Type 0} (p : A → Bool) (k : ℕ) (ys : List A) (m : ℕ) → position_from p k ys ≡ Some m → k ≤ m
from_least p k [] m e = absurd cc
from_least p k (y ∷ ys) m e = by (p y) e (from_least p (k + 1) ys m)
  where
    by : (b : Bool) → cond b (Some k) (position_from p (k + 1) ys) ≡ Some m → (position_from p (k + 1) ys ≡ Some m → k + 1 ≤ m) → k ≤ m
    by true q ih = let z : k ≡ m = cc in omega (arith, z)
    by false q ih = let z = ih q in omega (arith, z)

first_left : (k : ℕ) (o : Option ℕ) → ((m : ℕ) → o ≡ Some m → k ≤ m) → Some k ≡ lesser (Some k) o
first_left k None h = refl
first_left k (Some m) h = let l = h m refl in let z : k ≡ min k m = omega (arith, l) in ap Some z

first_right : (k : ℕ) (o : Option ℕ) → ((m : ℕ) → o ≡ Some m → k ≤ m) → Some k ≡ lesser o (Some k)
first_right k None h = refl
first_right k (Some m) h = let l = h m refl in let z : k ≡ min m k = omega (arith, l) in ap Some z

module _ {A : Type 0} (p q : A → Bool) where
  either_first : (k : ℕ) (ys : List A) → position_from (λ y. p y || q y) k ys ≡ lesser (position_from p k ys) (position_from q k ys)
  either_first k [] = refl
  either_first k (y ∷ ys) = by (p y) (q y) (either_first (k + 1) ys)
    where
      above : (r : A → Bool) (m : ℕ) → position_from r (k + 1) ys ≡ Some m → k ≤ m
      above r m e = let l = from_least r (k + 1) ys m e in omega (arith, l)

      by : (a b : Bool) → position_from (λ y. p y || q y) (k + 1) ys ≡ lesser (position_from p (k + 1) ys) (position_from q (k + 1) ys)
          → cond (a || b) (Some k) (position_from (λ y. p y || q y) (k + 1) ys) ≡ lesser (cond a (Some k) (position_from p (k + 1) ys)) (cond b (Some k) (position_from q (k + 1) ys))
      by true true ih = let z : k ≡ min k k = omega arith in ap Some z
      by true false ih = first_left k (position_from q (k + 1) ys) (above q)
      by false true ih = first_right k (position_from p (k + 1) ys) (above p)
      by false false ih = ih

pub same_first : {A : Type 0} (p q : A → Bool) → ((y : A) → p y ≡ q y) → (k : ℕ) (ys : List A) → position_from p k ys ≡ position_from q k ys
same_first p q h k [] = refl
same_first p q h k (y ∷ ys) = ap (λ b. cond b (Some k) (position_from p (k + 1) ys)) (h y) ∙ ap (λ o. cond (q y) (Some k) o) (same_first p q h (k + 1) ys)

pub none_first : {A : Type 0} (p : A → Bool) → ((y : A) → p y ≡ false) → (k : ℕ) (ys : List A) → None ≡ position_from p k ys
none_first p h k [] = refl
none_first p h k (y ∷ ys) = none_first p h (k + 1) ys ∙ sym (ap (λ b. cond b (Some k) (position_from p (k + 1) ys)) (h y))

-- a byte more
pub byte_first : {A : Type 0} (f : A → ℕ → Bool) (s k : ℕ) (ys : List A)
    → position_from (λ y. any_byte (f y) s (k + 1)) 0 ys ≡ lesser (position_from (λ y. any_byte (f y) s k) 0 ys) (position_from (λ y. f y (s + k)) 0 ys)
byte_first {A} f s k ys =
    let e : k + 1 ≡ suc k = omega arith in
    ap (λ n. position_from (λ y. any_byte (f y) s n) 0 ys) e ∙ either_first (λ y. any_byte (f y) s k) (λ y. f y (s + k)) 0 ys

-- ---- the first of the steps that access a byte

numbers_found : (all : List (Timed Step)) (x : Timed Step) (b k : ℕ) (ys : List (Timed Step)) → ((i : ℕ) → slice_get all (k + i) ≡ slice_get ys i)
    → find (is_unordered_at all x) (numbers_of (accesses_byte b) k (did_of ys)) ≡ position_from (λ (y : Timed Step). accesses_byte b y.did && is_unordered x y) k ys
numbers_found all x b k [] h = refl
numbers_found all x b k (y ∷ ys) h = by (accesses_byte b y.did) (is_unordered x y) first
    (numbers_found all x b (k + 1) ys (λ i. let z : (k + 1) + i ≡ k + suc i = omega arith in ap (slice_get all) z ∙ h (suc i)))
  where
    first : is_unordered_at all x k ≡ is_unordered x y
    first = let z : k ≡ k + 0 = omega arith in ap (is_unordered_with x) (ap (slice_get all) z ∙ h 0)

    by : (a c : Bool) → is_unordered_at all x k ≡ c → find (is_unordered_at all x) (numbers_of (accesses_byte b) (k + 1) (did_of ys))
        ≡ position_from (λ (y : Timed Step). accesses_byte b y.did && is_unordered x y) (k + 1) ys
        → find (is_unordered_at all x) (if a then k ∷ numbers_of (accesses_byte b) (k + 1) (did_of ys) else numbers_of (accesses_byte b) (k + 1) (did_of ys))
        ≡ cond (a && c) (Some k) (position_from (λ (y : Timed Step). accesses_byte b y.did && is_unordered x y) (k + 1) ys)
    by true true e ih = ap (λ d. cond d (Some k) (find (is_unordered_at all x) (numbers_of (accesses_byte b) (k + 1) (did_of ys)))) e
    by true false e ih = ap (λ d. cond d (Some k) (find (is_unordered_at all x) (numbers_of (accesses_byte b) (k + 1) (did_of ys)))) e ∙ ih
    by false c e ih = ih

pub first_of_byte : (ys : List (Timed Step)) (xs : List Step) (x : Timed Step) (b : ℕ) → did_of ys ≡ xs
    → find (is_unordered_at ys x) (numbers_of (accesses_byte b) 0 xs) ≡ position_from (λ (y : Timed Step). accesses_byte b y.did && is_unordered x y) 0 ys
first_of_byte ys xs x b e = ap (λ zs. find (is_unordered_at ys x) (numbers_of (accesses_byte b) 0 zs)) (sym e)
    ∙ numbers_found ys x b 0 ys (λ i. let z : 0 + i ≡ i = omega arith in ap (slice_get ys) z)

-- ---- a step that is unordered with x accesses one of its bytes

none_any : (f : ℕ → Bool) (s n : ℕ) → ((b : ℕ) → f b ≡ false) → any_byte f s n ≡ false
none_any f s zero h = refl
none_any f s (suc n) h = ap (λ c. c || f (s + n)) (none_any f s n h) ∙ h (s + n)

and_false : (a : Bool) → (a && false) ≡ false
and_false true = refl
and_false false = refl

shares : (a : Access) (o : Option Access) → accesses_conflict (Some a) o ≡ true → (i : ℕ) × (i < a.bytes) × (holds_byte ((range_of a).start + i) o ≡ true)
shares a None h = absurd cc
shares a (Some c) h =
    let r = range_of a in
    let s = range_of c in
    let parts = and_parts (a.writes || c.writes) (share r s) h in
    let both = and_parts (nat_lt (max r.start s.start) (r.start + r.bytes)) (nat_lt (max r.start s.start) (s.start + s.bytes)) parts.1 in
    let l = ltb-true (max r.start s.start) (r.start + r.bytes) both.0 in
    let m = ltb-true (max r.start s.start) (s.start + s.bytes) both.1 in
    let z : r.start + (max r.start s.start - r.start) ≡ max r.start s.start = omega arith in (
      max r.start s.start - r.start,
      omega (arith, l),
      ap (is_in s) z ∙ and_from (nat_le s.start (max r.start s.start)) (nat_lt (max r.start s.start) (s.start + s.bytes)) (le-leb s.start (max r.start s.start) (omega arith))
          (lt-ltb (max r.start s.start) (s.start + s.bytes) m),
    )

pub any_is_whole : (x : Timed Step) (a : Access) → access_of x.did ≡ Some a → (y : Timed Step)
    → any_byte (λ b. accesses_byte b y.did && is_unordered x y) (range_of a).start a.bytes ≡ is_unordered x y
any_is_whole x a e y = by (is_unordered x y) refl
  where
    by : (c : Bool) → is_unordered x y ≡ c → any_byte (λ b. accesses_byte b y.did && c) (range_of a).start a.bytes ≡ c
    by false h = none_any (λ b. accesses_byte b y.did && false) (range_of a).start a.bytes (λ b. and_false (accesses_byte b y.did))
    by true h =
        let c = (and_parts (conflict x.did y.did) (overlap x y) h).0 in
        let d = (and_parts (not (x.did.thread.0 == y.did.thread.0)) (accesses_conflict (access_of x.did) (access_of y.did)) c).1 in
        let f = shares a (access_of y.did) (ap (λ o. accesses_conflict o (access_of y.did)) (sym e) ∙ d) in
        byte_more (λ b. accesses_byte b y.did && true) (range_of a).start a.bytes f.0 f.1 (and_from (accesses_byte ((range_of a).start + f.0) y.did) true f.2 refl)

pub none_is_unordered : (x : Timed Step) → access_of x.did ≡ None → (y : Timed Step) → is_unordered x y ≡ false
none_is_unordered x e y = ap (λ o. not (x.did.thread.0 == y.did.thread.0) && accesses_conflict o (access_of y.did) && overlap x y) e ∙ by (not (x.did.thread.0 == y.did.thread.0))
  where
    by : (b : Bool) → ((b && accesses_conflict None (access_of y.did)) && overlap x y) ≡ false
    by true = refl
    by false = refl
