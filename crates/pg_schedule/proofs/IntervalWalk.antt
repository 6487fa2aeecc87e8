-- What the two passes over a trace keep: forward the last turn of each thread, backward the next.
use Rattle.std.proofs.Common.{◌≡◌, ℕ, ◌+◌, ◌-◌, ◌<◌, ◌≤◌, ◌⊎◌, Bool, true, false, List, [], ◌∷◌, ◌++◌, length, map, take, drop, set, get_or, Some}
use Rattle.std.proofs.Common.{refl, sym, ap, ◌∙◌, subst, arith, zero, suc, inl, inr}
use Rattle.std.specs.Prelude.{slice_get}
use Rattle.std.proofs.Common.{append-nil}
use Rattle.std.proofs.lemmas.Bool.{cases_eq}
use Rattle.std.proofs.lemmas.List.{get_or-set_same, get_or-set_other, length-set, map-append}
use Rattle.pg_law_threads.specs.Steps.{View}
use Rattle.pg_law_threads.specs.Intervals.{last_before, next_from, done_after, turns_done, timed, times, AreTurns, owners}
use Rattle.pg_law_threads.proofs.LastAndNextTurn.{last_own, last_other, next_up, next_own, next_other, next_from_end, owner_below}
use Rattle.pg_law_threads.proofs.TimedSteps.{turns_right_of, done_append}
use Rattle.pg_law_threads.proofs.OwnTurns.{own_turns, owners_done, times_append, times_length}
use Rattle.pg_run_trace.specs.declared.step.Step.{Step}
use Rattle.pg_run_trace.specs.Races.{timed_by}
use Rattle.pg_schedule.specs.declared.interval.Interval.{Interval}
use Rattle.pg_schedule.specs.Intervals.{from_low, interval_of}
use Rattle.pg_law_threads.proofs.ListPlaces.{drop_get, take_get}

-- ---- lists

take_drop_all : {A : Type 0} (i : ℕ) (xs : List A) → take i xs ++ drop i xs ≡ xs
take_drop_all zero xs = refl
take_drop_all (suc i) [] = refl
take_drop_all (suc i) (x ∷ xs) = ap (λ l. x ∷ l) (take_drop_all i xs)

module _ (V : View Step) (xs : List Step) where
  abbrev pub T : List ℕ
  T = owners V xs

  -- how many turns are done before step i
  abbrev pub before : ℕ → ℕ
  before i = turns_done V 0 (take i xs)

  turns_from : (i : ℕ) → AreTurns V T (before i) (drop i xs)
  turns_from i = turns_right_of V T 0 (take i xs) (drop i xs) (subst (AreTurns V T 0) (sym (take_drop_all i xs)) (own_turns V xs))

  -- an event is the turn of its thread
  pub turn_here : (i : ℕ) (x : Step) → slice_get xs i ≡ Some x → V.is_event x ≡ true → slice_get T (before i) ≡ Some (V.thread x)
  turn_here i x h v = (subst (AreTurns V T (before i)) (drop_get xs i x h) (turns_from i)).0 v

  pub before_next : (i : ℕ) (x : Step) → slice_get xs i ≡ Some x → before (i + 1) ≡ done_after (V.is_event x) (before i)
  before_next i x h = ap (turns_done V 0) (take_get xs i x h) ∙ done_append V 0 (take i xs) (x ∷ [])

  pub times_next : (i : ℕ) (x : Step) → slice_get xs i ≡ Some x → times V T 0 (take (i + 1) xs) ≡ times V T 0 (take i xs) ++ timed V T (before i) x ∷ []
  times_next i x h = ap (times V T 0) (take_get xs i x h) ∙ times_append V T 0 (take i xs) (x ∷ [])

  pub times_rest : (i : ℕ) → timed_by V xs ≡ times V T 0 (take i xs) ++ times V T (before i) (drop i xs)
  times_rest i = ap (times V T 0) (sym (take_drop_all i xs)) ∙ times_append V T 0 (take i xs) (drop i xs)

  pub rest_next : (i : ℕ) (x : Step) → slice_get xs i ≡ Some x → times V T (before i) (drop i xs) ≡ timed V T (before i) x ∷ times V T (before (i + 1)) (drop (i + 1) xs)
  rest_next i x h = ap (times V T (before i)) (drop_get xs i x h) ∙ ap (λ k. timed V T (before i) x ∷ times V T k (drop (i + 1) xs)) (sym (before_next i x h))

  pub before_up : (i : ℕ) (x : Step) → slice_get xs i ≡ Some x → before i ≤ i
  before_up i x h = up (take i xs) i (short i xs)
    where
      short : (i : ℕ) (ys : List Step) → length (take i ys) ≤ i
      short zero ys = omega arith
      short (suc i) [] = omega arith
      short (suc i) (y ∷ ys) = let ih = short i ys in omega (arith, ih)

      grow : (k : ℕ) (ys : List Step) → turns_done V k ys ≤ k + length ys
      grow k [] = omega arith
      grow k (y ∷ ys) = go (V.is_event y) refl (grow (suc k) ys) (grow k ys)
        where
          go : (e : Bool) → V.is_event y ≡ e → turns_done V (suc k) ys ≤ suc k + length ys → turns_done V k ys ≤ k + length ys
              → turns_done V (done_after (V.is_event y) k) ys ≤ k + suc (length ys)
          go true w a b = rw w (omega (arith, a))
          go false w a b = rw w (omega (arith, b))

      up : (ys : List Step) (i : ℕ) → length ys ≤ i → turns_done V 0 ys ≤ i
      up ys i h = let g = grow 0 ys in omega (arith, g, h)

  -- ---- forward

  -- the last turn of each thread where so many turns are done
  abbrev pub AreLast : ℕ → List ℕ → Type 0
  AreLast k last = (length last ≡ 256) × ((u : ℕ) → u < 256 → get_or last u 0 ≡ last_before u T k)

  pub last_event : (i : ℕ) (x : Step) (last : List ℕ) → slice_get xs i ≡ Some x → V.is_event x ≡ true → V.thread x < 256 → AreLast (before i) last
      → AreLast (before i + 1) (set last (V.thread x) (before i + 1))
  last_event i x last h v lt a = (length-set last (V.thread x) (before i + 1) ∙ a.0, λ u l. go u l (cases_eq u (V.thread x)))
    where
      e : before i + 1 ≡ suc (before i)
      e = omega arith

      go : (u : ℕ) → u < 256 → (u ≡ V.thread x) ⊎ (u ≡ V.thread x → ⊥) → get_or (set last (V.thread x) (before i + 1)) u 0 ≡ last_before u T (before i + 1)
      go u l (inl q) = let z = a.0 in rw q (get_or-set_same last (V.thread x) (before i + 1) 0 (omega (arith, z, lt)) ∙ e
          ∙ sym (ap (last_before (V.thread x) T) e ∙ last_own (V.thread x) T (before i) (turn_here i x h v)))
      go u l (inr n) = get_or-set_other last (V.thread x) u (before i + 1) 0 n ∙ a.1 u l ∙ sym (ap (last_before u T) e ∙ last_other u T (before i) (λ o. n (let z = turn_here i x h v in cc)))

  -- what the pass keeps: the steps so far with their last turns, the turns done, and the last turn of each thread
  pub record Forward (i : ℕ) (items : List Interval) (done : ℕ) (last : List ℕ) : Type 0 where
    pub made : items ≡ map from_low (times V T 0 (take i xs))
    pub counted : done ≡ before i
    pub few : done ≤ i
    pub lasts : AreLast done last

  forward_start : (last : List ℕ) → length last ≡ 256 → ((u : ℕ) → get_or last u 0 ≡ 0) → Forward 0 [] 0 last
  forward_start last l z = record { made = refl; counted = refl; few = omega arith; lasts = (l, λ u h. z u) }

  pushed : (i : ℕ) (x : Step) (items : List Interval) (low : ℕ) → slice_get xs i ≡ Some x → items ≡ map from_low (times V T 0 (take i xs))
      → low ≡ last_before (V.thread x) T (before (i + 1)) →
      items ++ (record { low = low; high = 0 }) ∷ [] ≡ map from_low (times V T 0 (take (i + 1) xs))
  pushed i x items low h e q =
      let z : last_before (V.thread x) T (before (i + 1)) ≡ last_before (V.thread x) T (done_after (V.is_event x) (before i)) = ap (last_before (V.thread x) T) (before_next i x h) in
      ap (λ n. items ++ (record { low = n; high = 0 }) ∷ []) (q ∙ z) ∙ ap (λ l. l ++ from_low (timed V T (before i) x) ∷ []) e
      ∙ sym (ap (map from_low) (times_next i x h) ∙ map-append from_low (times V T 0 (take i xs)) (timed V T (before i) x ∷ []))

  pub forward_event : (i : ℕ) (x : Step) (items : List Interval) (done : ℕ) (last : List ℕ) → slice_get xs i ≡ Some x → V.is_event x ≡ true → V.thread x < 256
      → Forward i items done last →
      Forward (i + 1) (items ++ (record { low = get_or (set last (V.thread x) (done + 1)) (V.thread x) 0; high = 0 }) ∷ []) (done + 1) (set last (V.thread x) (done + 1))
  forward_event i x items done last h v lt f =
      let d = f.counted in
      let few = f.few in
      let next : done + 1 ≡ before (i + 1) = let n = before_next i x h in let q : done_after (V.is_event x) (before i) ≡ suc (before i) = rw v refl in omega (arith, n, q, d) in
      let a : AreLast (done + 1) (set last (V.thread x) (done + 1)) = subst (λ k. AreLast (k + 1) (set last (V.thread x) (k + 1))) (sym d)
      (last_event i x last h v lt (subst (λ k. AreLast k last) d f.lasts)) in
      record {
        made = pushed i x items (get_or (set last (V.thread x) (done + 1)) (V.thread x) 0) h f.made (a.1 (V.thread x) lt ∙ ap (last_before (V.thread x) T) next);
        counted = next;
        few = omega (arith, few);
        lasts = a;
      }

  pub forward_plain : (i : ℕ) (x : Step) (items : List Interval) (done : ℕ) (last : List ℕ) → slice_get xs i ≡ Some x → V.is_event x ≡ false → V.thread x < 256
      → Forward i items done last →
      Forward (i + 1) (items ++ (record { low = get_or last (V.thread x) 0; high = 0 }) ∷ []) done last
  forward_plain i x items done last h v lt f =
      let d = f.counted in
      let few = f.few in
      let next : done ≡ before (i + 1) = let n = before_next i x h in let q : done_after (V.is_event x) (before i) ≡ before i = rw v refl in omega (arith, n, q, d) in
      record {
        made = pushed i x items (get_or last (V.thread x) 0) h f.made (f.lasts.1 (V.thread x) lt ∙ ap (last_before (V.thread x) T) next);
        counted = next;
        few = omega (arith, few);
        lasts = f.lasts;
      }

  -- ---- backward

  -- the next turn of each thread where so many turns are done
  abbrev pub AreNext : ℕ → List ℕ → Type 0
  AreNext k next = (length next ≡ 256) × ((u : ℕ) → u < 256 → get_or next u 0 ≡ next_from u T k)

  -- what the pass keeps: the first i steps with their last turns, and the others with their intervals
  pub record Backward (i : ℕ) (items : List Interval) (due : ℕ) (next : List ℕ) : Type 0 where
    pub made : items ≡ map from_low (times V T 0 (take i xs)) ++ map interval_of (times V T (before i) (drop i xs))
    pub counted : due ≡ before i
    pub nexts : AreNext due next

  set_middle : {A : Type 0} (ys : List A) (x y : A) (zs : List A) → set (ys ++ x ∷ zs) (length ys) y ≡ ys ++ y ∷ zs
  set_middle [] x y zs = refl
  set_middle (a ∷ ys) x y zs = ap (λ l. a ∷ l) (set_middle ys x y zs)

  get_middle : {A : Type 0} (ys : List A) (x : A) (zs : List A) → slice_get (ys ++ x ∷ zs) (length ys) ≡ Some x
  get_middle [] x zs = refl
  get_middle (a ∷ ys) x zs = get_middle ys x zs

  length_map : {A B : Type 0} (f : A → B) (ys : List A) → length (map f ys) ≡ length ys
  length_map f [] = refl
  length_map f (a ∷ ys) = ap suc (length_map f ys)

  length_take : {A : Type 0} (i : ℕ) (ys : List A) (x : A) → slice_get ys i ≡ Some x → length (take i ys) ≡ i
  length_take zero ys x h = refl
  length_take (suc i) [] x h = absurd (cc)
  length_take (suc i) (a ∷ ys) x h = ap suc (length_take i ys x h)

  append_one : {A : Type 0} (ys zs : List A) (x : A) → (ys ++ x ∷ []) ++ zs ≡ ys ++ x ∷ zs
  append_one [] zs x = refl
  append_one (a ∷ ys) zs x = ap (λ l. a ∷ l) (append_one ys zs x)

  module _ (i : ℕ) (x : Step) (here : slice_get xs i ≡ Some x) where
    front : List Interval
    front = map from_low (times V T 0 (take i xs))

    rest : List Interval
    rest = map interval_of (times V T (before (i + 1)) (drop (i + 1) xs))

    front_length : length front ≡ i
    unfolding front
    front_length = length_map from_low (times V T 0 (take i xs)) ∙ times_length V T 0 (take i xs) ∙ length_take i xs x here

    -- the list before and after the step got its next turn
    parted : (items : List Interval) → items ≡ map from_low (times V T 0 (take (i + 1) xs)) ++ map interval_of (times V T (before (i + 1)) (drop (i + 1) xs))
        → items ≡ front ++ from_low (timed V T (before i) x) ∷ rest
    unfolding front rest
    parted items e = e ∙ ap (λ l. l ++ rest) (ap (map from_low) (times_next i x here) ∙ map-append from_low (times V T 0 (take i xs)) (timed V T (before i) x ∷ []))
        ∙ append_one front rest (from_low (timed V T (before i) x))

    joined : front ++ interval_of (timed V T (before i) x) ∷ rest ≡ map from_low (times V T 0 (take i xs)) ++ map interval_of (times V T (before i) (drop i xs))
    unfolding front rest
    joined = ap (λ l. front ++ l) (sym (ap (map interval_of) (rest_next i x here)))

    -- the step's interval as it stands
    pub found : (items : List Interval) (due : ℕ) (next : List ℕ) → Backward (i + 1) items due next → slice_get items i ≡ Some (from_low (timed V T (before i) x))
    found items due next b = ap (λ l. slice_get l i) (parted items b.made) ∙ ap (slice_get (front ++ from_low (timed V T (before i) x) ∷ rest)) (sym front_length)
        ∙ get_middle front (from_low (timed V T (before i) x)) rest

    filled : (items : List Interval) (high : ℕ) → items ≡ map from_low (times V T 0 (take (i + 1) xs)) ++ map interval_of (times V T (before (i + 1)) (drop (i + 1) xs))
        → high ≡ next_from (V.thread x) T (before i) →
        set items i (record { low = last_before (V.thread x) T (done_after (V.is_event x) (before i)); high = high }) ≡ map from_low (times V T 0 (take i xs))
        ++ map interval_of (times V T (before i) (drop i xs))
    filled items high e q =
        ap (λ h. set items i (record { low = last_before (V.thread x) T (done_after (V.is_event x) (before i)); high = h })) q
        ∙ ap (λ l. set l i (interval_of (timed V T (before i) x))) (parted items e)
        ∙ ap (λ n. set (front ++ from_low (timed V T (before i) x) ∷ rest) n (interval_of (timed V T (before i) x))) (sym front_length)
        ∙ set_middle front (from_low (timed V T (before i) x)) (interval_of (timed V T (before i) x)) rest
        ∙ joined

    next_event : (due : ℕ) (next : List ℕ) → V.is_event x ≡ true → V.thread x < 256 → due ≡ before (i + 1) → AreNext due next
        → (due - 1 ≡ before i) × AreNext (due - 1) (set next (V.thread x) (due - 1))
    next_event due next v lt d a =
        let n = before_next i x here in
        let q : done_after (V.is_event x) (before i) ≡ suc (before i) = rw v refl in
        let e : due - 1 ≡ before i = omega (arith, n, q, d) in
        let f : due ≡ suc (before i) = omega (arith, n, q, d) in
        (e, (length-set next (V.thread x) (due - 1) ∙ a.0, λ u l. go u l e f (cases_eq u (V.thread x))))
      where
        go : (u : ℕ) → u < 256 → due - 1 ≡ before i → due ≡ suc (before i) → (u ≡ V.thread x) ⊎ (u ≡ V.thread x → ⊥)
            → get_or (set next (V.thread x) (due - 1)) u 0 ≡ next_from u T (due - 1)
        go u l e f (inl q) = let z = a.0 in rw q (get_or-set_same next (V.thread x) (due - 1) 0 (omega (arith, z, lt)) ∙ e
            ∙ sym (ap (next_from (V.thread x) T) e ∙ next_own (V.thread x) T (before i) (turn_here i x here v)))
        go u l e f (inr m) = get_or-set_other next (V.thread x) u (due - 1) 0 m ∙ a.1 u l ∙ ap (next_from u T) f
            ∙ sym (ap (next_from u T) e ∙ next_other u T (before i) (owner_below T (before i) (V.thread x) (turn_here i x here v)) (λ o. m (let z = turn_here i x here v in cc)))

    pub backward_event : (items : List Interval) (due : ℕ) (next : List ℕ) → V.is_event x ≡ true → V.thread x < 256 → Backward (i + 1) items due next →
        Backward i (set items i (record { low = last_before (V.thread x) T (done_after (V.is_event x) (before i)); high = get_or (set next (V.thread x) (due - 1)) (V.thread x) 0 })) (due - 1)
        (set next (V.thread x) (due - 1))
    backward_event items due next v lt b =
        let n = next_event due next v lt b.counted b.nexts in
        record { made = filled items (get_or (set next (V.thread x) (due - 1)) (V.thread x) 0) b.made (n.1.1 (V.thread x) lt ∙ ap (next_from (V.thread x) T) n.0); counted = n.0; nexts = n.1 }

    pub backward_plain : (items : List Interval) (due : ℕ) (next : List ℕ) → V.is_event x ≡ false → V.thread x < 256 → Backward (i + 1) items due next →
        Backward i (set items i (record { low = last_before (V.thread x) T (done_after (V.is_event x) (before i)); high = get_or next (V.thread x) 0 })) due next
    backward_plain items due next v lt b =
        let n = before_next i x here in
        let q : done_after (V.is_event x) (before i) ≡ before i = rw v refl in
        let d = b.counted in
        let e : due ≡ before i = omega (arith, n, q, d) in
        record { made = filled items (get_or next (V.thread x) 0) b.made (b.nexts.1 (V.thread x) lt ∙ ap (next_from (V.thread x) T) e); counted = e; nexts = b.nexts }

  -- ---- the ends of both passes

  take_all : {A : Type 0} (ys : List A) → take (length ys) ys ≡ ys
  take_all [] = refl
  take_all (a ∷ ys) = ap (λ l. a ∷ l) (take_all ys)

  drop_all : {A : Type 0} (ys : List A) → drop (length ys) ys ≡ []
  drop_all [] = refl
  drop_all (a ∷ ys) = drop_all ys

  pub before_all : before (length xs) ≡ turns_done V 0 xs
  before_all = ap (turns_done V 0) (take_all xs)

  pub forward_end : (items : List Interval) (done : ℕ) (last : List ℕ) → Forward (length xs) items done last → (items ≡ map from_low (timed_by V xs)) × (done ≡ turns_done V 0 xs)
  forward_end items done last f = (f.made ∙ ap (λ l. map from_low (times V T 0 l)) (take_all xs), f.counted ∙ before_all)

  pub backward_start : (items : List Interval) (total : ℕ) (next : List ℕ) → items ≡ map from_low (timed_by V xs) → total ≡ turns_done V 0 xs → length next ≡ 256
      → ((u : ℕ) → u < 256 → get_or next u 0 ≡ total) → Backward (length xs) items total next
  backward_start items total next e q l a = record {
    made = e ∙ ap (λ ys. map from_low (times V T 0 ys)) (sym (take_all xs)) ∙ sym (append-nil (map from_low (times V T 0 (take (length xs) xs))))
        ∙ ap (λ ys. map from_low (times V T 0 (take (length xs) xs)) ++ map interval_of (times V T (before (length xs)) ys)) (sym (drop_all xs));
    counted = q ∙ sym before_all;
    nexts = (l, λ u h. a u h ∙ q ∙ end u);
  }
    where
      end : (u : ℕ) → turns_done V 0 xs ≡ next_from u T total
      end u = let t = owners_done V 0 xs in let z : total ≡ length T = omega (arith, t, q) in let up = next_up u T total (omega (arith, z)) in let down =
          next_from_end u T total in omega (arith, t, q, up, down)

  pub backward_end : (items : List Interval) (due : ℕ) (next : List ℕ) → Backward 0 items due next → items ≡ map interval_of (timed_by V xs)
  backward_end items due next b = b.made

  pub items_length : (i : ℕ) (items : List Interval) (due : ℕ) (next : List ℕ) → Backward i items due next → length items ≡ length xs
  items_length i items due next b =
      ap length b.made ∙ length_append (map from_low (times V T 0 (take i xs))) (map interval_of (times V T (before i) (drop i xs)))
      ∙ sums (length_map from_low (times V T 0 (take i xs)) ∙ times_length V T 0 (take i xs))
      (length_map interval_of (times V T (before i) (drop i xs)) ∙ times_length V T (before i) (drop i xs))
      ∙ sym (length_append (take i xs) (drop i xs)) ∙ ap length (take_drop_all i xs)
    where
      length_append : {A : Type 0} (ys zs : List A) → length (ys ++ zs) ≡ length ys + length zs
      length_append [] zs = omega arith
      length_append (a ∷ ys) zs = let ih = length_append ys zs in omega (arith, ih)

      sums : {a b c d : ℕ} → a ≡ b → c ≡ d → a + c ≡ b + d
      sums h k = rw (h, k) refl

  -- where a step is an event, a turn is due
  pub due_event : (i : ℕ) (x : Step) (items : List Interval) (due : ℕ) (next : List ℕ) → slice_get xs i ≡ Some x → V.is_event x ≡ true → Backward (i + 1) items due next → 1 ≤ due
  due_event i x items due next here v b = let n = before_next i x here in let q : done_after (V.is_event x) (before i) ≡ suc (before i) = rw v refl in let d = b.counted in omega (arith, n, q, d)

pub get_found : {A : Type 0} (l : List A) (i : ℕ) (y d : A) → slice_get l i ≡ Some y → get_or l i d ≡ y
get_found [] i y d h = absurd (cc)
get_found (z ∷ l) zero y d h = cc
get_found (z ∷ l) (suc i) y d h = get_found l i y d h
