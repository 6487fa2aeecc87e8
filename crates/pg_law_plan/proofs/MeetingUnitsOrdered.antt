-- Units that meet at a cell are ordered: by the rules on regions that are disturbed and on accesses that are shared.
use Rattle.std.proofs.Common.{◌≡◌, ◌≢◌, ℕ, ◌==◌, ◌≤◌, ◌⊎◌, Bool, true, false, List, [], ◌++◌, Option, Some, None, refl, sym, ap, ◌∙◌, subst, arith}
use Rattle.std.proofs.Common.{suc, inl, inr}
use Rattle.std.specs.Prelude.{◌+◌, ◌-◌, ◌&&◌, ◌||◌, not, nat_lt, is_some, if◌then◌else◌}
use Rattle.std.specs.List.{list_any}
use Rattle.std.proofs.lemmas.Bool.{and_from, and_parts, cases_Bool, ltb-true, ne_eqb, not-true, not_from_false, or_cases, true≢false}
use Rattle.pg_num.specs.declared.layout.TheConstants.{MEMORY_BYTES}
use Rattle.pg_law_threads.specs.Intervals.{AreOrdered, Timed}
use Rattle.pg_law_threads.specs.Steps.{Conflict}
use Rattle.pg_run_trace.specs.declared.step.Access.{Access}
use Rattle.pg_run_trace.specs.declared.step.Step.{Step}
use Rattle.pg_run_trace.specs.declared.step.StepKind.{StepKind}
use Rattle.pg_run_trace.specs.declared.step.StepKind.TheVariants as kinds
use Rattle.pg_run_trace.specs.declared.step.Write.{Write}
use Rattle.pg_run_trace.specs.Races.{is_in, overlap, recorded, share}
use Rattle.pg_run_trace.specs.Steps.{access_by, access_in, access_of, happening_in, range_of}
use Rattle.pg_law_effects.specs.Views.{is_thread}
use Rattle.pg_slice_rules.specs.Freeable.{bounds_of}
use Rattle.pg_slice_rules.specs.Known.{Seen, Taken}
use Rattle.pg_slice_rules.specs.Moments.{thread_in}
use Rattle.pg_slice_rules.specs.Rules.{Footprint, access_footprint, any_conflict, footprints_conflict, bounds_meet, has_region}
use Rattle.pg_slice_rules.specs.Rules.{is_disturbed, is_plain, is_shared, kind_in, footprint_of, footprints_in, region_footprints}
use Rattle.pg_law_plan.specs.Units.{access_touch, instance_touch, is_event_at, is_instance, is_read_in, is_written_in, range_touched, reads_byte, reads_cell, touch_of, word_read, word_written}
use Rattle.pg_law_plan.specs.Units.{writes_byte, writes_cell}
use Rattle.pg_law_plan.specs.Lists.{Has}
use Rattle.pg_law_plan.proofs.ListMembers.{any_found, has_any, has_cases, has_left, has_right}
use Rattle.pg_law_plan.proofs.AccessesInBounds.{IsPlaced, in_bounds}
use Rattle.pg_law_runs.proofs.SharedBytes.{holds_share}

-- ---- ranges that share a byte

-- two footprints that hold one byte, one of which writes
pub record Meeting (xs ys : List Footprint) (b : ℕ) : Type 0 where
  pub first : Footprint
  pub second : Footprint
  pub has_first : Has xs first
  pub has_second : Has ys second
  pub in_first : is_in first.bytes b ≡ true
  pub in_second : is_in second.bytes b ≡ true
  pub writes : (first.writes || second.writes) ≡ true

conflict_of : (f h : Footprint) (b : ℕ) → is_in f.bytes b ≡ true → is_in h.bytes b ≡ true → (f.writes || h.writes) ≡ true → footprints_conflict f h ≡ true
conflict_of f h b i j w = and_from (f.writes || h.writes) (share f.bytes h.bytes) w (holds_share f.bytes h.bytes b i j)

pub meeting_conflict : (xs ys : List Footprint) (b : ℕ) → Meeting xs ys b → any_conflict xs ys ≡ true
meeting_conflict xs ys b m = has_any (λ a. list_any (footprints_conflict a) ys) xs m.first m.has_first
    (has_any (footprints_conflict m.first) ys m.second m.has_second (conflict_of m.first m.second b m.in_first m.in_second m.writes))

or_turn : (a b : Bool) → (a || b) ≡ true → (b || a) ≡ true
or_turn true true h = refl
or_turn true false h = refl
or_turn false true h = refl
or_turn false false h = h

pub turned : (xs ys : List Footprint) (b : ℕ) → Meeting xs ys b → Meeting ys xs b
turned xs ys b m = record {
  first = m.second;
  second = m.first;
  has_first = m.has_second;
  has_second = m.has_first;
  in_first = m.in_second;
  in_second = m.in_first;
  writes = or_turn m.first.writes m.second.writes m.writes;
}

-- ---- what is read or written is touched

record Touch (xs : List Footprint) (b : ℕ) : Type 0 where
  footprint : Footprint
  has : Has xs footprint
  holds : is_in footprint.bytes b ≡ true

read_touch : (xs : List Footprint) (b : ℕ) → list_any (λ f. is_read_in f b) xs ≡ true → Touch xs b
read_touch xs b h = let k = any_found (λ f. is_read_in f b) xs h in record { footprint = k.0; has = k.1; holds = (and_parts (not k.0.writes) (is_in k.0.bytes b) k.2).1 }

record Write' (xs : List Footprint) (b : ℕ) : Type 0 where
  touch : Touch xs b
  writes : touch.footprint.writes ≡ true

write_touch : (xs : List Footprint) (b : ℕ) → list_any (λ f. is_written_in f b) xs ≡ true → Write' xs b
write_touch xs b h = let k = any_found (λ f. is_written_in f b) xs h in let j =
    and_parts k.0.writes (is_in k.0.bytes b) k.2 in record { touch = record { footprint = k.0; has = k.1; holds = j.1 }; writes = j.0 }

touched : (xs : List Footprint) (b : ℕ) → (list_any (λ f. is_read_in f b) xs || list_any (λ f. is_written_in f b) xs) ≡ true → Touch xs b
touched xs b h = go (or_cases (list_any (λ f. is_read_in f b) xs) (list_any (λ f. is_written_in f b) xs) h)
  where
    go : (list_any (λ f. is_read_in f b) xs ≡ true) ⊎ (list_any (λ f. is_written_in f b) xs ≡ true) → Touch xs b
    go (inl k) = read_touch xs b k
    go (inr k) = (write_touch xs b k).touch

or_first : (a b : Bool) → a ≡ true → (a || b) ≡ true
or_first true b h = refl
or_first false b h = absurd (true≢false (sym h))

or_second : (a b : Bool) → b ≡ true → (a || b) ≡ true
or_second true b h = refl
or_second false b h = h

meeting_of : (xs ys : List Footprint) (b : ℕ) → Write' xs b → Touch ys b → Meeting xs ys b
meeting_of xs ys b w t = record {
  first = w.touch.footprint;
  second = t.footprint;
  has_first = w.touch.has;
  has_second = t.has;
  in_first = w.touch.holds;
  in_second = t.holds;
  writes = or_first w.touch.footprint.writes t.footprint.writes w.writes;
}

meet_cases : (r w r' w' : Bool) (P : Type 0) → (w ≡ true → (r' || w') ≡ true → P) → ((r || w) ≡ true → w' ≡ true → P) → ((w && (r' || w')) || ((r || w) && w')) ≡ true → P
meet_cases r w r' w' P f g h = go (or_cases (w && (r' || w')) ((r || w) && w') h)
  where
    go : ((w && (r' || w')) ≡ true) ⊎ (((r || w) && w') ≡ true) → P
    go (inl k) = let j = and_parts w (r' || w') k in f j.0 j.1
    go (inr k) = let j = and_parts (r || w) w' k in g j.0 j.1

pub bytes_meet : (xs ys : List Footprint) (b : ℕ) → ((list_any (λ f. is_written_in f b) xs && (list_any (λ f. is_read_in f b) ys || list_any (λ f. is_written_in f b) ys))
    || ((list_any (λ f. is_read_in f b) xs || list_any (λ f. is_written_in f b) xs) && list_any (λ f. is_written_in f b) ys)) ≡ true → Meeting xs ys b
bytes_meet xs ys b h = meet_cases (list_any (λ f. is_read_in f b) xs) (list_any (λ f. is_written_in f b) xs) (list_any (λ f. is_read_in f b) ys) (list_any (λ f. is_written_in f b) ys)
    (Meeting xs ys b)
    (λ i j. meeting_of xs ys b (write_touch xs b i) (touched ys b j)) (λ i j. turned ys xs b (meeting_of ys xs b (write_touch ys b j) (touched xs b i))) h

-- ---- words are touched by events

read_event : (t i : ℕ) (k : StepKind) → is_thread (word_read t k) i ≡ true → is_some (happening_in k) ≡ true
read_event t i (kinds.Event e) h = refl
read_event t i kinds.Other h = absurd (true≢false (sym h))
read_event t i (kinds.Branch c) h = absurd (true≢false (sym h))
read_event t i (kinds.Allocation a b) h = absurd (true≢false (sym h))
read_event t i (kinds.Access a) h = absurd (true≢false (sym h))

written_event : (t i : ℕ) (k : StepKind) → is_thread (word_written t k) i ≡ true → is_some (happening_in k) ≡ true
written_event t i (kinds.Event e) h = refl
written_event t i kinds.Other h = absurd (true≢false (sym h))
written_event t i (kinds.Branch c) h = absurd (true≢false (sym h))
written_event t i (kinds.Allocation a b) h = absurd (true≢false (sym h))
written_event t i (kinds.Access a) h = absurd (true≢false (sym h))

-- where two meet both are touched
both_touched : (r w r' w' : Bool) (P Q : Type 0) → (r ≡ true → P) → (w ≡ true → P) → (r' ≡ true → Q) → (w' ≡ true → Q) → ((w && (r' || w')) || ((r || w) && w')) ≡ true
    → P × Q
both_touched r true true w' P Q a b c d h = (b refl, c refl)
both_touched r true false true P Q a b c d h = (b refl, d refl)
both_touched true false r' true P Q a b c d h = (a refl, d refl)
both_touched true true false false P Q a b c d h = absurd (true≢false (sym h))
both_touched false true false false P Q a b c d h = absurd (true≢false (sym h))
both_touched true false true false P Q a b c d h = absurd (true≢false (sym h))
both_touched true false false false P Q a b c d h = absurd (true≢false (sym h))
both_touched false false true true P Q a b c d h = absurd (true≢false (sym h))
both_touched false false true false P Q a b c d h = absurd (true≢false (sym h))
both_touched false false false true P Q a b c d h = absurd (true≢false (sym h))
both_touched false false false false P Q a b c d h = absurd (true≢false (sym h))

-- a cell is a byte or a word
byte_or_word : (c : Bool) (r w r' w' v u v' u' : Bool) →
    (((if c then w else u) && ((if c then r' else v') || (if c then w' else u'))) || (((if c then r else v) || (if c then w else u)) && (if c then w' else u'))) ≡ true →
    (((w && (r' || w')) || ((r || w) && w')) ≡ true) ⊎ (((u && (v' || u')) || ((v || u) && u')) ≡ true)
byte_or_word true r w r' w' v u v' u' h = inl h
byte_or_word false r w r' w' v u v' u' h = inr h

-- ---- intervals

pub not_overlapping : (x y : Timed Step) → overlap x y ≡ false → AreOrdered x y
not_overlapping x y h = go (nat_lt x.high y.low) (nat_lt y.high x.low) refl refl h
  where
    go : (b c : Bool) → nat_lt x.high y.low ≡ b → nat_lt y.high x.low ≡ c → (not b && not c) ≡ false → AreOrdered x y
    go true c e f k = inl (ltb-true x.high y.low e)
    go false true e f k = inr (ltb-true y.high x.low f)
    go false false e f k = absurd (true≢false k)

overlap_back : (x y : Timed Step) → overlap x y ≡ true → overlap y x ≡ true
overlap_back x y h = let p = and_parts (not (nat_lt x.high y.low)) (not (nat_lt y.high x.low)) h in and_from (not (nat_lt y.high x.low)) (not (nat_lt x.high y.low)) p.1 p.0

-- ---- one unit

-- what closed decisions say of a live step
pub record IsFine (d : Taken) (all : List Seen) (x : Seen) : Type 0 where
  pub live : x.live ≡ true
  pub has : Has all x
  pub placed : IsPlaced (access_in (kind_in x))
  pub pins : (is_disturbed all x && not (d.pinned x.number)) ≡ false
  pub exact : (is_shared all x && not (d.exact x.number)) ≡ false
  pub event : is_event_at x ≡ true → x.moment.did.low ≡ suc x.moment.did.high

fixed_by : (n : Bool) (m : Bool) → n ≡ true → (n && not m) ≡ false → m ≡ true
fixed_by true true h k = refl
fixed_by true false h k = absurd (true≢false k)
fixed_by false m h k = absurd (true≢false (sym h))

module _ (d : Taken) (all : List Seen) where
  -- its bounds hold what it touches
  enlarged : (x : Seen) → IsFine d all x → (b : ℕ) (f : Footprint) → Has (touch_of d x) f → is_in f.bytes b ≡ true
      → (h : Footprint) × Has (access_footprint x ++ region_footprints x) h × (is_in h.bytes b ≡ true) × (h.writes ≡ f.writes)
  enlarged x fine b f h k = go (has_cases (access_touch d x.number (access_in (kind_in x))) (instance_touch d x) f h)
    where
      from_access : (o : Option Access) → IsPlaced o → Has (access_touch d x.number o) f → (h : Footprint) × Has (footprint_of o) h × (is_in h.bytes b ≡ true) × (h.writes ≡ f.writes)
      from_access None p h = absurd h
      from_access (Some a) p (inl e) = (
        record { bytes = bounds_of a.pointer; writes = a.writes },
        inl refl,
        within (a.event || d.exact x.number) (subst (λ (q : Footprint). is_in q.bytes b ≡ true) (sym e) k),
        ap (λ (q : Footprint). q.writes) e,
      )
        where
          within : (fixed : Bool) → is_in (range_touched fixed a) b ≡ true → is_in (bounds_of a.pointer) b ≡ true
          within true i = in_bounds a b p i
          within false i = i
      from_access (Some a) p (inr e) = absurd e

      from_instance : (i : Bool) → Has (if i then footprints_in x.region else []) f → Has (footprints_in x.region) f
      from_instance true h = h
      from_instance false h = absurd h

      go : Has (access_touch d x.number (access_in (kind_in x))) f ⊎ Has (instance_touch d x) f
          → (h : Footprint) × Has (access_footprint x ++ region_footprints x) h × (is_in h.bytes b ≡ true) × (h.writes ≡ f.writes)
      go (inl h) = let q = from_access (access_in (kind_in x)) fine.placed h in (q.0, has_left (access_footprint x) (region_footprints x) q.0 (rw fine.live q.1), q.2, q.3)
      go (inr h) = (f, has_right (access_footprint x) (region_footprints x) f (rw fine.live (from_instance (is_instance d x) h)), k, refl)

  -- ---- an instance overlaps with nothing that it meets

  not_instance : (x y : Seen) → IsFine d all x → IsFine d all y → thread_in x.moment ≢ thread_in y.moment → overlap x.moment.did y.moment.did ≡ true → (b : ℕ) (f h : Footprint) →
      Has (instance_touch d x) f → Has (touch_of d y) h → is_in f.bytes b ≡ true → is_in h.bytes b ≡ true → (f.writes || h.writes) ≡ true → ⊥
  not_instance x y fx fy ne o b f h hf hh bf bh w = go (is_instance d x) refl hf
    where
      go : (i : Bool) → is_instance d x ≡ i → Has (if i then footprints_in x.region else []) f → ⊥
      go false e k = k
      go true e k =
          let u = enlarged y fy b h hh bh in
          let m : Meeting (region_footprints x) (access_footprint y ++ region_footprints y) b =
          record { first = f; second = u.0; has_first = rw fx.live k; has_second = u.1; in_first = bf; in_second = u.2; writes = rw u.3 w } in
          let meets : bounds_meet x (region_footprints x) y (access_footprint y ++ region_footprints y) ≡ true =
          and_from (not (thread_in x.moment == thread_in y.moment) && overlap x.moment.did y.moment.did) (any_conflict (region_footprints x) (access_footprint y ++ region_footprints y))
          (and_from (not (thread_in x.moment == thread_in y.moment)) (overlap x.moment.did y.moment.did)
          (not_from_false (thread_in x.moment == thread_in y.moment) (ne_eqb (thread_in x.moment) (thread_in y.moment) ne)) o)
          (meeting_conflict (region_footprints x) (access_footprint y ++ region_footprints y) b m) in
          let disturbed : is_disturbed all x ≡ true = has_any (λ z. bounds_meet x (region_footprints x) z (access_footprint z ++ region_footprints z)) all y fy.has meets in
          let pinned = fixed_by (is_disturbed all x) (d.pinned x.number) disturbed fx.pins in
          let free = not-true (d.pinned x.number) (and_parts (has_region x.region) (not (d.pinned x.number)) e).1 in
          true≢false (sym pinned ∙ free)

  -- ---- two accesses in bounds that conflict are exact or events

  event_of_write : (o : Option Write) (a : Access) → access_by o ≡ Some a → a.event ≡ true
  event_of_write None a e = absurd cc
  event_of_write (Some w) a e = let k : Rattle.pg_run_trace.specs.Steps.write_by w ≡ a = cc in ap (λ (q : Access). q.event) (sym k)

  plain_by : (k : StepKind) (a : Access) → access_in k ≡ Some a → a.event ≡ false → is_plain k ≡ true
  plain_by (kinds.Access b) a e v = let q : b ≡ a = cc in ap (λ (z : Access). not z.event) q ∙ ap not v
  plain_by (kinds.Event b) a e v = absurd (true≢false (sym (event_of_write b.write a e) ∙ v))
  plain_by kinds.Other a e v = absurd cc
  plain_by (kinds.Branch c) a e v = absurd cc
  plain_by (kinds.Allocation b c) a e v = absurd cc

  fixed : (x y : Seen) → IsFine d all x → IsFine d all y → thread_in x.moment ≢ thread_in y.moment → overlap x.moment.did y.moment.did ≡ true →
      any_conflict (access_footprint x) (access_footprint y) ≡ true → (a : Access) → access_in (kind_in x) ≡ Some a → (a.event || d.exact x.number) ≡ true
  fixed x y fx fy ne o m a e = go a.event refl
    where
      go : (b : Bool) → a.event ≡ b → (a.event || d.exact x.number) ≡ true
      go true v = rw v refl
      go false v =
          let meets : bounds_meet x (access_footprint x) y (access_footprint y) ≡ true =
          and_from (not (thread_in x.moment == thread_in y.moment) && overlap x.moment.did y.moment.did) (any_conflict (access_footprint x) (access_footprint y))
          (and_from (not (thread_in x.moment == thread_in y.moment)) (overlap x.moment.did y.moment.did)
          (not_from_false (thread_in x.moment == thread_in y.moment) (ne_eqb (thread_in x.moment) (thread_in y.moment) ne)) o) m in
          let shared : is_shared all x ≡ true = and_from (is_plain (kind_in x)) (list_any (λ z. bounds_meet x (access_footprint x) z (access_footprint z)) all) (plain_by (kind_in x) a e v)
          (has_any (λ z. bounds_meet x (access_footprint x) z (access_footprint z)) all y fy.has meets) in
          rw v (fixed_by (is_shared all x) (d.exact x.number) shared fx.exact)

  meet_true : (w i v k : Bool) → i ≡ true → k ≡ true → (w || v) ≡ true → ((w && i) && ((not v && k) || (v && k))) || (((not w && i) || (w && i)) && (v && k)) ≡ true
  meet_true true true true true a b h = refl
  meet_true true true false true a b h = refl
  meet_true false true true true a b h = refl
  meet_true false true false true a b h = absurd (true≢false (sym h))
  meet_true w true v false a b h = absurd (true≢false (sym b))
  meet_true w false v k a b h = absurd (true≢false (sym a))

  steps_conflict : (x y : Step) (a c : Access) (b : ℕ) → x.thread.0 ≢ y.thread.0 → access_of x ≡ Some a → access_of y ≡ Some c → is_in (range_of a) b ≡ true
      → is_in (range_of c) b ≡ true → (a.writes || c.writes) ≡ true → Conflict recorded x y
  steps_conflict x y a c b ne e f i j w = record { threads = ne; cell = b; meet = rw (e, f) (meet_true a.writes (is_in (range_of a) b) c.writes (is_in (range_of c) b) i j w) }

  -- ---- two units

  module _ (x y : Seen) (fx : IsFine d all x) (fy : IsFine d all y) (in_order : x.moment.did.low ≤ y.moment.did.high)
      (ordered : Conflict recorded x.moment.did.did y.moment.did.did → AreOrdered x.moment.did y.moment.did) where
    -- two events are in order
    both_events : is_event_at x ≡ true → is_event_at y ≡ true → AreOrdered x.moment.did y.moment.did
    both_events a b = let e = fx.event a in let f = fy.event b in inl (omega (arith, e, f, in_order))

    record Access' (s : Seen) (b : ℕ) (f : Footprint) : Type 0 where
      access : Access
      is : access_in (kind_in s) ≡ Some access
      footprint : f ≡ record { bytes = range_touched (access.event || d.exact s.number) access; writes = access.writes }

    access_of_touch : (s : Seen) (b : ℕ) (f : Footprint) (o : Option Access) → access_in (kind_in s) ≡ o → Has (access_touch d s.number o) f → Access' s b f
    access_of_touch s b f None e h = absurd h
    access_of_touch s b f (Some a) e (inl h) = record { access = a; is = e; footprint = sym h }
    access_of_touch s b f (Some a) e (inr h) = absurd h

    footprint_has : (s : Seen) (b : ℕ) (f : Footprint) → IsFine d all s → (a : Access' s b f) → is_in f.bytes b ≡ true
        → (h : Footprint) × Has (access_footprint s) h × (is_in h.bytes b ≡ true) × (h.writes ≡ f.writes)
    footprint_has s b f fine a i = (
      record { bytes = bounds_of a.access.pointer; writes = a.access.writes },
      rw fine.live (rw a.is (inl refl)),
      within (a.access.event || d.exact s.number) (subst (λ (q : Footprint). is_in q.bytes b ≡ true) a.footprint i),
      sym (ap (λ (q : Footprint). q.writes) a.footprint),
    )
      where
        placed : Rattle.pg_num.specs.Pointers.is_in_range a.access.pointer a.access.bytes ≡ true
        placed = subst IsPlaced a.is fine.placed

        within : (fixed : Bool) → is_in (range_touched fixed a.access) b ≡ true → is_in (bounds_of a.access.pointer) b ≡ true
        within true k = in_bounds a.access b placed k
        within false k = k

    range_in : (s : Seen) (b : ℕ) (f : Footprint) (a : Access' s b f) → (a.access.event || d.exact s.number) ≡ true → is_in f.bytes b ≡ true → is_in (range_of a.access) b ≡ true
    range_in s b f a e i = subst (λ (q : Bool). is_in (range_touched q a.access) b ≡ true) e (subst (λ (q : Footprint). is_in q.bytes b ≡ true) a.footprint i)

    accesses_ordered : thread_in x.moment ≢ thread_in y.moment → overlap x.moment.did y.moment.did ≡ true → (b : ℕ) (f h : Footprint) → Access' x b f → Access' y b h
        → is_in f.bytes b ≡ true → is_in h.bytes b ≡ true → (f.writes || h.writes) ≡ true → AreOrdered x.moment.did y.moment.did
    accesses_ordered ne o b f h a c i j w =
        let u = footprint_has x b f fx a i in
        let v = footprint_has y b h fy c j in
        let m : Meeting (access_footprint x) (access_footprint y) b = record {
          first = u.0;
          second = v.0;
          has_first = u.1;
          has_second = v.1;
          in_first = u.2;
          in_second = v.2;
          writes = rw (u.3, v.3) w;
        } in
        let p = fixed x y fx fy ne o (meeting_conflict (access_footprint x) (access_footprint y) b m) a.access a.is in
        let q = fixed y x fy fx (λ e. ne (sym e)) (overlap_back x.moment.did y.moment.did o)
        (meeting_conflict (access_footprint y) (access_footprint x) b (turned (access_footprint x) (access_footprint y) b m)) c.access c.is in
        ordered (steps_conflict x.moment.did.did y.moment.did.did a.access c.access b ne a.is c.is (range_in x b f a p i) (range_in y b h c q j)
        (subst (λ (k : Bool). (k || c.access.writes) ≡ true) (ap (λ (k : Footprint). k.writes) a.footprint)
        (subst (λ (k : Bool). (f.writes || k) ≡ true) (ap (λ (k : Footprint). k.writes) c.footprint) w)))

    meeting_ordered : thread_in x.moment ≢ thread_in y.moment → (b : ℕ) → Meeting (touch_of d x) (touch_of d y) b → AreOrdered x.moment.did y.moment.did
    meeting_ordered ne b m = go (cases_Bool (overlap x.moment.did y.moment.did)) (parts x m.first m.has_first) (parts y m.second m.has_second)
      where
        parts : (s : Seen) (f : Footprint) → Has (touch_of d s) f → Has (access_touch d s.number (access_in (kind_in s))) f ⊎ Has (instance_touch d s) f
        parts s f h = has_cases (access_touch d s.number (access_in (kind_in s))) (instance_touch d s) f h

        go : (overlap x.moment.did y.moment.did ≡ true) ⊎ (overlap x.moment.did y.moment.did ≡ false) →
            Has (access_touch d x.number (access_in (kind_in x))) m.first ⊎ Has (instance_touch d x) m.first
            → Has (access_touch d y.number (access_in (kind_in y))) m.second ⊎ Has (instance_touch d y) m.second → AreOrdered x.moment.did y.moment.did
        go (inr o) p q = not_overlapping x.moment.did y.moment.did o
        go (inl o) (inr p) q = absurd (not_instance x y fx fy ne o b m.first m.second p m.has_second m.in_first m.in_second m.writes)
        go (inl o) (inl p) (inr q) = absurd (not_instance y x fy fx (λ e. ne (sym e)) (overlap_back x.moment.did y.moment.did o) b m.second m.first q m.has_first m.in_second m.in_first
            (or_turn m.first.writes m.second.writes m.writes))
        go (inl o) (inl p) (inl q) = accesses_ordered ne o b m.first m.second (access_of_touch x b m.first (access_in (kind_in x)) refl p)
            (access_of_touch y b m.second (access_in (kind_in y)) refl q) m.in_first m.in_second m.writes

    abbrev word_r : Seen → ℕ → Bool
    word_r s c = is_thread (word_read (thread_in s.moment) (kind_in s)) (c - MEMORY_BYTES)

    abbrev word_w : Seen → ℕ → Bool
    word_w s c = is_thread (word_written (thread_in s.moment) (kind_in s)) (c - MEMORY_BYTES)

    pub cells_ordered : thread_in x.moment ≢ thread_in y.moment → (c : ℕ) →
        ((writes_cell d x c && (reads_cell d y c || writes_cell d y c)) || ((reads_cell d x c || writes_cell d x c) && writes_cell d y c)) ≡ true → AreOrdered x.moment.did y.moment.did
    cells_ordered ne c h = go (byte_or_word (nat_lt c MEMORY_BYTES) (reads_byte d x c) (writes_byte d x c) (reads_byte d y c) (writes_byte d y c) (word_r x c) (word_w x c) (word_r y c) (word_w y c) h)
      where
        go : (((writes_byte d x c && (reads_byte d y c || writes_byte d y c)) || ((reads_byte d x c || writes_byte d x c) && writes_byte d y c)) ≡ true)
            ⊎ (((word_w x c && (word_r y c || word_w y c)) || ((word_r x c || word_w x c) && word_w y c)) ≡ true) → AreOrdered x.moment.did y.moment.did
        go (inl k) = meeting_ordered ne c (bytes_meet (touch_of d x) (touch_of d y) c k)
        go (inr k) =
            let e = both_touched (word_r x c) (word_w x c) (word_r y c) (word_w y c) (is_event_at x ≡ true) (is_event_at y ≡ true)
            (read_event (thread_in x.moment) (c - MEMORY_BYTES) (kind_in x)) (written_event (thread_in x.moment) (c - MEMORY_BYTES) (kind_in x))
            (read_event (thread_in y.moment) (c - MEMORY_BYTES) (kind_in y)) (written_event (thread_in y.moment) (c - MEMORY_BYTES) (kind_in y)) k in
            both_events e.0 e.1
