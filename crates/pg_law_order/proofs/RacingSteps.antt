-- Two steps that conflict are ordered by what threads ask for, or both are events of the schedule of their trace.
use Rattle.std.proofs.Common.{◌≡◌, ℕ, ◌+◌, ◌<◌, ◌⊎◌, Bool, true, false, List, [], ◌∷◌, ◌++◌, map, Option, Some, None, refl, sym, ap, ◌∙◌, subst, arith}
use Rattle.std.proofs.Common.{zero, suc, inl, inr}
use Rattle.std.specs.Prelude.{◌==◌, ◌&&◌, ◌||◌, not, nat_lt, is_some, slice_get}
use Rattle.std.specs.List.{AllByRecursion as AllOf, list_any, position_from}
use Rattle.std.specs.Option.{option_to_list}
use Rattle.std.proofs.lemmas.Bool.{true≢false, and_parts, and_from, or_left, or_right, cases_eq}
use Rattle.pg_ir.specs.declared.ids.InstrId.{InstrId}
use Rattle.pg_law_threads.specs.Steps.{Conflict, EachPair}
use Rattle.pg_law_threads.specs.Chains.{IsFiner}
use Rattle.pg_law_threads.specs.Intervals.{AreOrdered, IsOrdered, Timed, did_of, owners}
use Rattle.pg_law_threads.proofs.EventChains.{ordered_finer}
use Rattle.pg_law_threads.proofs.OwnTurns.{own_turns}
use Rattle.pg_law_threads.proofs.TimedSteps.{did_times}
use Rattle.pg_run_trace.specs.declared.step.Access.{Access}
use Rattle.pg_run_trace.specs.declared.step.Step.{Step}
use Rattle.pg_run_trace.specs.declared.step.StepKind.{StepKind}
use Rattle.pg_run_trace.specs.declared.step.StepKind.TheVariants as kinds
use Rattle.pg_run_trace.specs.declared.turn.Race.{Race}
use Rattle.pg_run_trace.specs.Races.{accesses_conflict, asked, conflict, instrs_in, is_access, is_asked, is_one_of, is_racing, is_unordered, kind_gated, overlap, race_at, race_in, race_of}
use Rattle.pg_run_trace.specs.Races.{race_with, races_below, races_of, timed_by}
use Rattle.pg_run_trace.specs.Steps.{access_in, access_of, happening_in}
use Rattle.pg_law_order.proofs.Conflicts.{at_a_byte, in_conflict}
use Rattle.pg_law_order.proofs.GatedSteps.{as_gated, gated_event}
use Rattle.pg_law_order.proofs.UnorderedPairs.{settled_of}
use Rattle.pg_run.proofs.GuidedRuns.{same_as_itself}

-- ---- lists

-- x is one of the list
abbrev IsIn : {A : Type 0} → A → List A → Type 0
IsIn x [] = ⊥
IsIn x (y ∷ ys) = (x ≡ y) ⊎ IsIn x ys

found : {A : Type 0} (test : A → Bool) (x : A) (xs : List A) → IsIn x xs → test x ≡ true → list_any test xs ≡ true
found test x [] h t = absurd h
found test x (y ∷ ys) (inl e) t = or_left (test y) (list_any test ys) (ap test (sym e) ∙ t)
found test x (y ∷ ys) (inr h) t = or_right (test y) (list_any test ys) (found test x ys h t)

-- the first place at which a test holds
record Found {A : Type 0} (test : A → Bool) (k : ℕ) (xs : List A) : Type 0 where
  place : ℕ
  is_first : position_from test k xs ≡ Some (k + place)
  item : A
  there : slice_get xs place ≡ Some item
  holds : test item ≡ true

found_at : {A : Type 0} (test : A → Bool) (k : ℕ) (xs : List A) → list_any test xs ≡ true → Found test k xs
found_at test k [] h = absurd (true≢false (sym h))
found_at {A} test k (x ∷ xs) h = go (test x) refl (found_at test (k + 1) xs)
  where
    go : (b : Bool) → test x ≡ b → (list_any test xs ≡ true → Found test (k + 1) xs) → Found test k (x ∷ xs)
    go true t more = let e : k + 0 ≡ k = omega arith in record { place = 0; is_first = rw t (ap Some (sym e)); item = x; there = refl; holds = t }
    go false t more =
        let r = more (rw t at h) in
        let e : k + 1 + r.place ≡ k + suc r.place = omega arith in
        record { place = suc r.place; is_first = rw t (r.is_first ∙ ap Some e); item = r.item; there = r.there; holds = r.holds }

-- ---- a racing access is gated

module _ (xs : List (Timed Step)) where
  race_there : (id : ℕ) → list_any (is_racing xs id) xs ≡ true → (r : Race) × (race_in xs id ≡ Some r) × (r.instr.0 ≡ id)
  race_there id h =
      let f = found_at (is_racing xs id) 0 xs h in
      let p = and_parts (is_access f.item.did.kind && (f.item.did.instr.0 == id)) (list_any (is_unordered f.item) xs) f.holds in
      let g = found_at (is_unordered f.item) 0 xs p.1 in (
        record { instr = record { 0 = id }; step = 0 + f.place; with = 0 + g.place },
        ap (race_at xs id) f.is_first
            ∙ ap (λ (i : ℕ). race_of xs id (0 + f.place) (slice_get xs i)) (plus_none f.place) ∙ ap (race_of xs id (0 + f.place)) f.there ∙ ap (race_with id (0 + f.place)) g.is_first,
        refl,
      )
    where
      plus_none : (n : ℕ) → 0 + n ≡ n
      plus_none n = omega arith

  one_of_append : (rs ss : List Race) (id : ℕ) → is_one_of (map (λ (r : Race). r.instr) rs) id ≡ true ⊎ is_one_of (map (λ (r : Race). r.instr) ss) id ≡ true
      → is_one_of (map (λ (r : Race). r.instr) (rs ++ ss)) id ≡ true
  one_of_append [] ss id (inl h) = absurd (true≢false (sym h))
  one_of_append [] ss id (inr h) = h
  one_of_append (r ∷ rs) ss id h = go (r.instr.0 == id) refl (one_of_append rs ss id) h
    where
      go : (b : Bool) → (r.instr.0 == id) ≡ b → (is_one_of (map (λ (r : Race). r.instr) rs) id ≡ true ⊎ is_one_of (map (λ (r : Race). r.instr) ss) id ≡ true
          → is_one_of (map (λ (r : Race). r.instr) (rs ++ ss)) id ≡ true)
          → is_one_of (map (λ (r : Race). r.instr) (r ∷ rs)) id ≡ true ⊎ is_one_of (map (λ (r : Race). r.instr) ss) id ≡ true
          → ((r.instr.0 == id) || is_one_of (map (λ (r : Race). r.instr) (rs ++ ss)) id) ≡ true
      go true e more k = rw e refl
      go false e more (inl k) = rw e (more (inl (rw e at k)))
      go false e more (inr k) = rw e (more (inr k))

  gated_below : (n id : ℕ) → id < n → list_any (is_racing xs id) xs ≡ true → is_one_of (map (λ (r : Race). r.instr) (races_below xs n)) id ≡ true
  unfolding races_below
  gated_below zero id lt h = absurd (omega (arith, lt))
  gated_below (suc n) id lt h = one_of_append (races_below xs n) (option_to_list (race_in xs n)) id (go (gated_below n id) (cases_eq id n))
    where
      go : (id < n → list_any (is_racing xs id) xs ≡ true → is_one_of (map (λ (r : Race). r.instr) (races_below xs n)) id ≡ true) → (id ≡ n) ⊎ (id ≡ n → ⊥)
          → (is_one_of (map (λ (r : Race). r.instr) (races_below xs n)) id ≡ true) ⊎ (is_one_of (map (λ (r : Race). r.instr) (option_to_list (race_in xs n))) id ≡ true)
      go more (inr ne) = inl (more (omega (arith, lt, ne)) h)
      go more (inl e) =
          let k = race_there id h in
          inr (subst (λ (o : Option Race). is_one_of (map (λ (r : Race). r.instr) (option_to_list o)) id ≡ true) (sym k.1 ∙ ap (race_in xs) e)
          (or_left (k.0.instr.0 == id) false (ap (λ (i : ℕ). i == id) k.2 ∙ same_as_itself id)))

-- ---- two steps that conflict

-- steps of instructions that have numbers below the bound
instr_below : (x : Step) (xs : List Step) → IsIn x xs → x.instr.0 < instrs_in xs
instr_below x [] h = absurd h
instr_below x (y ∷ xs) (inl e) = let q = ap (λ (z : Step). z.instr.0) e in omega (arith, q)
instr_below x (y ∷ xs) (inr h) = let q = instr_below x xs h in omega (arith, q)

is_in_did : (x : Timed Step) (xs : List (Timed Step)) → IsIn x xs → IsIn x.did (did_of xs)
is_in_did x [] h = absurd h
is_in_did x (y ∷ xs) (inl e) = inl (ap (λ (z : Timed Step). z.did) e)
is_in_did x (y ∷ xs) (inr h) = inr (is_in_did x xs h)

asked_gated : (b : Bool) (k : StepKind) → is_asked k ≡ true → is_some (happening_in (kind_gated b k)) ≡ true
asked_gated b (kinds.Event e) h = refl
asked_gated b (kinds.Access a) h = absurd (true≢false (sym h))
asked_gated b (kinds.Branch c) h = absurd (true≢false (sym h))
asked_gated b (kinds.Allocation m n) h = absurd (true≢false (sym h))
asked_gated b kinds.Other h = absurd (true≢false (sym h))

access_gated : (k : StepKind) → is_access k ≡ true → is_some (happening_in (kind_gated true k)) ≡ true
access_gated (kinds.Access a) h = refl
access_gated (kinds.Event e) h = refl
access_gated (kinds.Branch c) h = absurd (true≢false (sym h))
access_gated (kinds.Allocation m n) h = absurd (true≢false (sym h))
access_gated kinds.Other h = absurd (true≢false (sym h))

-- what accesses memory is a load, a store, or what a thread asks for
accesses : (k : StepKind) → is_some (access_in k) ≡ true → (is_access k ≡ true) ⊎ (is_asked k ≡ true)
accesses (kinds.Access a) h = inl refl
accesses (kinds.Event e) h = inr refl
accesses (kinds.Branch c) h = absurd (true≢false (sym h))
accesses (kinds.Allocation m n) h = absurd (true≢false (sym h))
accesses kinds.Other h = absurd (true≢false (sym h))

conflict_access : (a b : Option Access) → accesses_conflict a b ≡ true → (is_some a ≡ true) × (is_some b ≡ true)
conflict_access (Some a) (Some b) h = (refl, refl)
conflict_access (Some a) None h = absurd (true≢false (sym h))
conflict_access None (Some b) h = absurd (true≢false (sym h))
conflict_access None None h = absurd (true≢false (sym h))

conflict_turned : (x y : Step) → Conflict asked x y → Conflict asked y x
conflict_turned x y c = Rattle.pg_law_threads.proofs.PlanLaw.conflict_back asked x y c

overlap_turned : (x y : Timed Step) → overlap x y ≡ true → overlap y x ≡ true
overlap_turned x y h = let p = and_parts (not (nat_lt x.high y.low)) (not (nat_lt y.high x.low)) h in and_from (not (nat_lt y.high x.low)) (not (nat_lt x.high y.low)) p.1 p.0

unordered_turned : (x y : Timed Step) → is_unordered x y ≡ true → is_unordered y x ≡ true
unordered_turned x y h =
    let p = and_parts (conflict x.did y.did) (overlap x y) h in
    and_from (conflict y.did x.did) (overlap y x) (in_conflict (λ z. is_asked z.kind) y.did x.did (conflict_turned x.did y.did (at_a_byte (λ z. is_asked z.kind) x.did y.did p.0)))
    (overlap_turned x y p.1)

module _ (xs : List Step) where
  abbrev pub gates : List InstrId
  gates = map (λ (r : Race). r.instr) (races_of xs)

  abbrev listed : List (Timed Step)
  listed = timed_by asked xs

  -- a step that races is an event of the schedule
  racing_event : (x y : Timed Step) → IsIn x (timed_by asked xs) → IsIn y (timed_by asked xs) → is_unordered x y ≡ true
      → gated_event (map (λ (r : Race). r.instr) (races_of xs)) x.did ≡ true
  racing_event x y i j u = go (accesses x.did.kind
      (conflict_access (access_of x.did) (access_of y.did) (and_parts (not (x.did.thread.0 == y.did.thread.0)) (accesses_conflict (access_of x.did) (access_of y.did))
      (and_parts (conflict x.did y.did) (overlap x y) u).0).1).0)
    where
      bound : x.did.instr.0 < instrs_in xs
      bound = instr_below x.did xs (subst (IsIn x.did) (did_times asked (owners asked xs) 0 xs) (is_in_did x (timed_by asked xs) i))

      racing : is_access x.did.kind ≡ true → is_racing (timed_by asked xs) x.did.instr.0 x ≡ true
      racing a = and_from (is_access x.did.kind && (x.did.instr.0 == x.did.instr.0)) (list_any (is_unordered x) (timed_by asked xs))
          (and_from (is_access x.did.kind) (x.did.instr.0 == x.did.instr.0) a (same_as_itself x.did.instr.0)) (found (is_unordered x) y (timed_by asked xs) j u)

      go : (is_access x.did.kind ≡ true) ⊎ (is_asked x.did.kind ≡ true) → gated_event (map (λ (r : Race). r.instr) (races_of xs)) x.did ≡ true
      go (inr a) = asked_gated (is_one_of (map (λ (r : Race). r.instr) (races_of xs)) x.did.instr.0) x.did.kind a
      go (inl a) =
          let g : is_one_of (map (λ (r : Race). r.instr) (races_of xs)) x.did.instr.0 ≡ true =
          gated_below (timed_by asked xs) (instrs_in xs) x.did.instr.0 bound (found (is_racing (timed_by asked xs) x.did.instr.0) x (timed_by asked xs) i (racing a)) in
          ap (λ (b : Bool). is_some (happening_in (kind_gated b x.did.kind))) g ∙ access_gated x.did.kind a

  Settles : Timed Step → Timed Step → Type 0
  Settles x y = Conflict asked x.did y.did
      → AreOrdered x y ⊎ ((gated_event (map (λ (r : Race). r.instr) (races_of xs)) x.did ≡ true) × (gated_event (map (λ (r : Race). r.instr) (races_of xs)) y.did ≡ true))

  settles : (x y : Timed Step) → IsIn x (timed_by asked xs) → IsIn y (timed_by asked xs) → Settles x y
  unfolding Settles
  settles x y i j c = go (is_unordered x y) refl
    where
      go : (b : Bool) → is_unordered x y ≡ b → AreOrdered x y ⊎
          ((gated_event (map (λ (r : Race). r.instr) (races_of xs)) x.did ≡ true) × (gated_event (map (λ (r : Race). r.instr) (races_of xs)) y.did ≡ true))
      go false u = inl (settled_of (λ z. is_asked z.kind) x y u c)
      go true u = inr (racing_event x y i j u, racing_event y x j i (unordered_turned x y u))

  each : (ys : List (Timed Step)) → ((x : Timed Step) → IsIn x ys → IsIn x (timed_by asked xs)) → EachPair Settles ys
  each [] h = tt
  each (y ∷ ys) h = (one ys (λ z k. h z (inr k)), each ys (λ z k. h z (inr k)))
    where
      one : (zs : List (Timed Step)) → ((x : Timed Step) → IsIn x zs → IsIn x (timed_by asked xs)) → AllOf (Settles y) zs
      one [] k = tt
      one (z ∷ zs) k = (settles y z (h y (inl refl)) (k z (inl refl)), one zs (λ w l. k w (inr l)))

  finer : IsFiner asked (as_gated (map (λ (r : Race). r.instr) (races_of xs)))
  finer = record {
    threads = λ x. refl;
    reads = λ x b. refl;
    writes = λ x b. refl;
    events = λ x h. asked_gated (is_one_of (map (λ (r : Race). r.instr) (races_of xs)) x.instr.0) x.kind h;
  }

  -- with the gates of its races a trace is ordered
  pub races_order : IsOrdered (as_gated (map (λ (r : Race). r.instr) (races_of xs))) (owners (as_gated (map (λ (r : Race). r.instr) (races_of xs))) xs) xs
  unfolding Settles
  races_order = ordered_finer asked (as_gated (map (λ (r : Race). r.instr) (races_of xs))) finer (owners asked xs) (owners (as_gated (map (λ (r : Race). r.instr) (races_of xs))) xs) xs
      (own_turns asked xs) (own_turns (as_gated (map (λ (r : Race). r.instr) (races_of xs))) xs) (each (timed_by asked xs) (λ x k. k))
