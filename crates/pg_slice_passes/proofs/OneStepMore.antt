-- One step more of a pass.
use Rattle.std.proofs.Common.{◌≡◌, ℕ, zero, suc, ◌+◌, ◌<◌, ◌≤◌, ℤ, Bool, true, false, List, [], ◌∷◌, ◌++◌, length, map, take, Option, Some, None}
use Rattle.std.proofs.Common.{option_map, slice_get, refl, sym, ap, ◌∙◌, subst, arith, append_assoc}
use Rattle.std.specs.Prelude.{◌&&◌, if◌then◌else◌, slice_index_or}
use Rattle.std.specs.List.{list_all}
use Rattle.pg_ir.specs.declared.ids.InstrId.{InstrId}
use Rattle.pg_ir.specs.declared.instr.Instr.{Instr}
use Rattle.pg_ir.specs.Program.{NumberedProgram}
use Rattle.pg_slice_conflicts.specs.declared.footprint.Footprint.{Footprint}
use Rattle.pg_law_demands.specs.pg_law_least.Footprints.{access_footprints, of_step, footprints_of, region_footprints}
use Rattle.pg_schedule.specs.declared.interval.Interval.{Interval}
use Rattle.pg_schedule.specs.declared.interval.Turns.TheVariants.{Recorded}
use Rattle.pg_schedule.specs.Intervals.{interval_of, intervals_of}
use Rattle.pg_schedule.proofs.StepPositions.{timed_get, timed_length}
use Rattle.pg_run.specs.State.{State, initial}
use Rattle.pg_run.specs.MachineStep.{step}
use Rattle.pg_run_memory.specs.Memory.{byte_at}
use Rattle.pg_slice_checks.specs.Asks.{AreNamed, all_hold, all_met}
use Rattle.pg_precondition.specs.Nodes.{NodeList}
use Rattle.pg_precondition.specs.Values.{holds, is_met, numbers_of}
use Rattle.pg_precondition.specs.declared.check.Check.{Check}
use Rattle.pg_law_threads.specs.Steps.{View}
use Rattle.pg_law_threads.specs.Intervals.{Timed, done_after, owners, timed, times}
use Rattle.pg_law_threads.proofs.LastAndNextTurn.{last_up, next_from_end}
use Rattle.pg_run_trace.specs.declared.step.Step.{Step}
use Rattle.pg_run_trace.specs.Races.{recorded, timed_by}
use Rattle.pg_run_trace.specs.Steps.{access_in}
use Rattle.pg_slice_rules.specs.declared.decision.Decision.{Decision}
use Rattle.pg_slice_rules.specs.Closed.{conditions_at}
use Rattle.pg_slice_rules.specs.Known.{Reference, SymbolicState, Seen, Taken, after_step, start_of}
use Rattle.pg_slice_rules.specs.Moments.{Moment, calls_of, instr_in, moments_from, moments_of, state_after, thread_in}
use Rattle.pg_slice_rules.specs.Rules as rules
use Rattle.pg_slice_rules.specs.Rules.{Condition, all_of}
use Rattle.pg_slice_replay.specs.declared.run.ReferenceRun.{ReferenceRun}
use Rattle.pg_slice_replay.specs.Landmarks.{landmark_of}
use Rattle.pg_slice_checks.specs.pg_slice_memory.Changes as bytes
use Rattle.pg_slice_checks.proofs.of_pg_slice_memory.ByteNodes.{names_more, symbolics_kept}
use Rattle.pg_slice_registers.proofs.KeptValues.{registers_kept, symbolic_nodes_kept}
use Rattle.pg_slice_registers.proofs.ThreadsMade.{threads_kept, threads_stay}
use Rattle.pg_slice_values.specs.SymbolicNodes.{Grew}
use Rattle.pg_slice_values.proofs.GrowingNodes.{grew_length, number_kept}
use Rattle.pg_slice_passes.specs.declared.pass.Gathered.{Gathered}
use Rattle.pg_slice_passes.specs.declared.footprints.Owner.{Owner}
use Rattle.pg_slice_passes.specs.declared.state.SymbolicRun.{SymbolicRun}
use Rattle.pg_law_demands.specs.Along.{known_at, known_from}
use Rattle.pg_slice_passes.specs.Along.{asked_before, conditions_before, first_steps, own_asks, step_from}
use Rattle.pg_slice_passes.specs.Given.{HasLandmarks}
use Rattle.pg_slice_passes.specs.Passes.{HasPassed, IsAt, IsTimed}
use Rattle.pg_slice_passes.specs.Footprints.{owner, owners_at, owners_of}
use Rattle.pg_slice_passes.specs.Rows.{all_footprints, all_owners}
use Rattle.pg_slice_passes.specs.State.{AreKept, Knows, extents_of}
use Rattle.pg_slice_passes.proofs.RunSteps.{known_more, steps_more}

-- ---- while nodes are added

pub knows_kept : (p : NumberedProgram) (old new : NodeList) (pinned : ℕ → Bool) (s : SymbolicRun) (k : SymbolicState) → Grew old new → AreKept (length old) s → Knows p old pinned s k
    → Knows p new pinned s k
knows_kept p old new pinned s k g a h = record {
  threads = h.threads ∙ sym (threads_kept old new s.threads.items (extents_of k) g a.threads);
  as_many = h.as_many;
  bytes = λ b. h.bytes b ∙ ap (λ f. f b) (sym (symbolics_kept p old new s.memory g a.bytes));
  words = h.words ∙ sym (registers_kept old new s.words.items g a.words);
  extents = h.extents;
}

pub are_kept : (old new : NodeList) (s : SymbolicRun) → Grew old new → AreKept (length old) s → AreKept (length new) s
are_kept old new s g a = record {
  threads = threads_stay old new s.threads.items g a.threads;
  bytes = names_more (length old) (length new) s.memory (grew_length old new g) a.bytes;
  words = symbolic_nodes_kept old new s.words.items g a.words;
}

pub holds_kept : (old new : NodeList) (checks : List Check) (input : List ℤ) → Grew old new → AreNamed (length old) checks → all_hold new checks input ≡ all_hold old checks input
holds_kept old new [] input g a = refl
holds_kept old new (c ∷ cs) input g a =
    ap (λ (b : Bool). b && all_hold new cs input) (ap (λ (o : Option ℕ). is_met c.test o) (number_kept old new c.node input g a.0))
    ∙ ap (λ (b : Bool). holds (numbers_of input old) c && b) (holds_kept old new cs input g a.1)

pub named_more : (m n : ℕ) (checks : List Check) → m ≤ n → AreNamed m checks → AreNamed n checks
named_more m n [] h a = tt
named_more m n (c ∷ cs) h a = let l = a.0 in (omega (arith, h, l), named_more m n cs h a.1)

-- ---- lists with one more

append_none : {A : Type 0} (xs : List A) → xs ++ [] ≡ xs
append_none [] = refl
append_none (x ∷ xs) = ap (λ ys. x ∷ ys) (append_none xs)

all_more : {A B : Type 0} (f : A → List B) (xs : List A) (x : A) → all_of f (xs ++ x ∷ []) ≡ all_of f xs ++ f x
all_more f [] x = append_none (f x)
all_more f (y ∷ xs) x = ap (λ l. f y ++ l) (all_more f xs x) ∙ sym (append_assoc (f y) (all_of f xs) (f x))

footprints_more : (xs : List Seen) (x : Seen) → footprints_of (xs ++ x ∷ []) ≡ footprints_of xs ++ (access_footprints x ++ region_footprints x)
footprints_more [] x = append_none (access_footprints x ++ region_footprints x)
footprints_more (y ∷ xs) x = ap (λ l. (access_footprints y ++ region_footprints y) ++ l) (footprints_more xs x)
    ∙ sym (append_assoc (access_footprints y ++ region_footprints y) (footprints_of xs) (access_footprints x ++ region_footprints x))

owners_more : (xs : List Seen) (x : Seen) → owners_of (xs ++ x ∷ []) ≡ owners_of xs ++ owners_at x
owners_more [] x = append_none (owners_at x)
owners_more (y ∷ xs) x = ap (λ l. owners_at y ++ l) (owners_more xs x) ∙ sym (append_assoc (owners_at y) (owners_of xs) (owners_at x))

and_both : (f : Condition → Bool) (xs ys : List Condition) → list_all f (xs ++ ys) ≡ (list_all f xs && list_all f ys)
and_both f [] ys = refl
and_both f (x ∷ xs) ys = go (f x) (and_both f xs ys)
  where
    go : (b : Bool) → list_all f (xs ++ ys) ≡ (list_all f xs && list_all f ys) → (b && list_all f (xs ++ ys)) ≡ ((b && list_all f xs) && list_all f ys)
    go true e = e
    go false e = refl

-- ---- steps that aren't live

pub no_footprints_at : (x : Seen) → x.live ≡ false → access_footprints x ++ region_footprints x ≡ []
no_footprints_at x l = ap (λ (b : Bool). map (of_step false x) (if b then rules.footprint_of (access_in (rules.kind_in x)) else [])
    ++ map (of_step true x) (if b then rules.footprints_in x.region else [])) l

pub no_owners_at : (x : Seen) → x.live ≡ false → owners_at x ≡ []
no_owners_at x l = ap (λ (ps : List Footprint). map (λ (f : Footprint). owner x) ps) (no_footprints_at x l)

-- ---- the step with its interval

moment_at : (gated : List InstrId) (p : NumberedProgram) (input : List ℤ) (s : State) (ts : List (Timed Step)) (n : ℕ) (t : Timed Step) → slice_get ts n ≡ Some t →
    (m : Moment) × (slice_get (moments_from gated p input s ts) n ≡ Some m) × (m.did ≡ t)
unfolding moments_from
moment_at gated p input s [] n t h = absurd cc
moment_at gated p input s (x ∷ ts) zero t h = let e : x ≡ t = cc in (record { did = x; calls = calls_of (slice_get s.locals x.did.thread.0); bytes = byte_at s.memory }, refl, e)
moment_at gated p input s (x ∷ ts) (suc n) t h = moment_at gated p input (state_after s (step gated p input s x.did.thread.0)) ts n t h

pub record IsMoment (gated : List InstrId) (p : NumberedProgram) (input : List ℤ) (xs : List Step) (n : ℕ) (x : Step) (i : Interval) : Type 0 where
  pub moment : Moment
  pub stands : slice_get (moments_of gated p input xs) n ≡ Some moment
  pub did : moment.did.did ≡ x
  pub low : moment.did.low ≡ i.low
  pub high : moment.did.high ≡ i.high

pub has_moment : (gated : List InstrId) (p : NumberedProgram) (input : List ℤ) (xs : List Step) (n : ℕ) (x : Step) (i : Interval) (intervals : List Interval)
    → intervals ≡ intervals_of Recorded xs →
    slice_get xs n ≡ Some x → i ≡ slice_index_or intervals n i → IsMoment gated p input xs n x i
has_moment gated p input xs n x i intervals e h at =
    let m = moment_at gated p input (initial p) (timed_by recorded xs) n (record { did = x; low = (slice_index_or intervals n i).low; high = (slice_index_or intervals n i).high })
    (timed_get recorded xs intervals n x i e h) in
    record {
      moment = m.0;
      stands = m.1;
      did = ap (λ (t : Timed Step). t.did) m.2;
      low = ap (λ (t : Timed Step). t.low) m.2 ∙ ap (λ (j : Interval). j.low) (sym at);
      high = ap (λ (t : Timed Step). t.high) m.2 ∙ ap (λ (j : Interval). j.high) (sym at);
    }

-- an interval's ends are at most the number of steps
owners_few : (V : View Step) (xs : List Step) → length (owners V xs) ≤ length xs
owners_few V [] = omega arith
owners_few V (x ∷ xs) = go (V.is_event x) refl (owners_few V xs)
  where
    go : (e : Bool) → V.is_event x ≡ e → length (owners V xs) ≤ length xs → length (owners V (x ∷ xs)) ≤ length (x ∷ xs)
    go true w h = rw w (omega (arith, h))
    go false w h = rw w (omega (arith, h))

one_done : (b : Bool) (k : ℕ) → done_after b k ≤ suc k
one_done true k = omega arith
one_done false k = omega arith

ends_few : (V : View Step) (T : List ℕ) (k : ℕ) (xs : List Step) (n : ℕ) (t : Timed Step) → slice_get (times V T k xs) n ≡ Some t → (t.low ≤ k + length xs) × (t.high ≤ length T)
ends_few V T k [] n t h = absurd cc
ends_few V T k (x ∷ xs) zero t h =
    let e : timed V T k x ≡ t = cc in
    let a = last_up (V.thread x) T (done_after (V.is_event x) k) in
    let o = one_done (V.is_event x) k in
    subst (λ (y : Timed Step). (y.low ≤ k + suc (length xs)) × (y.high ≤ length T)) e (omega (arith, a, o), next_from_end (V.thread x) T k)
ends_few V T k (x ∷ xs) (suc n) t h =
    let e = ends_few V T (done_after (V.is_event x) k) xs n t h in
    let o = one_done (V.is_event x) k in
    let l = e.0 in
    (omega (arith, l, o), e.1)

pub few_turns : (xs : List Step) (intervals : List Interval) (n : ℕ) (x : Step) (i : Interval) → intervals ≡ intervals_of Recorded xs → slice_get xs n ≡ Some x
    → i ≡ slice_index_or intervals n i →
    (i.low ≤ length xs) × (i.high ≤ length xs)
few_turns xs intervals n x i e h at =
    let f = ends_few recorded (owners recorded xs) 0 xs n (record { did = x; low = (slice_index_or intervals n i).low; high = (slice_index_or intervals n i).high })
    (timed_get recorded xs intervals n x i e h) in
    let o = owners_few recorded xs in
    let low = f.0 in
    let high = f.1 in
    let a : i.low ≡ (slice_index_or intervals n i).low = ap (λ (j : Interval). j.low) at in
    let b : i.high ≡ (slice_index_or intervals n i).high = ap (λ (j : Interval). j.high) at in
    (omega (arith, low, a), omega (arith, high, o, b))

-- ---- the pass

pub is_at : (R : Reference) (d : Taken) (r : ReferenceRun) (n : ℕ) (x : Step) (i : Instr) (ns : NodeList) (s : SymbolicRun) (m : Moment) → HasLandmarks R r → slice_get R.moments n ≡ Some m
    → m.did.did ≡ x →
    slice_get R.program.instrs x.instr.0 ≡ Some i → Knows R.program ns d.pinned s (known_at R d n) → IsAt R d R.program ns s r n x i (step_from R d n (known_at R d n) m)
is_at R d r n x i ns s m marks got e h k = record {
  program = refl;
  number = refl;
  did = e;
  instr = ap (λ (y : Step). slice_get R.program.instrs y.instr.0) e ∙ h;
  landmark = marks n ∙ ap (λ (o : Option Moment). option_map (landmark_of R.program R.regions) o) got;
  region = refl;
  live = refl;
  before = k;
}

known_next : (R : Reference) (d : Taken) (n : ℕ) (m : Moment) → slice_get R.moments n ≡ Some m → known_at R d (n + 1) ≡ after_step R d n m (known_at R d n)
known_next R d n m e =
    let z : 0 + n ≡ n = omega arith in
    let q : n + 1 ≡ suc n = omega arith in
    rw q (subst (λ (k : ℕ). known_at R d (suc n) ≡ after_step R d k m (known_at R d n)) z (known_more R d 0 n (start_of R.program) R.moments m e))

steps_next : (R : Reference) (d : Taken) (n : ℕ) (m : Moment) → slice_get R.moments n ≡ Some m → first_steps R d (n + 1) ≡ first_steps R d n ++ step_from R d n (known_at R d n) m ∷ []
steps_next R d n m e =
    let z : 0 + n ≡ n = omega arith in
    let q : n + 1 ≡ suc n = omega arith in
    rw q (subst (λ (k : ℕ). first_steps R d (suc n) ≡ first_steps R d n ++ step_from R d k (known_at R d n) m ∷ []) z (steps_more R d 0 n (start_of R.program) R.moments m e))

module _ (R : Reference) (d : Taken) (n : ℕ) (m : Moment) (got : slice_get R.moments n ≡ Some m) where
  abbrev pub here : Seen
  here = step_from R d n (known_at R d n) m

  pub passed_more : (old new : NodeList) (g h : Gathered) → Grew old new → HasPassed R d n old g → Knows R.program new d.pinned h.symbolic_nodes (after_step R d n m (known_at R d n)) →
      h.asked.missing.items ≡ g.asked.missing.items ++ own_asks R d here →
      ((input : List ℤ) → all_hold new h.asked.checks.items input ≡ (all_hold new g.asked.checks.items input && all_met (conditions_at R d here) input)) →
      AreNamed (length new) h.asked.checks.items → all_footprints h.footprints ≡ all_footprints g.footprints ++ (access_footprints here ++ region_footprints here)
      → all_owners h.footprints ≡ all_owners g.footprints ++ owners_at here →
      HasPassed R d (n + 1) new h
  passed_more old new g h grew a known missing checks named footprints owned = record {
    known = subst (λ (k : SymbolicState). Knows R.program new d.pinned h.symbolic_nodes k) (sym (known_next R d n m got)) known;
    missing =
        missing
        ∙ ap (λ (l : List Decision). l ++ own_asks R d here) a.missing
        ∙ sym (all_more (own_asks R d) (first_steps R d n) here)
        ∙ ap (λ (l : List Seen). all_of (own_asks R d) l) (sym (steps_next R d n m got));
    checks = λ input.
        checks input
        ∙ ap (λ (b : Bool). b && all_met (conditions_at R d here) input) (holds_kept old new g.asked.checks.items input grew a.named ∙ a.checks input)
        ∙ sym (and_both (λ (c : Condition). is_met c.test (c.value input)) (conditions_before R d n) (conditions_at R d here))
        ∙ ap (λ (l : List Condition). all_met l input) (sym (all_more (conditions_at R d) (first_steps R d n) here))
        ∙ ap (λ (l : List Seen). all_met (all_of (conditions_at R d) l) input) (sym (steps_next R d n m got));
    named = named;
    footprints =
        footprints
        ∙ ap (λ (l : List Footprint). l ++ (access_footprints here ++ region_footprints here)) a.footprints
        ∙ sym (footprints_more (first_steps R d n) here)
        ∙ ap (λ (l : List Seen). footprints_of l) (sym (steps_next R d n m got));
    owners =
        owned
        ∙ ap (λ (l : List Owner). l ++ owners_at here) a.owners
        ∙ sym (owners_more (first_steps R d n) here)
        ∙ ap (λ (l : List Seen). owners_of l) (sym (steps_next R d n m got));
  }

-- before the first step
pub passed_none : (R : Reference) (d : Taken) (ns : NodeList) (g : Gathered) → Knows R.program ns d.pinned g.symbolic_nodes (start_of R.program) → g.asked.missing.items ≡ []
    → g.asked.checks.items ≡ [] →
    all_footprints g.footprints ≡ [] → all_owners g.footprints ≡ [] → HasPassed R d 0 ns g
unfolding known_from
passed_none R d ns g known missing checks footprints owned = record {
  known = known;
  missing = missing;
  checks = λ input. ap (λ (l : List Check). all_hold ns l input) checks;
  named = subst (λ (l : List Check). AreNamed (length ns) l) (sym checks) tt;
  footprints = footprints;
  owners = owned;
}

-- ---- checks, one after another

pub check_in : (n : ℕ) (checks : List Check) (i : ℕ) (k : Check) → AreNamed n checks → slice_get checks i ≡ Some k → k.node < n
check_in n [] i k a h = absurd cc
check_in n (c ∷ cs) zero k a h = let e : c ≡ k = cc in subst (λ (y : Check). y.node < n) e a.0
check_in n (c ∷ cs) (suc i) k a h = check_in n cs i k a.1 h

pub taken_all : {A : Type 0} (n : ℕ) (xs : List A) → length xs ≤ n → take n xs ≡ xs
taken_all zero [] h = refl
taken_all (suc n) [] h = refl
taken_all zero (x ∷ xs) h = absurd (omega (arith, h))
taken_all (suc n) (x ∷ xs) h = ap (λ l. x ∷ l) (taken_all n xs (omega (arith, h)))

pub none_named : (n : ℕ) (checks : List Check) → checks ≡ [] → AreNamed n checks
none_named n checks e = subst (λ (l : List Check). AreNamed n l) (sym e) tt

mapped_length : {A B : Type 0} (f : A → B) (xs : List A) → length (map f xs) ≡ length xs
mapped_length f [] = refl
mapped_length f (x ∷ xs) = ap suc (mapped_length f xs)

pub intervals_length : (xs : List Step) (intervals : List Interval) → intervals ≡ intervals_of Recorded xs → length intervals ≡ length xs
intervals_length xs intervals e = ap (λ (l : List Interval). length l) e ∙ mapped_length interval_of (timed_by recorded xs) ∙ timed_length recorded xs
