-- What a session keeps is within the limits of a recording.
use Rattle.std.proofs.Common.{◌≡◌, ℕ, ℤ, zero, suc, ◌+◌, ◌-◌, ◌<◌, ◌≤◌, true, List, [], ◌∷◌, ◌++◌, length, map, drop, Option, Some, None}
use Rattle.std.proofs.Common.{refl, sym, ap, subst, arith, append-nil, length-drop}
use Rattle.std.specs.Prelude.{All, IfSome, slice_get}
use Rattle.std.specs.List.{cons_option, position_from}
use Rattle.std.specs.Option.{option_to_list}
use Rattle.std.proofs.lemmas.List.{length-append, length-map, map-append}
use Rattle.std.proofs.lemmas.List.Elements.{All-cons, All-drop, All-head, All-map, All-nil, All-push, All-tail, All-append, All-weaker}
use Rattle.pg_go.specs.pg_num.declared.limits.TheConstants.{CACHE_LIMIT, NUMBERS_LIMIT, RECORDING_STEP_LIMIT, THREAD_LIMIT}
use Rattle.pg_go.specs.pg_ir.declared.ids.InstrId.{InstrId}
use Rattle.pg_go.specs.pg_ir.Program.{NumberedProgram}
use Rattle.pg_cache.specs.Kept.{Kept, with_value}
use Rattle.pg_go.specs.pg_law_threads.Intervals.{Timed}
use Rattle.pg_go.specs.pg_run_trace.declared.schedule.Schedule.{Schedule}
use Rattle.pg_go.specs.pg_run_trace.declared.step.Happening.{Happening}
use Rattle.pg_go.specs.pg_run_trace.declared.step.Step.{Step}
use Rattle.pg_go.specs.pg_run_trace.declared.turn.Race.{Race}
use Rattle.pg_go.specs.pg_run_trace.declared.turn.Turn.{Turn}
use Rattle.pg_go.specs.pg_run_trace.Races.{asked, instrs_in, is_racing, is_unordered, race_at, race_in, race_of, race_with, races_below, races_of, schedule_of, timed_by, with_gated}
use Rattle.pg_go.specs.pg_run_trace.Steps.{happening_in}
use Rattle.pg_go.specs.pg_run.declared.outcome.Outcome.TheVariants as outcomes
use Rattle.pg_go.specs.pg_run.MachineStep.{ready}
use Rattle.pg_go.specs.pg_run.Runs.{IsRun, event_of, events, turn_at}
use Rattle.pg_go.specs.pg_run.State.{State, initial}
use Rattle.pg_go.proofs.of_pg_run.StepsBegin.{ready_made}
use Rattle.pg_go.proofs.of_pg_law_effects.ThreadLimits.{FewThreads, few_initial, few_step}
use Rattle.pg_law_reuse.specs.Entries.{EntryParts, IsEntry}
use Rattle.pg_session.specs.pg_session_texts.declared.reply.EndLine.{EndLine}
use Rattle.pg_session.specs.Sessions.{Answer, Answers, AnswersAll, AnswersLine}
use Rattle.pg_session.specs.Sessions.Answers.{by_reuse, by_recording, by_refusal, by_untested}
use Rattle.pg_session_runner.specs.Limits.{AreWithinLimits, Ascend, HasFewNumbers, IsWithinLimits}
use Rattle.pg_session_runner.specs.Runs.{IsKept, Way, entry_admits, runs_by}
use Rattle.pg_session_runner.proofs.RecordedLines.{AreRecordings}
use Rattle.pg_session_runner.proofs.RecordedWays.{is_recording}
use Rattle.pg_session_runner.proofs.TurnCounts.{fewer_events}

-- ---- the loads and stores that are turns ascend

with_instr : (id i : ℕ) (o : Option ℕ) → IfSome (race_with id i o) (λ (r : Race). r.instr.0 ≡ id)
with_instr id i None = tt
with_instr id i (Some j) = refl

of_instr : (xs : List (Timed Step)) (id i : ℕ) (o : Option (Timed Step)) → IfSome (race_of xs id i o) (λ (r : Race). r.instr.0 ≡ id)
of_instr xs id i None = tt
of_instr xs id i (Some x) = with_instr id i (position_from (is_unordered x) 0 xs)

at_instr : (xs : List (Timed Step)) (id : ℕ) (o : Option ℕ) → IfSome (race_at xs id o) (λ (r : Race). r.instr.0 ≡ id)
at_instr xs id None = tt
at_instr xs id (Some i) = of_instr xs id i (slice_get xs i)

abbrev IsBelow : ℕ → InstrId → Type 0
IsBelow n id = id.0 < n

abbrev instr_of : Race → InstrId
instr_of r = r.instr

one_below : (n : ℕ) (o : Option Race) → IfSome o (λ (r : Race). r.instr.0 ≡ n) → All (λ (r : Race). r.instr.0 < suc n) (option_to_list o)
one_below n None h = All-nil (λ (r : Race). r.instr.0 < suc n)
one_below n (Some r) h = All-cons (λ (r : Race). r.instr.0 < suc n) r [] (omega (arith, h)) (All-nil (λ (r : Race). r.instr.0 < suc n))

below : (xs : List (Timed Step)) (n : ℕ) → All (λ (r : Race). r.instr.0 < n) (races_below xs n)
unfolding races_below
below xs zero = All-nil (λ (r : Race). r.instr.0 < 0)
below xs (suc n) = All-append (λ (r : Race). r.instr.0 < suc n) (races_below xs n) (option_to_list (race_in xs n))
    (All-weaker (λ (r : Race). r.instr.0 < n) (λ (r : Race). r.instr.0 < suc n) (λ r h. omega (arith, h)) (races_below xs n) (below xs n))
    (one_below n (race_in xs n) (at_instr xs n (position_from (is_racing xs n) 0 xs)))

-- one more behind those that are below it
ascend_more : (least n : ℕ) (ids : List InstrId) (x : InstrId) → Ascend least ids → All (IsBelow n) ids → least ≤ n → x.0 ≡ n → Ascend least (ids ++ x ∷ [])
ascend_more least n [] x h b l e = (omega (arith, l, e), tt)
ascend_more least n (id ∷ ids) x h b l e =
    let first : id.0 < n = All-head (IsBelow n) id ids b in
    (h.0, ascend_more (id.0 + 1) n ids x h.1 (All-tail (IsBelow n) id ids b) (omega (arith, first)) e)

ascend_with : (n : ℕ) (ids : List InstrId) (o : Option Race) → Ascend 0 ids → All (IsBelow n) ids → IfSome o (λ (r : Race). r.instr.0 ≡ n) → Ascend 0 (ids ++ map instr_of (option_to_list o))
ascend_with n ids None h b e = subst (Ascend 0) (sym (append-nil ids)) h
ascend_with n ids (Some r) h b e = ascend_more 0 n ids r.instr h b (omega arith) e

races_ascend : (xs : List (Timed Step)) (n : ℕ) → Ascend 0 (map instr_of (races_below xs n))
unfolding races_below
races_ascend xs zero = tt
races_ascend xs (suc n) = subst (Ascend 0) (sym (map-append instr_of (races_below xs n) (option_to_list (race_in xs n))))
    (ascend_with n (map instr_of (races_below xs n)) (race_in xs n) (races_ascend xs n) (All-map (IsBelow n) instr_of (races_below xs n) (below xs n))
    (at_instr xs n (position_from (is_racing xs n) 0 xs)))

-- ---- the threads of turns are few

made : (p : NumberedProgram) (s : State) (t : ℕ) → FewThreads s → ready p s t ≡ true → t < THREAD_LIMIT
made p s t few h =
    let l = ready_made p s t h in
    let m = few.few in
    omega (arith, l, m)

abbrev HasThread : Step → Type 0
HasThread x = x.thread.0 < THREAD_LIMIT

abbrev IsOfThread : Turn → Type 0
IsOfThread t = t.thread.0 < THREAD_LIMIT

threads : (p : NumberedProgram) (input : List ℤ) (s z : State) (xs : List Step) → IsRun [] p input s xs z → FewThreads s → All HasThread xs
threads p input s z [] r h = All-nil HasThread
threads p input s z (x ∷ xs) r h =
    All-cons HasThread x xs (made p s x.thread.0 h r.0.is_ready) (threads p input r.0.after z xs r.1 (few_step [] p input s r.0.after x.thread.0 x r.0.is_step h))

of_thread : (x : Step) (o : Option Happening) → HasThread x → IfSome (turn_at x o) IsOfThread
of_thread x None h = tt
of_thread x (Some a) h = h

turn_threads : (xs : List Step) → All HasThread xs → All IsOfThread (events xs)
turn_threads [] h = All-nil IsOfThread
turn_threads (x ∷ xs) h = go (event_of x) (of_thread x (happening_in x.kind) (All-head HasThread x xs h)) (turn_threads xs (All-tail HasThread x xs h))
  where
    go : (o : Option Turn) → IfSome o IsOfThread → All IsOfThread (events xs) → All IsOfThread (cons_option o (events xs))
    go None a b = b
    go (Some u) a b = All-cons IsOfThread u (events xs) a b

-- ---- of an entry

entry_within : (p : NumberedProgram) (input : List ℤ) (xs : List Step) (z : State) (e : EntryParts) → IsRun [] p input (initial p) xs z → length xs ≤ RECORDING_STEP_LIMIT
    → length input ≤ NUMBERS_LIMIT → IsEntry p input xs z e → IsWithinLimits e
entry_within p input xs z e run short few i =
    let gated = (schedule_of xs).gated in
    let a : length e.schedule.turns ≡ length (events (map (with_gated gated) xs)) = ap (λ (s : Schedule). length s.turns) i.schedule in
    let b = fewer_events (map (with_gated gated) xs) in
    let c : length (map (with_gated gated) xs) ≡ length xs = length-map xs (with_gated gated) in
    let each = threads p input (initial p) z xs run (few_initial p) in
    record {
      input = subst (λ (l : List ℤ). length l ≤ NUMBERS_LIMIT) (sym i.same_input) few;
      turns = omega (arith, a, b, c, short);
      threads = subst (All IsOfThread) (sym (ap (λ (s : Schedule). s.turns) i.schedule))
          (turn_threads (map (with_gated gated) xs) (All-map HasThread (with_gated gated) xs each));
      gated = subst (Ascend 0) (sym (ap (λ (s : Schedule). s.gated) i.schedule)) (races_ascend (timed_by asked xs) (instrs_in xs));
    }

-- ---- of a session

one_more : (kept : Kept EntryParts) (e : EntryParts) → kept.size ≡ CACHE_LIMIT → AreWithinLimits kept.values → IsWithinLimits e → AreWithinLimits (with_value e kept).values
one_more kept e size h i =
    let all = kept.values ++ e ∷ [] in
    let long : length all ≡ length kept.values + 1 = length-append kept.values (e ∷ []) in
    let cut : length (drop (length all - kept.size) all) ≡ length all - (length all - kept.size) = length-drop (length all - kept.size) all in
    let few = h.few in
    record {
      few = omega (arith, long, cut, few, size);
      each = All-drop IsWithinLimits (length all - kept.size) all (All-push IsWithinLimits kept.values e h.each i);
    }

abbrev IsLimited : Kept EntryParts → Type 0
IsLimited kept = (kept.size ≡ CACHE_LIMIT) × AreWithinLimits kept.values

module _ (p : NumberedProgram) (way : Way) (rotations : AreRecordings p way) where
  kept_within : (input : List ℤ) (e : EntryParts) (output : List ℕ) (end : EndLine) → length input ≤ NUMBERS_LIMIT → IsKept p way input e output end → IsWithinLimits e
  kept_within input e output end few k =
      let r = is_recording p way input k.steps k.state (outcomes.Exit k.value) (rotations input) k.exits in
      entry_within p input k.steps k.state e r.run r.short few k.is_entry

  answer_within : (kept next : Kept EntryParts) (input : List ℤ) (a : Answer) → IsLimited kept → length input ≤ NUMBERS_LIMIT → Answers entry_admits (runs_by p way) kept input a next → IsLimited next
  answer_within kept next input a h few (by_reuse i) = subst IsLimited (sym i.stays) h
  answer_within kept next input a h few (by_recording i) =
      subst IsLimited (sym i.grows) (h.0, one_more kept i.entry h.0 h.1 (kept_within input i.entry a.output i.end few i.recording))
  answer_within kept next input a h few (by_refusal i) = subst IsLimited (sym i.stays) h
  answer_within kept next input a h few (by_untested i) = subst IsLimited (sym i.stays) h

  line_within : (kept next : Kept EntryParts) (x : Option (List ℤ)) (a : Answer) → IsLimited kept → HasFewNumbers x → AnswersLine entry_admits (runs_by p way) kept x a next → IsLimited next
  line_within kept next None a h few i = subst IsLimited (sym i.1) h
  line_within kept next (Some input) a h few i = answer_within kept next input a h few i

  pub session_within : (kept last : Kept EntryParts) (inputs : List (Option (List ℤ))) (answers : List Answer) → IsLimited kept → All HasFewNumbers inputs
      → AnswersAll entry_admits (runs_by p way) kept inputs answers last → IsLimited last
  session_within kept last [] answers h few i = subst IsLimited (sym i.1) h
  session_within kept last (x ∷ xs) answers h few i =
      session_within i.next last xs i.rest (line_within kept i.next x i.first h (All-head HasFewNumbers x xs few) i.is_first) (All-tail HasFewNumbers x xs few) i.are_rest
