-- The start of a thread fits.
use Rattle.std.proofs.Common.{◌≡◌, ℕ, ℤ, ◌<◌, ◌+◌, ◌-◌, zero, suc, Bool, true, false, List, [], ◌∷◌, ◌++◌, length, map, replicate, Option, Some, None, refl}
use Rattle.std.proofs.Common.{sym, ap, ◌∙◌, subst, arith, IfSome}
use Rattle.std.specs.Prelude.{◌==◌, nat_lt, is_some, slice_get, slice_index, slice_index_or, if◌then◌else◌}
use Rattle.std.specs.List.{AllByRecursion as AllOf, list_any}
use Rattle.std.proofs.lemmas.Bool.{eq-eqb, false_from_ne_true, ltb-true, or_left, true≢false}
use Rattle.pg_num.specs.declared.layout.TheConstants.{MEMORY_BYTES}
use Rattle.pg_ir.specs.declared.instr.Instr.{Instr}
use Rattle.pg_ir.specs.declared.request.Request.TheVariants as requests
use Rattle.pg_ir.specs.Program.{NumberedProgram, entry_of, parameter_count, types_of}
use Rattle.pg_law_threads.specs.Plans.{Fits}
use Rattle.pg_run_thread.specs.declared.action.Action.TheVariants as actions
use Rattle.pg_run_thread.specs.LocalState.{LocalState, fresh}
use Rattle.pg_run_thread.specs.States.{IsOf, StandsAt}
use Rattle.pg_run_thread.specs.Step.{after}
use Rattle.pg_run_thread.specs.Told.{id_of}
use Rattle.pg_run_trace.specs.declared.turn.TurnKind.TheVariants as turns
use Rattle.pg_run_trace.specs.declared.step.Event.{Event}
use Rattle.pg_run_trace.specs.declared.step.Step.{Step}
use Rattle.pg_run_trace.specs.declared.step.StepKind.{StepKind}
use Rattle.pg_run_trace.specs.Races.{reply_in}
use Rattle.pg_run_trace.specs.Steps.{access_in, happening_in, turn_at}
use Rattle.pg_run.specs.MachineStep.{event_told, kind_told, number_in, operands_in, step_told}
use Rattle.pg_run.specs.Runs.{Takes}
use Rattle.pg_run.specs.State.{State, id_in, instr_of, next_of}
use Rattle.pg_run.proofs.StepsBegin.{next_is, ready_made}
use Rattle.pg_run.proofs.StepsKeepStates.{all_at}
use Rattle.pg_law_effects.specs.Effect.{Effect, RequestEffect, answer_to, effect_of, own_after, request_effect}
use Rattle.pg_law_effects.specs.Meets.{byte_in, is_in_range}
use Rattle.pg_law_effects.specs.Reached.{IsReached, IsThread}
use Rattle.pg_law_effects.specs.Views.{LeadsTo, Objects, begun_in, cell_at, cell_written, is_thread, local_at, objects_of, objects_with, start_of, word_in}
use Rattle.pg_law_effects.specs.Views as views
use Rattle.pg_law_effects.proofs.ReachedStates.{present}
use Rattle.pg_law_effects.proofs.StepViews.{leads_to}
use Rattle.pg_law_runs.proofs.StepRules.{next_fresh}
use Rattle.pg_slice_rules.specs.Known.{SymbolicState, Taken, fresh_registers, function_in, started, thread_of}
use Rattle.pg_slice_rules.specs.Moments.{calls_of, instr_in, thread_in}
use Rattle.pg_slice_rules.specs.Rules.{kind_in}
use Rattle.pg_slice_rules.specs.SymbolicValues.{Symbolic, always, unset}
use Rattle.pg_law_plan.specs.Likes.{AreLike, IsCellLike, IsLike, IsToldLike, StandLike, like}
use Rattle.pg_law_plan.specs.Moves.{deed_moved}
use Rattle.pg_law_plan.specs.Units.{PlanUnit, ReferenceRun, access_touch, cell_known, deed_of, instance_touch, is_event_at, is_instance, is_written_in, reads_cell, reference_of, standing_of}
use Rattle.pg_law_plan.specs.Units.{word_read, word_written, writes_cell}
use Rattle.pg_law_plan.proofs.EachUnit.{IsUnit, behind_is}
use Rattle.pg_law_plan.proofs.ThreadAtInstruction.{told_is}
use Rattle.pg_law_plan.proofs.LocalStepFits.{none_if, own_here}
use Rattle.pg_law_plan.proofs.KnownCalls.{event_calls}
use Rattle.pg_law_plan.proofs.LikeOperands.{put_like, unset_like}
use Rattle.pg_law_plan.proofs.ThreadEventFits.{word_there}
use Rattle.pg_law_plan.proofs.AlikeThreads.{Beginning}
use Rattle.pg_law_plan.proofs.LikeRequests.{same_objects}

starts_with : (p : NumberedProgram) (n f : ℕ) → start_of (fresh p n f) ≡ Some f
unfolding fresh
starts_with p n f = refl

get_map : {A B : Type 0} (f : A → B) (xs : List A) (i : ℕ) (x : A) → slice_get xs i ≡ Some x → slice_get (map f xs) i ≡ Some (f x)
get_map f [] i x h = absurd cc
get_map f (y ∷ xs) zero x h = let e : y ≡ x = cc in ap (λ z. Some (f z)) e
get_map f (y ∷ xs) (suc i) x h = get_map f xs i x h

-- where a thread begins
begins_at : (p : NumberedProgram) (t f : ℕ) → id_in (Some (fresh p t f)) ≡ entry_of p f
unfolding fresh id_of
begins_at p t f = refl

frame_place : (p : NumberedProgram) (t f : ℕ) → IsOf p (fresh p t f) → (x : Instr) × (slice_get p.instrs (entry_of p f) ≡ Some x)
unfolding IsOf fresh
frame_place p t f h = go (slice_get p.instrs (entry_of p f)) refl h.frames.0.place
  where
    go : (o : Option Instr) → slice_get p.instrs (entry_of p f) ≡ o → StandsAt p f o → (x : Instr) × (slice_get p.instrs (entry_of p f) ≡ Some x)
    go None e k = absurd k
    go (Some x) e k = (x, e)

calls_fresh : (p : NumberedProgram) (t f : ℕ) → function_in (calls_of (Some (fresh p t f))) ≡ f
unfolding fresh
calls_fresh p t f = refl

-- the thread behind its start
start_like : (p : NumberedProgram) (input : List ℤ) (t f a0 a : ℕ) (argument : Symbolic) → IsLike input argument (Some a) →
    StandLike input (standing_of (Some (after p (fresh p t f) a0)) (started (parameter_count p f) argument (fresh_registers p f) ∷ [])) (Some (after p (fresh p t f) a))
unfolding after fresh
start_like p input t f a0 a argument h = record {
  thread = refl;
  halfway = refl;
  heap = refl;
  calls = (record { function = refl; place = refl; height = refl; registers = registers (parameter_count p f == 0) }, tt);
}
  where
    registers : (b : Bool) → AreLike input (if b then fresh_registers p f else Rattle.std.specs.Prelude.slice_set (fresh_registers p f) 0 argument)
        (if b then replicate (length (types_of p f)) None else Rattle.std.specs.Prelude.slice_set (replicate (length (types_of p f)) None) 0 (Some a))
    registers true = unset_like input (length (types_of p f))
    registers false = put_like input (fresh_registers p f) (replicate (length (types_of p f)) None) 0 argument (Some a) (unset_like input (length (types_of p f))) h

some_some : (a b : ℕ) → Path (Option (Option ℕ)) (Some (Some a)) (Some (Some b)) → a ≡ b
some_some a b e = cc

module _ (r : ReferenceRun) (d : Taken) (input : List ℤ) (u : PlanUnit) (unit : IsUnit r d u) (single : is_instance d u.seen ≡ false) (st : State) (moves : ℕ → ℕ) (y : Step)
    (reached : IsReached r.program st) (takes : Takes r.gated r.program input st y)
    (own : y.thread.0 ≡ thread_in u.seen.moment) (units : moves (thread_in u.seen.moment) ≡ u.units) (objects : is_event_at u.seen ≡ true → objects_of u.state ≡ objects_of st)
    (words : length u.seen.before.words ≡ length u.state.locals)
    (cells : (c : ℕ) → reads_cell d u.seen c ≡ true → IsCellLike input (cell_known u.seen.before c) (cell_at st c)) (b : Beginning r.program (thread_in u.seen.moment) u.state st)
    (calls : (thread_of u.seen.before (thread_in u.seen.moment)).calls ≡ fresh_registers r.program b.function ∷ []) where
  abbrev ef : Effect
  ef = effect_of r.program input st y.thread.0

  act0 : next_of r.program u.state (thread_in u.seen.moment) ≡ actions.Event requests.Start
  act0 = next_is r.program u.state (thread_in u.seen.moment) (fresh r.program (thread_in u.seen.moment) b.function) b.first ∙ next_fresh r.program (thread_in u.seen.moment) b.function

  abbrev answer0 : ℕ
  answer0 = answer_to r.input u.state (thread_in u.seen.moment) (next_of r.program u.state (thread_in u.seen.moment))

  abbrev answer : ℕ
  answer = answer_to input st (thread_in u.seen.moment) (next_of r.program st (thread_in u.seen.moment))

  abbrev ns0 : List ℕ
  ns0 = operands_in r.program (slice_get u.state.locals (thread_in u.seen.moment))

  abbrev reply0 : ℕ
  reply0 = number_in r.program (slice_get u.state.locals (thread_in u.seen.moment)) answer0

  told0 : u.seen.moment.did.did ≡ step_told r.gated r.program u.state (thread_in u.seen.moment) answer0
  told0 = told_is r.gated r.program r.input u.state unit.met.takes.after (thread_in u.seen.moment) u.seen.moment.did.did unit.met.takes.is_step

  told : y ≡ step_told r.gated r.program st (thread_in u.seen.moment) answer
  told = told_is r.gated r.program input st takes.after y.thread.0 y takes.is_step ∙ ap (λ (v : ℕ). step_told r.gated r.program st v (answer_to input st v (next_of r.program st v))) own

  kind0 : kind_in u.seen ≡ event_told u.state (thread_in u.seen.moment) ns0 reply0 requests.Start
  kind0 = ap (λ (z : Step). z.kind) told0 ∙ ap (kind_told r.gated r.program u.state (thread_in u.seen.moment) ns0 answer0 reply0) act0

  is_event : is_event_at u.seen ≡ true
  is_event = ap (λ (k : StepKind). is_some (happening_in k)) kind0

  same : objects_of st ≡ objects_of u.state
  same = sym (objects is_event)

  -- the run's thread begins with the same function
  local_is : slice_get st.locals (thread_in u.seen.moment) ≡ Some (fresh r.program (thread_in u.seen.moment) b.function)
  local_is = go y1.0 y1.1
    where
      y1 : (l : LocalState) × (slice_get st.locals (thread_in u.seen.moment) ≡ Some l)
      y1 = present st (thread_in u.seen.moment) (subst (λ (v : ℕ). v < length st.locals) own (ready_made r.program st y.thread.0 takes.is_ready))

      waits : (l : LocalState) → slice_get st.locals (thread_in u.seen.moment) ≡ Some l → (c : Bool) → l.begun ≡ c → l.begun ≡ false
      waits l e false w = w
      waits l e true w = let k : Path (Option LocalState) (Some l) None = sym (ap begun_in e ∙ ap (λ (z : Bool). if z then Some l else None) w) ∙ b.none in absurd cc

      go : (l : LocalState) → slice_get st.locals (thread_in u.seen.moment) ≡ Some l
          → slice_get st.locals (thread_in u.seen.moment) ≡ Some (fresh r.program (thread_in u.seen.moment) b.function)
      go l e =
          let p = r.program in
          let t = thread_in u.seen.moment in
          let w = (subst (λ (o : Option LocalState). IfSome o (IsThread p t)) e (reached.threads t)).waiting (waits l e l.begun refl) in
          let k : Some (Some w.0) ≡ Some (Some b.function) = ap (λ (o : Option ℕ). Some o) (sym (starts_with p t w.0))
          ∙ sym (get_map start_of st.locals t (fresh p t w.0) (e ∙ ap (λ (z : LocalState). Some z) w.1))
          ∙ ap (λ (q : Objects). slice_get q.starts t) same ∙ get_map start_of u.state.locals t (fresh p t b.function) b.first ∙ ap (λ (o : Option ℕ). Some o) (starts_with p t b.function) in
          e ∙ ap (λ (z : LocalState). Some z) w.1 ∙ ap (λ (f : ℕ). Some (fresh p t f)) (some_some w.0 b.function k)

  act : next_of r.program st (thread_in u.seen.moment) ≡ actions.Event requests.Start
  act = next_is r.program st (thread_in u.seen.moment) (fresh r.program (thread_in u.seen.moment) b.function) local_is ∙ next_fresh r.program (thread_in u.seen.moment) b.function

  kind : y.kind ≡ event_told st (thread_in u.seen.moment) (operands_in r.program (slice_get st.locals (thread_in u.seen.moment)))
      (number_in r.program (slice_get st.locals (thread_in u.seen.moment)) answer) requests.Start
  kind = ap (λ (z : Step). z.kind) told ∙ ap (kind_told r.gated r.program st (thread_in u.seen.moment) (operands_in r.program (slice_get st.locals (thread_in u.seen.moment))) answer
      (number_in r.program (slice_get st.locals (thread_in u.seen.moment)) answer)) act

  place_of : (s : State) → slice_get s.locals (thread_in u.seen.moment) ≡ Some (fresh r.program (thread_in u.seen.moment) b.function)
      → instr_of s (thread_in u.seen.moment) ≡ entry_of r.program b.function
  unfolding instr_of
  place_of s e = ap id_in e ∙ begins_at r.program (thread_in u.seen.moment) b.function

  same_instr : y.instr ≡ u.seen.moment.did.did.instr
  same_instr = ap (λ (z : Step). z.instr) told ∙ ap (λ (i : ℕ). record { 0 = i }) (place_of st local_is ∙ sym (place_of u.state b.first)) ∙ sym (ap (λ (z : Step). z.instr) told0)

  instr_is : (x : Instr) × (instr_in r.program u.seen.moment ≡ Some x)
  instr_is =
      let k = frame_place r.program (thread_in u.seen.moment) b.function
      (all_at (IsOf r.program) u.state.locals (thread_in u.seen.moment) (fresh r.program (thread_in u.seen.moment) b.function) b.first unit.met.reached.machine.of) in
      (k.0, ap (λ (z : Step). slice_get r.program.instrs z.instr.0) told0 ∙ ap (slice_get r.program.instrs) (place_of u.state b.first) ∙ k.1)

  -- the thread's argument
  argument : IsLike input (slice_index_or u.seen.before.words (thread_in u.seen.moment) unset) (Some (slice_index st.words (thread_in u.seen.moment)))
  argument =
      let t = thread_in u.seen.moment in
      let c = MEMORY_BYTES + t in
      let out : nat_lt c MEMORY_BYTES ≡ false = false_from_ne_true (nat_lt c MEMORY_BYTES) (λ h. let lt = ltb-true c MEMORY_BYTES h in absurd (omega (arith, lt))) in
      let at : c - MEMORY_BYTES ≡ t = omega arith in
      let asked : word_read t (kind_in u.seen) ≡ Some t = ap (word_read t) kind0 in
      let reads : reads_cell d u.seen c ≡ true = ap (λ (z : Bool). if z then Rattle.pg_law_plan.specs.Units.reads_byte d u.seen c else is_thread (word_read t (kind_in u.seen)) (c - MEMORY_BYTES))
      out ∙ ap (λ (o : Option ℕ). is_thread o (c - MEMORY_BYTES)) asked ∙ ap (λ (i : ℕ). t == i) at ∙ eq-eqb t t refl in
      let made = ready_made r.program u.state t unit.met.takes.is_ready in
      let x : cell_known u.seen.before c ≡ slice_index_or u.seen.before.words t unset =
      ap (λ (z : Bool). if z then u.seen.before.bytes c else slice_index_or u.seen.before.words (c - MEMORY_BYTES) (always 0)) out
      ∙ ap (λ (i : ℕ). slice_index_or u.seen.before.words i (always 0)) at ∙ sym (word_there u.seen.before.words t unset (always 0) (omega (arith, made, words))) in
      let z : cell_at st c ≡ slice_index st.words t = ap (λ (z : Bool). if z then Rattle.pg_run_memory.specs.Memory.byte_at st.memory c else slice_index st.words (c - MEMORY_BYTES)) out
      ∙ ap (slice_index st.words) at in
      subst (λ (s : Symbolic). IsLike input s (Some (slice_index st.words t))) x (subst (λ (n : ℕ). IsLike input (cell_known u.seen.before c) (Some n)) z (cells c reads))

  local0 : u.local ≡ Some (after r.program (fresh r.program (thread_in u.seen.moment) b.function) answer0)
  unfolding effect_of
  local0 =
      let k = leads_to r.gated r.program r.input u.state unit.met.takes.after (thread_in u.seen.moment) u.seen.moment.did.did unit.met.reached unit.met.takes.is_ready unit.met.takes.is_step in
      unit.local single ∙ ap (λ (z : State). local_at z (thread_in u.seen.moment)) (behind_is r d u.state u.seen.moment.did.did unit.met.takes)
      ∙ k.locals (thread_in u.seen.moment) ∙ own_here _ _ _ (eq-eqb (thread_in u.seen.moment) (thread_in u.seen.moment) refl) ∙ ap (own_after r.program answer0) b.first

  local : (effect_of r.program input st (thread_in u.seen.moment)).local ≡ Some (after r.program (fresh r.program (thread_in u.seen.moment) b.function) answer)
  unfolding effect_of
  local = ap (own_after r.program answer) local_is

  known_is : (thread_of u.known (thread_in u.seen.moment)).calls ≡ started (parameter_count r.program b.function) (slice_index_or u.seen.before.words (thread_in u.seen.moment) unset)
      (fresh_registers r.program b.function) ∷ []
  known_is =
      let p = r.program in
      let t = thread_in u.seen.moment in
      let ev : Event = record { kind = turns.Start; object = t; operands = ns0; reply = reply0; write = None } in
      ap (λ (z : SymbolicState). (thread_of z t).calls) unit.known
      ∙ event_calls (reference_of r) d u.seen.number u.seen.moment u.seen.before instr_is.0 instr_is.1 (sym unit.met.live ∙ unit.live) (fresh_registers p b.function) [] calls ev kind0
      ∙ ap (λ (f : ℕ). started (parameter_count p f) (slice_index_or u.seen.before.words t unset) (fresh_registers p b.function) ∷ [])
      (ap function_in (unit.met.calls ∙ ap calls_of b.first) ∙ calls_fresh p t b.function)

  e_request : ef.request ≡ request_effect r.program st (thread_in u.seen.moment) (actions.Event requests.Start)
  unfolding effect_of
  e_request = ap (λ (v : ℕ). request_effect r.program st v (next_of r.program st v)) own ∙ ap (request_effect r.program st (thread_in u.seen.moment)) act

  e_reads : ef.reads ≡ None
  unfolding effect_of
  e_reads = ap (λ (v : ℕ). Rattle.pg_law_effects.specs.Effect.range_read (next_of r.program st v)) own ∙ ap Rattle.pg_law_effects.specs.Effect.range_read act

  e_word : ef.word_read ≡ Some (thread_in u.seen.moment)
  unfolding effect_of
  e_word = ap (λ (v : ℕ). Rattle.pg_law_effects.specs.Effect.word_read_by v (next_of r.program st v)) own ∙ ap (Rattle.pg_law_effects.specs.Effect.word_read_by (thread_in u.seen.moment)) act

  e_writes : ef.writes ≡ None
  unfolding effect_of
  e_writes = ap (λ (v : ℕ). Rattle.pg_law_effects.specs.Effect.write_of st (next_of r.program st v)) own ∙ ap (Rattle.pg_law_effects.specs.Effect.write_of st) act

  e_thread : ef.thread ≡ thread_in u.seen.moment
  unfolding effect_of
  e_thread = own

  request0 : (effect_of r.program r.input u.state (thread_in u.seen.moment)).request ≡ request_effect r.program u.state (thread_in u.seen.moment) (actions.Event requests.Start)
  unfolding effect_of
  request0 = ap (request_effect r.program u.state (thread_in u.seen.moment)) act0

  unit_objects : u.objects ≡ objects_with (thread_in u.seen.moment) (request_effect r.program u.state (thread_in u.seen.moment) (actions.Event requests.Start)) (objects_of u.state)
  unfolding effect_of
  unit_objects = unit.objects ∙ ap objects_of (behind_is r d u.state u.seen.moment.did.did unit.met.takes)
      ∙ (leads_to r.gated r.program r.input u.state unit.met.takes.after (thread_in u.seen.moment) u.seen.moment.did.did unit.met.reached unit.met.takes.is_ready unit.met.takes.is_step).objects
      ∙ ap (λ (z : Option RequestEffect). objects_with (thread_in u.seen.moment) z (objects_of u.state)) request0

  objects_alike : (deed_moved r.program input st moves y).objects ≡ (deed_of d u).objects
  objects_alike =
      let p = r.program in
      let t = thread_in u.seen.moment in
      ap (λ (c : Bool). if c then Some (objects_with ef.thread ef.request (objects_of st)) else None) (ap (λ (k : StepKind). is_some (turn_at y (happening_in k))) kind)
      ∙ ap (λ (v : ℕ). Some (objects_with v ef.request (objects_of st))) e_thread ∙ ap (λ (z : Option RequestEffect). Some (objects_with t z (objects_of st))) e_request
      ∙ ap (λ (o : Objects). Some o) (same_objects p st u.state t requests.Start requests.Start (objects_of st) refl (ap (λ (o : Objects). o.sync) same)
      ∙ ap (objects_with t (request_effect p u.state t (actions.Event requests.Start))) same ∙ sym unit_objects)
      ∙ sym (ap (λ (c : Bool). if c then Some u.objects else None) is_event)

  either_false : (c : Bool) → (if c then false else false) ≡ false
  either_false true = refl
  either_false false = refl

  wc : (c : ℕ) → writes_cell d u.seen c ≡ false
  wc c =
      ap (λ (k : StepKind). if nat_lt c MEMORY_BYTES then list_any (λ f. is_written_in f c) (access_touch d u.seen.number (access_in k) ++ instance_touch d u.seen) else is_thread
      (word_written (thread_in u.seen.moment) k) (c - MEMORY_BYTES)) kind0
      ∙ ap (λ (z : Bool). if nat_lt c MEMORY_BYTES then list_any (λ f. is_written_in f c) (if z then Rattle.pg_slice_rules.specs.Rules.footprints_in u.seen.region else []) else false) single
      ∙ either_false (nat_lt c MEMORY_BYTES)

  cw : (c : ℕ) → cell_written ef c ≡ None
  cw c = ap (λ z. if nat_lt c MEMORY_BYTES then byte_in z c else word_in ef.thread ef.request (c - MEMORY_BYTES)) e_writes
      ∙ ap (λ (z : Option RequestEffect). if nat_lt c MEMORY_BYTES then None else word_in ef.thread z (c - MEMORY_BYTES)) e_request
      ∙ nones (nat_lt c MEMORY_BYTES) (ef.thread == (c - MEMORY_BYTES))
    where
      nones : (x z : Bool) → Path (Option ℕ) (if x then None else (if z then None else None)) None
      nones true z = refl
      nones false true = refl
      nones false false = refl

  reads_in : (c : ℕ) → views.reads_cell ef c ≡ true → reads_cell d u.seen c ≡ true
  reads_in c k = go (nat_lt c MEMORY_BYTES) refl (sym
      (ap (λ z. if nat_lt c MEMORY_BYTES then is_in_range z c else is_thread ef.word_read (c - MEMORY_BYTES)) e_reads
      ∙ ap (λ (o : Option ℕ). if nat_lt c MEMORY_BYTES then false else is_thread o (c - MEMORY_BYTES)) e_word) ∙ k)
    where
      go : (x : Bool) → nat_lt c MEMORY_BYTES ≡ x → (if x then false else (thread_in u.seen.moment == (c - MEMORY_BYTES))) ≡ true → reads_cell d u.seen c ≡ true
      go true e h = absurd (true≢false (sym h))
      go false e h = ap (λ (z : Bool). if z then Rattle.pg_law_plan.specs.Units.reads_byte d u.seen c else is_thread (word_read (thread_in u.seen.moment) (kind_in u.seen)) (c - MEMORY_BYTES)) e
          ∙ ap (λ (k : StepKind). is_thread (word_read (thread_in u.seen.moment) k) (c - MEMORY_BYTES)) kind0 ∙ h

  told_alike : IsToldLike u.seen.moment.did.did y
  told_alike = record {
    thread = ap (λ (v : ℕ). record { 0 = v }) own;
    instr = same_instr;
    turn = ap (λ (k : StepKind). turn_at y (happening_in k)) kind
        ∙ ap (λ (v : ℕ). Some (record { thread = record { 0 = v }; instr = y.instr; kind = turns.Start; object = thread_in u.seen.moment })) own
        ∙ ap (λ i. Some (record { thread = u.seen.moment.did.did.thread; instr = i; kind = turns.Start; object = thread_in u.seen.moment })) same_instr
        ∙ sym (ap (λ (k : StepKind). turn_at u.seen.moment.did.did (happening_in k)) kind0);
    reply = ap reply_in kind ∙ sym (ap reply_in kind0);
  }

  pub start_fits : Fits (like input) (deed_of d u) (deed_moved r.program input st moves y)
  start_fits = record {
    thread = own;
    to = record {
      moves = ap (λ (v : ℕ). suc (moves v)) own ∙ ap suc units;
      stands = subst (λ (v : ℕ). StandLike input (standing_of u.local (thread_of u.known (thread_in u.seen.moment)).calls) (effect_of r.program input st v).local) (sym own)
          (rw (known_is, local0, local) (start_like r.program input (thread_in u.seen.moment) b.function answer0 answer (slice_index_or u.seen.before.words (thread_in u.seen.moment) unset)
          (subst (λ (n : ℕ). IsLike input (slice_index_or u.seen.before.words (thread_in u.seen.moment) unset) (Some n)) (sym (ap (answer_to input st (thread_in u.seen.moment)) act)) argument)));
    };
    told = told_alike;
    objects = objects_alike;
    cells = λ c s m k. rw (none_if (writes_cell d u.seen c) (cell_known u.known c) (wc c), cw c) k;
    reads = λ c k. or_left (reads_cell d u.seen c) _ (reads_in c k);
    writes = λ c k. absurd (true≢false (sym k ∙ ap is_some (cw c)));
  }
