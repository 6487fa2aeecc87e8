-- What a step does, by the local state of its thread before it.
use Rattle.std.proofs.Common.{◌≡◌, ℕ, ℤ, ◌-◌, ◌<◌, List, Bool, true, false, Option, Some, None, refl, sym, ◌∙◌, ap, subst, arith}
use Rattle.std.specs.Prelude.{◌&&◌, ◌||◌, not, nat_lt, is_some, IfSome, slice_get, if◌then◌else◌}
use Rattle.pg_num.specs.declared.layout.TheConstants.{MEMORY_BYTES}
use Rattle.pg_num.specs.declared.limits.TheConstants.{THREAD_LIMIT}
use Rattle.pg_num.specs.Places.{ByteRange}
use Rattle.pg_ir.specs.declared.ids.InstrId.{InstrId}
use Rattle.pg_ir.specs.declared.request.Request.{Request}
use Rattle.pg_ir.specs.declared.request.Request.TheVariants as requests
use Rattle.pg_ir.specs.Program.{NumberedProgram}
use Rattle.pg_law_threads.specs.Effects.{deeds}
use Rattle.pg_run_memory.specs.Memory as memory
use Rattle.pg_run_objects.specs.Sync as sync
use Rattle.pg_run_thread.specs.declared.action.Action.{Action}
use Rattle.pg_run_thread.specs.declared.action.Action.TheVariants as actions
use Rattle.pg_run_thread.specs.LocalState.{LocalState}
use Rattle.pg_run_thread.specs.Step.{after, next}
use Rattle.pg_run_thread.specs.Told.{id_of, number_given}
use Rattle.pg_run_trace.specs.declared.step.Access.{Access}
use Rattle.pg_run_trace.specs.declared.step.Step.{Step}
use Rattle.pg_run_trace.specs.declared.turn.Turn.{Turn}
use Rattle.pg_run_trace.specs.Kinds.{kind_of}
use Rattle.pg_run_trace.specs.Races.{reads_in, reply_in, reply_of}
use Rattle.pg_run_trace.specs.Steps.{access_in, access_of, event_of}
use Rattle.pg_run.specs.MachineStep.{answer_of, happening_of, kind_told, number_in as number_told, operands_in, turn_of, turn_with}
use Rattle.pg_run.specs.State.{State, instr_of, next_of}
use Rattle.pg_run.specs.Runs.{Takes}
use Rattle.pg_run.proofs.ActionPlaces.{next_named}
use Rattle.pg_run.proofs.StepsBegin.{next_is, ready_acts, ready_made}
use Rattle.pg_law_runs.specs.pg_law_effects.Effect.{Write, answer_to, effect_of, own_after, request_effect, write_of}
use Rattle.pg_law_runs.specs.pg_law_effects.Meets.{byte_in, is_in}
use Rattle.pg_law_runs.specs.pg_law_effects.Reached.{IsReached}
use Rattle.pg_law_runs.specs.pg_law_effects.Views.{cell_at, word_in as effect_word}
use Rattle.pg_law_runs.proofs.of_pg_law_effects.ThreadLimits.{did_allowed}
use Rattle.pg_law_runs.proofs.of_pg_law_effects.ToldByStep.{event_is}
use Rattle.pg_law_runs.specs.Deeds.{deed_of, goes_on, is_event_at}
use Rattle.pg_law_runs.proofs.DeedDependence.{deed_event, goes_by}
use Rattle.pg_law_runs.proofs.StepRules.{instr_is, turn_is}
use Rattle.pg_law_runs.proofs.ToldCells.{told}
use Rattle.pg_law_course.specs.Plan.{is_shared}
use Rattle.pg_law_course.specs.Steps.{Accessed, access_by, accessed, answer_by, happening_by, is_shared_action, made_by, number_in, reads_by, stored, thread_named, write_by, writes_by}
use Rattle.pg_law_course.proofs.ActionCells.{Makes, read_same, word_left_same, write_same}
use Rattle.pg_law_course.proofs.NamedThreads.{few_named}
use Rattle.pg_law_course.proofs.RepliesAlong.{request_resumes}
use Rattle.pg_law_course.proofs.ToldActions.{access_at, happens_by, kind_access, shared_by, told_answer, turn_happens, turn_instr, turn_thread}

accessed_some : (o : Option Access) (b : Bool) → is_some (accessed o) ≡ b → is_some o ≡ b
accessed_some None b e = e
accessed_some (Some a) b e = e

reads_accessed : (o : Option Access) (r : Accessed) (b : ℕ) → accessed o ≡ Some r → reads_in o b ≡ (not r.writes && is_in r.at b)
reads_accessed None r b e = absurd cc
reads_accessed (Some a) r b e = go _ e
  where
    go : (q : Accessed) → Path (Option Accessed) (Some q) (Some r) → (not q.writes && is_in q.at b) ≡ (not r.writes && is_in r.at b)
    go q e = let k : q ≡ r = cc in ap (λ (y : Accessed). not y.writes && is_in y.at b) k

module _ (gated : List InstrId) (p : NumberedProgram) (input : List ℤ) (v : State) (counts : ℕ → ℕ) (x : Step) (l : LocalState) (reached : IsReached p v) (takes : Takes gated p input v x)
    (made : slice_get v.locals x.thread.0 ≡ Some l) (cells : ℕ → ℕ) (same : (c : ℕ) → cells c ≡ cell_at v c) where
  action_is : next_of p v x.thread.0 ≡ next p l
  action_is = next_is p v x.thread.0 l made

  at_instr : instr_of v x.thread.0 ≡ id_of l
  at_instr = instr_is v x.thread.0 l made

  pub goes : goes_on (next p l) ≡ true
  goes = ap goes_on (sym action_is)
      ∙ (goes_by gated p input v x.thread.0 (next_of p v x.thread.0) (did_allowed gated p input v takes.after x.thread.0 x takes.is_step) (ready_acts p v x.thread.0 takes.is_ready)).0

  event_turn : event_of x ≡ turn_of gated p v x.thread.0
  event_turn = event_is gated p input v takes.after x.thread.0 x takes.is_step

  event_with : event_of x ≡ turn_with v x.thread.0 (happening_of gated v x.thread.0 (next_of p v x.thread.0))
  unfolding turn_of
  event_with = event_turn

  pub event : deeds.is_event (deed_of p input v counts x) ≡ is_event_at gated (id_of l) (next p l)
  event = deed_event gated p input v counts x ∙ ap is_some event_turn ∙ turn_is gated p v x.thread.0 ∙ ap (λ (i : ℕ). is_event_at gated i (next_of p v x.thread.0)) at_instr
      ∙ ap (is_event_at gated (id_of l)) action_is

  -- ---- the turn

  pub turn_at : (u : Turn) → event_of x ≡ Some u
      → (u.thread.0 ≡ x.thread.0) × (u.instr.0 ≡ id_of l) × (happening_by x.thread.0 u.object (next p l) ≡ Some (record { kind = u.kind; object = u.object }))
  turn_at u e =
      let k : turn_with v x.thread.0 (happening_of gated v x.thread.0 (next_of p v x.thread.0)) ≡ Some u = sym event_with ∙ e in (
        turn_thread v x.thread.0 (happening_of gated v x.thread.0 (next_of p v x.thread.0)) u k,
        turn_instr v x.thread.0 (happening_of gated v x.thread.0 (next_of p v x.thread.0)) u k ∙ at_instr,
        ap (happening_by x.thread.0 u.object) (sym action_is)
            ∙ happens_by gated v x.thread.0 (next_of p v x.thread.0) u.kind u.object (turn_happens v x.thread.0 (happening_of gated v x.thread.0 (next_of p v x.thread.0)) u k),
      )

  makes_by : (action : Action) → next_of p v x.thread.0 ≡ action → Makes v (made_by (event_of x)) action
  makes_by (actions.Event (requests.Create q f n)) e = ap made_by (event_with ∙ ap (λ (a : Action). turn_with v x.thread.0 (happening_of gated v x.thread.0 a)) e) ∙ reached.machine.threads
  makes_by (actions.Event r) e = tt
  makes_by action e = tt

  -- ---- threads

  pub thread : x.thread.0 < THREAD_LIMIT
  thread = let k = ready_made p v x.thread.0 takes.is_ready in let f = reached.machine.few in omega (arith, k, f)

  pub named : IfSome (thread_named (made_by (event_of x)) (next p l)) (λ u. u < THREAD_LIMIT)
  named = subst (λ (a : Action). IfSome (thread_named (made_by (event_of x)) a) (λ u. u < THREAD_LIMIT)) action_is
      (few_named p v x.thread.0 (made_by (event_of x)) (next_of p v x.thread.0) reached.machine (did_allowed gated p input v takes.after x.thread.0 x takes.is_step) (makes_by (next_of p v x.thread.0) refl))

  -- ---- the access

  answers : ℕ
  answers = answer_to input v x.thread.0 (next_of p v x.thread.0)

  kind_is : x.kind ≡ kind_told gated p v x.thread.0 (operands_in p (slice_get v.locals x.thread.0)) answers (number_told p (slice_get v.locals x.thread.0) answers) (next_of p v x.thread.0)
  unfolding answers
  kind_is = ap (λ (y : Step). y.kind) (told_answer gated p input v takes.after x.thread.0 x takes.is_step)

  access_there : accessed (access_of x) ≡ access_at v answers (next_of p v x.thread.0)
  access_there = ap (λ k. accessed (access_in k)) kind_is
      ∙ kind_access gated p v x.thread.0 (operands_in p (slice_get v.locals x.thread.0)) answers (number_told p (slice_get v.locals x.thread.0) answers) (next_of p v x.thread.0) (next_named p v x.thread.0)

  is_some_access : (o : Option Accessed) → accessed (access_of x) ≡ o → is_some (access_of x) ≡ is_some o
  is_some_access o e = accessed_some (access_of x) (is_some o) (ap is_some e)

  pub shared : is_shared (deed_of p input v counts x) ≡ is_shared_action (next p l)
  shared = ap (λ (b : Bool). b || is_some (access_of x)) event ∙ ap (λ (b : Bool). is_event_at gated (id_of l) (next p l) || b) (is_some_access (access_at v answers (next_of p v x.thread.0)) access_there)
      ∙ ap (λ (a : Action). is_event_at gated (id_of l) (next p l) || is_some (access_at v answers a)) action_is ∙ shared_by gated (id_of l) v answers (next p l)

  -- a load reads cells of memory
  load_within : (q : ByteRange) → next_of p v x.thread.0 ≡ actions.Load q → (b : ℕ) → is_in q b ≡ true → b < MEMORY_BYTES
  load_within q e b h = (told gated p input v counts x takes).read_within b
      (reads_accessed (access_of x) (record { at = q; number = answers; writes = false }) b (access_there ∙ ap (access_at v answers) e) ∙ h)

  load_same : (q : ByteRange) → next_of p v x.thread.0 ≡ actions.Load q → memory.read v.memory q ≡ number_in cells q
  load_same q e = read_same v cells same q (load_within q e)

  access_same : (action : Action) → next_of p v x.thread.0 ≡ action → access_at v (answer_to input v x.thread.0 action) action ≡ access_by cells (made_by (event_of x)) action
  access_same (actions.Load q) e = ap (λ (n : ℕ). Some (record { at = q; number = n; writes = false })) (load_same q e)
  access_same (actions.Store q n) e = refl
  access_same (actions.Event r) e = ap stored (write_same v cells same (made_by (event_of x)) (actions.Event r) (makes_by (actions.Event r) e))
  access_same action e = refl

  pub access : accessed (access_of x) ≡ access_by cells (made_by (event_of x)) (next p l)
  unfolding answers
  access = access_there ∙ access_same (next_of p v x.thread.0) refl ∙ ap (access_by cells (made_by (event_of x))) action_is

  -- ---- cells

  reads_there : (c : ℕ) → (deed_of p input v counts x).reads c ≡ reads_by x.thread.0 (next_of p v x.thread.0) c
  unfolding effect_of
  reads_there c = refl

  pub reads : (c : ℕ) → (deed_of p input v counts x).reads c ≡ reads_by x.thread.0 (next p l) c
  reads c = reads_there c ∙ ap (λ (a : Action). reads_by x.thread.0 a c) action_is

  writes_there : (c : ℕ) → (deed_of p input v counts x).writes c
      ≡ (if nat_lt c MEMORY_BYTES then byte_in (write_of v (next_of p v x.thread.0)) c else effect_word x.thread.0 (request_effect p v x.thread.0 (next_of p v x.thread.0)) (c - MEMORY_BYTES))
  unfolding effect_of
  writes_there c = refl

  pub writes : (c : ℕ) → (deed_of p input v counts x).writes c ≡ writes_by cells x.thread.0 (made_by (event_of x)) (next p l) c
  writes c =
      let m = makes_by (next_of p v x.thread.0) refl in
      writes_there c
      ∙ ap (λ (w : Option Write). if nat_lt c MEMORY_BYTES then byte_in w c else effect_word x.thread.0 (request_effect p v x.thread.0 (next_of p v x.thread.0)) (c - MEMORY_BYTES))
      (write_same v cells same (made_by (event_of x)) (next_of p v x.thread.0) m)
      ∙ ap (λ (o : Option ℕ). if nat_lt c MEMORY_BYTES then byte_in (write_by cells (made_by (event_of x)) (next_of p v x.thread.0)) c else o)
      (word_left_same v cells same p x.thread.0 (made_by (event_of x)) (next_of p v x.thread.0) m (c - MEMORY_BYTES))
      ∙ ap (λ (a : Action). writes_by cells x.thread.0 (made_by (event_of x)) a c) action_is

  -- ---- the local state

  -- the schedule's reply is what is told of an event
  abbrev pub IsReply : ℕ → Type 0
  IsReply reply = (n : ℕ) → reply_in x.kind ≡ Some n → reply ≡ n

  reply_told : (r : Request) → next_of p v x.thread.0 ≡ actions.Event r
      → reply_in x.kind ≡ Some (reply_of (kind_of r) (number_given p l (answer_of v x.thread.0 (sync.done v.sync x.thread.0 r).1 r)))
  unfolding answers
  reply_told r e = ap reply_in kind_is ∙ ap (λ (a : Action). reply_in (kind_told gated p v x.thread.0 (operands_in p (slice_get v.locals x.thread.0)) (answer_to input v x.thread.0 a)
      (number_told p (slice_get v.locals x.thread.0) (answer_to input v x.thread.0 a)) a)) e
      ∙ ap (λ (o : Option LocalState). Some (reply_of (kind_of r) (number_told p o (answer_of v x.thread.0 (sync.done v.sync x.thread.0 r).1 r)))) made

  resumes_by : (reply : ℕ) → IsReply reply → (action : Action) → next_of p v x.thread.0 ≡ action
      → after p l (answer_to input v x.thread.0 action) ≡ after p l (answer_by input cells x.thread.0 reply action)
  resumes_by reply h (actions.Load q) e = ap (after p l) (load_same q e)
  resumes_by reply h (actions.Event r) e = request_resumes p input v x.thread.0 l cells same r (sym action_is ∙ e)
      ∙ ap (λ (n : ℕ). after p l (answer_by input cells x.thread.0 n (actions.Event r))) (sym (h _ (reply_told r e)))
  resumes_by reply h action e = refl

  local_there : (deed_of p input v counts x).to.local ≡ own_after p answers (slice_get v.locals x.thread.0)
  unfolding effect_of answers
  local_there = refl

  pub resumes : (reply : ℕ) → IsReply reply → (deed_of p input v counts x).to.local ≡ Some (after p l (answer_by input cells x.thread.0 reply (next p l)))
  unfolding answers
  resumes reply h = local_there ∙ ap (own_after p answers) made ∙ ap (λ (m : LocalState). Some m) (resumes_by reply h (next_of p v x.thread.0) refl)
      ∙ ap (λ (a : Action). Some (after p l (answer_by input cells x.thread.0 reply a))) action_is
