-- A seat may take the step of its thread: what the thread asks by its local state is what the seat's view allows.
use Rattle.std.proofs.Common.{◌≡◌, ℕ, ◌+◌, ◌-◌, ◌==◌, ◌&&◌, ◌||◌, not, Bool, true, false, Option, Some, None, refl, sym, ap, ◌∙◌, subst, arith}
use Rattle.std.specs.Prelude.{nat_lt, is_some, slice_get, if◌then◌else◌}
use Rattle.std.proofs.lemmas.Bool.{eq-eqb, le-ltb}
use Rattle.pg_law_course.specs.pg_num.Places.{ByteRange}
use Rattle.pg_law_course.specs.pg_num.declared.layout.TheConstants.{MEMORY_BYTES}
use Rattle.pg_law_course.specs.pg_ir.declared.request.Request.{Request}
use Rattle.pg_law_course.specs.pg_ir.declared.request.Request.TheVariants as requests
use Rattle.pg_law_course.proofs.of_pg_run_memory.Places.{same_number}
use Rattle.pg_law_course.specs.pg_law_threads.Effects.{deeds}
use Rattle.pg_law_course.specs.pg_law_threads.Intervals.{Timed, timed}
use Rattle.pg_law_course.specs.pg_run_thread.declared.action.Action.{Action}
use Rattle.pg_law_course.specs.pg_run_thread.declared.action.Action.TheVariants as actions
use Rattle.pg_law_course.specs.pg_run_thread.LocalState.{LocalState}
use Rattle.pg_law_course.specs.pg_run_thread.Told.{id_of}
use Rattle.pg_law_course.specs.pg_run_trace.declared.step.Access.{Access}
use Rattle.pg_law_course.specs.pg_run_trace.declared.step.Happening.{Happening}
use Rattle.pg_law_course.specs.pg_run_trace.declared.step.Step.{Step}
use Rattle.pg_law_course.specs.pg_run_trace.declared.step.StepKind.{StepKind}
use Rattle.pg_law_course.specs.pg_run_trace.declared.step.StepKind.TheVariants as told
use Rattle.pg_law_course.specs.pg_run_trace.declared.turn.Turn.{Turn}
use Rattle.pg_law_course.specs.pg_run_trace.declared.turn.TurnKind.TheVariants as kinds
use Rattle.pg_law_course.specs.pg_run_trace.Steps.{access_kind, access_of, event_of, happening_in, range_of, turn_at}
use Rattle.pg_law_course.specs.pg_law_runs.Deeds.{Did, is_event_at}
use Rattle.pg_law_course.specs.Plan.{is_shared}
use Rattle.pg_law_course.specs.Steps.{Accessed, IsStepOf, access_by, accessed, happening_by, is_shared_action, made_by, number_in, word_in}
use Rattle.pg_law_course.proofs.CourseSteps.{is_step, turn_high}
use Rattle.pg_law_course.proofs.SharedPlaces.{same_cells, shared_place}
use Rattle.pg_seats.specs.declared.run.Standing.{Standing}
use Rattle.pg_seats.specs.declared.run.View.TheVariants.{Worker}
use Rattle.pg_seats.specs.Plan.{cells_there, own_of, turns_in}
use Rattle.pg_seats.specs.Steps.{StandsBefore, action_of, leaves_of, parts_of, run_cells, stores_of, turns_there}
use Rattle.pg_seats.specs.Views.{bit, fits, has_number, has_store, has_word, is_due, is_number, is_plain, is_range, is_turn, is_write, kind_leaves, leaves_word, may_advance, may_hear, may_load, may_put, may_read, may_say, may_store, needs, next_of, number_there, reads_at, says, word_there, writes_at}
use Rattle.pg_seats.proofs.Changes.{some_same}
use Rattle.pg_seats.proofs.Moves.{next_some, there}

and_true : (a b : Bool) → a ≡ true → b ≡ true → (a && b) ≡ true
and_true a b e f = rw (e, f) refl

same_as_itself : (n : ℕ) → (n == n) ≡ true
same_as_itself n = eq-eqb n n refl

-- ---- what is told of an access

range_fits : (q : ByteRange) (a : Access) → range_of a ≡ q → is_range q a ≡ true
range_fits q a e = and_true ((range_of a).start == q.start) ((range_of a).bytes == q.bytes)
    (eq-eqb (range_of a).start q.start (ap (λ (r : ByteRange). r.start) e)) (eq-eqb (range_of a).bytes q.bytes (ap (λ (r : ByteRange). r.bytes) e))

reads_told : (o : Option Access) (q : ByteRange) (n : ℕ) → accessed o ≡ Some (record { at = q; number = n; writes = false }) → reads_at q o ≡ true
reads_told None q n e = absurd cc
reads_told (Some a) q n e =
    let f : Path Accessed (record { at = range_of a; number = a.number; writes = a.writes }) (record { at = q; number = n; writes = false }) =
    some_same (record { at = range_of a; number = a.number; writes = a.writes }) (record { at = q; number = n; writes = false }) e in
    and_true (not a.writes) (is_range q a) (ap (λ (x : Accessed). not x.writes) f) (range_fits q a (ap (λ (x : Accessed). x.at) f))

writes_told : (o : Option Access) (q : ByteRange) (n : ℕ) → accessed o ≡ Some (record { at = q; number = n; writes = true }) → (writes_at q o && has_number n o) ≡ true
writes_told None q n e = absurd cc
writes_told (Some a) q n e =
    let f : Path Accessed (record { at = range_of a; number = a.number; writes = a.writes }) (record { at = q; number = n; writes = true }) =
    some_same (record { at = range_of a; number = a.number; writes = a.writes }) (record { at = q; number = n; writes = true }) e in
    and_true (a.writes && is_range q a) (a.number == n) (and_true a.writes (is_range q a) (ap (λ (x : Accessed). x.writes) f) (range_fits q a (ap (λ (x : Accessed). x.at) f)))
    (eq-eqb a.number n (ap (λ (x : Accessed). x.number) f))

-- whether it writes
abbrev written : Option Accessed → Bool
written None = false
written (Some x) = x.writes

write_told : (o : Option Access) → is_write o ≡ written (accessed o)
write_told None = refl
write_told (Some a) = refl

write_asked : (cells : ℕ → ℕ) (made : ℕ) (action : Action) → written (access_by cells made action) ≡ stores_of action
write_asked cells made (actions.Load q) = refl
write_asked cells made (actions.Store q n) = refl
write_asked cells made (actions.Event r) = event r
  where
    event : (r : Request) → written (access_by cells made (actions.Event r)) ≡ stores_of (actions.Event r)
    event (requests.Create q f n) = refl
    event (requests.Join u (Some q)) = refl
    event (requests.Join u None) = refl
    event r = refl
write_asked cells made action = refl

-- ---- the kind of a turn

happens_kind : (x y : Happening) → Some x ≡ Some y → x.kind ≡ y.kind
happens_kind x y e = ap (λ (z : Happening). z.kind) (some_same x y e)

turn_kind : (x : Step) (o : Option Happening) (h : Happening) (u : Turn) → o ≡ Some h → turn_at x o ≡ Some u → h.kind ≡ u.kind
turn_kind x o h u e f =
    let g : turn_at x (Some h) ≡ Some u = ap (turn_at x) (sym e) ∙ f in
    ap (λ (v : Turn). v.kind) (some_same (record { thread = x.thread; instr = x.instr; kind = h.kind; object = h.object }) u g)

leaves_told : (x : Step) (k : StepKind) (u : Turn) → turn_at x (happening_in k) ≡ Some u → leaves_word k ≡ kind_leaves u.kind
leaves_told x (told.Event e) u f = ap kind_leaves (turn_kind x (Some (record { kind = e.kind; object = e.object })) (record { kind = e.kind; object = e.object }) u refl f)
leaves_told x (told.Access a) u f = go a.event refl
  where
    plain : (w : Bool) → kind_leaves (access_kind w) ≡ false
    plain true = refl
    plain false = refl

    go : (b : Bool) → a.event ≡ b → leaves_word (told.Access a) ≡ kind_leaves u.kind
    go true e =
        let h : Happening = record { kind = access_kind a.writes; object = Rattle.pg_law_course.specs.pg_num.Pointers.byte_place a.pointer } in
        let i : happening_in (told.Access a) ≡ Some h = ap (λ b. if b then Some h else None) e in
        sym (plain a.writes) ∙ ap kind_leaves (turn_kind x (happening_in (told.Access a)) h u i f)
    go false e =
        let h : Happening = record { kind = access_kind a.writes; object = Rattle.pg_law_course.specs.pg_num.Pointers.byte_place a.pointer } in
        let i : happening_in (told.Access a) ≡ None = ap (λ b. if b then Some h else None) e in
        absurd (let g : turn_at x None ≡ Some u = ap (turn_at x) (sym i) ∙ f in cc)
leaves_told x k u f = absurd cc

leaves_asked : (t object : ℕ) (action : Action) (h : Happening) → happening_by t object action ≡ Some h → kind_leaves h.kind ≡ leaves_of action
leaves_asked t object (actions.Load q) h e = ap kind_leaves (sym (happens_kind (record { kind = kinds.Load; object = q.start }) h e))
leaves_asked t object (actions.Store q n) h e = ap kind_leaves (sym (happens_kind (record { kind = kinds.Store; object = q.start }) h e))
leaves_asked t object (actions.Event r) h e =
    ap kind_leaves (sym (happens_kind (record { kind = Rattle.pg_law_course.specs.pg_run_trace.Kinds.kind_of r; object = Rattle.pg_law_course.specs.pg_run_trace.Kinds.object_of t object r }) h e))
leaves_asked t object action h e = absurd cc

-- ---- the step

module _ (w : Standing) (k : ℕ) (l : LocalState) (d : Did) (h : StandsBefore w k l d) where
  abbrev T : Timed Did
  T = timed deeds (turns_in w.run) (turns_there w k) d

  step : IsStepOf w.run.program w.run.input w.run.schedule w.thread k l d
  step = is_step w.run.program w.run.input w.run.schedule h.run_is.can h.run_is.good w.thread k l d h.step h.local

  module _ (shared : is_shared d ≡ true) where
    pub next : next_of w ≡ Some T
    next = next_some w T (subst (λ m. slice_get (own_of w.run w.thread) m ≡ Some T) (sym h.done)
        (shared_place w.run.program w.run.input w.run.schedule h.run_is.can h.run_is.good w.thread k d h.step shared))

    pub cells : (c : ℕ) → cells_there w.run w.thread w.done c ≡ run_cells w k c
    cells c =
        ap (λ m. cells_there w.run w.thread m c) h.done ∙ sym (there w.run w.thread (Rattle.pg_law_course.specs.Course.shared_in w.run.program w.run.input w.run.schedule w.thread k) c)
        ∙ same_cells w.run.program w.run.input w.run.schedule h.run_is.can h.run_is.good w.thread k d h.step shared c

    pub number : (q : ByteRange) → number_there (Worker w) q ≡ number_in (run_cells w k) q
    number q = same_number (cells_there w.run w.thread w.done) (run_cells w k) q.start q.start q.bytes (λ i lt. cells (q.start + i))

    pub word : (t : ℕ) → word_there (Worker w) t ≡ word_in (run_cells w k) t
    word t = cells (MEMORY_BYTES + t)

    fits_next : (f : Timed Did → Bool) → f T ≡ true → fits f (next_of w) ≡ true
    fits_next f e = ap (fits f) next ∙ e

    pub due : deeds.is_event d ≡ true → is_due w (turns_there w k) ≡ true
    due e = fits_next (is_turn (turns_there w k)) (and_true (deeds.is_event d) (T.high == turns_there w k) e
        (eq-eqb T.high (turns_there w k) (turn_high w.run.program w.run.input w.run.schedule h.run_is.can h.run_is.good w.thread k d h.step e)))

  abbrev made : ℕ
  made = made_by (event_of d.told)

  shared_by : (action : Action) → action_of w l ≡ action → is_shared_action action ≡ true → is_shared d ≡ true
  shared_by action e f = step.shared ∙ ap is_shared_action e ∙ f

  access : (action : Action) → action_of w l ≡ action → accessed (access_of d.told) ≡ access_by (run_cells w k) made action
  access action e = step.access ∙ ap (access_by (run_cells w k) made) e

  pub load : (q : ByteRange) → action_of w l ≡ actions.Load q → deeds.is_event d ≡ false → may_load (Worker w) q ≡ true
  load q e plain = fits_next (shared_by (actions.Load q) e refl) (λ x. is_plain x && reads_at q (access_of x.did.told))
      (and_true (not (deeds.is_event d)) (reads_at q (access_of d.told)) (ap not plain) (reads_told (access_of d.told) q (number_in (run_cells w k) q) (access (actions.Load q) e)))

  pub read : (q : ByteRange) → action_of w l ≡ actions.Load q → w.due ≡ true → may_read (Worker w) q ≡ true
  read q e is = and_true w.due (fits (λ x. reads_at q (access_of x.did.told)) (next_of w)) is
      (fits_next (shared_by (actions.Load q) e refl) (λ x. reads_at q (access_of x.did.told)) (reads_told (access_of d.told) q (number_in (run_cells w k) q) (access (actions.Load q) e)))

  pub store : (q : ByteRange) (n : ℕ) → action_of w l ≡ actions.Store q n → deeds.is_event d ≡ false → may_store (Worker w) q n ≡ true
  store q n e plain = fits_next (shared_by (actions.Store q n) e refl) (λ x. is_plain x && (writes_at q (access_of x.did.told) && has_number n (access_of x.did.told)))
      (and_true (not (deeds.is_event d)) (writes_at q (access_of d.told) && has_number n (access_of d.told)) (ap not plain) (writes_told (access_of d.told) q n (access (actions.Store q n) e)))

  -- ---- a turn

  module _ (event : deeds.is_event d ≡ true) where
    chosen : is_shared d ≡ true
    chosen = ap (λ b. b || is_some (access_of d.told)) event

    word_left : has_word d ≡ leaves_of (action_of w l)
    word_left =
        let u = step.turn event in
        leaves_told d.told d.told.kind u.0 u.1 ∙ leaves_asked w.thread u.0.object (action_of w l) (record { kind = u.0.kind; object = u.0.object }) u.2.happens

    store_has : has_store d ≡ stores_of (action_of w l)
    store_has = write_told (access_of d.told) ∙ ap written step.access ∙ write_asked (run_cells w k) made (action_of w l)

    pub needs_are : needs d ≡ parts_of (action_of w l)
    needs_are = ap (λ b. bit b + bit (has_store d)) word_left ∙ ap (λ b. bit (leaves_of (action_of w l)) + bit b) store_has

    pub end : w.due ≡ true → w.parts ≡ parts_of (action_of w l) → may_advance (Worker w) ≡ true
    end is e = and_true w.due (fits (λ x. w.parts == needs x.did) (next_of w)) is (fits_next chosen (λ x. w.parts == needs x.did) (eq-eqb w.parts (needs d) (e ∙ sym needs_are)))

    pub put : (q : ByteRange) (n : ℕ) → access_by (run_cells w k) made (action_of w l) ≡ Some (record { at = q; number = n; writes = true }) → w.due ≡ true → w.parts ≡ bit (leaves_of (action_of w l))
        → may_put (Worker w) q n ≡ true
    put q n e is parts = and_true w.due (fits (λ x. (w.parts == bit (has_word x.did)) && (writes_at q (access_of x.did.told) && has_number n (access_of x.did.told))) (next_of w)) is
        (fits_next chosen (λ x. (w.parts == bit (has_word x.did)) && (writes_at q (access_of x.did.told) && has_number n (access_of x.did.told)))
        (and_true (w.parts == bit (has_word d)) (writes_at q (access_of d.told) && has_number n (access_of d.told)) (eq-eqb w.parts (bit (has_word d)) (parts ∙ ap bit (sym word_left)))
        (writes_told (access_of d.told) q n (step.access ∙ e))))

    pub say : (t n : ℕ) → d.writes (MEMORY_BYTES + t) ≡ Some n → leaves_of (action_of w l) ≡ true → w.due ≡ true → w.parts ≡ 0 → may_say (Worker w) t n ≡ true
    say t n e leaves is parts = and_true w.due (fits (λ x. (w.parts == 0) && says t n x.did) (next_of w)) is
        (fits_next chosen (λ x. (w.parts == 0) && says t n x.did)
        (and_true (w.parts == 0) (says t n d) (eq-eqb w.parts 0 parts) (and_true (has_word d) (is_number n (d.writes (MEMORY_BYTES + t))) (word_left ∙ leaves) (ap (is_number n) e ∙ same_as_itself n))))

    pub hear : (t : ℕ) → d.reads (MEMORY_BYTES + t) ≡ true → w.due ≡ true → w.parts ≡ 0 → may_hear (Worker w) t ≡ true
    hear t e is parts = and_true w.due (fits (λ x. (w.parts == 0) && x.did.reads (MEMORY_BYTES + t)) (next_of w)) is
        (fits_next chosen (λ x. (w.parts == 0) && x.did.reads (MEMORY_BYTES + t)) (and_true (w.parts == 0) (d.reads (MEMORY_BYTES + t)) (eq-eqb w.parts 0 parts) e))

  -- ---- by what is asked

  behind : (t : ℕ) → nat_lt (MEMORY_BYTES + t) MEMORY_BYTES ≡ false
  behind t = le-ltb (MEMORY_BYTES + t) MEMORY_BYTES (omega arith)

  at_word : (t : ℕ) → MEMORY_BYTES + t - MEMORY_BYTES ≡ t
  at_word t = omega arith

  reads_word : (r : Request) → action_of w l ≡ actions.Event r → (t : ℕ) → Rattle.pg_law_course.specs.pg_law_effects.Effect.word_asked w.thread r ≡ Some t → d.reads (MEMORY_BYTES + t) ≡ true
  reads_word r e t asked =
      step.reads (MEMORY_BYTES + t)
      ∙ ap (λ a. if nat_lt (MEMORY_BYTES + t) MEMORY_BYTES then Rattle.pg_law_course.specs.pg_law_effects.Meets.is_in_range (Rattle.pg_law_course.specs.pg_law_effects.Effect.range_read a) (MEMORY_BYTES + t)
      else Rattle.pg_law_course.specs.pg_law_effects.Views.is_thread (Rattle.pg_law_course.specs.pg_law_effects.Effect.word_read_by w.thread a) (MEMORY_BYTES + t - MEMORY_BYTES)) e
      ∙ ap (λ b. if b then Rattle.pg_law_course.specs.pg_law_effects.Meets.is_in_range (Rattle.pg_law_course.specs.pg_law_effects.Effect.range_read (actions.Event r)) (MEMORY_BYTES + t)
      else Rattle.pg_law_course.specs.pg_law_effects.Views.is_thread (Rattle.pg_law_course.specs.pg_law_effects.Effect.word_asked w.thread r) (MEMORY_BYTES + t - MEMORY_BYTES)) (behind t)
      ∙ ap (λ o. Rattle.pg_law_course.specs.pg_law_effects.Views.is_thread o (MEMORY_BYTES + t - MEMORY_BYTES)) asked ∙ eq-eqb t (MEMORY_BYTES + t - MEMORY_BYTES) (sym (at_word t))

  is_event : (r : Request) → action_of w l ≡ actions.Event r → deeds.is_event d ≡ true
  is_event r e = step.event ∙ ap (is_event_at w.run.schedule.gated (id_of l)) e

  pub start : action_of w l ≡ actions.Event requests.Start → w.due ≡ true → w.parts ≡ 0 → may_hear (Worker w) w.thread ≡ true
  start e = hear (is_event requests.Start e) w.thread (reads_word requests.Start e w.thread refl)

  pub join : (u : ℕ) (q : ByteRange) → action_of w l ≡ actions.Event (requests.Join u (Some q)) → w.due ≡ true → w.parts ≡ 0 → may_hear (Worker w) u ≡ true
  join u q e = hear (is_event (requests.Join u (Some q)) e) u (reads_word (requests.Join u (Some q)) e u refl)

  pub join_store : (u : ℕ) (q : ByteRange) → action_of w l ≡ actions.Event (requests.Join u (Some q)) → w.due ≡ true → w.parts ≡ 0 → may_put (Worker w) q (word_in (run_cells w k) u) ≡ true
  join_store u q e is parts = put (is_event (requests.Join u (Some q)) e) q (word_in (run_cells w k) u) (ap (access_by (run_cells w k) made) e) is (parts ∙ sym (ap (λ a. bit (leaves_of a)) e))

  pub gated_store : (q : ByteRange) (n : ℕ) → action_of w l ≡ actions.Store q n → deeds.is_event d ≡ true → w.due ≡ true → w.parts ≡ 0 → may_put (Worker w) q n ≡ true
  gated_store q n e event is parts = put event q n (ap (access_by (run_cells w k) made) e) is (parts ∙ sym (ap (λ a. bit (leaves_of a)) e))

  pub create_store : (q : ByteRange) (f n : ℕ) → action_of w l ≡ actions.Event (requests.Create q f n) → w.due ≡ true → w.parts ≡ 1 → may_put (Worker w) q made ≡ true
  create_store q f n e is parts = put (is_event (requests.Create q f n) e) q made (ap (access_by (run_cells w k) made) e) is (parts ∙ sym (ap (λ a. bit (leaves_of a)) e))

  writes_word : (action : Action) (t n : ℕ) → action_of w l ≡ action → Rattle.pg_law_course.specs.Steps.word_by w.thread made action t ≡ Some n → d.writes (MEMORY_BYTES + t) ≡ Some n
  writes_word action t n e left =
      step.writes (MEMORY_BYTES + t)
      ∙ ap (λ a. Rattle.pg_law_course.specs.Steps.writes_by (run_cells w k) w.thread made a (MEMORY_BYTES + t)) e
      ∙ ap (λ b. if b then Rattle.pg_law_course.specs.pg_law_effects.Meets.byte_in (Rattle.pg_law_course.specs.Steps.write_by (run_cells w k) made action) (MEMORY_BYTES + t)
      else Rattle.pg_law_course.specs.Steps.word_by w.thread made action (MEMORY_BYTES + t - MEMORY_BYTES)) (behind t)
      ∙ ap (Rattle.pg_law_course.specs.Steps.word_by w.thread made action) (at_word t) ∙ left

  own_word : (t n : ℕ) → (if t == t then Some n else None) ≡ Some n
  own_word t n = ap (λ b. if b then Some n else None) (same_as_itself t)

  pub create : (q : ByteRange) (f n : ℕ) → action_of w l ≡ actions.Event (requests.Create q f n) → w.due ≡ true → w.parts ≡ 0 → may_say (Worker w) made n ≡ true
  create q f n e = say (is_event (requests.Create q f n) e) made n (writes_word (actions.Event (requests.Create q f n)) made n e (own_word made n)) (ap leaves_of e)

  pub exit : (n : ℕ) (is_return : Bool) → action_of w l ≡ actions.Event (requests.Exit n is_return) → w.due ≡ true → w.parts ≡ 0 → may_say (Worker w) w.thread n ≡ true
  exit n is_return e = say (is_event (requests.Exit n is_return) e) w.thread n (writes_word (actions.Event (requests.Exit n is_return)) w.thread n e (own_word w.thread n)) (ap leaves_of e)
