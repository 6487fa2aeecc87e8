-- A create makes another thread than the main one.
use Rattle.std.proofs.Common.{◌≡◌, ℕ, ℤ, List, length, Bool, true, false, Option, Some, None, refl, sym, ◌∙◌, ap, arith}
use Rattle.std.specs.Prelude.{slice_get}
use Rattle.pg_seats.specs.pg_num.Places.{ByteRange}
use Rattle.pg_seats.specs.pg_ir.declared.ids.InstrId.{InstrId}
use Rattle.pg_seats.specs.pg_ir.declared.request.Request.{Request}
use Rattle.pg_seats.specs.pg_ir.declared.request.Request.TheVariants as requests
use Rattle.pg_seats.specs.pg_ir.Program.{NumberedProgram}
use Rattle.pg_seats.specs.pg_run_thread.declared.action.Action.{Action}
use Rattle.pg_seats.specs.pg_run_thread.declared.action.Action.TheVariants as actions
use Rattle.pg_seats.specs.pg_run_thread.LocalState.{LocalState}
use Rattle.pg_seats.specs.pg_run_thread.Step.{next}
use Rattle.pg_seats.specs.pg_run_trace.declared.schedule.Schedule.{Schedule}
use Rattle.pg_seats.specs.pg_run_trace.declared.step.Happening.{Happening}
use Rattle.pg_seats.specs.pg_run_trace.declared.turn.Turn.{Turn}
use Rattle.pg_seats.specs.pg_run_trace.declared.turn.TurnKind.{TurnKind}
use Rattle.pg_seats.specs.pg_run_trace.declared.turn.TurnKind.TheVariants as kinds
use Rattle.pg_seats.specs.pg_run_trace.Kinds.{kind_of}
use Rattle.pg_seats.specs.pg_run_trace.Steps.{event_of}
use Rattle.pg_seats.specs.pg_run.MachineStep.{happening_if, happening_of, turn_of, turn_with}
use Rattle.pg_seats.specs.pg_run.State.{State, next_of}
use Rattle.pg_seats.proofs.of_pg_run.StepsBegin.{ready_made}
use Rattle.pg_seats.proofs.of_pg_law_effects.ToldByStep.{event_is}
use Rattle.pg_seats.specs.pg_law_effects.PermittedSteps.{none_taken}
use Rattle.pg_seats.specs.pg_law_runs.Cuts.{CanRun}
use Rattle.pg_seats.specs.pg_law_runs.Deeds.{Did, is_event_at}
use Rattle.pg_seats.specs.pg_law_order.Good.{IsGoodRun}
use Rattle.pg_seats.specs.pg_law_course.Course.{before, course, state_at}
use Rattle.pg_seats.specs.pg_law_course.Plan.{first_seen, guided_deeds}
use Rattle.pg_seats.specs.pg_law_course.Steps.{IsStepOf, happening_by, made_by}
use Rattle.pg_seats.specs.pg_law_course.Threads.{is_create}
use Rattle.pg_seats.proofs.of_pg_law_course.CoursePlaces.{Place, place}
use Rattle.pg_seats.proofs.of_pg_law_course.CourseSteps.{is_step, step_at}
use Rattle.pg_seats.proofs.of_pg_law_course.StartFunctions.{Knows}
use Rattle.pg_seats.proofs.of_pg_law_course.StepsInRun.{StepIn}

-- ---- the thread that a create's turn names

module _ (gated : List InstrId) (s : State) (t : ℕ) where
  abbrev kind_in : Option Turn → Option TurnKind
  kind_in None = None
  kind_in (Some v) = Some v.kind

  abbrev object_in : Option Turn → Option ℕ
  object_in None = None
  object_in (Some v) = Some v.object

  same_number : (m n : ℕ) → Path (Option ℕ) (Some m) (Some n) → m ≡ n
  same_number m n e = cc

  no_create : (b : Bool) (kind : TurnKind) (o : ℕ) (u : Turn) → is_create kind ≡ false → turn_with s t (happening_if b kind o) ≡ Some u → is_create u.kind ≡ true → ⊥
  no_create true kind o u k e c =
      let q : Path (Option TurnKind) (Some kind) (Some u.kind) = ap kind_in e in
      let same : kind ≡ u.kind = cc in
      let z : true ≡ false = sym c ∙ ap is_create (sym same) ∙ k in
      absurd cc
  no_create false kind o u k e c = absurd cc

  other_request : (r : Request) (u : Turn) → turn_with s t (happening_of gated s t (actions.Event r)) ≡ Some u → is_create u.kind ≡ true → is_create (kind_of r) ≡ true
  other_request r u e c = go (kind_of r) (ap kind_in e)
    where
      go : (k : TurnKind) → Path (Option TurnKind) (Some k) (Some u.kind) → is_create k ≡ true
      go k q = let same : k ≡ u.kind = cc in ap is_create same ∙ c

  made_next : (action : Action) (u : Turn) → turn_with s t (happening_of gated s t action) ≡ Some u → is_create u.kind ≡ true → u.object ≡ length s.sync.threads
  made_next (actions.Event (requests.Create q f n)) u e c = sym (same_number _ _ (ap object_in e))
  made_next (actions.Event r) u e c = absurd (let k = other_request r u e c in cc)
  made_next (actions.Load q) u e c = absurd (no_create _ kinds.Load q.start u refl e c)
  made_next (actions.Store q n) u e c = absurd (no_create _ kinds.Store q.start u refl e c)
  made_next action u e c = absurd cc

same_kind : (a b : Happening) → Some a ≡ Some b → a.kind ≡ b.kind
same_kind a b e = let s : a ≡ b = cc in ap (λ (h : Happening). h.kind) s

module _ (p : NumberedProgram) (input : List ℤ) (s : Schedule) (can : CanRun p input) (g : IsGoodRun p input s) (t k : ℕ) (l : LocalState) (d : Did)
    (own : slice_get (course p input s t) k ≡ Some d) (now : state_at p input s t k ≡ Some l) where
  abbrev front : List Did
  front = before t k (guided_deeds p input s)

  of : IsStepOf p input s t k l d
  of = is_step p input s can g t k l d own now

  at : Place t k (guided_deeds p input s) d
  at = place t k (guided_deeds p input s) d own

  r : StepIn s.gated p input s.turns (Knows p s.turns) none_taken (first_seen p) 0 front d
  r = step_at p input s can g front d at.rest at.split

  told_is : r.told ≡ d.told
  told_is = ap (λ (y : Did). y.told) r.is_deed

  its_turn : event_of r.told ≡ turn_with r.state r.told.thread.0 (happening_of s.gated r.state r.told.thread.0 (next_of p r.state r.told.thread.0))
  unfolding turn_of
  its_turn = event_is s.gated p input r.state r.takes.after r.told.thread.0 r.told r.takes.is_step

  pub makes_another : (q : ByteRange) (f n : ℕ) → next p l ≡ actions.Event (requests.Create q f n) → made_by (event_of d.told) ≡ 0 → ⊥
  makes_another q f n e first =
      let u = of.turn (of.event ∙ ap (is_event_at s.gated _) e) in
      let kind : kinds.Create ≡ u.0.kind = same_kind _ _ (sym (ap (happening_by t u.0.object) e) ∙ u.2.happens) in
      let there : event_of r.told ≡ Some u.0 = ap event_of told_is ∙ u.1 in
      let object : u.0.object ≡ length r.state.sync.threads = made_next s.gated r.state r.told.thread.0 (next_of p r.state r.told.thread.0) u.0 (sym its_turn ∙ there) (ap is_create (sym kind)) in
      let none : u.0.object ≡ 0 = ap made_by (sym u.1) ∙ first in
      let made = ready_made p r.state r.told.thread.0 r.takes.is_ready in
      let threads = r.reached.machine.threads in
      omega (arith, object, none, made, threads)
