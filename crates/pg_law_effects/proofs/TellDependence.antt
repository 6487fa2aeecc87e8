-- What a step tells depends on what its effect depends on.
use Rattle.std.proofs.Common.{◌≡◌, ℕ, ℤ, List, length, Bool, true, false, Option, Some, None, Result, Ok, Err, refl, sym, ◌∙◌, ap}
use Rattle.std.specs.Prelude.{slice_get, slice_index, is_some}
use Rattle.pg_num.specs.Places.{ByteRange}
use Rattle.pg_ir.specs.declared.ids.InstrId.{InstrId}
use Rattle.pg_ir.specs.declared.request.Request.{Request}
use Rattle.pg_ir.specs.declared.request.Request.TheVariants as requests
use Rattle.pg_ir.specs.declared.request.TrapName.{TrapName}
use Rattle.pg_ir.specs.Program.{NumberedProgram}
use Rattle.pg_run.specs.pg_run_objects.Sync as sync
use Rattle.pg_run_thread.specs.declared.action.Action.{Action}
use Rattle.pg_run_thread.specs.declared.action.Action.TheVariants as actions
use Rattle.pg_run_thread.specs.LocalState.{LocalState}
use Rattle.pg_run.specs.pg_run_trace.declared.step.Step.{Step}
use Rattle.pg_run.specs.pg_run_trace.declared.step.StepKind.{StepKind}
use Rattle.pg_run.specs.pg_run_trace.declared.step.StepKind.TheVariants as told
use Rattle.pg_run.specs.pg_run_trace.declared.step.Write.{Write}
use Rattle.pg_run.specs.pg_run_trace.Kinds.{kind_of, object_of}
use Rattle.pg_run.specs.State.{State, action_in, id_in, instr_of, next_of}
use Rattle.pg_run.specs.MachineStep.{Answered, answered, instr_told, is_gated, kind_told, number_in, operands_in, settled, step, step_told, taken, write_told}
use Rattle.pg_law_effects.specs.Effect.{effect_of}
use Rattle.pg_law_effects.specs.Meets.{AgreeFor}
use Rattle.pg_law_effects.specs.Told.{tells}
use Rattle.pg_law_effects.proofs.StepDependence.{AgreeBy, answered_alike, next_alike}

instr_alike : (s z : State) (t : ℕ) → slice_get s.locals t ≡ slice_get z.locals t → instr_of s t ≡ instr_of z t
unfolding instr_of
instr_alike s z t e = ap id_in e

-- ---- the kind of the step

write_alike : (p : NumberedProgram) (input : List ℤ) (s z : State) (t : ℕ) (ns : List ℕ) (r : Request) → AgreeBy p input s z t (actions.Event r) → write_told s ns r ≡ write_told z ns r
write_alike p input s z t ns (requests.Create r f n) h = ap (λ (m : ℕ). Some (record { pointer = slice_index ns 0; number = m })) (h.threads refl)
write_alike p input s z t ns (requests.Join n (Some r)) h = ap (λ (m : ℕ). Some (record { pointer = slice_index ns 1; number = m })) h.word
write_alike p input s z t ns (requests.Join n None) h = refl
write_alike p input s z t ns r h = refl

kind_alike : (gated : List InstrId) (p : NumberedProgram) (input : List ℤ) (s z : State) (t : ℕ) (ns : List ℕ) (a n : ℕ) (action : Action) → AgreeBy p input s z t action
    → kind_told gated p s t ns a n action ≡ kind_told gated p z t ns a n action
kind_alike gated p input s z t ns a n actions.Local h = ap (λ (i : ℕ). instr_told ns n (slice_get p.instrs i)) (instr_alike s z t h.local)
kind_alike gated p input s z t ns a n (actions.Load r) h =
    ap (λ (i : ℕ). told.Access (record { pointer = slice_index ns 0; number = a; bytes = r.bytes; writes = false; event = is_gated gated i })) (instr_alike s z t h.local)
kind_alike gated p input s z t ns a n (actions.Store r m) h =
    ap (λ (i : ℕ). told.Access (record { pointer = slice_index ns 1; number = m; bytes = r.bytes; writes = true; event = is_gated gated i })) (instr_alike s z t h.local)
kind_alike gated p input s z t ns a n (actions.Event r) h =
    ap (λ (y : sync.Sync). told.Event (record { kind = kind_of r; object = object_of t (length y.threads) r; operands = ns; reply = n; write = write_told s ns r })) (h.objects refl)
    ∙ ap (λ (w : Option Write). told.Event (record { kind = kind_of r; object = object_of t (length z.sync.threads) r; operands = ns; reply = n; write = w })) (write_alike p input s z t ns r h)
kind_alike gated p input s z t ns a n action h = refl

-- ---- the step

told_with : ℕ → ℕ → StepKind → Step
told_with t i k = record { thread = record { 0 = t }; instr = record { 0 = i }; kind = k }

told_alike : (gated : List InstrId) (p : NumberedProgram) (input : List ℤ) (s z : State) (t a : ℕ) → AgreeBy p input s z t (next_of p s t) → step_told gated p s t a ≡ step_told gated p z t a
unfolding told_with
told_alike gated p input s z t a h =
    ap (λ (i : ℕ). told_with t i (kind_told gated p s t (operands_in p (slice_get s.locals t)) a (number_in p (slice_get s.locals t) a) (next_of p s t))) (instr_alike s z t h.local)
    ∙ ap (told_with t (instr_of z t)) (kind_alike gated p input s z t (operands_in p (slice_get s.locals t)) a (number_in p (slice_get s.locals t) a) (next_of p s t) h)
    ∙ ap (λ (o : Option LocalState). told_with t (instr_of z t) (kind_told gated p z t (operands_in p o) a (number_in p o a) (next_of p s t))) h.local
    ∙ ap (λ (action : Action). told_with t (instr_of z t) (kind_told gated p z t (operands_in p (slice_get z.locals t)) a (number_in p (slice_get z.locals t) a) action))
    (next_alike p s z t h.local)

-- what the step of thread t tells, by what was answered
tells_by : List InstrId → NumberedProgram → State → ℕ → Result ℕ TrapName → Result Step (TrapName × ℕ)
tells_by gated p s t (Ok a) = Ok (step_told gated p s t a)
tells_by gated p s t (Err name) = Err (name, instr_of s t)

tells_is : (gated : List InstrId) (p : NumberedProgram) (input : List ℤ) (s : State) (t : ℕ) → tells (step gated p input s t) ≡ tells_by gated p s t (answered p input s t (next_of p s t)).1
unfolding step tells_by
tells_is gated p input s t = go (answered p input s t (next_of p s t))
  where
    go : (o : Answered) → tells (settled gated p s t (taken p s t o)) ≡ tells_by gated p s t o.1
    go (z, Err name) = refl
    go (z, Ok a) = refl

tells_same : (gated : List InstrId) (p : NumberedProgram) (input : List ℤ) (s z : State) (t : ℕ) (q : Result ℕ TrapName) → AgreeBy p input s z t (next_of p s t)
    → tells_by gated p s t q ≡ tells_by gated p z t q
unfolding tells_by
tells_same gated p input s z t (Err name) h = ap (λ (n : ℕ). Err (name, n)) (instr_alike s z t h.local)
tells_same gated p input s z t (Ok a) h = ap (λ (x : Step). Ok x) (told_alike gated p input s z t a h)

pub tells_alike : (gated : List InstrId) (p : NumberedProgram) (input : List ℤ) (s z : State) (t : ℕ) → AgreeFor (effect_of p input s t) s z
    → tells (step gated p input s t) ≡ tells (step gated p input z t)
unfolding effect_of
tells_alike gated p input s z t h =
    tells_is gated p input s t
    ∙ tells_same gated p input s z t (answered p input s t (next_of p s t)).1 h
    ∙ ap (tells_by gated p z t) (answered_alike p input s z t (next_of p s t) h ∙ ap (λ (a : Action). (answered p input z t a).1) (next_alike p s z t h.local))
    ∙ sym (tells_is gated p input z t)
