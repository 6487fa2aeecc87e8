-- A rotation run of main alone, step by step: which of its steps are events, and how it goes on and ends.
use Rattle.std.specs.Prelude.{◌&&◌, IfOk, is_some, if◌then◌else◌}
use Rattle.std.specs.List.{cons_option, filter_map, list_all}
use Rattle.std.proofs.Common.{◌≡◌, ℕ, ℤ, suc, ◌+◌, ◌-◌, ◌<◌, ◌≤◌, ◌==◌, List, [], ◌∷◌, ◌++◌, length, map, Bool, true, false, Option, Some, None, Result, Ok, Err}
use Rattle.std.proofs.Common.{refl, sym, ap, ◌∙◌, arith, length-append}
use Rattle.std.proofs.lemmas.List.{map-append}
use Rattle.std.proofs.lemmas.List.Elements.{filter_map-append}
use Rattle.std.proofs.lemmas.List.Folds.{list_all-append}
use Rattle.std.proofs.lemmas.Option.{same_Some}
use Rattle.std.specs.Prelude.{slice_get}
use Rattle.pg_run_trace.specs.pg_ir.declared.ids.InstrId.{InstrId}
use Rattle.pg_run_trace.specs.pg_ir.declared.instr.Instr.{Instr}
use Rattle.pg_run_trace.specs.pg_ir.declared.instr.Op.{Op}
use Rattle.pg_run_trace.specs.pg_ir.declared.instr.Op.TheVariants as op
use Rattle.pg_run_trace.specs.pg_ir.declared.library_call.LibraryCall.{LibraryCall}
use Rattle.pg_run_trace.specs.pg_ir.declared.library_call.LibraryCall.TheVariants as known
use Rattle.pg_run_trace.specs.pg_ir.declared.request.TrapName.{TrapName}
use Rattle.pg_run_trace.specs.pg_ir.Program.{NumberedProgram}
use Rattle.pg_run_thread.specs.declared.action.Action.{Action}
use Rattle.pg_run_thread.specs.declared.action.Action.TheVariants as actions
use Rattle.pg_run_thread.specs.declared.advance.LocalStep.{LocalStep}
use Rattle.pg_run_thread.specs.declared.advance.LocalStep.TheVariants as locals
use Rattle.pg_run_trace.specs.declared.step.Happening.{Happening}
use Rattle.pg_run_trace.specs.declared.step.Step.{Step}
use Rattle.pg_run_trace.specs.declared.step.StepKind.{StepKind}
use Rattle.pg_run_trace.specs.declared.turn.Turn.{Turn}
use Rattle.pg_run_trace.specs.Races.{kind_gated, with_gated}
use Rattle.pg_run_trace.specs.Steps.{event_of, events, happening_in, turn_at}
use Rattle.pg_run.specs.declared.alone.Left.{Left}
use Rattle.pg_run.specs.declared.outcome.Outcome.{Outcome}
use Rattle.pg_run.specs.declared.outcome.Outcome.TheVariants as ends
use Rattle.pg_run.specs.declared.outcome.Refusal.TheVariants as refusals
use Rattle.pg_run.specs.declared.share.Share.{Share}
use Rattle.pg_run.specs.Alone.{Passed, RunAlone, StepLeft, TurnLeft, are_mains, count_of, is_asking}
use Rattle.pg_run.specs.Machine.{IsMachine}
use Rattle.pg_run.specs.MachineStep.{Answered, Did, MayTake, Stepped, Trapped, answered, instr_told, kind_told, library_told, number_in, op_told, operands_in, settled, step, step_told, taken}
use Rattle.pg_run.specs.Rotation.{RunResult, chosen, first_share, on_step, onto, run, stop}
use Rattle.pg_run.specs.State.{State, initial, instr_of, next_of}
use Rattle.pg_run.specs.Taken.{state_with, trapped_in}
use Rattle.pg_run.specs.Went.{Went, kind_of}
use Rattle.pg_run.proofs.Rotations.{chosen_stays, onto_onto, onto_stop, run_chosen, run_here, run_limit, run_start}
use Rattle.pg_run.proofs.StepsBegin.{ready_made}

-- ---- which steps are events

abbrev has_event : StepKind → Bool
has_event k = is_some (happening_in (kind_gated false k))

turn_some : (x : Step) (o : Option Happening) → is_some (turn_at x o) ≡ is_some o
turn_some x None = refl
turn_some x (Some h) = refl

event_is : (x : Step) → is_some (event_of (with_gated [] x)) ≡ has_event x.kind
event_is x = turn_some (with_gated [] x) (happening_in (kind_gated false x.kind))

known_plain : (ns : List ℕ) (n : ℕ) (k : LibraryCall) → has_event (library_told ns n k) ≡ false
known_plain ns n known.Malloc = refl
known_plain ns n k = refl

op_plain : (ns : List ℕ) (n : ℕ) (o : Op) → has_event (op_told ns n o) ≡ false
op_plain ns n (op.CondBr c a b) = refl
op_plain ns n (op.Switch w on other cases) = refl
op_plain ns n (op.Alloca bytes) = refl
op_plain ns n (op.CallLibrary k args) = known_plain ns n k
op_plain ns n o = refl

instr_plain : (ns : List ℕ) (n : ℕ) (o : Option Instr) → has_event (instr_told ns n o) ≡ false
instr_plain ns n None = refl
instr_plain ns n (Some x) = op_plain ns n x.op

kind_asks : (p : NumberedProgram) (s : State) (t : ℕ) (ns : List ℕ) (answer n : ℕ) (action : Action) → has_event (kind_told [] p s t ns answer n action) ≡ is_asking action
kind_asks p s t ns answer n actions.Local = instr_plain ns n (slice_get p.instrs (instr_of s t))
kind_asks p s t ns answer n (actions.Load r) = refl
kind_asks p s t ns answer n (actions.Store r m) = refl
kind_asks p s t ns answer n (actions.Event r) = refl
kind_asks p s t ns answer n action = refl

local_plain : (x : LocalStep) → has_event (kind_of x) ≡ false
local_plain locals.Other = refl
local_plain (locals.Branch n) = refl
local_plain (locals.Allocation operand result) = refl

-- ---- one step

settled_did : (p : NumberedProgram) (s : State) (t : ℕ) (a : Answered) → trapped_in (settled [] p s t a) ≡ None
    → (n : ℕ) × (settled [] p s t a ≡ Did (step_told [] p s t n) (state_with s (settled [] p s t a)))
settled_did p s t (z, Err name) e = absurd cc
settled_did p s t (z, Ok n) e = (n, refl)

did : (p : NumberedProgram) (input : List ℤ) (s : State) (t : ℕ) → trapped_in (step [] p input s t) ≡ None
    → (n : ℕ) × (step [] p input s t ≡ Did (step_told [] p s t n) (state_with s (step [] p input s t)))
unfolding step
did p input s t e = settled_did p s t (taken p s t (answered p input s t (next_of p s t))) e

pub step_left : (p : NumberedProgram) (input : List ℤ) (s z : State) (u : Share) (action : Action) (is_event : Bool) → MayTake p s u.thread.0 action
    → trapped_in (step [] p input s u.thread.0) ≡ None → z ≡ state_with s (step [] p input s u.thread.0) → is_event ≡ is_asking action
    → StepLeft p input s u z (Ok (record { share = record { thread = u.thread; left = u.left - 1 }; is_event = is_event }))
step_left p input s z u action is_event h e w a =
    let t = u.thread.0 in
    let d = did p input s t e in
    let x = step_told [] p s t d.0 in
    let o = slice_get s.locals t in (
      x,
      record {
        made = ready_made p s t h.1;
        event = event_is x ∙ kind_asks p s t (operands_in p o) d.0 (number_in p o d.0) (next_of p s t) ∙ ap is_asking (sym h.0) ∙ sym a;
      },
      λ more. ap (λ (y : Stepped). on_step s u y more) d.1 ∙ ap (λ (y : State). onto (x ∷ []) (more y (record { thread = u.thread; left = u.left - 1 }))) (sym w),
    )

on_stop : (s : State) (u : Share) (o : Stepped) (name : TrapName) (at : InstrId) (more : State → Share → RunResult) → trapped_in o ≡ Some (name, at)
    → on_step s u o more ≡ stop (state_with s o) (ends.Refused (refusals.Trap name at))
on_stop s u (Did x t) name at more e = absurd cc
on_stop s u (Trapped n id) name at more e =
    let same : Path (TrapName × InstrId) (n, record { 0 = id }) (name, at) = same_Some _ _ e in
    ap (λ (x : TrapName × InstrId). stop s (ends.Refused (refusals.Trap x.0 x.1))) same

pub step_stops : (p : NumberedProgram) (input : List ℤ) (s z : State) (u : Share) (name : TrapName) (at : InstrId) → trapped_in (step [] p input s u.thread.0) ≡ Some (name, at)
    → z ≡ state_with s (step [] p input s u.thread.0) → StepLeft p input s u z (Err (ends.Refused (refusals.Trap name at)))
step_stops p input s z u name at e w = λ more.
    on_stop s u (step [] p input s u.thread.0) name at more e ∙ ap (λ (y : State). stop y (ends.Refused (refusals.Trap name at))) (sym w)

-- ---- one turn

pub turn_left : {E : Type 0} (p : NumberedProgram) (input : List ℤ) (q : ℕ) (s z : State) (u v : Share) (r : Result (Result Left Outcome) E) → chosen p q s u ≡ Ok v
    → IfOk r (StepLeft p input s v z) → IfOk r (TurnLeft p input q s u z)
turn_left p input q s z u v (Err e) c h = tt
turn_left p input q s z u v (Ok (Ok l)) c h = (h.0, h.1, λ n. run_chosen p input q n s u (Ok v) c ∙ h.2 (run n p input q))
turn_left p input q s z u v (Ok (Err e)) c h = λ n. run_chosen p input q n s u (Ok v) c ∙ h (run n p input q)

pub turn_over : (p : NumberedProgram) (input : List ℤ) (q : ℕ) (s : State) (u : Share) (e : Outcome) → chosen p q s u ≡ Err e → TurnLeft p input q s u s (Err e)
turn_over p input q s u e c = λ n. run_chosen p input q n s u (Err e) c

pub own_left : (p : NumberedProgram) (input : List ℤ) (q : ℕ) (s z : State) (u : Share) (x : LocalStep) → Went p s z u.thread.0 x → 0 < u.left
    → TurnLeft p input q s u z (Ok (record { share = record { thread = u.thread; left = u.left - 1 }; is_event = false }))
own_left p input q s z u x w l =
    let t = u.thread.0 in
    let told : Step = record { thread = record { 0 = t }; instr = record { 0 = instr_of s t }; kind = kind_of x } in (
      told,
      record { made = ready_made p s t w.ready_is; event = event_is told ∙ local_plain x },
      λ n. run_chosen p input q n s u (Ok u) (chosen_stays p q s u w.ready_is l) ∙ ap (λ (o : Stepped). on_step s u o (run n p input q)) (w.step_is [] input),
    )

-- ---- the steps so far

one_event : (o : Option Turn) → length (cons_option o []) ≡ (if is_some o then 1 else 0)
one_event None = refl
one_event (Some u) = refl

count_more : (told : List Step) (x : Step) → count_of (told ++ x ∷ []) ≡ count_of told + (if is_some (event_of (with_gated [] x)) then 1 else 0)
count_more told x =
    let y = with_gated [] x in
    ap (λ (ts : List Step). length (events ts)) (map-append (with_gated []) told (x ∷ []))
    ∙ ap length (filter_map-append event_of (map (with_gated []) told) (y ∷ []))
    ∙ length-append (events (map (with_gated []) told)) (events (y ∷ []))
    ∙ ap (λ (n : ℕ). count_of told + n) (one_event (event_of y))

mains_more : (told : List Step) (x : Step) → are_mains told ≡ true → x.thread.0 ≡ 0 → are_mains (told ++ x ∷ []) ≡ true
mains_more told x h z = list_all-append (λ (y : Step). y.thread.0 == 0) told (x ∷ []) ∙ rw (h, z) refl

-- after i steps, which are main's: so many are events, and the run goes on from here
pub record SoFar (p : NumberedProgram) (input : List ℤ) (q limit i : ℕ) (s : State) (u : Share) (count : ℕ) : Type 0 where
  pub told : List Step
  pub of : IsMachine p s
  pub one : length s.locals ≤ 1
  pub few : count ≤ i
  pub mains : are_mains told ≡ true
  pub counted : count ≡ count_of told
  pub same : onto told (run (limit - i) p input q s u) ≡ run limit p input q (initial p) (first_share q)

first_one : (p : NumberedProgram) → length (initial p).locals ≤ 1
unfolding initial
first_one p = omega arith

pub begun : (p : NumberedProgram) (input : List ℤ) (q limit : ℕ) (s : State) → s ≡ initial p → IsMachine p s → SoFar p input q limit 0 s (first_share q) 0
begun p input q limit s e m = record {
  told = [];
  of = m;
  one = rw e (first_one p);
  few = omega arith;
  mains = refl;
  counted = refl;
  same = run_start p input q limit s (initial p) (first_share q) [] refl e;
}

few_more : (count i k : ℕ) (b : Bool) → count ≤ i → k ≡ count + (if b then 1 else 0) → k ≤ i + 1
few_more count i k true h e = omega (arith, h, e)
few_more count i k false h e = omega (arith, h, e)

pub goes : (p : NumberedProgram) (input : List ℤ) (q limit i : ℕ) (s z : State) (u : Share) (l : Left) (count k : ℕ) → SoFar p input q limit i s u count → i < limit
    → TurnLeft p input q s u z (Ok l) → IsMachine p z → length z.locals ≤ 1 → k ≡ count + (if l.is_event then 1 else 0) → SoFar p input q limit (i + 1) z l.share k
goes p input q limit i s z u l count k h w t m o e = record {
  told = h.told ++ t.0 ∷ [];
  of = m;
  one = o;
  few = few_more count i k l.is_event h.few e;
  mains = mains_more h.told t.0 h.mains (let a = t.1.made in let b = h.one in omega (arith, a, b));
  counted = e ∙ ap (λ (n : ℕ). n + (if l.is_event then 1 else 0)) h.counted ∙ ap (λ (b : Bool). count_of h.told + (if b then 1 else 0)) (sym t.1.event) ∙ sym (count_more h.told t.0);
  same =
      sym (ap (onto h.told) (t.2 (limit - (i + 1))) ∙ onto_onto h.told (t.0 ∷ []) (run (limit - (i + 1)) p input q z l.share))
      ∙ run_here p input q limit i s u h.told _ w h.same;
}

alone_by : (told : List Step) (z : State) (e : Outcome) (count : ℕ) (r : RunResult) → r ≡ record { trace = told; state = z; end = e } → are_mains told ≡ true → count ≡ count_of told
    → RunAlone r z e count
alone_by told z e count r k m c = record {
  state = sym (ap (λ (x : RunResult). x.state) k);
  end = sym (ap (λ (x : RunResult). x.end) k);
  mains = ap (λ (x : RunResult). are_mains x.trace) k ∙ m;
  counted = c ∙ sym (ap (λ (x : RunResult). count_of x.trace) k);
}

pub ended : (p : NumberedProgram) (input : List ℤ) (q limit i : ℕ) (s z : State) (u : Share) (e : Outcome) (count : ℕ) → SoFar p input q limit i s u count → i < limit
    → TurnLeft p input q s u z (Err e) → RunAlone (run limit p input q (initial p) (first_share q)) z e count
ended p input q limit i s z u e count h w t = alone_by h.told z e count _
    (sym (run_here p input q limit i s u h.told _ w h.same) ∙ ap (onto h.told) (t (limit - (i + 1))) ∙ onto_stop h.told z e) h.mains h.counted

pub limited : (p : NumberedProgram) (input : List ℤ) (q limit i : ℕ) (s : State) (u : Share) (e : Outcome) (count : ℕ) → SoFar p input q limit i s u count → limit ≤ i
    → run 0 p input q s u ≡ stop s e → RunAlone (run limit p input q (initial p) (first_share q)) s e count
limited p input q limit i s u e count h w t = alone_by h.told s e count _ (run_limit p input q limit i s u e h.told _ w t h.same) h.mains h.counted
