-- A run prints what its steps tell that they print.
use Rattle.std.proofs.Common.{◌≡◌, ℕ, ℤ, Bool, List, [], ◌∷◌, ◌++◌, Option, Some, None, refl, sym, ◌∙◌, ap, append-nil, append_assoc}
use Rattle.std.specs.Prelude.{slice_get}
use Rattle.pg_ir.specs.declared.ids.InstrId.{InstrId}
use Rattle.pg_ir.specs.declared.instr.Instr.{Instr}
use Rattle.pg_ir.specs.declared.instr.Op.{Op}
use Rattle.pg_ir.specs.declared.instr.Op.TheVariants as op
use Rattle.pg_ir.specs.declared.library_call.LibraryCall.{LibraryCall}
use Rattle.pg_ir.specs.declared.library_call.LibraryCall.TheVariants as known
use Rattle.pg_ir.specs.declared.request.Request.{Request}
use Rattle.pg_ir.specs.declared.request.Request.TheVariants as requests
use Rattle.pg_ir.specs.Program.{NumberedProgram}
use Rattle.pg_ir.specs.WellFormed.{IsProgram}
use Rattle.pg_run_thread.specs.declared.action.Action.{Action}
use Rattle.pg_run_thread.specs.declared.action.Action.TheVariants as actions
use Rattle.pg_run_thread.specs.LocalState.{LocalState}
use Rattle.pg_run_thread.specs.Step.{next}
use Rattle.pg_run_thread.specs.Told.{id_of, operand_values}
use Rattle.pg_run_trace.specs.declared.step.Step.{Step}
use Rattle.pg_run_trace.specs.declared.step.StepKind.{StepKind}
use Rattle.pg_run.specs.MachineStep.{instr_told, kind_told, library_told, number_in, op_told, operands_in}
use Rattle.pg_run.specs.State.{State, instr_of, next_of}
use Rattle.pg_run.specs.Runs.{IsRun, Takes}
use Rattle.pg_run.specs.Texts.{printed_by}
use Rattle.pg_run.proofs.StepsBegin.{next_is, ready_made}
use Rattle.pg_law_runs.specs.pg_law_effects.Effect.{answer_to, effect, effect_of, printed_with, request_effect}
use Rattle.pg_law_runs.proofs.of_pg_law_effects.ReachedStates.{present}
use Rattle.pg_law_runs.proofs.of_pg_law_effects.StepsApart.{left_by}
use Rattle.pg_law_runs.proofs.StepRules.{instr_is}
use Rattle.pg_law_course.specs.Prints.{ends_line, number_printed, number_told, output_of, text_told}
use Rattle.pg_law_course.proofs.NamedOperands.{printed_char, printed_out}
use Rattle.pg_law_course.proofs.ToldActions.{told_answer}

-- ---- steps that print nothing

IsSilent : Option Instr → StepKind → Type 0
IsSilent i k = (text_told i k ≡ []) × (number_told k ≡ None)

silent_known : (i : Option Instr) (ns : List ℕ) (n : ℕ) (k : LibraryCall) → IsSilent i (library_told ns n k)
unfolding IsSilent
silent_known i ns n known.Malloc = (refl, refl)
silent_known i ns n k = (refl, refl)

silent_op : (i : Option Instr) (ns : List ℕ) (n : ℕ) (o : Op) → IsSilent i (op_told ns n o)
unfolding IsSilent
silent_op i ns n (op.CondBr c a b) = (refl, refl)
silent_op i ns n (op.Switch w on other cases) = (refl, refl)
silent_op i ns n (op.Alloca bytes) = (refl, refl)
silent_op i ns n (op.CallLibrary k args) = silent_known i ns n k
silent_op i ns n o = (refl, refl)

silent_instr : (i : Option Instr) (ns : List ℕ) (n : ℕ) (o : Option Instr) → IsSilent i (instr_told ns n o)
unfolding IsSilent
silent_instr i ns n None = (refl, refl)
silent_instr i ns n (Some x) = silent_op i ns n x.op

module _ (gated : List InstrId) (p : NumberedProgram) (program : IsProgram p) (s : State) (t : ℕ) (l : LocalState) where
  -- what an action prints
  abbrev printed : Action → List ℕ
  printed action = printed_with (request_effect p s t action) []

  -- the present instruction
  abbrev here : Option Instr
  here = slice_get p.instrs (id_of l)

  abbrev Tells : Action → StepKind → Type 0
  Tells action k = (text_told here k ≡ printed action) × (number_told k ≡ number_printed action)

  told_request : (answer number : ℕ) (r : Request) → next p l ≡ actions.Event r → Tells (actions.Event r) (kind_told gated p s t (operand_values p l) answer number (actions.Event r))
  told_request answer number (requests.Out n b) e = let k = printed_out p l n b program e in (
    ap (λ (m : ℕ). printed_by (requests.Out m (ends_line here))) k.0 ∙ ap (λ (line : Bool). printed_by (requests.Out n line)) k.1,
    ap (λ (m : ℕ). Some m) k.0,
  )
  told_request answer number (requests.Putchar n) e = let k = printed_char p l n program e in (ap (λ (m : ℕ). printed_by (requests.Putchar m)) k, ap (λ (m : ℕ). Some m) k)
  told_request answer number r e = (refl, refl)

  told_by : (answer number : ℕ) (action : Action) → next p l ≡ action → Tells action (kind_told gated p s t (operand_values p l) answer number action)
  unfolding IsSilent
  told_by answer number actions.Local e = silent_instr here (operand_values p l) number (slice_get p.instrs (instr_of s t))
  told_by answer number (actions.Event r) e = told_request answer number r e
  told_by answer number action e = (refl, refl)

module _ (gated : List InstrId) (p : NumberedProgram) (input : List ℤ) (program : IsProgram p) where
  pub step_tells : (s : State) (x : Step) (l : LocalState) → Takes gated p input s x → slice_get s.locals x.thread.0 ≡ Some l
      → (text_told (slice_get p.instrs x.instr.0) x.kind ≡ printed_with (request_effect p s x.thread.0 (next_of p s x.thread.0)) []) × (number_told x.kind ≡ number_printed (next p l))
  step_tells s x l h made =
      let at_present : x.instr.0 ≡ id_of l = ap (λ (y : Step). y.instr.0) (told_answer gated p input s h.after x.thread.0 x h.is_step) ∙ instr_is s x.thread.0 l made in
      let action : next_of p s x.thread.0 ≡ next p l = next_is p s x.thread.0 l made in
      let kind : x.kind ≡ kind_told gated p s x.thread.0 (operands_in p (slice_get s.locals x.thread.0)) (answer_to input s x.thread.0 (next_of p s x.thread.0))
      (number_in p (slice_get s.locals x.thread.0) (answer_to input s x.thread.0 (next_of p s x.thread.0))) (next_of p s x.thread.0) =
      ap (λ (y : Step). y.kind) (told_answer gated p input s h.after x.thread.0 x h.is_step) in
      let kind_now : x.kind ≡ kind_told gated p s x.thread.0 (operand_values p l) (answer_to input s x.thread.0 (next_of p s x.thread.0))
      (number_in p (slice_get s.locals x.thread.0) (answer_to input s x.thread.0 (next_of p s x.thread.0))) (next p l) =
      kind ∙ ap (λ (o : Option LocalState). kind_told gated p s x.thread.0 (operands_in p o) (answer_to input s x.thread.0 (next_of p s x.thread.0))
      (number_in p (slice_get s.locals x.thread.0) (answer_to input s x.thread.0 (next_of p s x.thread.0))) (next_of p s x.thread.0)) made
      ∙ ap (kind_told gated p s x.thread.0 (operand_values p l) (answer_to input s x.thread.0 (next_of p s x.thread.0))
      (number_in p (slice_get s.locals x.thread.0) (answer_to input s x.thread.0 (next_of p s x.thread.0)))) action in
      let k = told_by gated p program s x.thread.0 l (answer_to input s x.thread.0 (next_of p s x.thread.0))
      (number_in p (slice_get s.locals x.thread.0) (answer_to input s x.thread.0 (next_of p s x.thread.0))) (next p l) refl in (
        ap (λ (i : ℕ). text_told (slice_get p.instrs i) x.kind) at_present ∙ ap (text_told (slice_get p.instrs (id_of l))) kind_now ∙ k.0
            ∙ ap (λ (a : Action). printed_with (request_effect p s x.thread.0 a) []) (sym action),
        ap number_told kind_now ∙ k.1,
      )

  more_printed : (s : State) (t : ℕ) (action : Action) → printed_with (request_effect p s t action) s.printed ≡ s.printed ++ printed_with (request_effect p s t action) []
  more_printed s t (actions.Event r) = refl
  more_printed s t action = sym (append-nil s.printed)

  printed_there : (s : State) (t : ℕ) → (effect s (effect_of p input s t)).printed ≡ printed_with (request_effect p s t (next_of p s t)) s.printed
  unfolding effect effect_of
  printed_there s t = refl

  pub run_prints : (s : State) (xs : List Step) (z : State) → IsRun gated p input s xs z → z.printed ≡ s.printed ++ output_of p xs
  run_prints s [] z h = ap (λ (v : State). v.printed) (sym h) ∙ sym (append-nil s.printed)
  run_prints s (x ∷ xs) z h =
      let y = present s x.thread.0 (ready_made p s x.thread.0 h.0.is_ready) in
      let text = (step_tells s x y.0 h.0 y.1).0 in
      let after : h.0.after.printed ≡ s.printed ++ text_told (slice_get p.instrs x.instr.0) x.kind =
      ap (λ (v : State). v.printed) (left_by gated p input s h.0.after x.thread.0 x h.0.is_step) ∙ printed_there s x.thread.0 ∙ more_printed s x.thread.0 (next_of p s x.thread.0)
      ∙ ap (λ (l : List ℕ). s.printed ++ l) (sym text) in
      run_prints h.0.after xs z h.1 ∙ ap (λ (l : List ℕ). l ++ output_of p xs) after ∙ append_assoc s.printed (text_told (slice_get p.instrs x.instr.0) x.kind) (output_of p xs)
