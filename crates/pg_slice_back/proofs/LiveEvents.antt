-- A live step that is an event.
use Rattle.std.proofs.Common.{◌≡◌, ℕ, ◌<◌, ◌≤◌, ◌==◌, Bool, true, false, [], ◌∷◌, Option, Some, None, refl, sym, ◌∙◌, subst, inl, inr, ◌⊎◌, arith}
use Rattle.std.specs.Prelude.{◌&&◌, not, if◌then◌else◌}
use Rattle.std.specs.List.{AllByRecursion}
use Rattle.std.proofs.lemmas.Bool.{true≢false, eqb-true, eq-eqb, cases_lt}
use Rattle.pg_ir.specs.declared.instr.Instr.{Instr}
use Rattle.pg_ir.specs.Program.{NumberedProgram, parameter_count}
use Rattle.pg_run_trace.specs.declared.turn.TurnKind.{TurnKind}
use Rattle.pg_run_trace.specs.declared.turn.TurnKind.TheVariants as turns
use Rattle.pg_run_trace.specs.declared.step.Step.{Step}
use Rattle.pg_run_trace.specs.declared.step.StepKind.{StepKind}
use Rattle.pg_run_trace.specs.declared.step.StepKind.TheVariants as kinds
use Rattle.pg_run_trace.specs.declared.step.Event.{Event}
use Rattle.pg_run_trace.specs.declared.step.Write.{Write}
use Rattle.pg_run_trace.specs.Steps.{range_of, write_by}
use Rattle.pg_slice_rules.specs.Moments.{Moment}
use Rattle.pg_slice_rules.specs.SymbolicValues.{is_within}
use Rattle.pg_slice_rules.specs.Known.{Reference, Taken, function_in}
use Rattle.pg_slice_passes.specs.pg_slice_replay.declared.run.ReferenceRun.{ReferenceRun}
use Rattle.pg_law_demands.specs.Cells.{IsMet, Word}
use Rattle.pg_law_demands.specs.Back.{back_byte, back_event, back_other, back_other_event, back_start, back_top, back_write, back_written, byte_demand, caller_count, is_target, of_operand, only}
use Rattle.pg_law_demands.specs.Back.{register_demand}
use Rattle.pg_law_demands.proofs.DemandsBack.{Asks}
use Rattle.pg_slice_back.specs.declared.registers.Counts.{Counts}
use Rattle.pg_slice_back.specs.Arguments.{is_putchar}
use Rattle.pg_slice_back.specs.Edges.{held_by}
use Rattle.pg_slice_back.specs.Events.{event_depth, event_sets, event_writes}
use Rattle.pg_slice_back.specs.Leaves.{Leaves}
use Rattle.pg_slice_back.specs.Steps.{IsLiveStep}
use Rattle.pg_slice_back.proofs.KnownBackOverSteps as live
use Rattle.pg_slice_back.proofs.LiveAccesses.{held_is, set_asks, target_is, unset_first}

module _ (R : Reference) (e : Taken) (p : NumberedProgram) (r : ReferenceRun) (x : Instr) (step : Step) (counts : Counts) (n : ℕ) (m : Moment) (st : IsLiveStep R e p r x step counts n m) where
  open live.standing R e p r x step counts n m st use {s, after, t, k}

  -- what lies in other threads' calls alone
  pub thread_leaves : (writes : ℕ → Bool) → ((b : ℕ) → writes b ≡ false → IsMet after (byte_demand b true) → IsMet s (byte_demand b true)) → (sets : ℕ → Bool) →
      ((i : ℕ) → sets i ≡ true) → Leaves t 0 sets writes after s
  thread_leaves writes g sets all = record {
    registers = λ v j i w o h. live.other_thread R e p r x step counts n m st v j i w (λ q. o (q, within j i (cases_lt 0 j))) h;
    bytes = g;
  }
    where
      within : (j i : ℕ) → (0 < j) ⊎ (j ≤ 0) → (0 < j) ⊎ ((j ≡ 0) × (sets i ≡ true))
      within j i (inl l) = inl l
      within j i (inr l) = inr (omega (arith, l), all i)

  module _ (v : Event) (kind : m.did.did.kind ≡ kinds.Event v) where
    not_written : (o : Option Write) (b : ℕ) → event_writes o b ≡ false → Asks e s (back_write v o b true) → IsMet s (byte_demand b true)
    not_written None b f h = h.0.0
    not_written (Some w) b f h = go (is_within (range_of (write_by w)) b) f h
      where
        go : (c : Bool) → c ≡ false → Asks e s (if c then back_written v v.kind else only (byte_demand b true ∷ [])) → IsMet s (byte_demand b true)
        go false f h = h.0.0
        go true f h = absurd (true≢false f)

    event_bytes : (b : ℕ) → event_writes v.write b ≡ false → IsMet after (byte_demand b true) → IsMet s (byte_demand b true)
    event_bytes b f h = not_written v.write b f (subst (λ (c : StepKind). Asks e s (back_byte t k n (live.region R e p r x step counts n m st) x b true c)) kind
        (live.byte_back R e p r x step counts n m st b h))

    not_started : (parameters i : ℕ) (w : Bool) → (0 == i) ≡ false → Asks e s (back_start parameters t k i w) → IsMet s (register_demand t k i w)
    not_started parameters i w f h = go (parameters == 0) (i == 0) refl h
      where
        go : (a b : Bool) → (i == 0) ≡ b → Asks e s (if not a && b then only (record { cell = Word t; whole = w } ∷ []) else only (register_demand t k i w ∷ []))
            → IsMet s (register_demand t k i w)
        go true b q h = h.0.0
        go false false q h = h.0.0
        go false true q h = let z : i ≡ 0 = eqb-true i 0 q in absurd (true≢false (sym (eq-eqb 0 i (sym z)) ∙ f))

    -- one that is no exit
    module _ (low : (j i : ℕ) (w : Bool) → Asks e s (back_other_event t j i w v.kind) → IsMet s (register_demand t j i w))
        (sets : ℕ → Bool) (top : (i : ℕ) (w : Bool) → sets i ≡ false → Asks e s (back_event R.program t k m x i w v.kind) → IsMet s (register_demand t k i w)) where
      plain_leaves : Leaves t k sets (event_writes v.write) after s
      plain_leaves = record {
        registers = live.registers_leave R e p r x step counts n m st sets
            (λ j i w l h. low j i w (subst (λ (c : StepKind). Asks e s (back_other R.program t k (caller_count (live.y R e p r x step counts n m st)) m x j i w c)) kind h))
            (λ i w q l h. top i w q (subst (λ (c : StepKind). Asks e s (back_top R.program t k n m (live.region R e p r x step counts n m st) x i w c)) kind h));
        bytes = event_bytes;
      }

    by_kind : (c : TurnKind) → v.kind ≡ c → Leaves t (event_depth k c) (event_sets x.result c) (event_writes v.write) after s
    by_kind turns.Exit q = thread_leaves (event_writes v.write) event_bytes (event_sets x.result turns.Exit) (λ i. refl)
    by_kind turns.Start q = plain_leaves (λ j i w h. (subst (λ (c : TurnKind). Asks e s (back_other_event t j i w c)) q h).0.0) (event_sets x.result turns.Start)
        (λ i w f h. not_started (parameter_count R.program (function_in m.calls)) i w f (subst (λ (c : TurnKind). Asks e s (back_event R.program t k m x i w c)) q h))
    by_kind turns.Wait q = plain_leaves (λ j i w h. (subst (λ (c : TurnKind). Asks e s (back_other_event t j i w c)) q h).0.0) (event_sets x.result turns.Wait)
        (λ i w f h. (subst (λ (c : TurnKind). Asks e s (back_event R.program t k m x i w c)) q h).0.0)
    by_kind turns.Arrive q = plain_leaves (λ j i w h. (subst (λ (c : TurnKind). Asks e s (back_other_event t j i w c)) q h).0.0) (event_sets x.result turns.Arrive)
        (λ i w f h. (subst (λ (c : TurnKind). Asks e s (back_event R.program t k m x i w c)) q h).0.0)
    by_kind turns.Putchar q = plain_leaves (λ j i w h. (subst (λ (c : TurnKind). Asks e s (back_other_event t j i w c)) q h).0.0) (event_sets x.result turns.Putchar)
        (λ i w f h. unset_first e s (is_target x.result i) (register_demand t k i w) _ f (subst (λ (c : TurnKind). Asks e s (back_event R.program t k m x i w c)) q h))
    by_kind c q = plain_leaves (λ j i w h. (subst (λ (c : TurnKind). Asks e s (back_other_event t j i w c)) q h).0.0) (event_sets x.result c)
        (λ i w f h. unset_first e s (is_target x.result i) (register_demand t k i w) _ f (subst (λ (c : TurnKind). Asks e s (back_event R.program t k m x i w c)) q h))

    printed : (c : TurnKind) → is_putchar c ≡ true → (i : ℕ) (w : Bool) → is_target x.result i ≡ true
        → Asks e s (back_event R.program t k m x i w c) → AllByRecursion (IsMet s) (of_operand t k true x.op 0)
    printed turns.Putchar q i w g h = (set_asks e s (is_target x.result i) (register_demand t k i w) _ g h).0
    printed c q i w g h = absurd (true≢false (sym q))

    pub print_moves : is_putchar v.kind ≡ true → (i : ℕ) (w : Bool) → held_by x.result counts.present ≡ Some i
        → IsMet after (register_demand t k i w) → AllByRecursion (IsMet s) (of_operand t k true x.op 0)
    print_moves q i w f h =
        let g = held_is x.result counts.present i f in
        let b : Asks e s (back_event R.program t k m x i w v.kind) =
        subst (λ (c : StepKind). Asks e s (back_top R.program t k n m (live.region R e p r x step counts n m st) x i w c)) kind (live.present_back R e p r x step counts n m st i w g.1 h) in
        printed v.kind q i w (target_is x.result i g.0) b

    pub event_leaves : Leaves t (event_depth k v.kind) (event_sets x.result v.kind) (event_writes v.write) after s
    event_leaves = by_kind v.kind refl
