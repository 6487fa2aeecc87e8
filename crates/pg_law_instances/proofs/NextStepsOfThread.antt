-- In a guided run that exits, a step that is no event is followed by one of its thread.
use Rattle.std.proofs.Common.{◌≡◌, ℕ, ℤ, zero, suc, ◌+◌, List, [], ◌∷◌, ◌++◌, length, Bool, true, false, Option, Some, None, Result, Ok, Err, refl, sym, subst}
use Rattle.std.specs.Prelude.{slice_set, slice_index, ◌&&◌, if◌then◌else◌, nat_lt}
use Rattle.pg_num.specs.declared.limits.TheConstants.{RECORDING_STEP_LIMIT}
use Rattle.pg_ir.specs.declared.ids.InstrId.{InstrId}
use Rattle.pg_ir.specs.declared.request.TrapName.{TrapName}
use Rattle.pg_ir.specs.Program.{NumberedProgram}
use Rattle.pg_run_trace.specs.declared.turn.Turn.{Turn}
use Rattle.pg_run_trace.specs.declared.step.Step.{Step}
use Rattle.pg_run_trace.specs.Steps.{event_of}
use Rattle.pg_run.specs.declared.guided_end.GuidedEnd.{GuidedEnd}
use Rattle.pg_run.specs.declared.guided_end.GuidedEnd.TheVariants as ends
use Rattle.pg_run.specs.State.{State, initial, next_of}
use Rattle.pg_run.specs.MachineStep.{Stepped, Did, Trapped, step, trap_of}
use Rattle.pg_run.specs.Runs.{IsRun}
use Rattle.pg_run.specs.Follow.{Exits, Breaks, following, following_of, reached}
use Rattle.pg_run.specs.Guided.{GuidedRun, Walk, all_left, cannot_go, due, ended_at, guided, guided_of, is_turn, on_due, on_event, on_step, spent, trap_or, walk}
use Rattle.pg_run.proofs.GuidedRuns.{guided_is, step_is, turn_if}
use Rattle.pg_run.proofs.Runs.{step_thread}
use Rattle.pg_law_instances.specs.Together.{AreTogether, IsNext}

next_first : (t : ℕ) (xs ys : List Step) → IsNext t xs → IsNext t (xs ++ ys)
next_first t [] ys h = absurd h
next_first t (x ∷ xs) ys h = h

together_append : (xs ys : List Step) → AreTogether xs → AreTogether ys → AreTogether (xs ++ ys)
together_append [] ys h k = k
together_append (x ∷ xs) ys h k = (λ e. next_first x.thread.0 xs ys (h.0 e), together_append xs ys h.1 k)

abbrev IsNoExit : GuidedEnd → Type 0
IsNoExit (ends.Exit value) = ⊥
IsNoExit e = Unit {0}

module _ (gated : List InstrId) (p : NumberedProgram) (input : List ℤ) (u : Turn) where
  abbrev t : ℕ
  t = u.thread.0

  -- ---- how a walk ends

  no_exit_of : (e f : GuidedEnd) → IsNoExit e → Path (Result Bool GuidedEnd) (Err e) (Err f) → IsNoExit f
  no_exit_of e f h q = let k : e ≡ f = cc in subst IsNoExit k h

  chosen_no_exit : (same : Bool) (e : GuidedEnd) → Path (Result Bool GuidedEnd) (if same then Ok true else Err ends.Strayed) (Err e) → IsNoExit e
  chosen_no_exit true e q = absurd cc
  chosen_no_exit false e q = let k : ends.Strayed ≡ e = cc in subst IsNoExit k tt

  event_no_exit : (is_ready : Bool) (o : Option Turn) (e : GuidedEnd) → on_event u is_ready o ≡ Err e → IsNoExit e
  event_no_exit is_ready None e q = absurd cc
  event_no_exit is_ready (Some v) e q = chosen_no_exit (is_turn v u && is_ready) e q

  test_no_exit : (s : State) (held : Bool) (trap : Option TrapName) (is_ready : Bool) (o : Option Turn) (e : GuidedEnd)
      → Path (Result Bool GuidedEnd) (if held then Err ends.Strayed else trap_or s t trap (on_event u is_ready o)) (Err e) → IsNoExit e
  test_no_exit s true trap is_ready o e q = let k : ends.Strayed ≡ e = cc in subst IsNoExit k tt
  test_no_exit s false None is_ready o e q = event_no_exit is_ready o e q
  test_no_exit s false (Some name) is_ready o e q = no_exit_of (ends.Trap name _) e tt q

  due_no_exit : (s : State) (e : GuidedEnd) → due gated p u s ≡ Err e → IsNoExit e
  unfolding due
  due_no_exit s e q = test_no_exit s _ (trap_of s t (next_of p s t)) _ _ e q

  -- ---- its steps

  -- a walk that does its turn has together steps, of which the first is its owner's; another doesn't end by an exit
  abbrev OfEnd : Option GuidedEnd → List Step → Type 0
  OfEnd None xs = AreTogether xs × IsNext t xs
  OfEnd (Some e) xs = IsNoExit e

  is_event : (o : Option Turn) → o ≡ turn_if gated p input u true → o ≡ None → ⊥
  unfolding turn_if
  is_event o e q = cc

  stepped : (n : ℕ) (s : State) (b : Bool) (o : Stepped) (more : State → Walk) → due gated p u s ≡ Ok b → step gated p input s t ≡ o
      → ((z : State) → OfEnd (more z).end (more z).trace) → OfEnd (on_step s n b o more).end (on_step s n b o more).trace
  stepped n s b (Trapped name id) more d e h = tt
  stepped n s true (Did x z) more d e h = ((λ q. absurd (is_event (event_of x) (step_is gated p input u s z true x d e).1 q), tt), step_thread gated p input s z t x e)
  stepped n s false (Did x z) more d e h = go (more z).end (h z)
    where
      same : x.thread.0 ≡ t
      same = step_thread gated p input s z t x e

      go : (o : Option GuidedEnd) → OfEnd o (more z).trace → OfEnd o (x ∷ (more z).trace)
      go None k = ((λ q. subst (λ (v : ℕ). IsNext v (more z).trace) (sym same) k.1, k.0), same)
      go (Some g) k = k

  tested : (n : ℕ) (s : State) (d : Result Bool GuidedEnd) → due gated p u s ≡ d → ((z : State) → OfEnd (walk n gated p input u z).end (walk n gated p input u z).trace) →
      OfEnd (on_due s n d (λ b. on_step s n b (step gated p input s t) (λ z. walk n gated p input u z))).end
      (on_due s n d (λ b. on_step s n b (step gated p input s t) (λ z. walk n gated p input u z))).trace
  tested n s (Err e) k h = due_no_exit s e k
  tested n s (Ok b) k h = stepped n s b (step gated p input s t) (λ z. walk n gated p input u z) k refl h

  spent_no_exit : (held : Bool) → IsNoExit (if held then ends.Strayed else ends.Budget u.thread)
  spent_no_exit true = tt
  spent_no_exit false = tt

  walk_together : (n : ℕ) (s : State) → OfEnd (walk n gated p input u s).end (walk n gated p input u s).trace
  unfolding walk spent
  walk_together zero s = spent_no_exit (cannot_go s (next_of p s t))
  walk_together (suc n) s = tested n s (due gated p u s) refl (walk_together n)

-- ---- the run

module _ (gated : List InstrId) (p : NumberedProgram) (input : List ℤ) where
  ended : (u : Turn) (k : ℕ) (w : Walk) (left : List ℕ) (e : Option GuidedEnd) (value : ℤ) (more : State → List ℕ → GuidedRun) → OfEnd gated p input u e w.trace
      → ((z : State) (rest : List ℕ) → (more z rest).end ≡ ends.Exit value → AreTogether (more z rest).trace) → (ended_at w left k e more).end ≡ ends.Exit value
      → AreTogether (ended_at w left k e more).trace
  ended u k w left (Some e) value more h g x = absurd (subst IsNoExit x h)
  ended u k w left None value more h g x = together_append w.trace (more w.state left).trace h.0 (g w.state left x)

  guided_together : (us : List Turn) (k : ℕ) (s : State) (left : List ℕ) (value : ℤ) → (guided gated p input us k s left).end ≡ ends.Exit value
      → AreTogether (guided gated p input us k s left).trace
  unfolding guided
  guided_together [] k s left value x = tt
  guided_together (u ∷ us) k s left value x =
      let w = walk (slice_index left u.thread.0) gated p input u s in
      ended u k w (slice_set left u.thread.0 w.left) w.end value (λ z rest. guided gated p input us (k + 1) z rest) (walk_together gated p input u (slice_index left u.thread.0) s)
      (λ z rest y. guided_together us (k + 1) z rest value y) x

-- a guided run that exits with these steps
pub record HasExited (p : NumberedProgram) (input : List ℤ) (turns : List Turn) (gated : List InstrId) (xs : List Step) : Type 0 where
  pub state : State
  pub run : IsRun gated p input (initial p) xs state
  pub together : AreTogether xs

reached_exit : (trace : List Step) (printed : List ℕ) (k : ℕ) (e : GuidedEnd) (xs : List Step) (out : List ℕ) (value : ℤ) → reached trace printed k e ≡ Exits xs out value
    → (trace ≡ xs) × ((n : ℤ) × (e ≡ ends.Exit n))
reached_exit trace printed k (ends.Exit n) xs out value e = (cc, (n, refl))
reached_exit trace printed k ends.Strayed xs out value e = absurd cc
reached_exit trace printed k _ xs out value e = absurd cc

exit_of : (r : GuidedRun) (xs : List Step) (out : List ℕ) (value : ℤ) → following r ≡ Exits xs out value → (r.trace ≡ xs) × ((n : ℤ) × (r.end ≡ ends.Exit n))
exit_of r xs out value e = go (nat_lt RECORDING_STEP_LIMIT (length r.trace)) e
  where
    go : (b : Bool) → (if b then Breaks else reached r.trace r.state.printed r.turns r.end) ≡ Exits xs out value → (r.trace ≡ xs) × ((n : ℤ) × (r.end ≡ ends.Exit n))
    go true q = absurd cc
    go false q = reached_exit r.trace r.state.printed r.turns r.end xs out value q

pub exited : (p : NumberedProgram) (input : List ℤ) (turns : List Turn) (gated : List InstrId) (xs : List Step) (out : List ℕ) (value : ℤ)
    → following_of p input turns gated ≡ Exits xs out value → HasExited p input turns gated xs
unfolding following_of guided_of
exited p input turns gated xs out value e =
    let r = exit_of (guided_of p input turns gated) xs out value e in
    record {
      state = (guided_of p input turns gated).state;
      run = subst (λ (ys : List Step). IsRun gated p input (initial p) ys (guided_of p input turns gated).state) r.0 (guided_is p input turns gated).0;
      together = subst AreTogether r.0 (guided_together gated p input turns 0 (initial p) all_left r.1.0 r.1.1);
    }
