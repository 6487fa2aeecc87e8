-- A guided run that exits has done all turns, so it is a full run.
use Rattle.std.proofs.Common.{◌≡◌, ℕ, ℤ, zero, suc, ◌+◌, List, [], ◌∷◌, length, drop, take, Bool, true, false, Option, Some, None, Result, Ok, Err, refl, sym, ap}
use Rattle.std.proofs.Common.{◌∙◌, subst, arith}
use Rattle.std.specs.Prelude.{◌&&◌, slice_set, slice_index, if◌then◌else◌}
use Rattle.pg_run_trace.specs.pg_ir.declared.ids.InstrId.{InstrId}
use Rattle.pg_run_trace.specs.pg_ir.declared.request.TrapName.{TrapName}
use Rattle.pg_run_trace.specs.pg_ir.Program.{NumberedProgram}
use Rattle.pg_run_trace.specs.declared.turn.Turn.{Turn}
use Rattle.pg_run.specs.declared.guided_end.GuidedEnd.{GuidedEnd}
use Rattle.pg_run.specs.declared.guided_end.GuidedEnd.TheVariants as ends
use Rattle.pg_run.specs.State.{State, initial, next_of}
use Rattle.pg_run.specs.MachineStep.{Stepped, Did, Trapped, step, trap_of}
use Rattle.pg_run.specs.Guided.{GuidedRun, Walk, all_left, cannot_go, due, end_after, ended_at, guided, guided_of, is_turn, on_due, on_event, on_step, spent, trap_or, walk}
use Rattle.pg_run.specs.Runs.{events}
use Rattle.pg_run.specs.Permitted.{IsFull, IsHeldBy, end_before, full_end, turns_left}
use Rattle.pg_run.proofs.GuidedRuns.{guided_is}

IsNoExit : GuidedEnd → Type 0
IsNoExit (ends.Exit value) = ⊥
IsNoExit e = Unit {0}

-- ---- no test ends a run by an exit

module _ (gated : List InstrId) (p : NumberedProgram) (input : List ℤ) (u : Turn) where
  no_exit_of : (e f : GuidedEnd) → IsNoExit e → Path (Result Bool GuidedEnd) (Err e) (Err f) → IsNoExit f
  no_exit_of e f h q = let k : e ≡ f = cc in subst IsNoExit k h

  chosen_no_exit : (same : Bool) (e : GuidedEnd) → Path (Result Bool GuidedEnd) (if same then Ok true else Err ends.Strayed) (Err e) → IsNoExit e
  unfolding IsNoExit
  chosen_no_exit true e q = absurd cc
  chosen_no_exit false e q = no_exit_of ends.Strayed e tt q

  event_no_exit : (is_ready : Bool) (o : Option Turn) (e : GuidedEnd) → on_event u is_ready o ≡ Err e → IsNoExit e
  event_no_exit is_ready None e q = absurd cc
  event_no_exit is_ready (Some v) e q = chosen_no_exit (is_turn v u && is_ready) e q

  test_no_exit : (s : State) (held : Bool) (trap : Option TrapName) (is_ready : Bool) (o : Option Turn) (e : GuidedEnd)
      → Path (Result Bool GuidedEnd) (if held then Err ends.Strayed else trap_or s u.thread.0 trap (on_event u is_ready o)) (Err e) → IsNoExit e
  unfolding IsNoExit
  test_no_exit s true trap is_ready o e q = no_exit_of ends.Strayed e tt q
  test_no_exit s false None is_ready o e q = event_no_exit is_ready o e q
  test_no_exit s false (Some name) is_ready o e q = no_exit_of (ends.Trap name _) e tt q

  due_no_exit : (s : State) (e : GuidedEnd) → due gated p u s ≡ Err e → IsNoExit e
  unfolding due
  due_no_exit s e q = test_no_exit s _ (trap_of s u.thread.0 (next_of p s u.thread.0)) _ _ e q

  NoExits : Walk → Type 0
  NoExits w = (e : GuidedEnd) → w.end ≡ Some e → IsNoExit e

  only : (e f : GuidedEnd) → IsNoExit e → Path (Option GuidedEnd) (Some e) (Some f) → IsNoExit f
  only e f h q = let k : e ≡ f = cc in subst IsNoExit k h

  stepped : (n : ℕ) (s : State) (b : Bool) (o : Stepped) (more : State → Walk) → ((z : State) → NoExits (more z)) → NoExits (on_step s n b o more)
  unfolding NoExits IsNoExit
  stepped n s b (Trapped name id) more h e q = only (ends.Trap name _) e tt q
  stepped n s true (Did x z) more h e q = absurd cc
  stepped n s false (Did x z) more h e q = h z e q

  tested : (n : ℕ) (s : State) (d : Result Bool GuidedEnd) → due gated p u s ≡ d → ((z : State) → NoExits (walk n gated p input u z))
      → NoExits (on_due s n d (λ b. on_step s n b (step gated p input s u.thread.0) (λ t. walk n gated p input u t)))
  unfolding NoExits
  tested n s (Err end) k h e q = only end e (due_no_exit s end k) q
  tested n s (Ok b) k h e q = stepped n s b (step gated p input s u.thread.0) (λ t. walk n gated p input u t) h e q

  spent_no_exit : (s : State) (held : Bool) → IsNoExit (if held then ends.Strayed else ends.Budget u.thread)
  unfolding IsNoExit
  spent_no_exit s true = tt
  spent_no_exit s false = tt

  walk_no_exit : (n : ℕ) (s : State) → NoExits (walk n gated p input u s)
  unfolding walk NoExits spent
  walk_no_exit zero s e q = only (spent p u s) e (spent_no_exit s (cannot_go s (next_of p s u.thread.0))) q
  walk_no_exit (suc n) s e q = tested n s (due gated p u s) refl (walk_no_exit n) e q

-- ---- the run

module _ (gated : List InstrId) (p : NumberedProgram) (input : List ℤ) where
  record Exits (us : List Turn) (k : ℕ) (r : GuidedRun) : Type 0 where
    turns : r.turns ≡ k + length us
    end : r.end ≡ end_after r.state

  ended : (u : Turn) (us : List Turn) (k : ℕ) (w : Walk) (left : List ℕ) (e : Option GuidedEnd) (value : ℤ) (more : State → List ℕ → GuidedRun) → w.end ≡ e
      → NoExits gated p input u w → ((z : State) (rest : List ℕ) → (more z rest).end ≡ ends.Exit value → Exits us (k + 1) (more z rest))
      → (ended_at w left k e more).end ≡ ends.Exit value → Exits (u ∷ us) k (ended_at w left k e more)
  unfolding NoExits IsNoExit
  ended u us k w left (Some e) value more q h g x = absurd (subst IsNoExit x (h e q))
  ended u us k w left None value more q h g x =
      let r = g w.state left x in
      record { turns = let e = r.turns in omega arith; end = r.end }

  exits : (us : List Turn) (k : ℕ) (s : State) (left : List ℕ) (value : ℤ) → (guided gated p input us k s left).end ≡ ends.Exit value → Exits us k (guided gated p input us k s left)
  unfolding guided
  exits [] k s left value x = record { turns = omega arith; end = refl }
  exits (u ∷ us) k s left value x =
      let w = walk (slice_index left u.thread.0) gated p input u s in
      ended u us k w (slice_set left u.thread.0 w.left) w.end value (λ t rest. guided gated p input us (k + 1) t rest) refl (walk_no_exit gated p input u (slice_index left u.thread.0) s)
      (λ z rest y. exits us (k + 1) z rest value y) x

whole : (us : List Turn) → take (length us) us ≡ us
whole [] = refl
whole (u ∷ us) = ap (λ (vs : List Turn). u ∷ vs) (whole us)

none_behind : (us : List Turn) → drop (length us) us ≡ []
none_behind [] = refl
none_behind (u ∷ us) = none_behind us

pub guided_exits : (p : NumberedProgram) (input : List ℤ) (us : List Turn) (gated : List InstrId) (value : ℤ) → (guided_of p input us gated).end ≡ ends.Exit value
    → IsFull gated p us (guided_of p input us gated).trace (guided_of p input us gated).state
    × (full_end p us (guided_of p input us gated).trace (guided_of p input us gated).state ≡ ends.Exit value)
unfolding guided_of
guided_exits p input us gated value x =
    let r = guided gated p input us 0 (initial p) all_left in
    let h = exits gated p input us 0 (initial p) all_left value x in
    let n : r.turns ≡ length us = let e = h.turns in omega arith in
    let all : events r.trace ≡ us = (guided_is p input us gated).1 ∙ ap (λ (i : ℕ). take i us) n ∙ whole us in
    let none : turns_left us r.trace ≡ [] = ap (λ (vs : List Turn). drop (length vs) us) all ∙ none_behind us in (
      subst (λ (vs : List Turn). IsHeldBy gated p r.trace r.state vs) (sym none) tt,
      ap (λ (vs : List Turn). end_before p r.trace r.state vs) none ∙ sym h.end ∙ x,
    )
