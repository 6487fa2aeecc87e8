-- Where a guided run strays, the owner of the next turn can't do it.
use Rattle.std.proofs.Common.{◌≡◌, ℕ, ℤ, ◌+◌, List, [], ◌∷◌, drop, Bool, true, false, Option, Some, None, Result, Ok, Err, refl, ◌∙◌, ap, subst, arith, zero, suc}
use Rattle.std.proofs.Common.{inl, inr, ◌⊎◌}
use Rattle.std.specs.Prelude.{◌&&◌, slice_index, slice_set, if◌then◌else◌}
use Rattle.pg_ir.specs.declared.ids.InstrId.{InstrId}
use Rattle.pg_ir.specs.declared.request.TrapName.{TrapName}
use Rattle.pg_ir.specs.Program.{NumberedProgram}
use Rattle.pg_run_objects.specs.Sync as sync
use Rattle.pg_run_trace.specs.declared.turn.Turn.{Turn}
use Rattle.pg_run.specs.declared.guided_end.GuidedEnd.{GuidedEnd}
use Rattle.pg_run.specs.declared.guided_end.GuidedEnd.TheVariants as ends
use Rattle.pg_run.specs.State.{State, initial, exit_value_of, instr_of, next_of}
use Rattle.pg_run.specs.MachineStep.{Stepped, Did, Trapped, may_act, step, trap_of, turn_of}
use Rattle.pg_run.specs.Guided.{GuidedRun, Walk, all_left, cannot_go, due, ended_at, guided, guided_of, is_turn, on_due, on_event, on_step, spent, trap_or, walk}

module _ (gated : List InstrId) (p : NumberedProgram) (input : List ℤ) where
  -- the owner of turn u can't go on, or its next action is an event that doesn't trap and isn't the turn or isn't ready
  abbrev pub IsStuck : Turn → State → Type 0
  IsStuck u s = (cannot_go s (next_of p s u.thread.0) ≡ true)
      ⊎ ((v : Turn) × (trap_of s u.thread.0 (next_of p s u.thread.0) ≡ None) × (turn_of gated p s u.thread.0 ≡ Some v)
      × ((is_turn v u && may_act s u.thread.0 (next_of p s u.thread.0)) ≡ false))

  same_end : (e f : GuidedEnd) → Path (Result Bool GuidedEnd) (Err e) (Err f) → e ≡ f
  same_end e f h = cc

  if_strays : (c : Bool) → Path (Result Bool GuidedEnd) (if c then Ok true else Err ends.Strayed) (Err ends.Strayed) → c ≡ false
  if_strays true h = absurd cc
  if_strays false h = refl

  at_event : (u : Turn) (s : State) (is_ready : Bool) (o : Option Turn) → trap_of s u.thread.0 (next_of p s u.thread.0) ≡ None → turn_of gated p s u.thread.0 ≡ o
      → may_act s u.thread.0 (next_of p s u.thread.0) ≡ is_ready → on_event u is_ready o ≡ Err ends.Strayed → IsStuck u s
  at_event u s is_ready None t e r h = absurd cc
  at_event u s is_ready (Some v) t e r h = inr (v, t, e, ap (λ (b : Bool). is_turn v u && b) r ∙ if_strays (is_turn v u && is_ready) h)

  by_test : (u : Turn) (s : State) (c : Bool) (trap : Option TrapName) → cannot_go s (next_of p s u.thread.0) ≡ c → trap_of s u.thread.0 (next_of p s u.thread.0) ≡ trap →
      Path (Result Bool GuidedEnd) (if c then Err ends.Strayed else trap_or s u.thread.0 trap (on_event u (may_act s u.thread.0 (next_of p s u.thread.0)) (turn_of gated p s u.thread.0)))
      (Err ends.Strayed) → IsStuck u s
  by_test u s true trap c t h = inl c
  by_test u s false None c t h = at_event u s (may_act s u.thread.0 (next_of p s u.thread.0)) (turn_of gated p s u.thread.0) t refl refl h
  by_test u s false (Some name) c t h = let k : ends.Trap name (record { 0 = instr_of s u.thread.0 }) ≡ ends.Strayed = same_end _ _ h in absurd cc

  due_stuck : (u : Turn) (s : State) → due gated p u s ≡ Err ends.Strayed → IsStuck u s
  unfolding due turn_of
  due_stuck u s h = by_test u s (cannot_go s (next_of p s u.thread.0)) (trap_of s u.thread.0 (next_of p s u.thread.0)) refl refl h

  spent_stuck : (u : Turn) (s : State) → spent p u s ≡ ends.Strayed → IsStuck u s
  unfolding spent
  spent_stuck u s h = go (cannot_go s (next_of p s u.thread.0)) refl h
    where
      go : (c : Bool) → cannot_go s (next_of p s u.thread.0) ≡ c → (if c then ends.Strayed else ends.Budget u.thread) ≡ ends.Strayed → IsStuck u s
      go true e k = inl e
      go false e k = absurd cc

  -- ---- one walk

  some_end : (e f : GuidedEnd) → Path (Option GuidedEnd) (Some e) (Some f) → e ≡ f
  some_end e f h = cc

  stepped : (u : Turn) (s : State) (n : ℕ) (b : Bool) (o : Stepped) (more : State → Walk) → ((z : State) → (more z).end ≡ Some ends.Strayed → IsStuck u (more z).state)
      → (on_step s n b o more).end ≡ Some ends.Strayed → IsStuck u (on_step s n b o more).state
  stepped u s n b (Trapped name id) more h e = let k : ends.Trap name (record { 0 = id }) ≡ ends.Strayed = some_end _ _ e in absurd cc
  stepped u s n true (Did x z) more h e = absurd cc
  stepped u s n false (Did x z) more h e = h z e

  tested : (u : Turn) (s : State) (n : ℕ) (d : Result Bool GuidedEnd) → due gated p u s ≡ d
      → ((z : State) → (walk n gated p input u z).end ≡ Some ends.Strayed → IsStuck u (walk n gated p input u z).state) →
      (on_due s n d (λ b. on_step s n b (step gated p input s u.thread.0) (λ t. walk n gated p input u t))).end ≡ Some ends.Strayed
      → IsStuck u (on_due s n d (λ b. on_step s n b (step gated p input s u.thread.0) (λ t. walk n gated p input u t))).state
  tested u s n (Err f) d h e = due_stuck u s (d ∙ ap (λ (g : GuidedEnd). Err g) (some_end f ends.Strayed e))
  tested u s n (Ok b) d h e = stepped u s n b (step gated p input s u.thread.0) (λ t. walk n gated p input u t) h e

  walk_stuck : (u : Turn) (n : ℕ) (s : State) → (walk n gated p input u s).end ≡ Some ends.Strayed → IsStuck u (walk n gated p input u s).state
  unfolding walk
  walk_stuck u zero s e = spent_stuck u s (some_end _ _ e)
  walk_stuck u (suc n) s e = tested u s n (due gated p u s) refl (walk_stuck u n) e

  -- ---- the run

  -- where it strays: behind all turns, with the run not over, or before a turn whose owner is stuck
  abbrev pub StuckAt : List Turn → State → Type 0
  StuckAt [] s = sync.over s.sync ≡ false
  StuckAt (u ∷ us) s = IsStuck u s

  pub record Strays (us : List Turn) (k : ℕ) (r : GuidedRun) : Type 0 where
    pub done : ℕ
    pub turns : r.turns ≡ k + done
    pub stuck : r.end ≡ ends.Strayed → StuckAt (drop done us) r.state

  ended : (u : Turn) (us : List Turn) (k : ℕ) (left : List ℕ) (w : Walk) (e : Option GuidedEnd) (more : State → List ℕ → GuidedRun) → (e ≡ Some ends.Strayed → IsStuck u w.state)
      → ((z : State) (rest : List ℕ) → Strays us (k + 1) (more z rest)) → Strays (u ∷ us) k (ended_at w left k e more)
  ended u us k left w (Some e) more h g = record { done = 0; turns = omega arith; stuck = λ q. h (ap (λ (f : GuidedEnd). Some f) q) }
  ended u us k left w None more h g =
      let r = g w.state left in
      record { done = suc r.done; turns = let e = r.turns in omega (arith, e); stuck = r.stuck }

  over_if : (s : State) (b : Bool) → sync.over s.sync ≡ b → (if b then ends.Exit (exit_value_of s) else ends.Strayed) ≡ ends.Strayed → sync.over s.sync ≡ false
  over_if s true e h = absurd cc
  over_if s false e h = e

  strays : (us : List Turn) (k : ℕ) (s : State) (left : List ℕ) → Strays us k (guided gated p input us k s left)
  unfolding guided
  strays [] k s left = record { done = 0; turns = omega arith; stuck = λ q. over_if s (sync.over s.sync) refl q }
  strays (u ∷ us) k s left =
      let w = walk (slice_index left u.thread.0) gated p input u s in
      ended u us k (slice_set left u.thread.0 w.left) w w.end (λ t rest. guided gated p input us (k + 1) t rest) (λ q. walk_stuck u (slice_index left u.thread.0) s q)
      (λ z rest. strays us (k + 1) z rest)

pub guided_strays : (p : NumberedProgram) (input : List ℤ) (turns : List Turn) (gated : List InstrId) → (guided_of p input turns gated).end ≡ ends.Strayed
    → StuckAt gated p input (drop (guided_of p input turns gated).turns turns) (guided_of p input turns gated).state
unfolding guided_of
guided_strays p input turns gated e =
    let r = strays gated p input turns 0 (initial p) all_left in
    let q : r.done ≡ (guided gated p input turns 0 (initial p) all_left).turns = (let t = r.turns in omega (arith, t)) in
    subst (λ (n : ℕ). StuckAt gated p input (drop n turns) (guided gated p input turns 0 (initial p) all_left).state) q (r.stuck e)
