-- A step of a run that follows turns, and the state in which its thread takes it.
use Rattle.std.proofs.Common.{◌≡◌, ℕ, ℤ, ◌+◌, ◌<◌, ◌^◌, List, [], ◌∷◌, ◌++◌, length, drop, Bool, true, false, refl, sym, ◌∙◌, ap, subst, suc, arith}
use Rattle.std.specs.Prelude.{◌==◌, is_some, if◌then◌else◌}
use Rattle.std.specs.List.{filter}
use Rattle.pg_num.specs.declared.limits.TheConstants.{GUIDED_STEP_LIMIT}
use Rattle.pg_ir.specs.declared.ids.InstrId.{InstrId}
use Rattle.pg_ir.specs.Program.{NumberedProgram}
use Rattle.pg_ir.specs.WellFormed.{IsProgram}
use Rattle.pg_law_threads.specs.Effects as plans
use Rattle.pg_law_threads.specs.Effects.{Same, deeds}
use Rattle.pg_law_threads.specs.Intervals.{done_after, turns_done}
use Rattle.pg_law_threads.specs.Plans.{is_of_thread}
use Rattle.pg_law_threads.proofs.DoneLists.{cons_head, cons_tail}
use Rattle.pg_run_trace.specs.declared.turn.Turn.{Turn}
use Rattle.pg_run_trace.specs.declared.step.Step.{Step}
use Rattle.pg_run.specs.State.{State}
use Rattle.pg_run.specs.Runs.{Takes, event_of}
use Rattle.pg_law_runs.specs.pg_law_effects.PermittedSteps.{IsDue, one_more, turns_behind}
use Rattle.pg_law_runs.specs.pg_law_effects.Reached.{IsReached}
use Rattle.pg_law_runs.proofs.of_pg_law_effects.StepsApart.{left_by}
use Rattle.pg_law_runs.proofs.of_pg_law_effects.ReachedStates.{reached_step}
use Rattle.pg_law_runs.specs.Deeds.{Did, Seen, deed_of, deeds_of, seen}
use Rattle.pg_law_runs.proofs.DeedDependence.{deed_event}
use Rattle.pg_law_runs.proofs.RunsAsDeeds.{flipped, leads, left_behind, next_state}
use Rattle.pg_law_runs.proofs.StepsWithTurnLeft.{FreeSteps}

module _ (gated : List InstrId) (p : NumberedProgram) (input : List ℤ) (turns : List Turn) where
  -- d is a step that its thread takes behind the steps ds, in a state of which I holds
  pub record StepIn (I : ℕ → State → Type 0) (counts : ℕ → ℕ) (a : Seen) (g : ℕ) (ds : List Did) (d : Did) : Type 0 where
    pub state : State
    pub taken : ℕ → ℕ
    pub told : Step
    pub reached : IsReached p state
    pub holds : I (turns_done deeds g ds) state
    pub looks : Same (plans.effects a ds) (seen state taken)
    pub counted : (u : ℕ) → taken u ≡ counts u + length (filter (is_of_thread u) ds)
    pub takes : Takes gated p input state told
    pub is_deed : deed_of p input state taken told ≡ d
    pub budget : taken told.thread.0 < GUIDED_STEP_LIMIT
    pub due : IsDue (event_of told) (drop (turns_done deeds g ds) turns)

  -- I is kept by each step that is due
  abbrev pub IsKept : (ℕ → State → Type 0) → Type 0
  IsKept I = (s : State) (x : Step) (g : ℕ) → IsReached p s → Takes gated p input s x → IsDue (event_of x) (drop g turns) → I g s → I (done_after (is_some (event_of x)) g) (next_state gated p input s x)

  none_more : (n : ℕ) → n ≡ n + 0
  none_more n = omega arith

  count_one : (u : ℕ) (counts : ℕ → ℕ) (d : Did) (ds : List Did) (m : ℕ) → m ≡ one_more d.thread counts u + length (filter (is_of_thread u) ds)
      → m ≡ counts u + length (filter (is_of_thread u) (d ∷ ds))
  count_one u counts d ds m h = go (u == d.thread) refl
    where
      go : (b : Bool) → (u == d.thread) ≡ b → m ≡ counts u + length (filter (is_of_thread u) (d ∷ ds))
      go true e =
          let k : m ≡ suc (counts u) + length (filter (is_of_thread u) ds) = h ∙ ap (λ (b : Bool). (if b then suc (counts u) else counts u) + length (filter (is_of_thread u) ds)) (flipped u d.thread true e) in
          rw e (omega (arith, k))
      go false e =
          let k : m ≡ counts u + length (filter (is_of_thread u) ds) = h ∙ ap (λ (b : Bool). (if b then suc (counts u) else counts u) + length (filter (is_of_thread u) ds)) (flipped u d.thread false e) in
          rw e k

  -- the run behind its first step
  behind_first : (s : State) (counts : ℕ → ℕ) (g : ℕ) (x : Step) (xs : List Step) (z : State) (h : FreeSteps gated p input s (drop g turns) counts (x ∷ xs) z) →
      FreeSteps gated p input (next_state gated p input s x) (drop (done_after (is_some (event_of x)) g) turns) (one_more x.thread.0 counts) xs z
  behind_first s counts g x xs z h =
      subst (λ (us : List Turn). FreeSteps gated p input (next_state gated p input s x) us (one_more x.thread.0 counts) xs z) (left_behind (event_of x) g turns)
      (subst (λ (v : State). FreeSteps gated p input v (turns_behind (event_of x) (drop g turns)) (one_more x.thread.0 counts) xs z) (left_by gated p input s h.0.takes.after x.thread.0 x h.0.takes.is_step) h.1)

  module _ (I : ℕ → State → Type 0) (kept : IsKept I) (program : IsProgram p) (small : length input < 2 ^ 64) where
    next_reached : (s : State) (x : Step) → IsReached p s → Takes gated p input s x → IsReached p (next_state gated p input s x)
    next_reached s x reached m = subst (IsReached p) (left_by gated p input s m.after x.thread.0 x m.is_step) (reached_step gated p input s m.after x.thread.0 x program small reached m.is_ready m.is_step)

    pub step_in : (s : State) (counts : ℕ → ℕ) (a : Seen) (g : ℕ) (xs : List Step) (z : State) → IsReached p s → I g s → Same a (seen s counts) → FreeSteps gated p input s (drop g turns) counts xs z →
        (ds : List Did) (d : Did) (es : List Did) → deeds_of p input s counts xs ≡ ds ++ d ∷ es → StepIn I counts a g ds d
    unfolding deeds_of
    step_in s counts a g [] z reached i sees h [] d es e = absurd cc
    step_in s counts a g [] z reached i sees h (c ∷ ds) d es e = absurd cc
    step_in s counts a g (x ∷ xs) z reached i sees h [] d es e = record {
      state = s;
      taken = counts;
      told = x;
      reached = reached;
      holds = i;
      looks = sees;
      counted = λ u. none_more (counts u);
      takes = h.0.takes;
      is_deed = cons_head e;
      budget = h.0.budget;
      due = h.0.due;
    }
    step_in s counts a g (x ∷ xs) z reached i sees h (c ∷ ds) d es e =
        let q : deed_of p input s counts x ≡ c = cons_head e in
        let same : deeds.is_event c ≡ is_some (event_of x) = ap (λ (y : Did). deeds.is_event y) (sym q) ∙ deed_event gated p input s counts x in
        let r = step_in (next_state gated p input s x) (one_more x.thread.0 counts) (plans.effect a c) (done_after (is_some (event_of x)) g) xs z (next_reached s x reached h.0.takes)
        (kept s x g reached h.0.takes h.0.due i)
        (subst (λ (y : Did). Same (plans.effect a y) (seen (next_state gated p input s x) (one_more x.thread.0 counts))) q (leads gated p input s counts a x reached sees h.0.takes))
        (behind_first s counts g x xs z h) ds d es (cons_tail e) in
        let turns_same : turns_done deeds (done_after (is_some (event_of x)) g) ds ≡ turns_done deeds (done_after (deeds.is_event c) g) ds = ap (λ (b : Bool). turns_done deeds (done_after b g) ds) (sym same) in
        let owner : x.thread.0 ≡ c.thread = ap (λ (y : Did). y.thread) q in
        record {
          state = r.state;
          taken = r.taken;
          told = r.told;
          reached = r.reached;
          holds = subst (λ (n : ℕ). I n r.state) turns_same r.holds;
          looks = r.looks;
          counted = λ u. count_one u counts c ds (r.taken u) (r.counted u ∙ ap (λ (t : ℕ). one_more t counts u + length (filter (is_of_thread u) ds)) owner);
          takes = r.takes;
          is_deed = r.is_deed;
          budget = r.budget;
          due = subst (λ (n : ℕ). IsDue (event_of r.told) (drop n turns)) turns_same r.due;
        }

    pub holds_behind : (s : State) (counts : ℕ → ℕ) (g : ℕ) (xs : List Step) (z : State) → IsReached p s → I g s → FreeSteps gated p input s (drop g turns) counts xs z
        → I (turns_done deeds g (deeds_of p input s counts xs)) z
    unfolding deeds_of
    holds_behind s counts g [] z reached i h = subst (I g) h i
    holds_behind s counts g (x ∷ xs) z reached i h =
        subst (λ (b : Bool). I (turns_done deeds (done_after b g) (deeds_of p input (next_state gated p input s x) (one_more x.thread.0 counts) xs)) z) (sym (deed_event gated p input s counts x))
        (holds_behind (next_state gated p input s x) (one_more x.thread.0 counts) (done_after (is_some (event_of x)) g) xs z (next_reached s x reached h.0.takes)
        (kept s x g reached h.0.takes h.0.due i) (behind_first s counts g x xs z h))
