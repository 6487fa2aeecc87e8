-- Where the full guided run is good, the schedule serves the input.
use Rattle.std.proofs.Common.{◌≡◌, ◌≢◌, ℕ, ℤ, List, length, Bool, true, false, refl, ap, ◌∙◌}
use Rattle.std.specs.Prelude.{nat_lt, if◌then◌else◌}
use Rattle.pg_num.specs.declared.limits.TheConstants.{RECORDING_STEP_LIMIT}
use Rattle.pg_ir.specs.Program.{NumberedProgram}
use Rattle.pg_run_trace.specs.declared.schedule.Schedule.{Schedule}
use Rattle.pg_run_trace.specs.declared.step.Step.{Step}
use Rattle.pg_run.specs.declared.guided_end.GuidedEnd.{GuidedEnd}
use Rattle.pg_run.specs.declared.guided_end.GuidedEnd.TheVariants as ends
use Rattle.pg_run.specs.Follow.{Breaks, Following, Strays, following, following_of, reached}
use Rattle.pg_run.specs.FullGuided.{full_guided_of}
use Rattle.pg_run.specs.Guided.{GuidedRun, guided_of}
use Rattle.pg_run.specs.Permitted.{IsFull, IsPermitted, turns_left}
use Rattle.pg_run.specs.State.{State}
use Rattle.pg_run.proofs.GuidedRuns.{guided_is}
use Rattle.pg_law_runs.proofs.of_pg_law_effects.FullGuidedRun.{full_is}
use Rattle.pg_law_runs.specs.Cuts.{CanRun, IsOrderedFull}
use Rattle.pg_law_runs.proofs.PermittedRuns as law
use Rattle.pg_law_order.specs.Good.{IsGoodRun, replies_of, run_along}
use Rattle.pg_law_order.specs.Served.{EndsAsGuided, IsServed, RunsAsGuided, guided_along}
use Rattle.pg_law_order.proofs.FirstEvents.{front_of_front, replies_first}
use Rattle.pg_law_order.proofs.FullRunOutput.{full_goes_on}

-- ---- what the full guided run does not, the guided run does not

pub same_end : (p : NumberedProgram) (input : List ℤ) (s : Schedule) → (run_along p input s).end ≡ (guided_along p input s).end
same_end p input s = (full_is p input s.turns s.gated).end

pub stays : (p : NumberedProgram) (input : List ℤ) (s : Schedule) → IsGoodRun p input s → (guided_along p input s).end ≢ ends.Strayed
stays p input s g = λ e. g.arrives (same_end p input s ∙ e)

-- ---- the runs that its turns permit

pub whole : (p : NumberedProgram) (input : List ℤ) (s : Schedule) → IsGoodRun p input s
    → IsOrderedFull p input s.turns s.gated (run_along p input s).trace (run_along p input s).state
whole p input s g = record {
  permitted = (full_is p input s.turns s.gated).permitted;
  is_full = ((full_is p input s.turns s.gated).full (stays p input s g)).0;
  ordered = g.ordered;
}

module _ (p : NumberedProgram) (input : List ℤ) (s : Schedule) (can : CanRun p input) (g : IsGoodRun p input s) where
  abbrev f : GuidedRun
  f = full_guided_of p input s.turns s.gated

  ordered_full : IsOrderedFull p input s.turns s.gated f.trace f.state
  ordered_full = whole p input s g

  runs : (xs : List Step) (z : State) → IsPermitted p input s.turns s.gated xs z → RunsAsGuided p input s xs z
  runs xs z h =
      let c = law.at_cut p input s.turns s.gated can f.trace f.state ordered_full xs z h in
      record {
        cut = c;
        ordered = law.ordered p input s.turns s.gated can f.trace f.state ordered_full xs z h;
        replies = front_of_front (replies_of xs) (replies_of f.trace) s.replies
            (replies_first s.turns xs f.trace (turns_left s.turns xs, h.in_order) (turns_left s.turns f.trace, ordered_full.permitted.in_order) c.front) g.replies;
        goes_on = law.goes_on p input s.turns s.gated can f.trace f.state ordered_full xs z h;
        steps = law.short p input s.turns s.gated can f.trace f.state ordered_full xs z h;
      }

  full : (xs : List Step) (z : State) → IsPermitted p input s.turns s.gated xs z → IsFull s.gated p s.turns xs z → EndsAsGuided p input s xs z
  full xs z h k =
      let e = law.ends p input s.turns s.gated can f.trace f.state ordered_full xs z h k in
      let o = full_goes_on s.gated p input s.turns in
      record {
        output = ap (λ (v : State). v.printed) e.state ∙ o.printed;
        end = e.end ∙ ((full_is p input s.turns s.gated).full (stays p input s g)).1;
        turns = e.events ∙ o.events ∙ (guided_is p input s.turns s.gated).1;
        steps = e.steps;
      }

  pub serves : IsServed p input s
  serves = record { arrives = stays p input s g; runs = runs; full = full }

-- ---- following the turns doesn't stray

reached_stray : (r : GuidedRun) (e : GuidedEnd) (k : ℕ) → r.end ≡ e → reached r.trace r.state.printed r.turns e ≡ Strays k → r.end ≡ ends.Strayed
reached_stray r (ends.Exit v) k q h = absurd cc
reached_stray r (ends.Trap name id) k q h = absurd cc
reached_stray r (ends.Budget t) k q h = absurd cc
reached_stray r ends.Strayed k q h = q

strays : (r : GuidedRun) (k : ℕ) → following r ≡ Strays k → r.end ≡ ends.Strayed
strays r k h = go (nat_lt RECORDING_STEP_LIMIT (length r.trace)) h
  where
    go : (b : Bool) → Path Following (if b then Breaks else reached r.trace r.state.printed r.turns r.end) (Strays k) → r.end ≡ ends.Strayed
    go true q = absurd cc
    go false q = reached_stray r r.end k refl q

pub follows : (p : NumberedProgram) (input : List ℤ) (s : Schedule) → IsServed p input s → (k : ℕ) → following_of p input s.turns s.gated ≢ Strays k
unfolding following_of
follows p input s h k e = h.arrives (strays (guided_of p input s.turns s.gated) k e)
