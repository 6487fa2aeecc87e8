-- How many turns a recorded schedule has, and a guided run does.
use Rattle.std.proofs.Common.{◌≡◌, ℕ, ℤ, zero, suc, ◌+◌, ◌<◌, ◌≤◌, ◌^◌, List, [], ◌∷◌, length, map, take, Option, Some, None, refl, ap, subst, arith}
use Rattle.std.specs.Prelude.{slice_index, slice_set}
use Rattle.std.specs.List.{cons_option}
use Rattle.std.proofs.lemmas.List.{length-map}
use Rattle.pg_go.specs.pg_ir.declared.ids.InstrId.{InstrId}
use Rattle.pg_go.specs.pg_ir.Program.{NumberedProgram}
use Rattle.pg_go.specs.pg_run_trace.declared.schedule.Schedule.{Schedule}
use Rattle.pg_go.specs.pg_run_trace.declared.step.Step.{Step}
use Rattle.pg_go.specs.pg_run_trace.declared.turn.Turn.{Turn}
use Rattle.pg_go.specs.pg_run_trace.Races.{schedule_of, with_gated}
use Rattle.pg_go.specs.pg_run.declared.guided_end.GuidedEnd.{GuidedEnd}
use Rattle.pg_go.specs.pg_run.Guided.{Walk, all_left, ended_at, guided, guided_of, walk}
use Rattle.pg_go.specs.pg_run.Runs.{event_of, events}
use Rattle.pg_go.specs.pg_run.State.{State, initial}
use Rattle.pg_law_reuse.specs.pg_law_runs.LastTurns.{IsRecorded}
use Rattle.pg_law_reuse.specs.Entries.{EntryParts, IsEntry}

-- ---- of a recorded schedule

pub fewer_events : (xs : List Step) → length (events xs) ≤ length xs
fewer_events [] = omega arith
fewer_events (x ∷ xs) = go (event_of x) (fewer_events xs)
  where
    go : (o : Option Turn) → length (events xs) ≤ length xs → length (cons_option o (events xs)) ≤ suc (length xs)
    go None h = omega (arith, h)
    go (Some u) h = omega (arith, h)

pub few_turns : (p : NumberedProgram) (input : List ℤ) (xs : List Step) (z : State) (e : EntryParts) → IsRecorded p input xs z → IsEntry p input xs z e → length e.schedule.turns < 2 ^ 32
few_turns p input xs z e r h =
    let gated = (schedule_of xs).gated in
    let a : length e.schedule.turns ≡ length (events (map (with_gated gated) xs)) = ap (λ (s : Schedule). length s.turns) h.schedule in
    let b = fewer_events (map (with_gated gated) xs) in
    let c : length (map (with_gated gated) xs) ≡ length xs = length-map xs (with_gated gated) in
    let d = r.short in
    omega (arith, a, b, c, d)

-- ---- of a guided run

module _ (gated : List InstrId) (p : NumberedProgram) (input : List ℤ) where
  few : (us : List Turn) (k : ℕ) (s : State) (left : List ℕ) → (guided gated p input us k s left).turns ≤ k + length us
  unfolding guided
  few [] k s left = omega arith
  few (u ∷ us) k s left =
      by (λ t l. few us (k + 1) t l) (walk (slice_index left u.thread.0) gated p input u s)
      (slice_set left u.thread.0 (walk (slice_index left u.thread.0) gated p input u s).left) (walk (slice_index left u.thread.0) gated p input u s).end
    where
      by : ((t : State) (l : List ℕ) → (guided gated p input us (k + 1) t l).turns ≤ (k + 1) + length us) → (w : Walk) (rest : List ℕ) (e : Option GuidedEnd)
          → (ended_at w rest k e (λ t l. guided gated p input us (k + 1) t l)).turns ≤ k + suc (length us)
      by ih w rest (Some e) = omega arith
      by ih w rest None = let h = ih w.state rest in omega (arith, h)

pub done_turns : (p : NumberedProgram) (input : List ℤ) (us : List Turn) (gated : List InstrId) → (guided_of p input us gated).turns ≤ length us
unfolding guided_of
done_turns p input us gated =
    let z : 0 + length us ≡ length us = omega arith in
    subst (λ (n : ℕ). (guided gated p input us 0 (initial p) all_left).turns ≤ n) z (few gated p input us 0 (initial p) all_left)

taken : (n : ℕ) (us : List Turn) → n ≤ length us → length (take n us) ≡ n
taken zero us h = refl
taken (suc n) [] h = absurd (omega (arith, h))
taken (suc n) (u ∷ us) h = let k = taken n us (omega (arith, h)) in omega (arith, k)

-- the first turns, as many as a guided run does, are so many
pub turns_taken : (p : NumberedProgram) (input : List ℤ) (us : List Turn) (gated : List InstrId) → length (take (guided_of p input us gated).turns us) ≡ (guided_of p input us gated).turns
turns_taken p input us gated = taken (guided_of p input us gated).turns us (done_turns p input us gated)
