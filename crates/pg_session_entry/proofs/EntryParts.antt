-- An entry is put together of what is kept of its guided run.
use Rattle.std.proofs.Common.{◌≡◌, ℕ, ℤ, List, length, map, true, sym, subst, ◌∙◌, ap}
use Rattle.std.proofs.lemmas.List.{length-map}
use Rattle.pg_num.specs.declared.limits.TheConstants.{RECORDING_STEP_LIMIT}
use Rattle.pg_ir.specs.declared.ids.InstrId.{InstrId}
use Rattle.pg_ir.specs.Program.{NumberedProgram}
use Rattle.pg_precondition.specs.Nodes.{Conditions}
use Rattle.pg_precondition.specs.Values.{is_admitted}
use Rattle.pg_run_trace.specs.declared.schedule.Schedule.{Schedule}
use Rattle.pg_run_trace.specs.declared.step.Step.{Step}
use Rattle.pg_run_trace.specs.declared.turn.Race.{Race}
use Rattle.pg_run_trace.specs.declared.turn.Turn.{Turn}
use Rattle.pg_run_trace.specs.Races.{races_of, schedule_by, schedule_of}
use Rattle.pg_run.specs.declared.outcome.Outcome.{Outcome}
use Rattle.pg_run.specs.declared.outcome.Outcome.TheVariants as ends
use Rattle.pg_run.specs.Follow.{Exits, Following, following_of}
use Rattle.pg_run.specs.Guided.{guided_of}
use Rattle.pg_run.specs.Recordings.{EndsBy, IsRecording}
use Rattle.pg_run.specs.Rotation.{RunResult}
use Rattle.pg_run.specs.State.{State, exit_value_of}
use Rattle.pg_law_order.specs.pg_law_runs.LastTurns.{IsRecorded}
use Rattle.pg_slice_rules.specs.Sets.{taken}
use Rattle.pg_session_entry.specs.declared.recorded.Record.{Record}
use Rattle.pg_session_entry.specs.Entries.{AreOfSet, IsSliced, ServesAlong}
use Rattle.pg_session_entry.specs.Records.{IsRecord}

-- of a copy of the input
pub serves : (p : NumberedProgram) (steps : List Step) (printed : List ℕ) (value : ℤ) (input : List ℤ) (s : Schedule) (races : List Race)
    (pinned exact : List ℕ) (c : Conditions) (ids : List InstrId) (own : List ℤ) → own ≡ input
    → following_of p input s.turns s.gated ≡ Exits steps printed value → IsSliced p input s.gated steps (taken pinned exact) c → ids ≡ map (λ (x : Step). x.instr) steps
    → AreOfSet (length steps) pinned → AreOfSet (length steps) exact → (IsSliced p input s.gated steps (taken pinned exact) c → is_admitted input c ≡ true)
    → ServesAlong p steps printed value (record { input = own; schedule = s; races = races; pinned = pinned; exact = exact; precondition = c; ids = ids })
serves p steps printed value input s races pinned exact c ids own same e h k pins exacts admitted =
    let as_many : length ids ≡ length steps = ap (λ (l : List InstrId). length l) k ∙ length-map steps (λ (x : Step). x.instr) in
    subst (λ (l : List ℤ). ServesAlong p steps printed value (record { input = l; schedule = s; races = races; pinned = pinned; exact = exact; precondition = c; ids = ids })) (sym same)
    (record {
      exits = e;
      sliced = h;
      ids = k;
      pinned = subst (λ m. AreOfSet m pinned) (sym as_many) pins;
      exact = subst (λ m. AreOfSet m exact) (sym as_many) exacts;
      own = admitted h;
    })

-- the schedule that is made of a trace's races
pub made : (xs : List Step) (races : List Race) (s : Schedule) → races ≡ races_of xs → s ≡ schedule_by (map (λ (r : Race). r.instr) races) xs → s ≡ schedule_of xs
made xs races s e h = h ∙ ap (λ (rs : List Race). schedule_by (map (λ (r : Race). r.instr) rs) xs) e

-- what is said of the schedule of a trace, of one that is equal
pub along_made : (p : NumberedProgram) (input : List ℤ) (xs : List Step) (s : Schedule) (z : State) → s ≡ schedule_of xs
    → following_of p input (schedule_of xs).turns (schedule_of xs).gated ≡ Exits (guided_of p input (schedule_of xs).turns (schedule_of xs).gated).trace z.printed (exit_value_of z)
    → following_of p input s.turns s.gated ≡ Exits (guided_of p input (schedule_of xs).turns (schedule_of xs).gated).trace z.printed (exit_value_of z)
along_made p input xs s z same h = subst (λ (r : Schedule). following_of p input r.turns r.gated ≡ Exits
    (guided_of p input (schedule_of xs).turns (schedule_of xs).gated).trace z.printed (exit_value_of z)) (sym same) h

-- ---- the record of a run by its parts

pub recording : (p : NumberedProgram) (input : List ℤ) (run : RunResult) (xs : List Step) (end : Outcome) → xs ≡ run.trace → end ≡ run.end
    → IsRecording p input run.trace run.state run.end → IsRecording p input xs run.state end
recording p input run xs end a b h = subst (λ (l : List Step). IsRecording p input l run.state end) (sym a) (subst (λ (f : Outcome). IsRecording p input run.trace run.state f) (sym b) h)

-- a recording that exits is one of a run that exits
pub recorded_of : (p : NumberedProgram) (input : List ℤ) (xs : List Step) (z : State) (end : Outcome) (v : ℤ) → end ≡ ends.Exit v → IsRecording p input xs z end
    → IsRecorded p input xs z
recorded_of p input xs z end v e h =
    let o = subst (EndsBy RECORDING_STEP_LIMIT p input xs z) e h.ends in
    record { run = h.run; over = o.0; short = h.short }

pub recorded_so : (p : NumberedProgram) (input : List ℤ) (run : RunResult) (xs : List Step) (end : Outcome) (r : Record) → xs ≡ run.trace → end ≡ run.end
    → IsRecord p input (record { trace = xs; state = run.state; end = end }) r → IsRecord p input run r
recorded_so p input run xs end r a b h =
    subst (λ (f : Outcome). IsRecord p input (record { trace = run.trace; state = run.state; end = f }) r) b
    (subst (λ (l : List Step). IsRecord p input (record { trace = l; state = run.state; end = end }) r) a h)

-- ---- turns and loads and stores that are the same

pub exits_along : (p : NumberedProgram) (input : List ℤ) (turns us : List Turn) (gated gs : List InstrId) (f : Following) → turns ≡ us
    → gated ≡ gs → following_of p input turns gated ≡ f → following_of p input us gs ≡ f
exits_along p input turns us gated gs f a b h = subst (λ (l : List Turn). following_of p input l gs ≡ f) a (subst (λ (l : List InstrId). following_of p input turns l ≡ f) b h)
