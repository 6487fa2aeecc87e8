-- How many of the first steps are turns.
use Rattle.std.proofs.Common.{◌≡◌, ◌+◌, ◌==◌, ℕ, List, [], ◌∷◌, length, length-append, map, take, Bool, true, false, Option, Some, None, ap, ap₂, refl, sym, ◌∙◌}
use Rattle.std.specs.Prelude.{slice_get, is_some}
use Rattle.pg_ir.specs.declared.ids.InstrId.{InstrId}
use Rattle.std.specs.List.{list_all}
use Rattle.pg_schedule.proofs.ChosenSteps.{chosen_some, chosen_none}
use Rattle.pg_schedule.proofs.RaceTable.{one_thread}
use Rattle.pg_session_book.specs.pg_run_trace.declared.step.Access.{Access}
use Rattle.pg_session_book.specs.pg_run_trace.declared.step.Step.{Step}
use Rattle.pg_session_book.specs.pg_run_trace.declared.step.StepKind.{StepKind}
use Rattle.pg_session_book.specs.pg_run_trace.declared.step.StepKind.TheVariants as kinds
use Rattle.pg_session_book.specs.pg_run_trace.declared.turn.Race.{Race}
use Rattle.pg_session_book.specs.pg_run_trace.declared.turn.Turn.{Turn}
use Rattle.pg_session_book.specs.pg_run.declared.outcome.Outcome.{Outcome}
use Rattle.pg_session_book.specs.pg_run.declared.outcome.Outcome.TheVariants.{Refused}
use Rattle.pg_session_book.specs.pg_run.declared.outcome.Refusal.{Refusal}
use Rattle.pg_session_book.specs.pg_run.declared.outcome.Refusal.TheVariants as refusals
use Rattle.pg_commands.specs.EndLines.{end_line, line_of}
use Rattle.pg_session_book.specs.pg_run_trace.Races.{is_one_of, kind_gated, schedule_of, with_gated}
use Rattle.pg_session_book.specs.pg_run_trace.Steps.{event_of, events, happening_in, turn_at}

module _ (gated : List InstrId) (xs : List Step) (i : ℕ) (x : Step) (e : slice_get xs i ≡ Some x) where
  pub counted : (o : Option Turn) → event_of (with_gated gated x) ≡ o → is_some o ≡ true
      → length (events (map (with_gated gated) (take (i + 1) xs))) ≡ length (events (map (with_gated gated) (take i xs))) + 1
  counted None is t = absurd (cc)
  counted (Some y) is t = ap length (chosen_some event_of (with_gated gated) xs i x y e is) ∙ length-append (events (map (with_gated gated) (take i xs))) (y ∷ [])

  pub passed : (o : Option Turn) → event_of (with_gated gated x) ≡ o → is_some o ≡ false
      → length (events (map (with_gated gated) (take (i + 1) xs))) ≡ length (events (map (with_gated gated) (take i xs)))
  passed None is t = ap length (chosen_none event_of (with_gated gated) xs i x e is)
  passed (Some y) is t = absurd (cc)

-- a trace of main's steps alone has no races, so its events are the turns of its schedule
pub of_main : (xs : List Step) (n : ℕ) → list_all (λ (x : Step). x.thread.0 == 0) xs ≡ true → n ≡ length (events (map (with_gated []) xs))
    → n ≡ length (schedule_of xs).turns
of_main xs n alone e = e ∙ ap (λ (rs : List Race). length (events (map (with_gated (map (λ (r : Race). r.instr) rs)) xs))) (sym (one_thread 0 xs alone))

is_gated : (x : Step) (b : Bool) (a : Access) → is_some (turn_at x (happening_in (kind_gated b (kinds.Access a)))) ≡ b
is_gated x true a = refl
is_gated x false a = refl

-- a load or a store is a turn where its instruction is one of these
pub is_turn_at : (gated : List InstrId) (x : Step) (a : Access) → x.kind ≡ kinds.Access a → is_one_of gated x.instr.0 ≡ is_some (event_of (with_gated gated x))
is_turn_at gated x a k =
    let b = is_one_of gated x.instr.0 in
    sym (ap (λ (kind : StepKind). is_some (turn_at (with_gated gated x) (happening_in (kind_gated b kind)))) k ∙ is_gated (with_gated gated x) b a)

-- the end line of a run of main alone, by how many of its steps are events
pub line_alone : (xs : List Step) (e f : Outcome) (n : ℕ) → e ≡ f → list_all (λ (x : Step). x.thread.0 == 0) xs ≡ true → n ≡ length (events (map (with_gated []) xs)) → line_of e n ≡ end_line xs f
line_alone xs e f n s alone c = ap₂ line_of s (of_main xs n alone c)

-- the end line of a run that was refused has no turns
pub line_refused : (xs : List Step) (r : Refusal) (n : ℕ) → line_of (Refused r) n ≡ end_line xs (Refused r)
line_refused xs (refusals.Trap name id) n = refl
line_refused xs refusals.Budget n = refl
