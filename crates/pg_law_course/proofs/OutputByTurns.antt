-- A run prints turn by turn what the threads print.
use Rattle.std.proofs.Common.{◌≡◌, ℕ, ℤ, ◌+◌, suc, List, [], ◌∷◌, ◌++◌, length, map, drop, Bool, true, false, Option, Some, None, refl, sym, ◌∙◌, ap, arith}
use Rattle.std.specs.Prelude.{◌==◌, slice_get, slice_index, take, if◌then◌else◌}
use Rattle.std.specs.List.{cons_option, filter_map}
use Rattle.std.proofs.lemmas.List.Elements.{filter_map-append}
use Rattle.pg_ir.specs.declared.instr.Instr.{Instr}
use Rattle.pg_ir.specs.Program.{NumberedProgram}
use Rattle.pg_law_threads.proofs.ListPlaces.{take_get}
use Rattle.pg_run_trace.specs.declared.schedule.Schedule.{Schedule}
use Rattle.pg_run_trace.specs.declared.step.Access.{Access}
use Rattle.pg_run_trace.specs.declared.step.Event.{Event}
use Rattle.pg_run_trace.specs.declared.step.Step.{Step}
use Rattle.pg_run_trace.specs.declared.step.StepKind.{StepKind}
use Rattle.pg_run_trace.specs.declared.step.StepKind.TheVariants as told
use Rattle.pg_run_trace.specs.declared.turn.Turn.{Turn}
use Rattle.pg_run_trace.specs.declared.turn.TurnKind.{TurnKind}
use Rattle.pg_run_trace.specs.declared.turn.TurnKind.TheVariants as kinds
use Rattle.pg_num.specs.Pointers.{byte_place}
use Rattle.pg_run_trace.specs.Steps.{access_kind, event_of, events, happening_in, turn_at}
use Rattle.pg_run.specs.State.{initial}
use Rattle.pg_run.specs.Permitted.{turns_left}
use Rattle.pg_run.proofs.GuidedRuns.{same_as_itself}
use Rattle.pg_law_runs.specs.pg_law_effects.PermittedSteps.{none_taken}
use Rattle.pg_law_runs.specs.Cuts.{CanRun, steps_by}
use Rattle.pg_law_runs.specs.Deeds.{Did}
use Rattle.pg_law_runs.proofs.DeedLists.{all_tell, steps_are, told_is}
use Rattle.pg_law_runs.proofs.RunsAsDeeds.{turns_are}
use Rattle.pg_law_order.specs.Good.{IsGoodRun, run_along}
use Rattle.pg_law_course.specs.Course.{course}
use Rattle.pg_law_course.specs.Plan.{guided_deeds, turn_count}
use Rattle.pg_law_course.specs.Prints.{is_print, number_told, numbers_printed, output_along, output_of, printed_if, text_of, text_told, without_first}
use Rattle.pg_law_course.proofs.CoursePlaces.{take_all}
use Rattle.pg_law_course.proofs.GuidedOutput.{output}
use Rattle.pg_law_course.proofs.GuidedPlan.{ordered_full}

-- ---- the numbers of one thread

abbrev numbers_in : ℕ → List Step → List ℕ
numbers_in t xs = filter_map (λ (x : Step). number_told x.kind) (steps_by t xs)

own_numbers : (t : ℕ) (x : Step) (xs : List Step) → (t == x.thread.0) ≡ true → numbers_in t (x ∷ xs) ≡ cons_option (number_told x.kind) (numbers_in t xs)
own_numbers t x xs e = rw e refl

other_numbers : (t : ℕ) (x : Step) (xs : List Step) → (t == x.thread.0) ≡ false → numbers_in t (x ∷ xs) ≡ numbers_in t xs
other_numbers t x xs e = rw e refl

-- a step that prints nothing leaves each thread's numbers
silent_numbers : (t : ℕ) (x : Step) (xs : List Step) → number_told x.kind ≡ None → numbers_in t (x ∷ xs) ≡ numbers_in t xs
silent_numbers t x xs n = go (t == x.thread.0) refl
  where
    go : (b : Bool) → (t == x.thread.0) ≡ b → numbers_in t (x ∷ xs) ≡ numbers_in t xs
    go true e = own_numbers t x xs e ∙ ap (λ (o : Option ℕ). cons_option o (numbers_in t xs)) n
    go false e = other_numbers t x xs e

abbrev AreNumbers : (ℕ → List ℕ) → List Step → Type 0
AreNumbers numbers xs = (t : ℕ) → numbers t ≡ numbers_in t xs

-- ---- one step

text_if : (i : Option Instr) (kind : TurnKind) (n : ℕ) → is_print kind ≡ false → text_of i kind n ≡ []
text_if i kinds.Out n e = absurd cc
text_if i kinds.Putchar n e = absurd cc
text_if i kind n e = refl

number_if : (kind : TurnKind) (n : ℕ) → is_print kind ≡ false → printed_if kind n ≡ None
number_if kinds.Out n e = absurd cc
number_if kinds.Putchar n e = absurd cc
number_if kind n e = refl

printed_number : (kind : TurnKind) (n : ℕ) → is_print kind ≡ true → printed_if kind n ≡ Some n
printed_number kinds.Out n e = refl
printed_number kinds.Putchar n e = refl
printed_number kind n e = absurd cc

access_silent : (writes : Bool) → is_print (access_kind writes) ≡ false
access_silent true = refl
access_silent false = refl

module _ (program : NumberedProgram) (x : Step) (xs : List Step) (numbers : ℕ → List ℕ) (h : AreNumbers numbers (x ∷ xs))
    (more : (ns : ℕ → List ℕ) → AreNumbers ns xs → output_of program xs ≡ output_along program (events xs) ns) where
  abbrev present : Option Instr
  present = slice_get program.instrs x.instr.0

  -- a step that is no event, or an access
  silent : (o : Option Turn) → event_of x ≡ o → text_told present x.kind ≡ [] → number_told x.kind ≡ None → ((u : Turn) → o ≡ Some u → is_print u.kind ≡ false)
      → output_of program (x ∷ xs) ≡ output_along program (events (x ∷ xs)) numbers
  silent None e t n p = ap (λ (l : List ℕ). l ++ output_of program xs) t ∙ more numbers (λ i. h i ∙ silent_numbers i x xs n)
      ∙ ap (λ (o : Option Turn). output_along program (cons_option o (events xs)) numbers) (sym e)
  silent (Some u) e t n p = ap (λ (l : List ℕ). l ++ output_of program xs) t ∙ more numbers (λ i. h i ∙ silent_numbers i x xs n)
      ∙ ap (λ (b : Bool). if b then text_of (slice_get program.instrs u.instr.0) u.kind (slice_index (numbers u.thread.0) 0) ++ output_along program (events xs) (without_first u.thread.0 numbers)
      else output_along program (events xs) numbers)
      (sym (p u refl))
      ∙ ap (λ (o : Option Turn). output_along program (cons_option o (events xs)) numbers) (sym e)

  -- a print
  module _ (n : ℕ) (number : number_told x.kind ≡ Some n) where
    own : numbers x.thread.0 ≡ n ∷ numbers_in x.thread.0 xs
    own = h x.thread.0 ∙ own_numbers x.thread.0 x xs (same_as_itself x.thread.0) ∙ ap (λ (o : Option ℕ). cons_option o (numbers_in x.thread.0 xs)) number

    later : AreNumbers (without_first x.thread.0 numbers) xs
    later i = go (i == x.thread.0) refl
      where
        go : (b : Bool) → (i == x.thread.0) ≡ b → (if i == x.thread.0 then drop 1 (numbers i) else numbers i) ≡ numbers_in i xs
        go true e = rw e (ap (drop 1) (h i ∙ own_numbers i x xs e ∙ ap (λ (o : Option ℕ). cons_option o (numbers_in i xs)) number))
        go false e = rw e (h i ∙ other_numbers i x xs e)

    print : (kind : TurnKind) (object : ℕ) → is_print kind ≡ true → text_told present x.kind ≡ text_of present kind n
        → event_of x ≡ Some (record { thread = x.thread; instr = x.instr; kind = kind; object = object }) → output_of program (x ∷ xs) ≡ output_along program (events (x ∷ xs)) numbers
    print kind object p t e =
        ap (λ (l : List ℕ). l ++ output_of program xs) t ∙ ap (λ (l : List ℕ). text_of present kind n ++ l) (more (without_first x.thread.0 numbers) later)
        ∙ ap (λ (l : List ℕ). text_of present kind (slice_index l 0) ++ output_along program (events xs) (without_first x.thread.0 numbers)) (sym own)
        ∙ ap (λ (b : Bool). if b then text_of present kind (slice_index (numbers x.thread.0) 0) ++ output_along program (events xs) (without_first x.thread.0 numbers)
        else output_along program (events xs) numbers) (sym p)
        ∙ ap (λ (o : Option Turn). output_along program (cons_option o (events xs)) numbers) (sym e)

  by_event : (v : Event) → x.kind ≡ told.Event v → (b : Bool) → is_print v.kind ≡ b → output_of program (x ∷ xs) ≡ output_along program (events (x ∷ xs)) numbers
  by_event v e true p = print (slice_index v.operands 0) (ap number_told e ∙ printed_number v.kind (slice_index v.operands 0) p) v.kind v.object p (ap (text_told present) e)
      (ap (λ (k : StepKind). turn_at x (happening_in k)) e)
  by_event v e false p = silent (Some (record { thread = x.thread; instr = x.instr; kind = v.kind; object = v.object })) (ap (λ (k : StepKind). turn_at x (happening_in k)) e)
      (ap (text_told present) e ∙ text_if present v.kind (slice_index v.operands 0) p) (ap number_told e ∙ number_if v.kind (slice_index v.operands 0) p)
      (λ u q. let k : v.kind ≡ u.kind = kind_of_some u q in ap is_print (sym k) ∙ p)
    where
      kind_in : Option Turn → TurnKind
      kind_in None = v.kind
      kind_in (Some u) = u.kind

      kind_of_some : (u : Turn) → Path (Option Turn) (Some (record { thread = x.thread; instr = x.instr; kind = v.kind; object = v.object })) (Some u) → v.kind ≡ u.kind
      kind_of_some u q = ap kind_in q

  by_access : (a : Access) → x.kind ≡ told.Access a → (b : Bool) → a.event ≡ b → output_of program (x ∷ xs) ≡ output_along program (events (x ∷ xs)) numbers
  by_access a e true q = silent (Some (record { thread = x.thread; instr = x.instr; kind = access_kind a.writes; object = byte_place a.pointer }))
      (ap (λ (k : StepKind). turn_at x (happening_in k)) e
      ∙ ap (λ (b : Bool). turn_at x (if b then Some (record { kind = access_kind a.writes; object = byte_place a.pointer }) else None)) q)
      (ap (text_told present) e) (ap number_told e) (λ u p. ap is_print (sym (kind_of_some u p)) ∙ access_silent a.writes)
    where
      kind_in : Option Turn → TurnKind
      kind_in None = access_kind a.writes
      kind_in (Some u) = u.kind

      kind_of_some : (u : Turn) → Path (Option Turn) (Some (record { thread = x.thread; instr = x.instr; kind = access_kind a.writes; object = byte_place a.pointer })) (Some u)
          → access_kind a.writes ≡ u.kind
      kind_of_some u q = ap kind_in q
  by_access a e false q = silent None
      (ap (λ (k : StepKind). turn_at x (happening_in k)) e
      ∙ ap (λ (b : Bool). turn_at x (if b then Some (record { kind = access_kind a.writes; object = byte_place a.pointer }) else None)) q)
      (ap (text_told present) e) (ap number_told e) (λ u p. absurd cc)

  by_kind : (k : StepKind) → x.kind ≡ k → output_of program (x ∷ xs) ≡ output_along program (events (x ∷ xs)) numbers
  by_kind (told.Event v) e = by_event v e (is_print v.kind) refl
  by_kind (told.Access a) e = by_access a e a.event refl
  by_kind told.Other e = silent None (ap (λ (k : StepKind). turn_at x (happening_in k)) e) (ap (text_told present) e) (ap number_told e) (λ u p. absurd cc)
  by_kind (told.Branch c) e = silent None (ap (λ (k : StepKind). turn_at x (happening_in k)) e) (ap (text_told present) e) (ap number_told e) (λ u p. absurd cc)
  by_kind (told.Allocation m n) e = silent None (ap (λ (k : StepKind). turn_at x (happening_in k)) e) (ap (text_told present) e) (ap number_told e) (λ u p. absurd cc)

by_turns : (program : NumberedProgram) (xs : List Step) (numbers : ℕ → List ℕ) → AreNumbers numbers xs → output_of program xs ≡ output_along program (events xs) numbers
by_turns program [] numbers h = refl
by_turns program (x ∷ xs) numbers h = by_kind program x xs numbers h (by_turns program xs) x.kind refl

-- ---- the run

map_numbers : (ds : List Did) → filter_map (λ (x : Step). number_told x.kind) (map (λ (d : Did). d.told) ds) ≡ filter_map (λ (d : Did). number_told d.told.kind) ds
map_numbers [] = refl
map_numbers (d ∷ ds) = ap (λ (l : List ℕ). cons_option (number_told d.told.kind) l) (map_numbers ds)

take_front : {A : Type 0} (xs ys : List A) → take (length xs) (xs ++ ys) ≡ xs
take_front [] ys = refl
take_front (x ∷ xs) ys = ap (λ l. x ∷ l) (take_front xs ys)

pub more_numbers : (p : NumberedProgram) (input : List ℤ) (s : Schedule) (t k : ℕ) (d : Did) → slice_get (course p input s t) k ≡ Some d
    → numbers_printed p input s t (suc k) ≡ numbers_printed p input s t k ++ cons_option (number_told d.told.kind) []
more_numbers p input s t k d e =
    let one : suc k ≡ k + 1 = omega arith in
    ap (λ (n : ℕ). numbers_printed p input s t n) one ∙ ap (filter_map (λ (d : Did). number_told d.told.kind)) (take_get (course p input s t) k d e)
    ∙ filter_map-append (λ (d : Did). number_told d.told.kind) (take k (course p input s t)) (d ∷ [])

pub output_by_turns : (p : NumberedProgram) (input : List ℤ) (s : Schedule) → CanRun p input → IsGoodRun p input s
    → (run_along p input s).state.printed ≡ output_along p (take (turn_count p input s) s.turns) (λ t. numbers_printed p input s t (length (course p input s t)))
unfolding guided_deeds
output_by_turns p input s can g =
    output p input s can g ∙ by_turns p (run_along p input s).trace (λ t. numbers_printed p input s t (length (course p input s t))) numbers_are
    ∙ ap (λ (us : List Turn). output_along p us (λ t. numbers_printed p input s t (length (course p input s t)))) (sym first_turns)
  where
    numbers_are : AreNumbers (λ t. numbers_printed p input s t (length (course p input s t))) (run_along p input s).trace
    numbers_are t =
        ap (filter_map (λ (d : Did). number_told d.told.kind)) (take_all (course p input s t)) ∙ sym (map_numbers (course p input s t))
        ∙ ap (filter_map (λ (x : Step). number_told x.kind))
        (steps_are t (guided_deeds p input s) (all_tell p input (initial p) none_taken (run_along p input s).trace)
        ∙ ap (steps_by t) (told_is p input (initial p) none_taken (run_along p input s).trace))

    count : turn_count p input s ≡ length (events (run_along p input s).trace)
    count = let e = turns_are s.gated p input (initial p) none_taken 0 (run_along p input s).trace in omega (arith, e)

    first_turns : take (turn_count p input s) s.turns ≡ events (run_along p input s).trace
    first_turns = ap (λ (n : ℕ). take n s.turns) count ∙ ap (take (length (events (run_along p input s).trace))) (sym (ordered_full p input s can g).permitted.in_order)
        ∙ take_front (events (run_along p input s).trace) (turns_left s.turns (run_along p input s).trace)
