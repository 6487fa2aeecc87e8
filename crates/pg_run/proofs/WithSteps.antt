-- A walk and a guided run go on by one step, or stop, where their steps go into a recording, or nowhere.
use Rattle.std.proofs.Common.{◌≡◌, ℕ, ℤ, suc, ◌+◌, ◌-◌, ◌<◌, ◌≤◌, List, [], ◌∷◌, ◌++◌, length, drop, Bool, true, false, Option, Some, None, Result, Ok}
use Rattle.std.proofs.Common.{Err, refl, sym, ap, ◌∙◌, arith, subst, length-append, append_assoc, append-nil}
use Rattle.std.specs.Prelude.{get_or, slice_set, slice_index, IfNone, IfSome}
use Rattle.std.proofs.lemmas.List.{drop_more}
use Rattle.pg_run_trace.specs.pg_ir.declared.ids.InstrId.{InstrId}
use Rattle.pg_run_trace.specs.pg_ir.declared.request.TrapName.{TrapName}
use Rattle.pg_run_trace.specs.pg_ir.Program.{NumberedProgram}
use Rattle.pg_run_objects.specs.Sync as sync
use Rattle.pg_run_thread.specs.declared.action.Action.{Action}
use Rattle.pg_run_thread.specs.declared.action.Action.TheVariants as actions
use Rattle.pg_run_thread.specs.declared.advance.LocalStep.{LocalStep}
use Rattle.pg_run_trace.specs.declared.step.Step.{Step}
use Rattle.pg_run_trace.specs.declared.turn.Turn.{Turn}
use Rattle.pg_run_trace.specs.Recording.{Recording}
use Rattle.pg_run.specs.declared.guided_end.GuidedEnd.{GuidedEnd}
use Rattle.pg_run.specs.declared.guided_end.GuidedEnd.TheVariants as ends
use Rattle.pg_run.specs.declared.guided_walk.Walked.{Walked}
use Rattle.pg_run.specs.State.{State, initial, instr_of, next_of}
use Rattle.pg_run.specs.MachineStep.{Stepped, Did, Trapped, step}
use Rattle.pg_run.specs.Guided.{GuidedRun, Walk, all_left, behind, cannot_go, due, due_by, end_after, guided, guided_of, on_walk, spent, walk}
use Rattle.pg_run.specs.Taken.{state_with, steps_with, trapped_in}
use Rattle.pg_run.specs.Walked.{EndsAs}
use Rattle.pg_run.specs.Went.{Went, WentRecorded, kind_of}
use Rattle.pg_run.specs.WithSteps.{EndsBefore, OwnerDid, OwnerStepped, RunEnds, WalkEnds, told_by, with_steps}
use Rattle.pg_run.proofs.OwnersMayStep.{due_does}
use Rattle.pg_run.proofs.Walks.{IsOn, IsAlong, at_walk, none_left, run_more, run_over, run_stop, starts_along, walk_more, walk_start, walk_stop, walk_spent, walk_turn}
use Rattle.pg_run.proofs.RecordedWalks.{walk_full}

-- ---- recordings

pub with_with : (records : Bool) (q : Recording) (a b : List Step) → with_steps records (with_steps records q a) b ≡ with_steps records q (a ++ b)
with_with true q a b = ap (λ (ts : List Step). record q { steps = ts }) (append_assoc q.steps a b)
with_with false q a b = refl

pub with_none : (records : Bool) (q : Recording) → q ≡ with_steps records q []
with_none true q = ap (λ (ts : List Step). record q { steps = ts }) (sym (append-nil q.steps))
with_none false q = refl

same_room : (records : Bool) (q : Recording) (a : List Step) → (with_steps records q a).room ≡ q.room
same_room true q a = refl
same_room false q a = refl

one_fits : (records : Bool) (q : Recording) (x : Step) → (records ≡ true → length q.steps < q.room) → length q.steps ≤ q.room
    → length (with_steps records q (x ∷ [])).steps ≤ (with_steps records q (x ∷ [])).room
one_fits true q x h k = let m = h refl in let n = length-append q.steps (x ∷ []) in omega (arith, m, n)
one_fits false q x h k = k

pub steps_told : (q : Recording) (o : Stepped) → record q { steps = steps_with q.steps o } ≡ with_steps true q (told_by o)
steps_told q (Did x s) = refl
steps_told q (Trapped name id) = with_none true q

-- ---- one step

module _ (gated : List InstrId) (p : NumberedProgram) (input : List ℤ) (u : Turn) (s z : State) (records : Bool) (q r : Recording) where
  pub owner_did : (b : Bool) (d : Result Bool GuidedEnd) → d ≡ due gated p u s → d ≡ Ok b → z ≡ state_with s (step gated p input s u.thread.0)
      → r ≡ with_steps records q (told_by (step gated p input s u.thread.0)) → OwnerStepped gated p input u s z records q r (Ok b)
  owner_did b d e f i j =
      let w = due_does gated p input u s b (sym e ∙ f) in (
        told_by (step gated p input s u.thread.0),
        record {
          told = w.0;
          due_is = sym e ∙ f;
          step_is = w.2 ∙ ap (Did w.0) (sym (i ∙ ap (state_with s) w.2));
          steps_are = ap told_by w.2;
        },
        j,
      )

  -- no step traps where the tests have found no trap
  pub never_traps : (b : Bool) (d : Result Bool GuidedEnd) (o : Option (TrapName × InstrId)) (x : TrapName × InstrId) (P : Type 0) → d ≡ due gated p u s → d ≡ Ok b
      → o ≡ trapped_in (step gated p input s u.thread.0) → o ≡ Some x → P
  never_traps b d o x P e f i j =
      let w = due_does gated p input u s b (sym e ∙ f) in
      let k : None ≡ Some x = sym (i ∙ ap trapped_in w.2) ∙ j in
      absurd cc

  strays : sync.over s.sync ≡ true → due gated p u s ≡ Err ends.Strayed
  unfolding due
  strays h = rw h refl

  pub owner_strays : sync.over s.sync ≡ true → OwnerStepped gated p input u s s records q q (Err ends.Strayed)
  owner_strays h = (strays h, refl, refl)

  local_due : sync.over s.sync ≡ false → next_of p s u.thread.0 ≡ actions.Local → due gated p u s ≡ Ok false
  unfolding due
  local_due h n = rw (n, h) refl

  pub owner_went : sync.over s.sync ≡ false → WentRecorded p s z u.thread.0 records q r None → OwnerStepped gated p input u s z records q r (Ok false)
  owner_went h w = (
    _,
    record {
      told = record { thread = record { 0 = u.thread.0 }; instr = record { 0 = instr_of s u.thread.0 }; kind = kind_of w.0 };
      due_is = local_due h w.1.next_is;
      step_is = w.1.step_is gated input;
      steps_are = refl;
    },
    w.2,
  )

-- ---- one walk

module _ (gated : List InstrId) (p : NumberedProgram) (input : List ℤ) (u : Turn) (n i : ℕ) (w : Walk) (records : Bool) (q : Recording) where
  -- the walk from s with n - i steps left is what is left of w
  abbrev pub OnWith : State → Recording → Type 0
  OnWith s r = (ts : List Step) × IsOn gated p input u n i s w ts × (r ≡ with_steps records q ts)

  pub on_more : (s z : State) (r r' : Recording) → i < n → OwnerStepped gated p input u s z records r r' (Ok false) → OnWith s r
      → (ts : List Step) × IsOn gated p input u n (i + 1) z w ts × (r' ≡ with_steps records q ts)
  on_more s z r r' h d o = (
    o.0 ++ d.1.told ∷ [],
    walk_more gated p input u n i s z d.1.told w o.0 h d.1.due_is d.1.step_is o.1,
    d.2 ∙ ap (with_steps records r) d.1.steps_are ∙ ap (λ (x : Recording). with_steps records x (d.1.told ∷ [])) o.2 ∙ with_with records q o.0 (d.1.told ∷ []),
  )

  pub on_turn : (s z : State) (r r' : Recording) → i < n → OwnerStepped gated p input u s z records r r' (Ok true) → OnWith s r → WalkEnds w z (n - i - 1) None records q r'
  on_turn s z r r' h d o = (
    o.0 ++ d.1.told ∷ [],
    walk_turn gated p input u n i s z d.1.told w o.0 h d.1.due_is d.1.step_is o.1,
    d.2 ∙ ap (with_steps records r) d.1.steps_are ∙ ap (λ (x : Recording). with_steps records x (d.1.told ∷ [])) o.2 ∙ with_with records q o.0 (d.1.told ∷ []),
  )

  pub on_end : (s z : State) (r r' : Recording) (e : GuidedEnd) → i < n → OwnerStepped gated p input u s z records r r' (Err e) → OnWith s r → WalkEnds w z (n - i) (Some e) records q r'
  on_end s z r r' e h d o =
      (o.0, rw d.1 (walk_stop gated p input u n i s e w o.0 h d.0 o.1), d.2 ∙ o.2)

  pub on_spent : (s : State) (r : Recording) (e : GuidedEnd) → n ≤ i → e ≡ spent p u s → OnWith s r → WalkEnds w s 0 (Some e) records q r
  on_spent s r e h k o = (o.0, rw k (walk_spent gated p input u n i s w o.0 h o.1), o.2)

  pub on_before : (s : State) (r : Recording) (o : Option Walked) → i < n → EndsBefore gated p u s (n - i) o → OnWith s r → IfSome o (λ x. WalkEnds w s x.left x.end records q r)
  on_before s r None h b o = tt
  on_before s r (Some x) h b o = (o.0, rw (b.2, b.3) (walk_stop gated p input u n i s b.0 w o.0 h b.1 o.1), o.2)

  more_left : (room : ℕ) (s : State) (r : Recording) (b : Bool) → records ≡ true → i < n → due gated p u s ≡ Ok b → room ≤ length r.steps → OnWith s r
      → room < length (behind q.steps w).trace
  more_left room s r b t h d few o =
      let l = walk_full gated p input u n i (length o.0) s b w o.0 h d (omega arith) o.1 in
      let k : length r.steps ≡ length q.steps + length o.0 = ap (λ (x : Recording). length x.steps) (o.2 ∙ ap (λ (y : Bool). with_steps y q o.0) t) ∙ length-append q.steps o.0 in
      let m : length (behind q.steps w).trace ≡ length q.steps + length w.trace = length-append q.steps w.trace in
      omega arith

  pub on_full : (s : State) (r : Recording) (o : Option Walked) → records ≡ true → i < n → r.room ≡ q.room → r.room ≤ length r.steps → EndsBefore gated p u s (n - i) o
      → OnWith s r → IfNone o ((records ≡ true) × (q.room < length (behind q.steps w).trace))
  on_full s r (Some x) t h m few b o = tt
  on_full s r None t h m few b o = (t, more_left q.room s r b.0 t h b.1 (omega arith) o)

pub stepped_room : (gated : List InstrId) (p : NumberedProgram) (input : List ℤ) (u : Turn) (s z : State) (records : Bool) (r r' : Recording) (b : Bool)
    → OwnerStepped gated p input u s z records r r' (Ok b) → r'.room ≡ r.room
stepped_room gated p input u s z records r r' b d = ap (λ (x : Recording). x.room) d.2 ∙ same_room records r d.0

pub stepped_fits : (gated : List InstrId) (p : NumberedProgram) (input : List ℤ) (u : Turn) (s z : State) (records : Bool) (r r' : Recording) (b : Bool)
    → (records ≡ true → length r.steps < r.room) → length r.steps ≤ r.room → OwnerStepped gated p input u s z records r r' (Ok b) → length r'.steps ≤ r'.room
stepped_fits gated p input u s z records r r' b h k d =
    subst (λ (x : Recording). length x.steps ≤ x.room) (sym (d.2 ∙ ap (with_steps records r) d.1.steps_are)) (one_fits records r d.1.told h k)

pub before_less : (gated : List InstrId) (p : NumberedProgram) (u : Turn) (s : State) (n m : ℕ) (o : Option Walked) → EndsBefore gated p u s n o → IfSome o (λ w. IfNone w.end (w.left < m))
before_less gated p u s n m None b = tt
before_less gated p u s n m (Some w) b = rw b.2 tt

-- ---- the run

module _ (gated : List InstrId) (p : NumberedProgram) (input : List ℤ) (us : List Turn) (g : GuidedRun) (records : Bool) (q : Recording) where
  abbrev pub AlongWith : ℕ → State → List ℕ → Recording → Type 0
  AlongWith k s left r = (ts : List Step) × IsAlong gated p input us k s left g ts × (r ≡ with_steps records q ts)

  module _ (k most : ℕ) (d : Turn) (s t : State) (left : List ℕ) (n : ℕ) (r r' : Recording) (l : k < length us) (m : most ≡ slice_index left (get_or us k d).thread.0) where
    walked : (e f : Option GuidedEnd) → (h : WalkEnds (walk most gated p input (get_or us k d) s) t n e records r r') → e ≡ f
        → walk (slice_index left (get_or us k d).thread.0) gated p input (get_or us k d) s ≡ record { trace = h.0; state = t; left = n; end = f }
    walked e f h x =
        ap (λ (i : ℕ). walk i gated p input (get_or us k d) s) (sym m)
        ∙ h.1
        ∙ ap (λ (y : Option GuidedEnd). record { trace = h.0; state = t; left = n; end = y }) x

    joined : (e : Option GuidedEnd) → (h : WalkEnds (walk most gated p input (get_or us k d) s) t n e records r r') → (o : AlongWith k s left r) → r' ≡ with_steps records q (o.0 ++ h.0)
    joined e h o = h.2 ∙ ap (λ (x : Recording). with_steps records x h.0) o.2 ∙ with_with records q o.0 h.0

    pub goes_with : (lefts : List ℕ) (e : Option GuidedEnd) → WalkEnds (walk most gated p input (get_or us k d) s) t n e records r r' → e ≡ None
        → lefts ≡ slice_set left (get_or us k d).thread.0 n → AlongWith k s left r → AlongWith (k + 1) t lefts r'
    goes_with lefts e h x z o =
        (o.0 ++ h.0, rw z (run_more gated p input us k (get_or us k d) s t left n h.0 o.0 g (drop_more us k d l) (walked e None h x) o.1), joined e h o)

    pub stops_with : (done : ℕ) (e : Option GuidedEnd) (end : GuidedEnd) → done ≡ k → WalkEnds (walk most gated p input (get_or us k d) s) t n e records r r' → e ≡ Some end
        → AlongWith k s left r → RunEnds g t done end records q r'
    stops_with done e end j h x o =
        let f = run_stop gated p input us k (get_or us k d) s t left n end h.0 o.0 g (drop_more us k d l) (walked e (Some end) h x) o.1 in (
          record { state_is = ap (λ (y : GuidedRun). y.state) f; turns_is = ap (λ (y : GuidedRun). y.turns) f ∙ sym j; end_is = ap (λ (y : GuidedRun). y.end) f },
          joined e h o ∙ ap (with_steps records q) (sym (ap (λ (y : GuidedRun). y.trace) f)),
        )

    longer : (u : ℕ) (w : Walk) (e : Option GuidedEnd) (more : State → List ℕ → GuidedRun) → w.end ≡ e → length w.trace ≤ length (on_walk left k u w more).trace
    longer u w None more h = rw h (omega (arith, length-append w.trace (more w.state (slice_set left u w.left)).trace))
    longer u w (Some e) more h = rw h (omega arith)

    -- a walk with too many steps makes the run one with too many
    pub past_with : (room : ℕ) → records ≡ true → room < length (behind r.steps (walk most gated p input (get_or us k d) s)).trace → AlongWith k s left r
        → room < length q.steps + length g.trace
    past_with room y h o =
        let w = walk most gated p input (get_or us k d) s in
        let e = at_walk gated p input us k (get_or us k d) s left w (drop_more us k d l) (ap (λ (i : ℕ). walk i gated p input (get_or us k d) s) (sym m)) in
        let a : length g.trace ≡ length o.0 + length (guided gated p input (drop k us) k s left).trace =
        sym (ap (λ (x : GuidedRun). length x.trace) o.1) ∙ length-append o.0 (guided gated p input (drop k us) k s left).trace in
        let b : length (behind r.steps w).trace ≡ length r.steps + length w.trace = length-append r.steps w.trace in
        let c : length w.trace ≤ length (guided gated p input (drop k us) k s left).trace =
        subst (λ (x : GuidedRun). length w.trace ≤ length x.trace) (sym e) (longer (get_or us k d).thread.0 w w.end (λ t rest. guided gated p input (drop (k + 1) us) (k + 1) t rest) refl) in
        let f : length r.steps ≡ length q.steps + length o.0 = ap (λ (x : Recording). length x.steps) (o.2 ∙ ap (λ (x : Bool). with_steps x q o.0) y) ∙ length-append q.steps o.0 in
        omega arith

  pub ends_with : (k done : ℕ) (s : State) (left : List ℕ) (r : Recording) (e : GuidedEnd) → length us ≤ k → done ≡ k → e ≡ end_after s → AlongWith k s left r
      → RunEnds g s done e records q r
  ends_with k done s left r e l j x o =
      let f = run_over gated p input us k s left o.0 g (none_left gated p input us us k l) o.1 in (
        record { state_is = ap (λ (y : GuidedRun). y.state) f; turns_is = ap (λ (y : GuidedRun). y.turns) f ∙ sym j; end_is = ap (λ (y : GuidedRun). y.end) f ∙ sym x },
        o.2 ∙ ap (with_steps records q) (sym (ap (λ (y : GuidedRun). y.trace) f)),
      )

pub starts_with : (gated : List InstrId) (p : NumberedProgram) (input : List ℤ) (us : List Turn) (records : Bool) (q : Recording) (s : State) (left : List ℕ) → s ≡ initial p
    → left ≡ all_left → AlongWith gated p input us (guided_of p input us gated) records q 0 s left q
starts_with gated p input us records q s left e h = ([], starts_along gated p input us s left e h, with_none records q)
