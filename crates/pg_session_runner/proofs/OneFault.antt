-- Turns have an entry, or one fault.
use Rattle.std.proofs.Common.{◌≡◌, ℕ, ℤ, List, Some, None, true, false, refl, sym, ap, subst, ◌∙◌}
use Rattle.pg_go.specs.pg_ir.declared.ids.InstrId.{InstrId}
use Rattle.pg_go.specs.pg_ir.Program.{NumberedProgram}
use Rattle.pg_go.specs.pg_run_trace.declared.step.Step.{Step}
use Rattle.pg_go.specs.pg_run_trace.declared.turn.Turn.{Turn}
use Rattle.pg_go.specs.pg_run_trace.Races.{first_unordered}
use Rattle.pg_go.specs.pg_run.Follow.{Breaks, Exits, Following, Strays, following_of}
use Rattle.pg_law_reuse.specs.Entries.{EntryParts, IsEntryOfTurns}
use Rattle.pg_law_reuse.specs.Faults.{IsFault}
use Rattle.pg_law_reuse.specs.FromFault.{FromFault}
use Rattle.pg_law_reuse.specs.FromFault.TheVariants as turns
use Rattle.pg_session_runner.specs.declared.loading.LoadFault.{LoadFault}
use Rattle.pg_session_runner.specs.declared.loading.LoadFault.TheVariants as load
use Rattle.pg_session_runner.specs.Loading.{IsLoadFault, are_accesses}

apart : true ≡ false → ⊥
apart e = cc

none_some : {A : Type 0} (x : A) → None ≡ Some x → ⊥
none_some x e = cc

same_pair : {A : Type 0} (x y : A) → Some x ≡ Some y → x ≡ y
same_pair x y e = cc

-- where the run exits and is ordered, there is no fault
exits_has_none : (fault : FromFault) (steps : List Step) (printed : List ℕ) (value : ℤ) → first_unordered steps ≡ None → IsFault fault (Exits steps printed value)
    → (fault ≡ turns.OutOfMemory → ⊥) → ⊥
exits_has_none (turns.Strayed k) steps printed value o w n = w
exits_has_none turns.Unfinished steps printed value o w n = w
exits_has_none (turns.Unordered i j) steps printed value o w n = none_some (i, j) (sym o ∙ w)
exits_has_none turns.OutOfMemory steps printed value o w n = n refl

exits_of : (p : NumberedProgram) (input : List ℤ) (us : List Turn) (gated : List InstrId) (e : EntryParts) → (h : IsEntryOfTurns p input us gated e)
    → following_of p input us gated ≡ Exits h.steps h.printed h.value
exits_of p input us gated e h =
    subst (λ (l : List ℤ). following_of p l us gated ≡ Exits h.steps h.printed h.value) h.same_input
    (subst (λ (l : List Turn). following_of p e.input l gated ≡ Exits h.steps h.printed h.value) h.same_turns
    (subst (λ (l : List InstrId). following_of p e.input e.schedule.turns l ≡ Exits h.steps h.printed h.value) h.same_gated h.serves.exits))

pub loaded_or_not : (p : NumberedProgram) (input : List ℤ) (us : List Turn) (gated : List InstrId) (e : EntryParts) (fault : LoadFault) → are_accesses p gated ≡ true
    → IsEntryOfTurns p input us gated e → IsLoadFault p input us gated fault → (fault ≡ load.Turns turns.OutOfMemory → ⊥) → ⊥
loaded_or_not p input us gated e load.Gate a h w n = apart (sym a ∙ w)
loaded_or_not p input us gated e (load.Turns fault) a h w n =
    exits_has_none fault h.steps h.printed h.value h.ordered (subst (IsFault fault) (exits_of p input us gated e h) w.1) (λ q. n (ap (λ (f : FromFault). load.Turns f) q))

-- ---- one fault at most

one_of : (f : Following) (a b : FromFault) → IsFault a f → IsFault b f → (a ≡ turns.OutOfMemory → ⊥) → (b ≡ turns.OutOfMemory → ⊥) → a ≡ b
one_of f turns.OutOfMemory b x y m n = absurd (m refl)
one_of f a turns.OutOfMemory x y m n = absurd (n refl)
one_of (Strays k) (turns.Strayed i) (turns.Strayed j) x y m n = ap (λ (q : ℕ). turns.Strayed q) (sym x ∙ y)
one_of (Strays k) (turns.Strayed i) turns.Unfinished x y m n = absurd y
one_of (Strays k) (turns.Strayed i) (turns.Unordered s t) x y m n = absurd y
one_of (Strays k) turns.Unfinished b x y m n = absurd x
one_of (Strays k) (turns.Unordered s t) b x y m n = absurd x
one_of Breaks (turns.Strayed i) b x y m n = absurd x
one_of Breaks turns.Unfinished (turns.Strayed j) x y m n = absurd y
one_of Breaks turns.Unfinished turns.Unfinished x y m n = refl
one_of Breaks turns.Unfinished (turns.Unordered s t) x y m n = absurd y
one_of Breaks (turns.Unordered s t) b x y m n = absurd x
one_of (Exits steps printed value) (turns.Strayed i) b x y m n = absurd x
one_of (Exits steps printed value) turns.Unfinished b x y m n = absurd x
one_of (Exits steps printed value) (turns.Unordered s t) (turns.Strayed j) x y m n = absurd y
one_of (Exits steps printed value) (turns.Unordered s t) turns.Unfinished x y m n = absurd y
one_of (Exits steps printed value) (turns.Unordered s t) (turns.Unordered u v) x y m n =
    let both = same_pair (s, t) (u, v) (sym x ∙ y) in
    ap (λ (q : ℕ × ℕ). turns.Unordered q.0 q.1) both

pub one_fault : (p : NumberedProgram) (input : List ℤ) (us : List Turn) (gated : List InstrId) (a b : LoadFault) → IsLoadFault p input us gated a → IsLoadFault p input us gated b
    → (a ≡ load.Turns turns.OutOfMemory → ⊥) → (b ≡ load.Turns turns.OutOfMemory → ⊥) → a ≡ b
one_fault p input us gated load.Gate load.Gate x y m n = refl
one_fault p input us gated load.Gate (load.Turns b) x y m n = absurd (apart (sym y.0 ∙ x))
one_fault p input us gated (load.Turns a) load.Gate x y m n = absurd (apart (sym x.0 ∙ y))
one_fault p input us gated (load.Turns a) (load.Turns b) x y m n =
    ap (λ (f : FromFault). load.Turns f) (one_of (following_of p input us gated) a b x.1 y.1 (λ q. m (ap (λ (f : FromFault). load.Turns f) q)) (λ q. n (ap (λ (f : FromFault). load.Turns f) q)))
