-- The rotation run goes on by one step, or stops.
use Rattle.std.specs.Prelude.{IfOk, not, ◌&&◌, nat_lt, length, if◌then◌else◌}
use Rattle.std.proofs.lemmas.Bool.Decides.{nat_tests}
use Rattle.pg_run_objects.specs.Sync as sync
use Rattle.std.proofs.Common.{◌≡◌, ℕ, ℤ, zero, suc, ◌+◌, ◌-◌, ◌<◌, ◌≤◌, List, [], ◌∷◌, ◌++◌, Bool, true, false, Some, None, Result, Ok, Err, refl, sym}
use Rattle.std.proofs.Common.{ap, ◌∙◌, arith, append_assoc, append-nil}
use Rattle.pg_run_trace.specs.pg_ir.declared.ids.InstrId.{InstrId}
use Rattle.pg_run_trace.specs.pg_ir.declared.request.TrapName.{TrapName}
use Rattle.pg_run_trace.specs.pg_ir.Program.{NumberedProgram}
use Rattle.pg_run_trace.specs.declared.step.Step.{Step}
use Rattle.pg_run.specs.declared.outcome.Outcome.{Outcome}
use Rattle.pg_run.specs.declared.outcome.Outcome.TheVariants as ends
use Rattle.pg_run.specs.declared.outcome.Refusal.TheVariants as refusals
use Rattle.pg_run.specs.declared.share.Share.{Share}
use Rattle.pg_run.specs.State.{State}
use Rattle.pg_run.specs.MachineStep.{Stepped, Did, Trapped, ready, step}
use Rattle.std.proofs.lemmas.Option.{same_Some}
use Rattle.pg_run.specs.Taken.{steps_with, state_with, trapped_in, on_turn}
use Rattle.pg_run.specs.Rotation.{RunResult, run, onto, stop, chosen, next_share, or_deadlock, share_to, around, on_chosen, on_step, first_true, or_at}

-- ---- the least that holds

pub first_none : (f : ℕ → Bool) (n : ℕ) → first_true f n ≡ None → f n ≡ false → first_true f (n + 1) ≡ None
unfolding first_true
first_none f n e h = let k : n + 1 ≡ suc n = omega arith in rw k (ap (or_at f n) e ∙ rw h refl)

pub first_zero : (f : ℕ → Bool) → first_true f 0 ≡ None
unfolding first_true
first_zero f = refl

stays : (f : ℕ → Bool) (i n m : ℕ) → m ≡ n + i → (d : ℕ) → first_true f n ≡ Some d → first_true f m ≡ Some d
unfolding first_true
stays f zero n m k d e = let j : m ≡ n = omega arith in rw j e
stays f (suc i) n m k d e = let j : m ≡ suc (n + i) = omega arith in rw j (ap (or_at f (n + i)) (stays f i n (n + i) refl d e))

pub first_found : (f : ℕ → Bool) (d n : ℕ) → first_true f d ≡ None → f d ≡ true → d < n → first_true f n ≡ Some d
unfolding first_true
first_found f d n e h l =
    let k : first_true f (suc d) ≡ Some d = ap (or_at f d) e ∙ rw h refl in
    stays f (n - suc d) (suc d) n (omega arith) d k

pub first_past : (f : ℕ → Bool) (d n : ℕ) → first_true f d ≡ None → n ≤ d → d ≤ n → first_true f n ≡ None
first_past f d n e h k = let j : n ≡ d = omega arith in rw j e

-- ---- the run

pub onto_onto : (a b : List Step) (r : RunResult) → onto a (onto b r) ≡ onto (a ++ b) r
onto_onto a b r = ap (λ (ts : List Step). record r { trace = ts }) (sym (append_assoc a b r.trace))

pub onto_stop : (a : List Step) (s : State) (e : Outcome) → onto a (stop s e) ≡ record { trace = a; state = s; end = e }
onto_stop a s e = ap (λ (ts : List Step). record { trace = ts; state = s; end = e }) (append-nil a)

pub run_start : (p : NumberedProgram) (input : List ℤ) (q n : ℕ) (s t : State) (u : Share) (ts : List Step) → ts ≡ [] → s ≡ t
    → onto ts (run (n - 0) p input q s u) ≡ run n p input q t u
run_start p input q n s t u ts e h = let z : n - 0 ≡ n = omega arith in rw (e, h, z) refl

-- a run that has a step left
pub run_here : (p : NumberedProgram) (input : List ℤ) (q n i : ℕ) (s : State) (u : Share) (ts : List Step) (r : RunResult) → i < n → onto ts (run (n - i) p input q s u) ≡ r
    → onto ts (run (suc (n - (i + 1))) p input q s u) ≡ r
run_here p input q n i s u ts r h e = let k : n - i ≡ suc (n - (i + 1)) = omega arith in rw k at e

-- a run of no further steps stops with this end
pub run_limit : (p : NumberedProgram) (input : List ℤ) (q n i : ℕ) (s : State) (u : Share) (o : Outcome) (ts : List Step) (r : RunResult) → n ≤ i → run 0 p input q s u ≡ stop s o
    → onto ts (run (n - i) p input q s u) ≡ r → r ≡ record { trace = ts; state = s; end = o }
run_limit p input q n i s u o ts r h k e =
    let z : n - i ≡ 0 = omega arith in
    sym (rw z at e) ∙ ap (onto ts) k ∙ onto_stop ts s o

-- ---- by whose step it is, and what the step leaves

-- a thread that is ready and has steps left goes on
goes_on : (p : NumberedProgram) (q : ℕ) (s : State) (u : Share) (a b : Bool) → a ≡ true → b ≡ true
    → or_deadlock p s (if a && b then Some u else share_to s q u.thread.0 (first_true (λ d. ready p s (around s u.thread.0 d)) (length s.locals))) ≡ Ok u
goes_on p q s u true true e h = refl
goes_on p q s u true false e h = absurd cc
goes_on p q s u false b e h = absurd cc

not_over : (a b : Bool) → (not a && b) ≡ true → a ≡ false
not_over true b e = absurd cc
not_over false b e = refl

running : (p : NumberedProgram) (s : State) (t : ℕ) → ready p s t ≡ true → sync.over s.sync ≡ false
unfolding ready
running p s t g = not_over (sync.over s.sync) _ g

pub chosen_stays : (p : NumberedProgram) (q : ℕ) (s : State) (u : Share) → ready p s u.thread.0 ≡ true → 0 < u.left → chosen p q s u ≡ Ok u
unfolding chosen next_share
chosen_stays p q s u g l =
    let o : sync.over s.sync ≡ false = running p s u.thread.0 g in
    let k : nat_lt 0 u.left ≡ true = grind (arith, nat_tests) in
    rw o (goes_on p q s u (ready p s u.thread.0) (nat_lt 0 u.left) g k)

pub run_chosen : (p : NumberedProgram) (input : List ℤ) (q n : ℕ) (s : State) (u : Share) (o : Result Share Outcome) → chosen p q s u ≡ o
    → run (suc n) p input q s u ≡ on_chosen s o (λ v. on_step s v (step [] p input s v.thread.0) (run n p input q))
unfolding run
run_chosen p input q n s u o c = ap (λ (o : Result Share Outcome). on_chosen s o (λ v. on_step s v (step [] p input s v.thread.0) (run n p input q))) c

pub turn_stops : (p : NumberedProgram) (input : List ℤ) (q n : ℕ) (s : State) (u : Share) (e : Outcome) (ts : List Step) → chosen p q s u ≡ Err e
    → onto ts (run (suc n) p input q s u) ≡ record { trace = ts; state = s; end = e }
turn_stops p input q n s u e ts c = ap (onto ts) (run_chosen p input q n s u (Err e) c) ∙ onto_stop ts s e

pub turn_steps : (p : NumberedProgram) (input : List ℤ) (q n : ℕ) (s : State) (u v : Share) (ts : List Step) (r : RunResult) → chosen p q s u ≡ Ok v
    → onto ts (on_step s v (step [] p input s v.thread.0) (run n p input q)) ≡ r → onto ts (run (suc n) p input q s u) ≡ r
turn_steps p input q n s u v ts r c k = ap (onto ts) (run_chosen p input q n s u (Ok v) c) ∙ k

pub turn_from : {E : Type 0} (p : NumberedProgram) (input : List ℤ) (q : ℕ) (s z : State) (u v : Share) (ts us : List Step) (r : Result (Result Share Outcome) E) → chosen p q s u ≡ Ok v
    → IfOk r (λ x. (more : State → Share → RunResult) → onto ts (on_step s v (step [] p input s v.thread.0) more) ≡ on_turn x us z more)
    → IfOk r (λ x. (n : ℕ) → onto ts (run (suc n) p input q s u) ≡ on_turn x us z (run n p input q))
turn_from p input q s z u v ts us (Ok x) c h = λ n. turn_steps p input q n s u v ts (on_turn x us z (run n p input q)) c (h (run n p input q))
turn_from p input q s z u v ts us (Err e) c h = tt

pub step_goes : (s : State) (v : Share) (o : Stepped) (ts : List Step) (more : State → Share → RunResult) → trapped_in o ≡ None
    → onto ts (on_step s v o more) ≡ onto (steps_with ts o) (more (state_with s o) (record { thread = v.thread; left = v.left - 1 }))
step_goes s v (Did x t) ts more e = onto_onto ts (x ∷ []) (more t (record { thread = v.thread; left = v.left - 1 }))
step_goes s v (Trapped name id) ts more e = absurd cc

pub step_ends : (s : State) (v : Share) (o : Stepped) (name : TrapName) (at : InstrId) (ts : List Step) (more : State → Share → RunResult) → trapped_in o ≡ Some (name, at)
    → onto ts (on_step s v o more) ≡ record { trace = steps_with ts o; state = state_with s o; end = ends.Refused (refusals.Trap name at) }
step_ends s v (Did x t) name at ts more e = absurd cc
step_ends s v (Trapped n id) name at ts more e =
    let same : Path (TrapName × InstrId) (n, record { 0 = id }) (name, at) = same_Some _ _ e in
    onto_stop ts s (ends.Refused (refusals.Trap n (record { 0 = id }))) ∙ ap (λ (x : TrapName × InstrId). record { trace = ts; state = s; end = ends.Refused (refusals.Trap x.0 x.1) }) same

-- ---- the loop

abbrev pub Turns : NumberedProgram → List ℤ → ℕ → State → Share → List Step → Result Share Outcome → List Step → State → Type 0
Turns p input q s u ts x us z = (m : ℕ) → onto ts (run (suc m) p input q s u) ≡ on_turn x us z (run m p input q)

pub loop_ends : (p : NumberedProgram) (input : List ℤ) (q n i : ℕ) (s z : State) (u : Share) (ts us : List Step) (x : Result Share Outcome) (e : Outcome) (r : RunResult) → i < n
    → Turns p input q s u ts x us z → x ≡ Err e → onto ts (run (n - i) p input q s u) ≡ r → r ≡ record { trace = us; state = z; end = e }
loop_ends p input q n i s z u ts us x e r h t k w =
    sym (run_here p input q n i s u ts r h w)
    ∙ t (n - (i + 1))
    ∙ ap (λ (y : Result Share Outcome). on_turn y us z (run (n - (i + 1)) p input q)) k

pub loop_goes : (p : NumberedProgram) (input : List ℤ) (q n i : ℕ) (s z : State) (u v : Share) (ts us : List Step) (x : Result Share Outcome) (r : RunResult) → i < n
    → Turns p input q s u ts x us z → x ≡ Ok v → onto ts (run (n - i) p input q s u) ≡ r → onto us (run (n - (i + 1)) p input q z v) ≡ r
loop_goes p input q n i s z u v ts us x r h t k w =
    sym (t (n - (i + 1)) ∙ ap (λ (y : Result Share Outcome). on_turn y us z (run (n - (i + 1)) p input q)) k)
    ∙ run_here p input q n i s u ts r h w
