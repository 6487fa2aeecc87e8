-- The instructions of races.
use Rattle.std.proofs.Common.{◌≡◌, ℕ, zero, suc, ◌<◌, ◌≤◌, List, [], ◌∷◌, length, Option, Some, None, refl, arith}
use Rattle.std.specs.Prelude.{All, IfSome, slice_get}
use Rattle.std.specs.List.{position_from}
use Rattle.std.specs.Option.{option_to_list}
use Rattle.std.proofs.lemmas.List.Elements.{All-append, All-cons, All-map, All-nil, All-weaker}
use Rattle.pg_ir.specs.declared.ids.InstrId.{InstrId}
use Rattle.pg_ir.specs.Program.{NumberedProgram}
use Rattle.pg_law_threads.specs.Intervals.{Timed}
use Rattle.pg_run_trace.specs.declared.step.Step.{Step}
use Rattle.pg_run_trace.specs.declared.turn.Race.{Race}
use Rattle.pg_run_trace.specs.Races.{asked, instrs_in, is_racing, is_unordered, race_at, race_in, race_of, race_with, races_below, races_of, schedule_of, timed_by}
use Rattle.pg_law_reference.specs.Given.{AreSteps}

with_instr : (id i : ℕ) (o : Option ℕ) → IfSome (race_with id i o) (λ (r : Race). r.instr.0 ≡ id)
with_instr id i None = tt
with_instr id i (Some j) = refl

of_instr : (xs : List (Timed Step)) (id i : ℕ) (o : Option (Timed Step)) → IfSome (race_of xs id i o) (λ (r : Race). r.instr.0 ≡ id)
of_instr xs id i None = tt
of_instr xs id i (Some x) = with_instr id i (position_from (is_unordered x) 0 xs)

at_instr : (xs : List (Timed Step)) (id : ℕ) (o : Option ℕ) → IfSome (race_at xs id o) (λ (r : Race). r.instr.0 ≡ id)
at_instr xs id None = tt
at_instr xs id (Some i) = of_instr xs id i (slice_get xs i)

one_below : (n : ℕ) (o : Option Race) → IfSome o (λ (r : Race). r.instr.0 ≡ n) → All (λ (r : Race). r.instr.0 < suc n) (option_to_list o)
one_below n None h = All-nil (λ (r : Race). r.instr.0 < suc n)
one_below n (Some r) h = All-cons (λ (r : Race). r.instr.0 < suc n) r [] (omega (arith, h)) (All-nil (λ (r : Race). r.instr.0 < suc n))

below : (xs : List (Timed Step)) (n : ℕ) → All (λ (r : Race). r.instr.0 < n) (races_below xs n)
unfolding races_below
below xs zero = All-nil (λ (r : Race). r.instr.0 < 0)
below xs (suc n) = All-append (λ (r : Race). r.instr.0 < suc n) (races_below xs n) (option_to_list (race_in xs n))
    (All-weaker (λ (r : Race). r.instr.0 < n) (λ (r : Race). r.instr.0 < suc n) (λ r h. omega (arith, h)) (races_below xs n) (below xs n))
    (one_below n (race_in xs n) (at_instr xs n (position_from (is_racing xs n) 0 xs)))

bounded : (p : NumberedProgram) (xs : List Step) → AreSteps p xs → instrs_in xs ≤ length p.instrs
bounded p [] h = omega arith
bounded p (x ∷ xs) h = let a = (h 0).instr in let b = bounded p xs (λ n. h (suc n)) in omega (arith, a, b)

pub races_within : (p : NumberedProgram) (xs : List Step) → AreSteps p xs → All (λ (g : InstrId). g.0 < length p.instrs) (schedule_of xs).gated
races_within p xs h =
    let most = bounded p xs h in
    All-map (λ (g : InstrId). g.0 < length p.instrs) (λ (r : Race). r.instr) (races_of xs)
    (All-weaker (λ (r : Race). r.instr.0 < instrs_in xs) (λ (r : Race). r.instr.0 < length p.instrs) (λ r k. omega (arith, k, most)) (races_of xs) (below (timed_by asked xs) (instrs_in xs)))
