-- Walks in the graph of calls, and how many functions the calls of a function reach.
use Rattle.std.proofs.Common.{◌≡◌, ◌≢◌, ℕ, ◌<◌, true, false, List, length, sym, ◌∙◌, arith}
use Rattle.std.proofs.lemmas.Bool.{true≢false}
use Rattle.pg_cfg.specs.Graphs.{EdgeLists, Edge, Walk}
use Rattle.pg_cfg.specs.Graphs.Walk.{first, then}
use Rattle.pg_ir.specs.Program.{NumberedProgram}
use Rattle.pg_ir.specs.WellFormed.{IsProgram}
use Rattle.pg_region_summaries.specs.declared.reaches.Reach.{Reach}
use Rattle.pg_region_summaries.specs.Calls.{Calls, CallsReach}
use Rattle.pg_region_summaries.specs.Calls.CallsReach.{direct, further}
use Rattle.pg_region_summaries.specs.Callees.{calls_of}
use Rattle.pg_region_summaries.specs.Reaches.{NO_FUNCTION, AreReaches, reach_at}
use Rattle.pg_region_accesses.proofs.AscendingSets.{strictly_shorter}
use Rattle.pg_region_summaries.proofs.InstructionPlaces.{calls_edge, edge_calls, callee_small}

pub walk_reach : (p : NumberedProgram) (j f x : ℕ) → IsProgram p → Walk (calls_of p) j f x → CallsReach p f x
walk_reach p j f x program (first e ne) = direct (edge_calls p f x program e)
walk_reach p j f x program (then {b = y} w e ne) = further (walk_reach p j f y program w) (edge_calls p y x program e)

is_function : (p : NumberedProgram) (f : ℕ) → IsProgram p → f < length p.functions → f ≢ NO_FUNCTION
is_function p f program lt e = omega (arith, e, lt, program.few_functions)

pub reach_walk : (p : NumberedProgram) (f x : ℕ) → IsProgram p → f < length p.functions → CallsReach p f x → Walk (calls_of p) NO_FUNCTION f x × (x < length p.functions)
reach_walk p f x program lt (direct c) = let small = callee_small p f x program c in (first (calls_edge p f x program lt c) (is_function p x program small), small)
reach_walk p f x program lt (further {g = y} r c) =
    let w = reach_walk p f y program lt r in
    let small = callee_small p y x program c in
    (then w.0 (calls_edge p y x program w.1 c) (is_function p x program small), small)

prepend : {g : EdgeLists} {j a b x : ℕ} → Edge g a b → b ≢ j → Walk g j b x → Walk g j a x
prepend e ne (first d n) = then (first e ne) d n
prepend e ne (then w d n) = then (prepend e ne w) d n

-- the calls of a caller reach more functions than those of a callee that doesn't reach itself
pub fewer : (p : NumberedProgram) (reaches : List Reach) (f g : ℕ) → IsProgram p → AreReaches (calls_of p) (length p.functions) reaches → f < length p.functions → g < length p.functions
    → Calls p f g →
    (reach_at reaches g).is_recursive ≡ false → (reach_at reaches g).size < (reach_at reaches f).size
fewer p reaches f g program all lf lg c once =
    let a = all g lg in
    let b = all f lf in
    let e = calls_edge p f g program lf c in
    let ne = is_function p g program lg in
    let short : length a.reached < length b.reached =
    strictly_shorter b.reached a.reached g a.reach.ascending b.reach.ascending
    (λ z m. (b.reach.exact z).1 (prepend e ne ((a.reach.exact z).0 m)))
    ((b.reach.exact g).1 (first e ne))
    (λ m. true≢false (sym (a.recursive.1 m) ∙ once)) in
    omega (arith, short, a.size, b.size)

pub reaches_itself : (p : NumberedProgram) (reaches : List Reach) (f : ℕ) → IsProgram p → AreReaches (calls_of p) (length p.functions) reaches → f < length p.functions
    → (reach_at reaches f).is_recursive ≡ true → CallsReach p f f
reaches_itself p reaches f program all lt e = let a = all f lt in walk_reach p NO_FUNCTION f f program ((a.reach.exact f).0 (a.recursive.0 e))

pub recurs : (p : NumberedProgram) (reaches : List Reach) (f : ℕ) → IsProgram p → AreReaches (calls_of p) (length p.functions) reaches → f < length p.functions → CallsReach p f f
    → (reach_at reaches f).is_recursive ≡ true
recurs p reaches f program all lt r = let a = all f lt in a.recursive.1 ((a.reach.exact f).1 (reach_walk p f f program lt r).0)
