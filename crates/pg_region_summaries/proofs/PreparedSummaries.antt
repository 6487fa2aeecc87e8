-- What is prepared of a program, and what a function's accesses make of its summary.
use Rattle.std.proofs.Common.{◌≡◌, ℕ, zero, suc, ◌<◌, ◌^◌, Bool, true, List, [], ◌∷◌, length, Option, Some, None, refl, sym, ap, ◌∙◌, subst, arith}
use mathlib.Core.Path.{fun_ext}
use Rattle.std.specs.Prelude.{slice_get, option_map}
use Rattle.std.proofs.Math.ListN.{set}
use Rattle.pg_cfg.specs.Graphs.{EdgeLists}
use Rattle.pg_ir.specs.declared.function.Function.{Function}
use Rattle.pg_ir.specs.Program.{NumberedProgram, parameter_count}
use Rattle.pg_ir.specs.WellFormed.{IsProgram}
use Rattle.pg_region_accesses.specs.declared.rooted.Summary.{Summary}
use Rattle.pg_region_accesses.specs.Accesses.{RootedList, accesses_in, summary_of, set_accesses}
use Rattle.pg_region_accesses.specs.Tables.{in_table}
use Rattle.pg_region_summaries.specs.declared.span.Span.{Span}
use Rattle.pg_region_summaries.specs.declared.reaches.Reach.{Reach}
use Rattle.pg_region_summaries.specs.Blocks.{blocks_of}
use Rattle.pg_region_summaries.specs.Callees.{calls_of}
use Rattle.pg_region_summaries.specs.Reaches.{AreReaches, IsReachOf, reach_at}
use Rattle.pg_region_summaries.specs.Summaries.{if_few, seen, seen_by_callers, summary_by, AreSummaries}
use Rattle.pg_region_summaries.specs.Work.{IsPrepared}
use Rattle.pg_region_summaries.proofs.InstructionPlaces.{graph_size}

pub params_are : (p : NumberedProgram) (f : ℕ) (y : Function) → slice_get p.functions f ≡ Some y → parameter_count p f ≡ y.params
unfolding parameter_count
params_are p f y e = rw e refl

pub by_accesses : (p : NumberedProgram) (gated : ℕ → Bool) (sums : ℕ → Option RootedList) (f n : ℕ) (xs : RootedList) → set_accesses true p gated sums (blocks_of p f) ≡ Some xs
    → parameter_count p f ≡ n → if_few (seen n xs) ≡ summary_by p gated sums f
by_accesses p gated sums f n xs e k = ap (λ m. if_few (seen m xs)) (sym k) ∙ ap (seen_by_callers (parameter_count p f)) (sym e)

pub few_functions : (p : NumberedProgram) → IsProgram p → length (calls_of p) < 2 ^ 32
few_functions p program = omega (arith, graph_size p, program.few_functions)

pub own_table : (p : NumberedProgram) (is_gated : ℕ → Bool) (gated : List Bool) (spans : List Span) (started : List Bool) (reaches : List Reach)
    → IsPrepared p is_gated gated spans started reaches → IsPrepared p (in_table gated) gated spans started reaches
own_table p is_gated gated spans started reaches h = record { table = λ i. refl; covers = h.covers; named = h.named; reach_count = h.reach_count; reached = h.reached }

pub by_table : (p : NumberedProgram) (f g : ℕ → Bool) (sums : ℕ → Option RootedList) → ((i : ℕ) → f i ≡ g i) → AreSummaries p f sums → AreSummaries p g sums
by_table p f g sums h s = subst (λ (F : ℕ → Bool). AreSummaries p F sums) (fun_ext h) s

pub reached_in : (p : NumberedProgram) (g : EdgeLists) (reaches : List Reach) → g ≡ calls_of p → AreReaches g (length g) reaches → AreReaches (calls_of p) (length p.functions) reaches
reached_in p g reaches e h = λ f lt. let n : length g ≡ length (calls_of p) =
    ap (λ (l : EdgeLists). length l) e in subst (λ (z : EdgeLists). IsReachOf z f (reach_at reaches f)) e (h f (omega (arith, lt, n, graph_size p)))

-- ---- one summary is put

get_same : (xs : List (Option Summary)) (f : ℕ) (s : Option Summary) → f < length xs → slice_get (set xs f s) f ≡ Some s
get_same [] f s lt = absurd (omega (arith, lt))
get_same (x ∷ xs) zero s lt = refl
get_same (x ∷ xs) (suc f) s lt = get_same xs f s (omega (arith, lt))

get_other : (xs : List (Option Summary)) (f g : ℕ) (s : Option Summary) → (g ≡ f → ⊥) → slice_get (set xs f s) g ≡ slice_get xs g
get_other [] f g s ne = refl
get_other (x ∷ xs) zero zero s ne = absurd (ne refl)
get_other (x ∷ xs) zero (suc g) s ne = refl
get_other (x ∷ xs) (suc f) zero s ne = refl
get_other (x ∷ xs) (suc f) (suc g) s ne = get_other xs f g s (λ e. ne (ap (λ z. suc z) e))

accesses_are : (s : Option Summary) → accesses_in (Some s) ≡ option_map (λ (z : Summary). z.accesses.items) s
accesses_are None = refl
accesses_are (Some s) = refl

pub put_same : (xs : List (Option Summary)) (f : ℕ) (s : Option Summary) → f < length xs → summary_of (set xs f s) f ≡ option_map (λ (z : Summary). z.accesses.items) s
put_same xs f s lt = ap accesses_in (get_same xs f s lt) ∙ accesses_are s

pub put_other : (xs : List (Option Summary)) (f g : ℕ) (s : Option Summary) → (g ≡ f → ⊥) → summary_of (set xs f s) g ≡ summary_of xs g
put_other xs f g s ne = ap accesses_in (get_other xs f g s ne)
