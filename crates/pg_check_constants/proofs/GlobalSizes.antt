-- Globals that keep within the limits of sizes, one after the other.
use Rattle.std.proofs.Common.{◌≡◌, ℕ, zero, suc, ◌+◌, ◌<◌, ◌≤◌, List, [], ◌∷◌, length, map, take, drop, get_or, slice_get, sum_by, Some, sym, ap, ◌∙◌, arith}
use Rattle.std.proofs.lemmas.List.Sums.{sum_by-cons}
use Rattle.pg_num.specs.declared.limits.TheConstants.{SIZE_LIMIT}
use Rattle.pg_num.specs.declared.layout.TheConstants.{GLOBALS_END}
use Rattle.pg_ir.specs.WellFormed.{granules_for}
use Rattle.pg_read_ast.specs.declared.nodes.GlobalItem.{GlobalItem}
use Rattle.pg_read_ast.specs.Syntax.{NamedType, Variable, Tree}
use Rattle.pg_read_ast.specs.Views.{global_of}
use Rattle.pg_check_types.specs.Resolved.{resolved}
use Rattle.pg_check_rules.specs.Constants.{start_granule}
use Rattle.pg_check_rules.specs.Conditions.{granules_of, globals_end}
use Rattle.pg_check_constants.specs.Sizes.{GlobalFits, GlobalsFit}
use Rattle.pg_check_constants.proofs.ConstantBytes.{drop_next}
use Rattle.pg_check_constants.proofs.PointerWords.{size_in}
use Rattle.pg_check_constants.proofs.Sizes.{size_fits}

-- the global that is read next
pub global_there : (gs : List GlobalItem) (k : ℕ) (g d : GlobalItem) → k < length gs → g ≡ get_or gs k d → slice_get (map global_of gs) k ≡ Some (global_of g)
global_there [] k g d l e = absurd (omega (arith, l))
global_there (h ∷ gs) zero g d l e = ap (λ x. Some (global_of x)) (sym e)
global_there (h ∷ gs) (suc k) g d l e = global_there gs k g d (omega (arith, l)) e

pub one_fits : (types : List NamedType) (gs : List GlobalItem) (k : ℕ) (g d : GlobalItem) → GlobalsFit types (map global_of gs) → k < length gs → g ≡ get_or gs k d
    → GlobalFits types (global_of g)
one_fits types gs k g d h l e = h.each k (global_of g) (global_there gs k g d l e)

pub size_small : (types : List NamedType) (v : Variable) → GlobalFits types v → size_in types v ≤ SIZE_LIMIT
size_small types v h = size_fits (resolved types v.ty) h.ty

-- ---- the granules behind one global

pub room_first : (types : List NamedType) (gs : List GlobalItem) → GlobalsFit types (map global_of gs) → 1 + sum_by (granules_of types) (map global_of gs) ≤ GLOBALS_END
unfolding globals_end
room_first types gs h = h.ended

pub room_step : (types : List NamedType) (gs : List GlobalItem) (k : ℕ) (g d : GlobalItem) (start next : ℕ) → k < length gs → g ≡ get_or gs k d
    → next ≡ start + granules_for (size_in types (global_of g))
    → start + sum_by (granules_of types) (map global_of (drop k gs)) ≤ GLOBALS_END → next + sum_by (granules_of types) (map global_of (drop (k + 1) gs)) ≤ GLOBALS_END
room_step types gs k g d start next l e n h =
    let here : sum_by (granules_of types) (map global_of (drop k gs)) ≡ granules_of types (global_of g) + sum_by (granules_of types) (map global_of (drop (k + 1) gs)) =
    ap (λ xs. sum_by (granules_of types) (map global_of xs)) (drop_next gs k g d l e) ∙ sum_by-cons (granules_of types) (global_of g) (map global_of (drop (k + 1) gs)) in
    omega (arith, here, n, h)

sum_front : (f : Variable → ℕ) (vs : List Variable) (k : ℕ) → sum_by f (take k vs) ≤ sum_by f vs
sum_front f vs zero = omega arith
sum_front f [] (suc k) = omega arith
sum_front f (v ∷ vs) (suc k) = omega (arith, sum_by-cons f v (take k vs), sum_by-cons f v vs, sum_front f vs k)

-- each global starts below the threads' memory
pub start_within : (m : Tree) (k : ℕ) → GlobalsFit m.types m.globals → start_granule m k ≤ GLOBALS_END
unfolding start_granule globals_end
start_within m k h = omega (arith, sum_front (granules_of m.types) m.globals k, h.ended)
