-- Each global lies below the threads' memory.
use Rattle.std.proofs.Common.{◌≡◌, ℕ, ◌+◌, ◌≤◌, List, [], ◌∷◌, Some, arith, subst, zero, suc}
use Rattle.std.specs.Prelude.{slice_get}
use Rattle.pg_num.specs.declared.layout.TheConstants.{GLOBALS_END}
use Rattle.pg_ir.specs.declared.function.GlobalInfo.{GlobalInfo}
use Rattle.pg_ir.specs.WellFormed.{LieFrom, FitsGlobal, granules_for}

start_below : (at : ℕ) (gs : List GlobalInfo) → LieFrom at gs → at ≤ GLOBALS_END
start_below at [] h = h
start_below at (g ∷ gs) h = omega (arith, start_below (at + granules_for g.size) gs h.3)

first_fits : (at : ℕ) (g : GlobalInfo) (gs : List GlobalInfo) → LieFrom at (g ∷ gs) → FitsGlobal g
first_fits at g gs h = record {
  below = let e : g.start ≡ at = h.0 in omega (arith, start_below (at + granules_for g.size) gs h.3);
  size = h.1;
  bytes = h.2;
}

pub global_fits : (at : ℕ) (gs : List GlobalInfo) (i : ℕ) (x : GlobalInfo) → LieFrom at gs → slice_get gs i ≡ Some x → FitsGlobal x
global_fits at [] i x h e = absurd cc
global_fits at (g ∷ gs) zero x h e = let same : g ≡ x = cc in subst FitsGlobal same (first_fits at g gs h)
global_fits at (g ∷ gs) (suc i) x h e = global_fits (at + granules_for g.size) gs i x h.3 e
