-- The test of how globals lie decides the fact.
use Rattle.std.proofs.Common.{◌≡◌, ℕ, ◌+◌, ◌<◌, List, [], ◌∷◌, length, true, false, suc, get_or, drop, drop-cons, add-one, sym, ap, ◌∙◌, ◌&&◌, refl}
use Rattle.std.specs.Prelude.{nat_le, ◌==◌}
use Rattle.std.specs.Bool.{Decides}
use Rattle.std.proofs.lemmas.Bool.Decides.{Decides-and, Decides-like, Decides-eqb}
use Rattle.pg_num.specs.declared.limits.TheConstants.{SIZE_LIMIT}
use Rattle.pg_num.specs.declared.layout.TheConstants.{GLOBALS_END}
use Rattle.pg_ir.specs.declared.function.GlobalInfo.{GlobalInfo}
use Rattle.pg_ir.specs.PlaceTests.{lie_from, global_fits}
use Rattle.pg_ir.specs.WellFormed.{LieFrom, granules_for}
use Rattle.pg_ir.proofs.DecidedFacts.{decides_le}

lie_open : (at : ℕ) (gs : List GlobalInfo) (i : ℕ) (x : GlobalInfo) → i < length gs → x ≡ get_or gs i x
    → lie_from at (drop i gs) ≡ (global_fits at x && lie_from (at + granules_for x.size) (drop (suc i) gs))
lie_open at gs i x h same =
    let opened : drop i gs ≡ get_or gs i x ∷ drop (suc i) gs = drop-cons gs i x h in
    ap (lie_from at) (opened ∙ ap (λ (g : GlobalInfo). g ∷ drop (suc i) gs) (sym same))

pub lie_more : (at : ℕ) (gs : List GlobalInfo) (i n : ℕ) (x : GlobalInfo) → i < length gs → x ≡ get_or gs i x → global_fits at x ≡ true → n ≡ granules_for x.size
    → lie_from at (drop i gs) ≡ lie_from (at + n) (drop (i + 1) gs)
lie_more at gs i n x h same e size =
    lie_open at gs i x h same ∙ ap (λ b. b && lie_from (at + granules_for x.size) (drop (suc i) gs)) e ∙ rw (add-one, size) refl

pub lie_stop : (at : ℕ) (gs : List GlobalInfo) (i : ℕ) (x : GlobalInfo) → i < length gs → x ≡ get_or gs i x → global_fits at x ≡ false → lie_from at (drop i gs) ≡ false
lie_stop at gs i x h same e = lie_open at gs i x h same ∙ ap (λ b. b && lie_from (at + granules_for x.size) (drop (suc i) gs)) e

pub decides_lie_from : (at : ℕ) (gs : List GlobalInfo) → Decides (lie_from at gs) (LieFrom at gs)
decides_lie_from at [] = decides_le at GLOBALS_END
decides_lie_from at (g ∷ gs) =
    Decides-like (lie_from at (g ∷ gs)) (λ h. (h.0.0, h.0.1.0, h.0.1.1, h.1)) (λ h. ((h.0, (h.1, h.2)), h.3))
    (Decides-and (global_fits at g) (lie_from (at + granules_for g.size) gs)
    (Decides-and (g.start == at) (nat_le g.size SIZE_LIMIT && nat_le (length g.bytes) g.size) (Decides-eqb g.start at)
    (Decides-and (nat_le g.size SIZE_LIMIT) (nat_le (length g.bytes) g.size) (decides_le g.size SIZE_LIMIT) (decides_le (length g.bytes) g.size)))
    (decides_lie_from (at + granules_for g.size) gs))
