-- One global more that holds bytes, before the others.
use Rattle.std.proofs.Common.{◌≡◌, ℕ, suc, ◌+◌, ◌^◌, ◌<◌, List, ◌∷◌, length, get_or, drop, Some, ap, ◌∙◌, sym, subst, add-one, drop-cons, slice_get, slice_index}
use Rattle.std.proofs.lemmas.Option.{slice_get_within, get_or_from_slice_get}
use Rattle.pg_ir.specs.declared.function.GlobalInfo.{GlobalInfo}
use Rattle.pg_law_runs.specs.pg_law_effects.Reached.{HoldBytes}

pub hold_more : (gs : List GlobalInfo) (k : ℕ) (g : GlobalInfo) → slice_get gs k ≡ Some g → ((i : ℕ) → slice_index g.bytes i < 2 ^ 8)
    → HoldBytes (drop (k + 1) gs) → HoldBytes (drop k gs)
hold_more gs k g e small rest =
    let h : k < length gs = slice_get_within gs k g e in
    let f : get_or gs k g ≡ g = get_or_from_slice_get gs k g g e in
    let d : drop k gs ≡ g ∷ drop (k + 1) gs = rw (add-one k) (drop-cons gs k g h ∙ ap (λ x. x ∷ drop (suc k) gs) f) in
    subst HoldBytes (sym d) (small, rest)
