use Rattle.std.proofs.Common.{◌≡◌, ◌<◌, ◌≤◌, ℕ, Bool, false, Option, Ordering, Less, Equal, Greater, is_gt, slice_get, refl, sym, ap, ◌∙◌, subst, arith}
use Rattle.std.specs.Prelude.{IfSome, IsSome}
use Rattle.std.proofs.lemmas.Cmp.{ranked}
use Rattle.std.proofs.lemmas.Map.Keys.{le_from_not_gt}
use Rattle.std.specs.Ordering.{MatchOrdering, nat_cmp}
use Rattle.pg_slice_demands.specs.CellLists.{CellList, cell_at}
use Rattle.pg_slice_demands.proofs.cells.Cells.first_in.Goals as goal

not_gt : (a b : ℕ) → a ≤ b → is_gt (nat_cmp a b) ≡ false
not_gt a b l = go (nat_cmp a b) (ranked a b (nat_cmp a b) refl)
  where
    go : (r : Ordering) → MatchOrdering r (a < b) (a ≡ b) (b < a) → is_gt r ≡ false
    go Less h = refl
    go Equal h = refl
    go Greater h = absurd (omega (arith, l, h))

pub returns-in-Some-clause-first : goal.returns-in-Some-clause-first
returns-in-Some-clause-first c = λ k w l u g.
    let h = (c.range.ensures.in_range tt).2 k (not_gt c.args.from k l, tt) (subst (λ (o : Option Bool). IsSome o) (sym (ap (λ (cells : CellList). cell_at cells k) c.self.view_is ∙ g)) refl) in
    le_from_not_gt c.in-Some.place.now k (subst (λ xs. IfSome (slice_get xs 0) (λ e. is_gt (nat_cmp e.0 k) ≡ false)) c.in-Some.ensures.steps h)
