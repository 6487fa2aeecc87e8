use Rattle.std.proofs.Common.{◌≡◌, ◌+◌, ◌∙◌, ℕ, List, map, ap, subst, sym, arith}
use Rattle.std.specs.Prelude.{Contains}
use Rattle.std.specs.List.Sorted.{IsNonDecreasing, IsStrictlyIncreasing}
use Rattle.std.proofs.lemmas.Grind.{get_or_default_zero}
use Rattle.std.proofs.lemmas.List.{take_all}
use Rattle.std.proofs.lemmas.List.Filters.{dedup_is}
use Rattle.std.proofs.lemmas.List.Kept.{Contains-dedup_nat}
use Rattle.std.proofs.lemmas.List.Sorted.{Contains-permutation, IsNonDecreasingBy-from_all_adjacent}
use Rattle.std.proofs.lemmas.Map.Keys.{IsStrictlyIncreasing-dedup}
use Rattle.pg_slice_conflicts.specs.Places.{start_of}
use Rattle.pg_slice_conflicts.proofs.places.starts.Goals as goal

rising : (xs : List ℕ) → IsStrictlyIncreasing xs → IsNonDecreasing xs
rising xs h = IsNonDecreasingBy-from_all_adjacent (λ x. x) xs
    (λ k d l. let a = get_or_default_zero xs k d (omega (arith, l)) in let b = get_or_default_zero xs (k + 1) d l in let r = h k l in omega (arith, a, b, r))

pub returns-clause-ascending : goal.returns-clause-ascending
returns-clause-ascending c = subst IsNonDecreasing (sym (dedup_is _ _ _ c.dedup.ensures.filtered)) (rising _ (IsStrictlyIncreasing-dedup _ c.sort_unstable.ensures.sorted))

pub returns-clause-all : goal.returns-clause-all
returns-clause-all c = λ b h.
    let e : c.loop-footprint.starts.items ≡ map start_of c.args.footprints.now = c.loop-footprint.invariant ∙ ap (map start_of) (take_all c.loop-footprint.footprint-index c.args.footprints.now c.loop-footprint-test.false) in
    subst (λ xs. Contains xs b) (sym (dedup_is _ _ _ c.dedup.ensures.filtered))
    (Contains-dedup_nat _ b (Contains-permutation _ _ b c.sort_unstable.ensures.permutation (subst (λ xs. Contains xs b) (sym e) h)))
