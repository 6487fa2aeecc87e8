use Rattle.std.proofs.Common.{◌<◌, ◌∷◌, [], ◌++◌, length, map, take, arith, sym, ap, ◌∙◌, subst}
use Rattle.std.specs.Prelude.{IfSome, slice_index}
use Rattle.std.proofs.lemmas.List.{map_push}
use Rattle.pg_precondition.specs.Nodes.{Conditions}
use Rattle.pg_precondition.specs.declared.check.Check.{Check}
use Rattle.pg_precondition.specs.Kept.{renamed_check}
use Rattle.pg_precondition.proofs.NumberedLists.{take_get}
use Rattle.pg_precondition.proofs.pruned.with_checks.Goals as goal

pub push-requires : goal.push-requires
push-requires c =
    let k = c.check_at-check.result in
    let l = subst (λ o. IfSome o (λ (k : Check). slice_index c.args.places.now k.node < length c.args.nodes)) c.check_at-check.ensures (c.requires.places c.loop-i.i) in
    let p = c.place_of.ensures in
    let n = ap length c.loop-i.invariant.0 in
    omega (arith, l, p, n)

pub loop-i-preserved : goal.loop-i-preserved
loop-i-preserved c =
    let f = slice_index c.args.places.now in
    let i = c.loop-i.i in
    let checks = c.args.checks.now in
    let k = c.check_at-check.result in
    let K : Check = record { node = c.place_of.result; test = k.test } in (
      ap (λ (z : Conditions). z.nodes) c.in_ok-push.ensures.added ∙ c.loop-i.invariant.0,
      ap (λ (z : Conditions). z.checks) c.in_ok-push.ensures.added ∙ ap (λ l. l ++ K ∷ []) c.loop-i.invariant.1
          ∙ ap (λ n. map (renamed_check f) (take i checks) ++ record { node = n; test = k.test } ∷ []) c.place_of.ensures
          ∙ sym (ap (map (renamed_check f)) (take_get checks i k c.check_at-check.ensures) ∙ map_push (renamed_check f) (take i checks) k),
    )
