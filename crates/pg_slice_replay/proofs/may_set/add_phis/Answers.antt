use Rattle.std.proofs.Common.{◌≡◌, ℕ, ◌<◌, Some, ap, sym, subst, ◌∙◌, arith}
use Rattle.std.specs.Prelude.{IfSome, slice_get}
use Rattle.std.proofs.lemmas.Option.{slice_get-get_or}
use Rattle.pg_ir.specs.Edges.{phis_of}
use Rattle.pg_slice_replay.proofs.PhiRegisters.{phi_small}
use Rattle.pg_slice_replay.proofs.may_set.add_phis.Goals as goal

pub add_set-requires : goal.add_set-requires
add_set-requires c =
    let at : slice_get (phis_of c.args.p.now c.args.b.0) c.loop-phi.phi-index ≡ Some c.phi-item.result =
    ap (λ l. slice_get l c.loop-phi.phi-index) (sym c.phis-phi-items.ensures.phis)
    ∙ slice_get-get_or c.phis-phi-items.result.now c.loop-phi.phi-index c.phi-item.result (omega (arith, c.loop-phi-test.true)) ∙ ap Some (sym c.phi-item.is) in
    subst (λ (n : ℕ). IfSome c.phi-item.result.result (λ r. r < n)) (sym (c.loop-phi.invariant.size ∙ c.requires.size))
    (phi_small c.args.p.now c.args.b.0 c.loop-phi.phi-index c.phi-item.result c.facts.ensures.holds at)
