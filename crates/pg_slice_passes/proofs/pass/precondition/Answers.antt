use Rattle.std.proofs.Common.{◌≡◌, ◌++◌, ◌∷◌, [], length, ap, sym, ◌∙◌, arith}
use Rattle.pg_law_threads.proofs.ListPlaces.{take_get}
use Rattle.pg_slice_checks.specs.Asks.{all_hold}
use Rattle.pg_precondition.specs.Nodes.{Conditions}
use Rattle.pg_slice_passes.proofs.OneStepMore.{check_in, taken_all}
use Rattle.pg_slice_passes.proofs.pass.precondition.Goals as goal

pub push-requires : goal.push-requires
push-requires c =
    let n = ap length c.loop-i.invariant.0 in
    let l = check_in (length c.args.nodes) c.args.checks.now c.loop-i.i c.check_at.result c.requires c.check_at.ensures in
    omega (arith, n, l)

pub loop-i-init : goal.loop-i-init
loop-i-init c = (ap (λ (z : Conditions). z.nodes) c.new-c.ensures, ap (λ (z : Conditions). z.checks) c.new-c.ensures)

pub loop-i-preserved : goal.loop-i-preserved
loop-i-preserved c =
    let i = c.loop-i.i in
    let checks = c.args.checks.now in
    let k = c.check_at.result in (
      ap (λ (z : Conditions). z.nodes) c.in_ok-push.ensures.added ∙ c.loop-i.invariant.0,
      ap (λ (z : Conditions). z.checks) c.in_ok-push.ensures.added ∙ ap (λ l. l ++ k ∷ []) c.loop-i.invariant.1 ∙ sym (take_get checks i k c.check_at.ensures),
    )

pub returns-clause-admits : goal.returns-clause-admits
returns-clause-admits c = λ input.
    let whole : c.loop-i.c.checks ≡ c.args.checks.now = c.loop-i.invariant.1 ∙ taken_all c.loop-i.i c.args.checks.now (omega (arith, c.loop-i-test.false)) in
    c.in_ok-r.ensures.admits input
    ∙ ap (λ ns. all_hold ns c.loop-i.c.checks input) c.loop-i.invariant.0
    ∙ ap (λ cs. all_hold c.args.nodes cs input) whole
