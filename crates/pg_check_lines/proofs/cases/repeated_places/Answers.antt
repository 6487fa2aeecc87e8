use Rattle.std.proofs.Common.{refl}
use Rattle.pg_check_rules.specs.Earliest.{earliest}
use Rattle.pg_check_lines.specs.Cases.{repeated}
use Rattle.pg_check_lines.proofs.CaseStarts.{place_at}
use Rattle.pg_check_lines.proofs.cases.repeated_places.Goals as goal

pub loop-place-init : goal.loop-place-init
unfolding earliest
loop-place-init c = λ all s. refl

pub loop-place-preserved : goal.loop-place-preserved
loop-place-preserved c = λ all s.
    place_at (repeated all) c.args.places.now c.loop-place.place-index _ c.loop-place.found c.repeated.result c.earlier-found.result
    c.loop-place-test.true (c.loop-place.invariant all s) (c.repeated.ensures all s) c.earlier-found.ensures
