use Rattle.pg_check_rules.specs.ValueConditions.{wrong_use}
use Rattle.pg_check_rules.proofs.Parts.{no_place}
use Rattle.pg_check_rules.proofs.Rows.{row_step}
use Rattle.pg_check_heads.specs.Initialisers.{use_behind, within_row}
use Rattle.pg_check_heads.proofs.initialiser_rows.wrong_uses.Goals as goal

pub loop-one-init : goal.loop-one-init
loop-one-init c = λ g s. no_place

pub loop-one-preserved : goal.loop-one-preserved
loop-one-preserved c = λ g s.
    row_step (within_row (wrong_use g)) use_behind c.args.uses.now c.loop-one.one-index c.one-item.result c.one-item.result
    c.loop-one.found c.in_ok-own.own c.earlier-found.result c.loop-one-test.true c.one-item.is (c.loop-one.invariant g s)
    (c.in_ok-own.ensures.place g s) c.earlier-found.ensures
