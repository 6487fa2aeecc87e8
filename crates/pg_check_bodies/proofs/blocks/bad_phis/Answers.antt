use Rattle.std.proofs.Common.{◌≡◌, ℕ, map, refl}
use Rattle.std.specs.List.{flat_map, enumerate_from}
use Rattle.pg_read_ast.specs.Syntax.{Block}
use Rattle.pg_check_rules.specs.Earliest.{earliest}
use Rattle.pg_check_rules.specs.BlockConditions.{bad_phis}
use Rattle.pg_check_rules.proofs.Rows.{numbered_step, row_whole}
use Rattle.pg_check_bodies.specs.BodyBlocks.{named_block}
use Rattle.pg_check_bodies.proofs.blocks.bad_phis.Goals as goal

pub loop-number-init : goal.loop-number-init
unfolding earliest
loop-number-init c = λ all k. refl

pub loop-number-preserved : goal.loop-number-preserved
loop-number-preserved c = λ all k.
    numbered_step (λ (b : ℕ × Block). bad_phis all (map named_block c.args.blocks.now) b.0 b.1) named_block c.args.blocks.now c.loop-number.number c.index-blocks-number.result
    c.index-blocks-number.result
    c.loop-number.found c.in_ok-own.own c.earlier-found.result c.loop-number-test.true c.index-blocks-number.is (c.loop-number.invariant all k) (c.in_ok-own.ensures all k) c.earlier-found.ensures

pub returns : goal.returns
returns c = λ all k.
    row_whole (λ bs. c.loop-number.found ≡ earliest (flat_map (λ (b : ℕ × Block). bad_phis all (map named_block c.args.blocks.now) b.0 b.1) (enumerate_from 0 (map named_block bs))))
    c.args.blocks.now c.loop-number.number c.loop-number-test.false
    (c.loop-number.invariant all k)
