use Rattle.std.proofs.Common.{map, take, refl, subst}
use Rattle.pg_read_ast.specs.Views.{line_of, block_of}
use Rattle.pg_check_rules.specs.Earliest.{IsFirstIn}
use Rattle.pg_check_rules.specs.LineConditions.{line_refused}
use Rattle.pg_check_rules.specs.Conditions.{all_of}
use Rattle.pg_check_rules.proofs.Rows.{row_whole}
use Rattle.pg_check_rules.proofs.FirstRefusals.{part_step}
use Rattle.pg_check_bodies.specs.BodyParts.{block_refused}
use Rattle.pg_check_bodies.proofs.body_lines.blocks_refusal.Goals as goal

pub loop-block-init : goal.loop-block-init
loop-block-init c = λ g s. record { none = λ kind. refl }

pub loop-block-preserved : goal.loop-block-preserved
loop-block-preserved c = λ g s.
    part_step (block_refused g) block_of c.args.blocks.now c.loop-block.block-index c.block-item.result c.earlier_refusal-found.result c.loop-block-test.true c.block-item.is
    (c.earlier_refusal-found.ensures (all_of (block_refused g) (map block_of (take c.loop-block.block-index c.args.blocks.now))) (block_refused g (block_of c.block-item.result))
    (c.loop-block.invariant g s)
    (subst (λ ls. IsFirstIn (all_of (line_refused g) (map line_of ls)) c.in_ok-own.own) c.as_slice.ensures.value
    (c.in_ok-own.ensures.first g s)))

pub returns : goal.returns
returns c = record {
  first = λ g s.
      row_whole (λ bs. IsFirstIn (all_of (block_refused g) (map block_of bs)) c.loop-block.found) c.args.blocks.now c.loop-block.block-index c.loop-block-test.false
      (c.loop-block.invariant g s);
}
