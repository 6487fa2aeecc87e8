use Rattle.std.proofs.Common.{map, take, refl}
use Rattle.pg_read_ast.specs.Views.{line_of}
use Rattle.pg_check_rules.specs.Earliest.{IsFirstIn}
use Rattle.pg_check_rules.specs.LineConditions.{line_refused}
use Rattle.pg_check_rules.specs.Conditions.{all_of}
use Rattle.pg_check_rules.proofs.Rows.{row_whole}
use Rattle.pg_check_rules.proofs.FirstRefusals.{part_step}
use Rattle.pg_check_bodies.proofs.body_lines.lines_refusal.Goals as goal

pub loop-line-init : goal.loop-line-init
loop-line-init c = λ g s. record { none = λ kind. refl }

pub loop-line-preserved : goal.loop-line-preserved
loop-line-preserved c = λ g s.
    part_step (line_refused g) line_of c.args.lines.now c.loop-line.line-index c.line-item.result c.earlier_refusal-found.result c.loop-line-test.true c.line-item.is
    (c.earlier_refusal-found.ensures (all_of (line_refused g) (map line_of (take c.loop-line.line-index c.args.lines.now))) (line_refused g (line_of c.line-item.result))
    (c.loop-line.invariant g s)
    (c.in_ok-own.ensures.first g s))

pub returns : goal.returns
returns c = record {
  first = λ g s.
      row_whole (λ ls. IsFirstIn (all_of (line_refused g) (map line_of ls)) c.loop-line.found) c.args.lines.now c.loop-line.line-index c.loop-line-test.false
      (c.loop-line.invariant g s);
}
