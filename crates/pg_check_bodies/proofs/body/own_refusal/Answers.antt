use Rattle.std.proofs.Common.{sym, ap, ◌∙◌}
use Rattle.pg_read_ast.specs.Syntax.{Tree}
use Rattle.pg_read_ast.specs.Numbers.{numbered}
use Rattle.pg_read_ast.specs.Views.{define_of}
use Rattle.pg_check_rules.specs.LineConditions.{line_refused}
use Rattle.pg_check_rules.specs.Earliest.{joined}
use Rattle.pg_check_rules.specs.Conditions.{all_of, all_lines, scope_of, body_refused}
use Rattle.pg_check_rules.proofs.FirstRefusals.{same_places}
use Rattle.pg_check_bodies.specs.BodyParts.{whole_refused}
use Rattle.pg_check_bodies.proofs.BodyRows.{body_parts}
use Rattle.pg_check_bodies.proofs.body.own_refusal.Goals as goal

pub returns : goal.returns
returns c = record {
  first = λ m lines e u.
      let d = numbered m.types (define_of c.args.item.now) in
      let whole = whole_refused m lines d in
      let own = all_of (line_refused (scope_of m d)) (all_lines d) in
      same_places (joined whole own) (body_refused m lines d) c.earlier_refusal.result (body_parts m lines d)
      (c.earlier_refusal.ensures whole own (c.in_ok-whole.ensures.first m lines (ap (λ (x : Tree). x.types) e ∙ sym c.requires.tree) u) (c.in_ok-lines.ensures.first m e));
}
