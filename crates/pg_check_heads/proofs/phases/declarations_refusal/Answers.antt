use Rattle.std.proofs.Common.{map, take, refl}
use Rattle.pg_read_ast.specs.Views.{declare_of}
use Rattle.pg_check_rules.specs.Earliest.{IsFirstIn}
use Rattle.pg_check_rules.specs.Conditions.{all_of, declaration_refused}
use Rattle.pg_check_rules.proofs.Rows.{row_whole}
use Rattle.pg_check_rules.proofs.FirstRefusals.{part_step}
use Rattle.pg_check_heads.proofs.phases.declarations_refusal.Goals as goal

pub loop-item-init : goal.loop-item-init
loop-item-init c = record { first = λ m t s. record { none = λ kind. refl } }

pub loop-item-preserved : goal.loop-item-preserved
loop-item-preserved c = record {
  first = λ m t s.
      part_step (declaration_refused m) declare_of c.args.items.now c.loop-item.item-index c.item-item.result c.earlier_refusal-found.result c.loop-item-test.true c.item-item.is
      (c.earlier_refusal-found.ensures (all_of (declaration_refused m) (map declare_of (take c.loop-item.item-index c.args.items.now))) (declaration_refused m (declare_of c.item-item.result))
      (c.loop-item.invariant.first m t s)
      (c.in_ok-own.ensures.first m t s));
}

pub returns : goal.returns
returns c = record {
  first = λ m t s.
      row_whole (λ xs. IsFirstIn (all_of (declaration_refused m) (map declare_of xs)) c.loop-item.found) c.args.items.now c.loop-item.item-index c.loop-item-test.false
      (c.loop-item.invariant.first m t s);
}
