use Rattle.std.proofs.Common.{map, take, refl}
use Rattle.std.specs.List.{enumerate_from}
use Rattle.pg_read_ast.specs.Numbers.{numbered}
use Rattle.pg_read_ast.specs.Views.{define_of}
use Rattle.pg_check_rules.specs.Earliest.{IsFirstIn}
use Rattle.pg_check_rules.specs.Conditions.{all_of, definition_refused}
use Rattle.pg_check_rules.proofs.Rows.{row_whole}
use Rattle.pg_check_rules.proofs.FirstRefusals.{numbered_part_step}
use Rattle.pg_check_heads.proofs.phases.definitions_refusal.Goals as goal

pub loop-number-init : goal.loop-number-init
loop-number-init c = record { first = λ m t s. record { none = λ kind. refl } }

pub loop-number-preserved : goal.loop-number-preserved
loop-number-preserved c =
    let items = c.args.items.now in
    let number = c.loop-number.number in
    let item = c.index-items-number.result in
    record {
      first = λ m t s.
          numbered_part_step (definition_refused m) (λ d. numbered m.types (define_of d)) items number item c.earlier_refusal-found.result c.loop-number-test.true c.index-items-number.is
          (c.earlier_refusal-found.ensures (all_of (definition_refused m) (enumerate_from 0 (map (λ d. numbered m.types (define_of d)) (take number items))))
          (definition_refused m (number, numbered m.types (define_of item)))
          (c.loop-number.invariant.first m t s)
          (c.in_ok-own.ensures.first m t s));
    }

pub returns : goal.returns
returns c = record {
  first = λ m t s.
      row_whole (λ xs. IsFirstIn (all_of (definition_refused m) (enumerate_from 0 (map (λ d. numbered m.types (define_of d)) xs))) c.loop-number.found) c.args.items.now c.loop-number.number
      c.loop-number-test.false
      (c.loop-number.invariant.first m t s);
}
