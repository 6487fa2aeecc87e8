use Rattle.std.proofs.Common.{◌≡◌, ◌+◌, nat_lt, map, take, refl, sym, ap, ◌∙◌, arith}
use Rattle.std.specs.List.{enumerate_from}
use Rattle.pg_num.specs.declared.layout.TheConstants.{GLOBALS_END}
use Rattle.pg_read_ast.specs.Views.{global_of}
use Rattle.pg_check_types.specs.NumberedTypes.{named_types}
use Rattle.pg_check_rules.specs.Earliest.{IsFirstIn}
use Rattle.pg_check_rules.specs.Conditions.{all_of, globals_end, global_refused}
use Rattle.pg_check_rules.proofs.Rows.{row_whole}
use Rattle.pg_check_rules.proofs.FirstRefusals.{numbered_part_step}
use Rattle.pg_check_heads.specs.Ends.{ended}
use Rattle.pg_check_heads.proofs.GlobalEnds.{past_ended, ended_step, ended_small}
use Rattle.pg_check_heads.proofs.globals.refusal_over.Goals as goal

pub loop-number-init : goal.loop-number-init
unfolding globals_end
loop-number-init c = record { first = λ m s g k. record { none = λ kind. refl }; end = refl; small = omega arith }

pub loop-number-preserved : goal.loop-number-preserved
loop-number-preserved c =
    let types = named_types c.args.scope.now.types.now in
    let items = c.args.items.now in
    let number = c.loop-number.number in
    let item = c.index-items-number.result in
    let before = c.loop-number.end in
    let after = c.in_ok-end.end in
    let last = globals_end types (take (number + 1) (map global_of items)) in
    let next : after ≡ ended last =
    ended_step types global_of items number item item before after c.loop-number-test.true c.index-items-number.is c.loop-number.invariant.end
    (c.in_ok-end.ensures.count) in
    record {
      first = λ m s g k.
          numbered_part_step (global_refused m) global_of items number item c.earlier_refusal-found.result c.loop-number-test.true c.index-items-number.is
          (c.earlier_refusal-found.ensures (all_of (global_refused m) (enumerate_from 0 (map global_of (take number items)))) (global_refused m (number, global_of item))
          (c.loop-number.invariant.first m s g k)
          (c.in_ok-own.ensures.first m s
          (c.is_past_end.ensures ∙ ap (λ n. nat_lt GLOBALS_END n) next ∙ past_ended last
          ∙ ap (λ ts. nat_lt GLOBALS_END (globals_end ts (take (number + 1) (map global_of items)))) (sym s.types)
          ∙ ap (λ vs. nat_lt GLOBALS_END (globals_end m.types (take (number + 1) vs))) (sym g))
          k));
      end = next;
      small = ended_small after last next;
    }

pub returns : goal.returns
returns c = record {
  first = λ m s g k.
      row_whole (λ xs. IsFirstIn (all_of (global_refused m) (enumerate_from 0 (map global_of xs))) c.loop-number.found) c.args.items.now c.loop-number.number c.loop-number-test.false
      (c.loop-number.invariant.first m s g k);
}
