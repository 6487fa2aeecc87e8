use Rattle.std.proofs.Common.{Some, None, refl, sym, ap, subst, ◌∙◌}
use Rattle.pg_read_ast.specs.Numbers.{numbered}
use Rattle.pg_read_ast.specs.Views.{define_of, tree_of}
use Rattle.pg_check_rules.specs.Conditions.{body_refused}
use Rattle.pg_check_rules.specs.Earliest.{IsFirstAmong}
use Rattle.pg_check_rules.proofs.FirstRefusals.{nothing_here}
use Rattle.pg_check_bodies.specs.BodyBlocks.{capped}
use Rattle.pg_check_bodies.proofs.BodyOrder.{lines_before, lines_step, bodies_end, counted, found_here, found_behind}
use Rattle.pg_check_bodies.proofs.bodies.first_among.Goals as goal

pub loop-item-init : goal.loop-item-init
loop-item-init c = record { first = λ o h. h; count = refl }

pub body_refusal-requires : goal.body_refusal-requires
body_refusal-requires c = c.requires

pub loop-item-preserved : goal.loop-item-preserved
loop-item-preserved c =
    let m = tree_of c.args.symbols.now.tree.now in
    let all = c.args.items.now in
    let i = c.loop-item.item-index in
    let item = c.item-item.result in
    let until = counted all i item c.as_slice.result.now c.lines_until-until.result c.as_slice.ensures.value (c.lines_until-until.ensures (lines_before all i) c.loop-item.invariant.count) in
    let nothing = nothing_here (body_refused m (lines_before all i) (numbered m.types (define_of item))) _ c.in_default.is (c.in_ok-refusal.ensures.first m (lines_before all i) refl until) in
    record {
      first = λ o h. c.loop-item.invariant.first o (found_behind m all i item o c.loop-item-test.true c.item-item.is nothing h);
      count = until ∙ ap (λ n. capped n) (sym (lines_step all i item c.loop-item-test.true c.item-item.is));
    }

pub returns-in-Some : goal.returns-in-Some
returns-in-Some c = record {
  first =
      let m = tree_of c.args.symbols.now.tree.now in
      let all = c.args.items.now in
      let i = c.loop-item.item-index in
      let item = c.item-item.result in
      let until = counted all i item c.as_slice.result.now c.lines_until-until.result c.as_slice.ensures.value (c.lines_until-until.ensures (lines_before all i) c.loop-item.invariant.count) in
      c.loop-item.invariant.first (Some c.in-Some.refusal) (found_here m all i item _ c.in-Some.refusal c.loop-item-test.true c.item-item.is c.in-Some.is
      (c.in_ok-refusal.ensures.first m (lines_before all i) refl until));
}

pub returns : goal.returns
returns c = record {
  first =
      let m = tree_of c.args.symbols.now.tree.now in
      let lines = lines_before c.args.items.now c.loop-item.item-index in
      c.loop-item.invariant.first None (subst (λ ps. IsFirstAmong ps None) (sym (bodies_end m c.args.items.now c.loop-item.item-index lines c.loop-item-test.false)) tt);
}
