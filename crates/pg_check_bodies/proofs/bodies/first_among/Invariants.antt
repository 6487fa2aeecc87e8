use Rattle.std.proofs.Common.{◌≡◌, map, drop, Option}
use Rattle.pg_read_ast.specs.Views.{define_of, tree_of}
use Rattle.pg_check_rules.specs.declared.refusals.CheckRefusal.{CheckRefusal}
use Rattle.pg_check_rules.specs.Conditions.{bodies}
use Rattle.pg_check_rules.specs.Earliest.{IsFirstAmong}
use Rattle.pg_check_bodies.specs.BodyBlocks.{capped}
use Rattle.pg_check_bodies.proofs.BodyOrder.{lines_before}
use Rattle.pg_check_bodies.proofs.bodies.first_among.Given as goal

abbrev pub invariant-loop-item : goal.invariant-loop-item
invariant-loop-item l =
    let m = tree_of l.symbols.tree.now in
    record {
      first : (o : Option CheckRefusal) → IsFirstAmong (bodies m (map define_of (drop l.item-index l.items)) (lines_before l.items l.item-index)) o
          → IsFirstAmong (bodies m (map define_of l.items) 0) o;
      count : l.until ≡ capped (lines_before l.items l.item-index);
    }
