use Rattle.std.proofs.Common.{map, subst}
use Rattle.pg_read_ast.specs.Views.{define_of, tree_of}
use Rattle.pg_check_rules.specs.Conditions.{bodies}
use Rattle.pg_check_rules.specs.Earliest.{IsFirstAmong}
use Rattle.pg_check_bodies.proofs.bodies.first_of_bodies.Goals as goal

pub returns : goal.returns
returns c = record {
  first =
      subst (λ xs. IsFirstAmong (bodies (tree_of c.args.symbols.now.tree.now) (map define_of xs) 0) c.in_ok-found.found) c.as_slice.ensures.value c.in_ok-found.ensures.first;
}
