use Rattle.std.proofs.Common.{IfOk, subst}
use Rattle.pg_read_ast.specs.Views.{tree_of}
use Rattle.pg_check_rules.specs.Earliest.{IsFirstAmong}
use Rattle.pg_check.specs.Checked.{phases_from_globals}
use Rattle.pg_check.proofs.first.first_behind_types.Goals as goal

pub returns : goal.returns
returns c = record {
  first = subst (λ t. IfOk c.first_from_globals.result (λ o. IsFirstAmong (phases_from_globals (tree_of t)) o)) c.in_ok-symbols.ensures c.first_from_globals.ensures.first;
}
