use Rattle.std.proofs.Common.{Some}
use Rattle.pg_read_ast.specs.Views.{tree_of}
use Rattle.pg_check_types.proofs.Resolutions.{if_ok}
use Rattle.pg_check_rules.specs.Conditions.{all_of, item_refused, phases}
use Rattle.pg_check_rules.proofs.FirstRefusals.{first_here, nothing_here, first_behind}
use Rattle.pg_check.specs.Checked.{phases_from_globals}
use Rattle.pg_check.proofs.PhaseLists.{found_in}
use Rattle.pg_check.proofs.first.first_of_module.Goals as goal

pub returns-in-Some : goal.returns-in-Some
unfolding phases
returns-in-Some c = record {
  first =
      let m = tree_of c.args.tree.now in
      let part = all_of (item_refused m.types) m.types in
      found_in m (Some c.in-Some.refusal) (first_here part (phases_from_globals m) c.in_ok-first.first c.in-Some.refusal c.in-Some.is c.in_ok-first.ensures.first);
}

pub returns-in-None : goal.returns-in-None
unfolding phases
returns-in-None c = record {
  first =
      let m = tree_of c.args.tree.now in
      let part = all_of (item_refused m.types) m.types in
      if_ok c.first_behind_types.result (λ o f. found_in m o (first_behind part (phases_from_globals m) o (nothing_here part c.in_ok-first.first c.in-None.is c.in_ok-first.ensures.first) f))
      c.first_behind_types.ensures.first;
}
