use Rattle.std.proofs.Common.{[], ◌∷◌}
use Rattle.pg_read_ast.specs.Views.{tree_of}
use Rattle.pg_check_rules.specs.Conditions.{bodies, main_refused}
use Rattle.pg_check.proofs.PhaseLists.{first_in_front, first_at_end}
use Rattle.pg_check.proofs.first.first_behind_heads.Goals as goal

pub returns-in-Some : goal.returns-in-Some
returns-in-Some c = record {
  first =
      let m = tree_of c.args.symbols.now.tree.now in
      first_in_front (bodies m m.functions 0) (main_refused m ∷ []) c.in_ok-first.first c.in-Some.refusal c.in-Some.is c.in_ok-first.ensures.first;
}

pub returns-in-None : goal.returns-in-None
returns-in-None c = record {
  first =
      let m = tree_of c.args.symbols.now.tree.now in
      first_at_end (bodies m m.functions 0) (main_refused m) c.in_ok-first.first c.main_refusal.result c.in-None.is c.in_ok-first.ensures.first c.main_refusal.ensures;
}
