use Rattle.std.proofs.Common.{Some, sym, ap}
use Rattle.std.specs.List.{enumerate_from}
use Rattle.pg_read_ast.specs.Views.{tree_of}
use Rattle.pg_check_types.specs.NumberedTypes.{items_of}
use Rattle.pg_check_types.proofs.Resolutions.{if_ok}
use Rattle.pg_check_rules.specs.Conditions.{all_of, global_refused, heads_refused}
use Rattle.pg_check_rules.proofs.FirstRefusals.{first_here, nothing_here, first_behind}
use Rattle.pg_check.specs.Checked.{last_phases, phases_from_heads}
use Rattle.pg_check.proofs.first.first_from_globals.Goals as goal

pub returns-in-Some : goal.returns-in-Some
returns-in-Some c = record {
  first =
      let m = tree_of c.args.symbols.now.tree.now in
      let part = all_of (global_refused m) (enumerate_from 0 m.globals) in
      first_here part (phases_from_heads m) c.in_ok-first.first c.in-Some.refusal c.in-Some.is (c.in_ok-first.ensures.first c.requires.starts);
}

pub returns-in-Some-next : goal.returns-in-Some-next
returns-in-Some-next c = record {
  first =
      let m = tree_of c.args.symbols.now.tree.now in
      let part = all_of (global_refused m) (enumerate_from 0 m.globals) in
      let own = c.in_ok-next-in-None.ensures.first (sym (ap (λ xs. items_of xs) c.requires.items)) c.requires.starts in
      first_behind part (phases_from_heads m) (Some c.in-Some-next.refusal) (nothing_here part c.in_ok-first.first c.in-None.is (c.in_ok-first.ensures.first c.requires.starts))
      (first_here (heads_refused m) (last_phases m) c.in_ok-next-in-None.next c.in-Some-next.refusal c.in-Some-next.is own);
}

pub returns-in-None-next : goal.returns-in-None-next
returns-in-None-next c = record {
  first =
      let m = tree_of c.args.symbols.now.tree.now in
      let part = all_of (global_refused m) (enumerate_from 0 m.globals) in
      let own = c.in_ok-next-in-None.ensures.first (sym (ap (λ xs. items_of xs) c.requires.items)) c.requires.starts in
      if_ok c.first_behind_heads.result
      (λ o f. first_behind part (phases_from_heads m) o (nothing_here part c.in_ok-first.first c.in-None.is (c.in_ok-first.ensures.first c.requires.starts))
      (first_behind (heads_refused m) (last_phases m) o (nothing_here (heads_refused m) c.in_ok-next-in-None.next c.in-None-next.is own) f))
      c.first_behind_heads.ensures.first;
}
