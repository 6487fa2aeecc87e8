use Rattle.std.proofs.Common.{◌∙◌, ap, rules, length, List}
use Rattle.std.proofs.lemmas.List.Sorted.{IsNonDecreasingBy-from_sort_by_key, answers_always, length_permutation}
use Rattle.pg_ir.specs.declared.tables.CaseRow.{CaseRow}
use Rattle.pg_ir.specs.Tables.{first_target}
use Rattle.pg_ir.proofs.CaseTables.{stably_same, rows_count}
use Rattle.pg_ir.proofs.prepare.sorted_rows.Goals as goal

pub returns : goal.returns
returns c = record {
  count = length_permutation _ _ c.sort_by_key.ensures.permutation ∙ ap length c.in_ok-rows.ensures ∙ rows_count 1 c.args.cases.now;
  sorted = IsNonDecreasingBy-from_sort_by_key (λ (r : CaseRow). r.value) _ c.in_ok-sort_by_key.ensures.sorted (λ a r q k. search rules);
  same = λ n. stably_same _ _ (c.sort_by_key.ensures.stable (λ (r : CaseRow). r.value) (answers_always _ _ _ (λ f a r g h. search rules))) n
      ∙ ap (λ (rs : List CaseRow). first_target rs n) c.in_ok-rows.ensures;
}
