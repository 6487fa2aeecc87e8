use Rattle.std.proofs.Common.{List, Bool, false, length, ap, ◌∙◌}
use Rattle.std.proofs.lemmas.List.{length-replicate}
use Rattle.pg_region_paths.specs.pg_num.declared.limits.TheConstants.{FUNCTION_REGISTER_LIMIT}
use Rattle.pg_region_accesses.specs.Tables.{in_table}
use Rattle.pg_region_accesses.proofs.SetTables.{nothing_in}
use Rattle.pg_region_accesses.proofs.register_sets.sets_of.Goals as goal

pub loop-b-init : goal.loop-b-init
loop-b-init c = record {
  size = ap (λ (l : List Bool). length l) c.in_ok-set.ensures ∙ length-replicate FUNCTION_REGISTER_LIMIT false;
  sets = λ r. ap (λ (l : List Bool). in_table l r) c.in_ok-set.ensures ∙ nothing_in FUNCTION_REGISTER_LIMIT r;
}
