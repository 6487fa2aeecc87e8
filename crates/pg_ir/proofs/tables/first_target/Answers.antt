use Rattle.std.proofs.Common.{◌≡◌, ◌∙◌, arith, rules, sym, ltb, ltb-true, ltb-false}
use Rattle.std.specs.Prelude.{slice_get}
use Rattle.std.proofs.lemmas.List.Sorted.{IsPartitionPoint-from_clause, IsPartitionedBy-ltb}
use Rattle.pg_ir.specs.declared.tables.CaseRow.{CaseRow}
use Rattle.pg_ir.specs.Tables.{first_target, target_at}
use Rattle.pg_ir.proofs.CaseTables.{found_first}
use Rattle.pg_ir.proofs.tables.first_target.Goals as goal

pub returns : goal.returns
returns c =
    let parted = IsPartitionedBy-ltb (λ (r : CaseRow). r.value) _ c.args.n c.requires in
    let point = IsPartitionPoint-from_clause (λ (r : CaseRow). ltb r.value c.args.n) _ _ c.partition_point-at.ensures.partitioned parted (λ a r q k. search rules) in
    let found : first_target c.args.rows.now c.args.n ≡ target_at c.args.n (slice_get c.args.rows.now c.partition_point-at.result) =
    found_first c.args.rows.now c.args.n c.partition_point-at.result c.requires (λ k d h. ltb-true _ _ (point.0 k d (omega arith) h)) (λ k d h l. ltb-false _ _ (point.1 k d h l)) in
    c.target_at.ensures ∙ sym found
