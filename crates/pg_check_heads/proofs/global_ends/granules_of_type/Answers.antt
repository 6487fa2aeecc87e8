use Rattle.std.proofs.Common.{ap, ◌∙◌}
use Rattle.pg_ir.specs.WellFormed.{granules_for}
use Rattle.pg_check_types.specs.Layout.{size_of}
use Rattle.pg_check_types.specs.Table.{type_at}
use Rattle.pg_check_types.specs.NumberedTypes.{table_of}
use Rattle.pg_check_heads.specs.Ends.{ended}
use Rattle.pg_check_heads.proofs.GlobalEnds.{capped_granules}
use Rattle.pg_check_heads.proofs.global_ends.granules_of_type.Goals as goal

pub returns : goal.returns
returns c =
    c.kept.ensures
    ∙ ap ended c.granules_for.ensures.granules
    ∙ ap (λ s. ended (granules_for s)) c.layout_of_number.ensures.layout.size
    ∙ capped_granules (size_of (type_at (table_of c.args.types.now) c.args.number))
