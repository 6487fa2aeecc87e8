use Rattle.std.proofs.Common.{◌∙◌}
use Rattle.pg_check_types.proofs.Capping.{integer_layout}
use Rattle.pg_check_types.proofs.measures.integer_layout.Goals as goal

pub returns-clause-layout : goal.returns-clause-layout
returns-clause-layout c = integer_layout _ c.args.width (c.scalar_layout.ensures.size ∙ c.bytes_of.ensures.value) c.scalar_layout.ensures.fields_end
    (c.scalar_layout.ensures.alignment ∙ c.bytes_of.ensures.value) c.scalar_layout.ensures.fields
