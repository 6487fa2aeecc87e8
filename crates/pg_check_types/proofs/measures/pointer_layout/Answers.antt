use Rattle.pg_check_types.proofs.Capping.{pointer_layout}
use Rattle.pg_check_types.proofs.measures.pointer_layout.Goals as goal

pub returns-clause-layout : goal.returns-clause-layout
returns-clause-layout c = pointer_layout _ c.scalar_layout.ensures.size c.scalar_layout.ensures.fields_end c.scalar_layout.ensures.alignment c.scalar_layout.ensures.fields
