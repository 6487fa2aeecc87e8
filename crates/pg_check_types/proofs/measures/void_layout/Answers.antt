use Rattle.pg_check_types.proofs.Capping.{void_layout}
use Rattle.pg_check_types.proofs.measures.void_layout.Goals as goal

pub returns-clause-layout : goal.returns-clause-layout
returns-clause-layout c = void_layout _ c.empty_layout.ensures.size c.empty_layout.ensures.fields_end c.empty_layout.ensures.alignment c.empty_layout.ensures.fields
