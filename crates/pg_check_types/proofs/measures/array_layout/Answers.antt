use Rattle.std.proofs.Common.{refl}
use Rattle.pg_check_types.proofs.Capping.{array_layout}
use Rattle.pg_check_types.proofs.measures.array_layout.Goals as goal

pub returns-clause-layout : goal.returns-clause-layout
returns-clause-layout c = array_layout c.args.count c.args.element _ c.capped.ensures.value refl refl refl
