use Rattle.std.proofs.Common.{subst}
use Rattle.pg_check_types.specs.Table.{IsTable}
use Rattle.pg_check_types.proofs.SameTypes.{same_by_number}
use Rattle.pg_check_types.proofs.table.TypeTable.are_same.Goals as goal

pub returns : goal.returns
returns c = same_by_number c.args.self.now c.args.one c.args.other (subst (λ x. IsTable x) c.self.view_is c.self.invariant) c.requires.one c.requires.other
