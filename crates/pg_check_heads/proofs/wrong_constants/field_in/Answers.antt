use Rattle.std.proofs.Common.{sym, subst}
use Rattle.pg_check_types.specs.Known.{IsWithin}
use Rattle.pg_check_types.specs.NumberedTypes.{table_of}
use Rattle.pg_check_heads.proofs.wrong_constants.field_in.Goals as goal

pub returns-clause-within : goal.returns-clause-within
returns-clause-within c = subst (λ o. IsWithin (table_of c.args.types.now) o) (sym c.nth_field.ensures) (c.requires c.args.place)
