use Rattle.std.proofs.Common.{sym, ap, ◌∙◌}
use Rattle.pg_check_types.specs.Known.{denoted}
use Rattle.pg_check_types.specs.Kinds.{fails}
use Rattle.pg_check_types.specs.NumberedTypes.{table_of}
use Rattle.pg_check_rules.specs.Conditions.{at_if}
use Rattle.pg_check_rules.specs.Earliest.{earliest}
use Rattle.pg_check_rules.specs.ValueConditions.{fits_elements}
use Rattle.pg_check_rules.proofs.Parts.{no_place}
use Rattle.pg_check_heads.proofs.wrong_constants.wrong_array.Goals as goal

pub returns-in-None : goal.returns-in-None
returns-in-None c = no_place ∙ ap (λ o. earliest (at_if (fails (fits_elements c.args.count) (denoted (table_of c.args.types.now) o)) c.args.span)) (sym c.in-None.is)
