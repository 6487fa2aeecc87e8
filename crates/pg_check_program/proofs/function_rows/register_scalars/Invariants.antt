use Rattle.std.proofs.Common.{◌≡◌, take}
use Rattle.std.specs.List.{filter_map}
use Rattle.pg_check_types.specs.NumberedTypes.{named_types}
use Rattle.pg_check_rules.specs.Numbered.{scalar_in}
use Rattle.pg_check_names.specs.Registers.{register_type}
use Rattle.pg_check_program.proofs.function_rows.register_scalars.Given as goal

abbrev pub invariant-loop-place : goal.invariant-loop-place
invariant-loop-place l = l.found.items ≡ filter_map (λ t. scalar_in (register_type (named_types l.types) t)) (take l.place l.all)
