use Rattle.std.proofs.Common.{◌≡◌, map, drop}
use Rattle.pg_read_ast.specs.Views.{typed_of}
use Rattle.pg_check_types.specs.Known.{denoted, IsWithin}
use Rattle.pg_check_types.specs.NumberedTypes.{table_of}
use Rattle.pg_check_rules.specs.Earliest.{earlier, earliest}
use Rattle.pg_check_values.specs.Steps.{step_places}
use Rattle.pg_check_values.proofs.indices.wrong_steps.Given as goal

abbrev pub invariant-loop-place : goal.invariant-loop-place
invariant-loop-place l = record {
  within : IsWithin (table_of l.types) l.current;
  whole : earlier l.found (earliest (step_places (denoted (table_of l.types) l.current) (drop l.place l.chosen) (map typed_of (drop l.place l.indices))))
      ≡ earliest (step_places (denoted (table_of l.types) l.fn.number) (drop 1 l.chosen) (map typed_of (drop 1 l.indices)));
}
