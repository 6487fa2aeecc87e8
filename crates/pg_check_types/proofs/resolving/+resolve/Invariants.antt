use Rattle.std.proofs.Common.{◌≡◌, ℕ, List, map, drop, Option, Some}
use Rattle.pg_read_ast.specs.Syntax.{tys}
use Rattle.pg_read_ast.specs.Views.{ty_of}
use Rattle.pg_check_types.specs.Resolved.{ResolvedType, NoFields, fields_by}
use Rattle.pg_check_types.specs.Table.{types_of, Grows}
use Rattle.pg_check_types.specs.Known.{denoted, IsWithin, AreWithin, Names, item_number}
use Rattle.pg_check_types.proofs.resolving.+resolve.Given as goal

abbrev pub invariant-fields_number-loop-field : goal.invariant-fields_number-loop-field
invariant-fields_number-loop-field l = record {
  grows : Grows (types_of l.fn.table) (types_of l.table);
  known : AreWithin (types_of l.table) (item_number l.places l.items);
  within : IsWithin (types_of l.table) l.front;
  value : (named : List ℕ → Option ResolvedType) → Names (types_of l.fn.table) (item_number l.places l.items) named
      → fields_by named (denoted (types_of l.table) l.front) (tys (map ty_of (drop l.field-index l.fields))) ≡ fields_by named (Some NoFields) (tys (map ty_of l.fields));
}
