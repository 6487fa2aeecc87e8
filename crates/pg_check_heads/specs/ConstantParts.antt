-- What the parts of a constant are refused for, one after the other.
use Rattle.std.specs.Prelude.{ℕ, ◌==◌, Bool, false, List, ◌++◌, length, slice_get, Option}
use Rattle.pg_read_lex.specs.declared.token.Span.{Span}
use Rattle.pg_num.specs.declared.width.Width.TheVariants.{W8}
use Rattle.pg_read_ast.specs.Syntax.{NamedType, TypedC}
use Rattle.pg_check_types.specs.declared.kind.TypeKind.{TypeKind}
use Rattle.pg_check_types.specs.declared.kind.TypeKind.TheVariants.{Integer}
use Rattle.pg_check_types.specs.Resolved.{ResolvedType, resolved}
use Rattle.pg_check_types.specs.Known.{denoted, IsWithin}
use Rattle.pg_check_rules.specs.ValueConditions.{wrong_part, wrong_const}

-- each of these numbers is in the table
abbrev pub AllWithin : List ResolvedType → List ℕ → Type 0
AllWithin table numbers = (k : ℕ) → IsWithin table (slice_get numbers k)

-- what one part is refused for, where a type is asked for
abbrev pub part_row : List NamedType → Option ResolvedType → TypedC → List Span
part_row types expected t = wrong_part types expected t.ty ++ wrong_const types (resolved types t.ty) t.value

-- the same for the part at a place of a structure whose fields have these numbers
abbrev pub field_row : List NamedType → List ResolvedType → List ℕ → ℕ × TypedC → List Span
field_row types table numbers p = part_row types (denoted table (slice_get numbers p.0)) p.1

-- bytes are so many elements of a kind
abbrev pub fits_kind : TypeKind → ℕ → List ℕ → Bool
fits_kind (Integer W8) n bytes = n == length bytes
fits_kind _ n bytes = false
