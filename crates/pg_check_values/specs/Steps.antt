-- The path of a getelementptr's indices behind the first, once the numbers of its constants are known; and what a value
-- and those within it give, row by row.
use Rattle.std.specs.Prelude.{ℤ, List, [], ◌∷◌, ◌++◌, Option, Some, None}
use Rattle.std.specs.List.{flat_map}
use Rattle.pg_read_lex.specs.declared.token.Span.{Span}
use Rattle.pg_read_ast.specs.Syntax.{Ty, Typed}
use Rattle.pg_check_types.specs.Resolved.{ResolvedType, ArrayType, NoFields, MoreFields}
use Rattle.pg_check_rules.specs.Places.{type_span, val_span}
use Rattle.pg_check_rules.specs.Written.{Use, with_inner, constant_at, own_types}
use Rattle.pg_check_rules.specs.ValueConditions.{field_at}

abbrev pub refused_field : Option ResolvedType → Typed → List Span
refused_field (Some t) i = []
refused_field None i = val_span i.value ∷ []

-- the refused place of an index into a type
abbrev pub step_place : Option ResolvedType → Option ℤ → Typed → List Span
step_place None k i = []
step_place (Some (ArrayType n e)) k i = []
step_place (Some NoFields) k i = refused_field (field_at NoFields k) i
step_place (Some (MoreFields s t)) k i = refused_field (field_at (MoreFields s t) k) i
step_place (Some t) k i = type_span i.ty ∷ []

-- the type to which an index goes
abbrev pub step_type : Option ResolvedType → Option ℤ → Option ResolvedType
step_type (Some (ArrayType n e)) k = Some e
step_type (Some (MoreFields s t)) k = field_at (MoreFields s t) k
step_type _ k = None

-- the row of an index and the values within it
abbrev pub index_row : (Use → List Span) → Typed → List Span
index_row f t = flat_map f (with_inner (constant_at t.ty t.value))

-- the refused places of indices into a type, one after the other
unfoldable pub step_places : Option ResolvedType → List (Option ℤ) → List Typed → List Span
step_places t (k ∷ ks) (i ∷ is) = step_place t k i ++ step_places (step_type t k) ks is
step_places t _ _ = []

-- the types that the values of an index write by themselves
abbrev pub type_row : Typed → List Ty
type_row t = flat_map (λ (u : Use). own_types u.value) (with_inner (constant_at t.ty t.value))
