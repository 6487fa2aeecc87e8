-- What stands in the initialiser of a global, as references to its nodes.
use Rattle.std.specs.Prelude.{◌∷◌, List, map}
use Rattle.std.specs.List.{flat_map}
use Rattle.pg_read_lex.specs.declared.token.Span.{Span}
use Rattle.pg_read_ast.specs.Syntax.{Ty, TypedC}
use Rattle.pg_read_ast.specs.Views.{ty_of, val_of}
use Rattle.pg_check_rules.specs.Written.{Use, constant_at, with_inner, own_types, const_uses, const_types}
use Rattle.pg_check_heads.specs.declared.initialisers.UseNode.{UseNode}

abbrev pub use_behind : UseNode → Use
use_behind u = constant_at (ty_of u.ty.now) (val_of u.value.now)

abbrev pub uses_behind : List UseNode → List Use
uses_behind us = map use_behind us

-- what one part of a constant has
abbrev pub use_row : TypedC → List Use
use_row t = const_uses t.ty t.value

abbrev pub type_row : TypedC → List Ty
type_row t = t.ty ∷ const_types t.value

-- what a value and those within it have
abbrev pub within_row : (Use → List Span) → Use → List Span
within_row f u = flat_map f (with_inner u)

-- the types that a value and those within it write by themselves
abbrev pub own_row : Use → List Ty
own_row u = flat_map (λ (w : Use). own_types w.value) (with_inner u)
