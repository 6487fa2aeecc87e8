-- The bytes of initialisers, type by type.
use Rattle.std.specs.Prelude.{◌≡◌, ℕ, ◌+◌, ◌<◌, List, [], ◌∷◌, length, drop, replicate, unwrap_or, Option, Some, None}
use Rattle.pg_ir.specs.declared.function.GlobalInfo.{GlobalInfo}
use Rattle.pg_read_ast.specs.Syntax.{Val, Consts, Variable, Tree}
use Rattle.pg_check_types.specs.Resolved.{ResolvedType, resolved}
use Rattle.pg_check_types.specs.Layout.{size_or_none, bytes_of}
use Rattle.pg_check_types.specs.Table.{type_at}
use Rattle.pg_check_types.specs.declared.kind.TypeKind.{TypeKind}
use Rattle.pg_check_types.specs.declared.kind.TypeKind.TheVariants as kind
use Rattle.pg_check_rules.specs.ValueConditions.{constant_number}
use Rattle.pg_check_rules.specs.Constants.{little_endian, pointer_word, element_bytes, bytes_at, trimmed}

-- the bytes of a value by the kind of its type, which has a size
abbrev pub kind_bytes : Tree → TypeKind → ℕ → Val → List ℕ
kind_bytes m (kind.Integer w) size v = little_endian (bytes_of w) (unwrap_or (constant_number w v) 0)
kind_bytes m kind.Pointer size v = little_endian 8 (pointer_word m v)
kind_bytes m _ size v = replicate size 0

-- the bytes of elements of a type, if there is one
abbrev pub elements_at : Tree → Option ResolvedType → Consts → List ℕ
elements_at m (Some t) cs = element_bytes m t cs
elements_at m None cs = []

-- the field at a place of a structure of these types, by the number of its type
pub record IsFieldAt (table : List ResolvedType) (ts : List ResolvedType) (place f : ℕ) : Type 0 where
  pub within : f < length table
  pub rest : drop place ts ≡ type_at table f ∷ drop (place + 1) ts

-- a variable that starts at a granule
abbrev pub info_from : Tree → ℕ → Variable → GlobalInfo
info_from m start v = record {
  start = start;
  size = size_or_none (resolved m.types v.ty);
  bytes = trimmed (bytes_at m (resolved m.types v.ty) v.value);
}
