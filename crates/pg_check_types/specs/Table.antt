-- A table of types in which each is known by its number.
use Rattle.std.specs.Prelude.{◌≡◌, ◌≢◌, ◌⊎◌, ℕ, zero, suc, ◌<◌, nat_lt, ◌&&◌, Bool, true, List, [], ◌∷◌, ◌++◌, slice_get, Some, IfSome, unwrap_or}
use Rattle.std.specs.Map.{keys_of}
use Rattle.pg_read_ast.specs.pg_num.declared.width.Width.TheVariants.{W1, W8, W16, W32, W64}
use Rattle.pg_check_types.specs.declared.layout.Layout.{Layout}
use Rattle.pg_check_types.specs.declared.shape.Shape.{Shape}
use Rattle.pg_check_types.specs.declared.shape.Shape.TheVariants.{I1, I8, I16, I32, I64, Pointer, Void, Array, NoFields, MoreFields}
use Rattle.pg_check_types.specs.Resolved as resolved
use Rattle.pg_check_types.specs.Resolved.{ResolvedType}
use Rattle.pg_check_types.specs.Capped.{IsLayout}

-- the type of a number
abbrev pub type_at : List ResolvedType → ℕ → ResolvedType
type_at types t = unwrap_or (slice_get types t) resolved.VoidType

-- the type of a shape whose parts are in the table
abbrev pub type_of_shape : List ResolvedType → Shape → ResolvedType
type_of_shape types I1 = resolved.IntegerType W1
type_of_shape types I8 = resolved.IntegerType W8
type_of_shape types I16 = resolved.IntegerType W16
type_of_shape types I32 = resolved.IntegerType W32
type_of_shape types I64 = resolved.IntegerType W64
type_of_shape types Pointer = resolved.PointerType
type_of_shape types Void = resolved.VoidType
type_of_shape types (Array n t) = resolved.ArrayType n (type_at types t)
type_of_shape types NoFields = resolved.NoFields
type_of_shape types (MoreFields s t) = resolved.MoreFields (type_at types s) (type_at types t)

-- a shape's parts have numbers below this
abbrev pub refers_below : ℕ → Shape → Bool
refers_below n (Array c t) = nat_lt t n
refers_below n (MoreFields s t) = nat_lt s n && nat_lt t n
refers_below n _ = true

-- the types of shapes in a row, each over those before it
unfoldable pub types_from : List ResolvedType → List Shape → List ResolvedType
types_from types [] = types
types_from types (s ∷ ss) = types_from (types ++ type_of_shape types s ∷ []) ss

abbrev pub types_of : List (Shape × Layout) → List ResolvedType
types_of entries = types_from [] (keys_of entries)

-- no shape stands at two places
abbrev pub AreDistinct : List Shape → Type 0
AreDistinct shapes = (i j : ℕ) (s : Shape) → slice_get shapes i ≡ Some s → slice_get shapes j ≡ Some s → i ≡ j

-- a structure without so many of its last fields
abbrev pub without_last : ℕ → ResolvedType → ResolvedType
without_last zero t = t
without_last (suc n) (resolved.MoreFields s t) = without_last n s
without_last (suc n) t = t

-- a structure of some of the first fields of another, or of all
abbrev pub IsBeginning : ResolvedType → ResolvedType → Type 0
IsBeginning s t = (n : ℕ) × (s ≡ without_last n t)

-- the type of a number below an end is a structure of some of the first fields of this one
pub record IsShorter (types : List ResolvedType) (t : ResolvedType) (end n : ℕ) : Type 0 where
  pub below : n < end
  pub beginning : IsBeginning (type_at types n) t

-- each shape's parts stand before it, each layout is its type's and leads back, and each shape stands once
pub record IsTable (entries : List (Shape × Layout)) : Type 0 where
  pub refers : (i : ℕ) (s : Shape) (l : Layout) → slice_get entries i ≡ Some (s, l) → refers_below i s ≡ true
  pub layouts : (i : ℕ) (s : Shape) (l : Layout) → slice_get entries i ≡ Some (s, l) → IsLayout l (type_of_shape (types_of entries) s)
  pub shorter : (i : ℕ) (s : Shape) (l : Layout) → slice_get entries i ≡ Some (s, l) → IfSome l.shorter (IsShorter (types_of entries) (type_of_shape (types_of entries) s) i)
  pub distinct : AreDistinct (keys_of entries)

-- a shape is none of these
abbrev pub IsAbsent : List Shape → Shape → Type 0
IsAbsent shapes s = (i : ℕ) → slice_get shapes i ≢ Some s

-- an entry is there already, or goes last
abbrev pub IsAdded : List (Shape × Layout) → List (Shape × Layout) → Shape → Layout → Type 0
IsAdded es fs s l = (fs ≡ es) ⊎ (IsAbsent (keys_of es) s × (fs ≡ es ++ (s, l) ∷ []))

-- the types before stay, and others may follow
abbrev pub Grows : List ResolvedType → List ResolvedType → Type 0
Grows old new = (more : List ResolvedType) × (new ≡ old ++ more)
