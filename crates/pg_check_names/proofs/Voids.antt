-- Which types are void, by their names and by what they are.
use Rattle.std.proofs.Common.{◌≡◌, List, Bool, true, false, refl, sym, ap, ◌∙◌}
use Rattle.std.specs.Prelude.{Option, Some, None}
use Rattle.pg_read_ast.specs.Syntax.{Ty, NamedType}
use Rattle.pg_read_ast.specs.Numbers.{is_void}
use Rattle.pg_check_rules.specs.TypeConditions.{is_void_part}
use Rattle.pg_check_types.specs.Resolved.{ResolvedType, IntegerType, PointerType, VoidType, ArrayType, NoFields, MoreFields, resolved}
use Rattle.pg_check_types.proofs.Voids.{void_resolved, resolved_void}

-- a type is void by its name just if it is void
pub void_part_is : (types : List NamedType) (t : Ty) → is_void_part (resolved types t) ≡ is_void types t
void_part_is types t = by (resolved types t) (is_void types t) refl refl
  where
    by : (o : Option ResolvedType) (b : Bool) → resolved types t ≡ o → is_void types t ≡ b → is_void_part o ≡ b
    by o true e f = ap is_void_part (sym e ∙ void_resolved types t f)
    by (Some VoidType) false e f = let g : is_void types t ≡ true = resolved_void types t e in absurd cc
    by (Some (IntegerType w)) false e f = refl
    by (Some PointerType) false e f = refl
    by (Some (ArrayType n u)) false e f = refl
    by (Some NoFields) false e f = refl
    by (Some (MoreFields s u)) false e f = refl
    by None false e f = refl
