-- What indices of a getelementptr choose, once their constants are known.
use Rattle.std.specs.Prelude.{ℤ, pos, ◌+ℤ◌, List, [], ◌∷◌, Option, Some, None}
use Rattle.pg_ir.specs.declared.value.Scale.{Scale}
use Rattle.pg_ir.specs.declared.value.Scale.TheVariants.{Times, Field}
use Rattle.pg_check_types.specs.Resolved.{ResolvedType, ArrayType, MoreFields}
use Rattle.pg_check_types.specs.Layout.{size_of, size_or_none}
use Rattle.pg_check_rules.specs.ValueConditions.{field_at}
use Rattle.pg_check_rules.specs.Constants.{offset_at, index_move}

-- how an index moves a pointer within a type, and to which type it goes
abbrev pub scale_within : Option ResolvedType → Option ℤ → Scale
scale_within (Some (ArrayType n e)) i = Times (size_of e)
scale_within (Some (MoreFields s t)) i = Field (offset_at (MoreFields s t) i)
scale_within _ i = Times 0

abbrev pub type_within : Option ResolvedType → Option ℤ → Option ResolvedType
type_within (Some (ArrayType n e)) i = Some e
type_within (Some (MoreFields s t)) i = field_at (MoreFields s t) i
type_within _ i = None

unfoldable pub scales_within : Option ResolvedType → List (Option ℤ) → List Scale
scales_within t [] = []
scales_within t (i ∷ is) = scale_within t i ∷ scales_within (type_within t i) is

abbrev pub scales_of : Option ResolvedType → List (Option ℤ) → List Scale
scales_of t [] = []
scales_of t (i ∷ is) = Times (size_or_none t) ∷ scales_within t is

-- the bytes by which indices move a pointer
unfoldable pub moves_of : List Scale → List (Option ℤ) → ℤ
moves_of (s ∷ ss) (i ∷ is) = index_move s i +ℤ moves_of ss is
moves_of _ _ = pos 0
