-- Constants of integer types as numbers.
use Rattle.std.proofs.Common.{◌≡◌, ℕ, ◌<◌, List, Option, Some, None, IfSome, ℤ, pos, negsuc, arith, refl}
use Rattle.std.specs.Option.{option_map}
use Rattle.pg_num.specs.Numbers.{modulus, residue}
use Rattle.pg_num.specs.declared.width.Width.{Width}
use Rattle.pg_num.specs.declared.width.Width.TheVariants.{W1, W8, W16, W32, W64}
use Rattle.pg_read_ast.specs.Syntax.{Val}
use Rattle.pg_check_types.specs.Kinds.{kind_of}
use Rattle.pg_check_types.specs.Literals.{literal_in}
use Rattle.pg_check_types.specs.Resolved.{ResolvedType, IntegerType, PointerType, VoidType, ArrayType, NoFields, MoreFields}
use Rattle.pg_check_rules.specs.ValueConditions.{number_at, signed_at}
use Rattle.pg_check_rules.specs.Integers.{kind_number, kind_signed}

some_values : (w : Width) → 0 < modulus w
some_values W1 = omega arith
some_values W8 = omega arith
some_values W16 = omega arith
some_values W32 = omega arith
some_values W64 = omega arith

residue_fits : (w : Width) (z : ℤ) → residue w z < modulus w
residue_fits w (pos n) = omega (arith, some_values w)
residue_fits w (negsuc n) = omega (arith, some_values w)

-- a literal of a width is one of its numbers
pub constant_fits : (w : Width) (text : List ℕ) → IfSome (literal_in w text) (λ n. n < modulus w)
constant_fits w text = by _
  where
    by : (o : Option ℤ) → IfSome (option_map (residue w) o) (λ n. n < modulus w)
    by None = tt
    by (Some z) = residue_fits w z

pub number_of_kind : (t : Option ResolvedType) (v : Val) → kind_number (option_map kind_of t) v ≡ number_at t v
number_of_kind None v = refl
number_of_kind (Some (IntegerType w)) v = refl
number_of_kind (Some PointerType) v = refl
number_of_kind (Some VoidType) v = refl
number_of_kind (Some (ArrayType n t)) v = refl
number_of_kind (Some NoFields) v = refl
number_of_kind (Some (MoreFields s t)) v = refl

pub signed_of_kind : (t : Option ResolvedType) (v : Val) → kind_signed (option_map kind_of t) v ≡ signed_at t v
signed_of_kind None v = refl
signed_of_kind (Some (IntegerType w)) v = refl
signed_of_kind (Some PointerType) v = refl
signed_of_kind (Some VoidType) v = refl
signed_of_kind (Some (ArrayType n t)) v = refl
signed_of_kind (Some NoFields) v = refl
signed_of_kind (Some (MoreFields s t)) v = refl
