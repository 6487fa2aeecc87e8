-- What is asked of a type, by name.
use Rattle.std.specs.Prelude.{Bool}
use Rattle.pg_check_types.specs.Resolved.{ResolvedType, is_integer, is_scalar, is_pointer, is_bit}
use Rattle.pg_check_rules.specs.Written.{isnt_void, is_returnable}
use Rattle.pg_check_values.specs.declared.type_tests.TypeTest.{TypeTest}
use Rattle.pg_check_values.specs.declared.type_tests.TypeTest.TheVariants as tests

abbrev pub test_of : TypeTest → ResolvedType → Bool
test_of tests.Integer = is_integer
test_of tests.Scalar = is_scalar
test_of tests.Pointer = is_pointer
test_of tests.Bit = is_bit
test_of tests.NotVoid = isnt_void
test_of tests.Returnable = is_returnable
