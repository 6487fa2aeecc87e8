-- The first tokens of types and values.
use Rattle.pg_read_ast.specs.pg_read_lex.declared.token.Span.{Span}
use Rattle.pg_read_ast.specs.Syntax.{Ty, I1, I8, I16, I32, I64, Ptr, Void, Array, Struct, Named, Val, Int, True, False}
use Rattle.pg_read_ast.specs.Syntax.{Null, Undef, Poison, ZeroInitializer, Local, Global, GepVal, IntToPtrVal}

abbrev pub type_span : Ty → Span
type_span (I1 s) = s
type_span (I8 s) = s
type_span (I16 s) = s
type_span (I32 s) = s
type_span (I64 s) = s
type_span (Ptr s) = s
type_span (Void s) = s
type_span (Array s n t) = s
type_span (Struct s ts) = s
type_span (Named n) = n.span

abbrev pub val_span : Val → Span
val_span (Int n) = n.span
val_span (True s) = s
val_span (False s) = s
val_span (Null s) = s
val_span (Undef s) = s
val_span (Poison s) = s
val_span (ZeroInitializer s) = s
val_span (Local n) = n.span
val_span (Global n) = n.span
val_span (GepVal s t u p is) = s
val_span (IntToPtrVal s t n u) = s
