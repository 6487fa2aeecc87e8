-- The ends of long readings, behind a tree that is kept.
use Rattle.std.specs.Prelude.{ℕ, List}
use Rattle.pg_read_grammar.specs.declared.class.Class.TheVariants.{CloseSquare, CloseRound, Comma, Int, To}
use Rattle.pg_read_grammar.specs.declared.token.Token.{Token}
use Rattle.pg_read_grammar.specs.Classes.{is}
use Rattle.pg_read_grammar.specs.Reading.{Read, Good, ◌>>=◌, take_one, all_of}
use Rattle.pg_read_grammar.specs.Grammar.{literal_of}
use Rattle.pg_read_grammar.specs.Reader.{type_at, typed_in_at, behind_comma}
use Rattle.pg_read_ast.specs.declared.names.Literal.{Literal}
use Rattle.pg_read_ast.specs.Syntax.{Ty, Val, Typed, vals}
use Rattle.pg_read_ast.specs.Syntax as syntax

-- `array_at` behind the type of the elements
abbrev pub array_end_at : Token → Literal → Ty → List Token → Read Ty
array_end_at o n t ts = take_one (is CloseSquare) ts >>= λ _. Good (syntax.Array o.span n t)

-- `gep_tail_at` behind the indices
abbrev pub gep_end_at : Token → Ty → Typed → List Typed → List Token → Read Val
gep_end_at o t p all ts = take_one (is CloseRound) ts >>= λ _. Good (syntax.GepVal o.span t p.ty p.value (vals all))

-- `gep_tail_at` behind the pointer
abbrev pub gep_indices_at : ℕ → (List Token → Read Val) → Token → Ty → Typed → List Token → Read Val
gep_indices_at d r o t p ts = all_of (is Comma) (behind_comma (typed_in_at d r)) ts >>= λ all. gep_end_at o t p all

-- `gep_tail_at` behind the type that the indices walk
abbrev pub gep_pointer_at : ℕ → (List Token → Read Val) → Token → Ty → List Token → Read Val
gep_pointer_at d r o t ts = take_one (is Comma) ts >>= λ _ ts. typed_in_at d r ts >>= λ p. gep_indices_at d r o t p

-- `int_to_ptr_tail_at` behind the type of the result
abbrev pub int_to_ptr_end_at : Token → Ty → Literal → Ty → List Token → Read Val
int_to_ptr_end_at o t n u ts = take_one (is CloseRound) ts >>= λ _. Good (syntax.IntToPtrVal o.span t n u)

-- `int_to_ptr_tail_at` behind the type of the integer
abbrev pub int_to_ptr_number_at : ℕ → Token → Ty → List Token → Read Val
int_to_ptr_number_at d o t ts =
    take_one (is Int) ts >>= λ n ts.
    take_one (is To) ts >>= λ _ ts.
    type_at d ts >>= λ u. int_to_ptr_end_at o t (literal_of n) u
