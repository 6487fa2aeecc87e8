-- The rows of the grammar depend on what may follow a list at a time.
use Rattle.std.proofs.Common.{ℕ, zero, suc}
use Rattle.pg_num.specs.declared.limits.TheConstants.{NESTING_LIMIT}
use Rattle.pg_read_grammar.specs.declared.nesting.TheConstants.{INNER_NESTING_LIMIT}
use Rattle.pg_read_grammar.specs.declared.token.Token.{Token}
use Rattle.pg_read_grammar.specs.declared.class.Class.{Class}
use Rattle.pg_read_grammar.specs.declared.token.Fault.TheVariants.{Unsupported, TooDeep}
use Rattle.pg_read_grammar.specs.declared.class.Class.TheVariants.{I1, I8, I16, I32, I64, Ptr, Void, X, To, Flag, Refused, True, False, Null, Undef, Poison, ZeroInitializer, GetElementPtr}
use Rattle.pg_read_grammar.specs.declared.class.Class.TheVariants.{IntToPtr, Int, Str, CStr, Local, Comma, Equals, OpenRound, CloseRound, OpenSquare, CloseSquare, OpenBrace, CloseBrace}
use Rattle.pg_read_grammar.specs.Classes.{is}
use Rattle.pg_read_grammar.specs.Language.{Gram, one, give, ◌or◌, ◌>>=◌ as ◌then◌}
use Rattle.pg_read_grammar.specs.Grammar.{separated, listed, global_name, no_type, simple_type, opens_type, type_in, opens, plain, skip_to, attribute, attribute_word, attribute_name}
use Rattle.pg_read_grammar.specs.Grammar.{metadata_name, attributes, flags, plain_value, named_value, typed_in, opens_value, other_value_in, value_in, typed_const_in, simple_const_in, const_in}
use Rattle.pg_read_grammar.specs.Grammar.{argument, drop_value, gep_tail, int_to_ptr_tail}
use Rattle.pg_read_ast.specs.Syntax.{Typed, TypedC, tys, vals, consts}
use Rattle.pg_read_ast.specs.Syntax as syntax
use Rattle.pg_read_grammar.proofs.Linear.{Linear, linear_give, linear_one, linear_refused, linear_then, linear_or, linear_many}

pub linear_it : {A : Type 0} {a : A} → Linear (give a)
linear_it {A} {a} = linear_give a

-- an alternative that begins with a token of a class, and the others
pub linear_case : {A : Type 0} {h : Token → Gram A} {g : Gram A} (c : Class) → ((t : Token) → Linear (h t)) → Linear g → Linear ((one (is c) then h) or g)
linear_case c k e = linear_or (linear_then (linear_one (is c)) k) e

pub linear_drop : {A : Type 0} {g : Gram A} → Linear g → Linear (drop_value g)
linear_drop e = linear_then e (λ a. linear_it)

pub linear_separated : {A : Type 0} {g : Gram A} → Linear g → Linear (separated g)
linear_separated e = linear_then e (λ a. linear_then (linear_many (linear_then (linear_one (is Comma)) (λ t. e))) (λ more. linear_it))

pub linear_listed : {A : Type 0} {g : Gram A} (close : Class) → Linear g → Linear (listed close g)
linear_listed close e = linear_case close (λ t. linear_it) (linear_then (linear_separated e) (λ all. linear_then (linear_one (is close)) (λ t. linear_give all)))

-- ---- types

linear_simple_type : Linear simple_type
linear_simple_type = linear_case I1 (λ t. linear_it) (linear_case I8 (λ t. linear_it)
    (linear_case I16 (λ t. linear_it) (linear_case I32 (λ t. linear_it)
    (linear_case I64 (λ t. linear_it) (linear_case Ptr (λ t. linear_it) (linear_case Void (λ t. linear_it) (linear_then (linear_one (is Local)) (λ t. linear_it))))))))

pub linear_type : (d : ℕ) → Linear (type_in d)
unfolding type_in
linear_type zero = linear_or (linear_or linear_simple_type (linear_refused TooDeep opens_type)) (linear_refused Unsupported no_type)
linear_type (suc d) = linear_or (linear_case OpenSquare
    (λ o. linear_then (linear_one (is Int)) (λ n. linear_then (linear_one (is X)) (λ x. linear_then (linear_type d) (λ t. linear_then (linear_one (is CloseSquare)) (λ c. linear_it)))))
    (linear_case OpenBrace (λ o. linear_then (linear_listed CloseBrace (linear_type d)) (λ all. linear_give (syntax.Struct o.span (tys all)))) linear_simple_type))
    (linear_refused Unsupported no_type)

-- ---- skips and attributes

pub linear_skip : (d : ℕ) (close : Class) → Linear (skip_to d close)
unfolding skip_to
linear_skip zero close = linear_then (linear_drop (linear_many (linear_one plain))) (λ u. linear_or (linear_drop (linear_one (is close))) (linear_refused TooDeep opens))
linear_skip (suc d) close = linear_then (linear_drop
    (linear_many (linear_case OpenRound (λ t. linear_skip d CloseRound)
    (linear_case OpenSquare (λ t. linear_skip d CloseSquare) (linear_case OpenBrace (λ t. linear_skip d CloseBrace) (linear_drop (linear_one plain)))))))
    (λ u. linear_drop (linear_one (is close)))

pub linear_attribute : Linear attribute
linear_attribute = linear_or (linear_then (linear_one attribute_word) (λ t. linear_or (linear_drop (linear_one (is Int)))
    (linear_case OpenRound (λ o. linear_skip INNER_NESTING_LIMIT CloseRound) linear_it)))
    (linear_or (linear_drop (linear_one attribute_name)) (linear_or (linear_then (linear_one (is Str)) (λ t. linear_case Equals (λ e. linear_drop (linear_one (is Str))) linear_it))
    (linear_then (linear_one metadata_name) (λ t. linear_drop (linear_one metadata_name)))))

pub linear_attributes : Linear attributes
linear_attributes = linear_then (linear_drop (linear_many linear_attribute)) (λ u. linear_or linear_it (linear_refused Unsupported (is Refused)))

-- ---- values

pub linear_flags : Linear flags
linear_flags = linear_drop (linear_many (linear_one (is Flag)))

pub linear_plain_value : Linear plain_value
linear_plain_value = linear_case True (λ t. linear_it) (linear_case False (λ t. linear_it)
    (linear_case Null (λ t. linear_it) (linear_case Undef (λ t. linear_it)
    (linear_case Poison (λ t. linear_it) (linear_case ZeroInitializer (λ t. linear_it) (linear_then (linear_one global_name) (λ t. linear_it)))))))

linear_named : Linear named_value
linear_named = linear_case Local (λ t. linear_it) linear_plain_value

pub linear_typed : (d : ℕ) → Linear (value_in d) → Linear (typed_in d (value_in d))
linear_typed d e = linear_then (linear_type d) (λ t. linear_then e (λ v. linear_give {A = Typed} (record { ty = t; value = v })))

pub linear_gep_tail : (d : ℕ) → Linear (value_in d) → (o : Token) → Linear (gep_tail d (value_in d) o)
linear_gep_tail d e o =
    linear_then (linear_one (is OpenRound)) (λ p. linear_then (linear_type d)
    (λ t. linear_then (linear_one (is Comma)) (λ c. linear_then (linear_typed d e)
    (λ p. linear_then (linear_many (linear_then (linear_one (is Comma)) (λ c. linear_typed d e)))
    (λ all. linear_then (linear_one (is CloseRound)) (λ c. linear_give (syntax.GepVal o.span t p.ty p.value (vals all))))))))

pub linear_int_to_ptr_tail : (d : ℕ) (o : Token) → Linear (int_to_ptr_tail d o)
linear_int_to_ptr_tail d o =
    linear_then (linear_one (is OpenRound)) (λ p. linear_then (linear_type d)
    (λ t. linear_then (linear_one (is Int)) (λ n. linear_then (linear_one (is To)) (λ x. linear_then (linear_type d) (λ u. linear_then (linear_one (is CloseRound)) (λ c. linear_it))))))

pub linear_other_value : (d : ℕ) → Linear (other_value_in d)
unfolding other_value_in
linear_other_value zero = linear_or linear_named (linear_refused TooDeep opens_value)
linear_other_value (suc d) = linear_case GetElementPtr (λ o. linear_then linear_flags (λ f. linear_gep_tail d (linear_case Int (λ n. linear_it) (linear_other_value d)) o))
    (linear_case IntToPtr (λ o. linear_int_to_ptr_tail d o) linear_named)

pub linear_value : (d : ℕ) → Linear (value_in d)
linear_value d = linear_case Int (λ n. linear_it) (linear_other_value d)

pub linear_argument : Linear argument
linear_argument = linear_then (linear_type NESTING_LIMIT) (λ t. linear_then linear_attributes (λ u. linear_then (linear_value NESTING_LIMIT)
    (λ v. linear_give {A = Typed} (record { ty = t; value = v }))))

-- ---- constants

linear_simple_const : (d : ℕ) → Linear (simple_const_in d)
linear_simple_const d = linear_case CStr (λ t. linear_it) (linear_then (linear_value d) (λ v. linear_it))

linear_typed_const : (d : ℕ) → Linear (const_in d) → Linear (typed_const_in d (const_in d))
linear_typed_const d e = linear_then (linear_type d) (λ t. linear_then e (λ c. linear_give {A = TypedC} (record { ty = t; value = c })))

pub linear_const : (d : ℕ) → Linear (const_in d)
unfolding const_in
linear_const zero = linear_or (linear_simple_const zero) (linear_refused TooDeep opens_type)
linear_const (suc d) = linear_case OpenSquare (λ o. linear_then (linear_listed CloseSquare (linear_typed_const d (linear_const d))) (λ all. linear_give (syntax.ArrayConst o.span (consts all))))
    (linear_case OpenBrace (λ o. linear_then (linear_listed CloseBrace (linear_typed_const d (linear_const d))) (λ all. linear_give (syntax.StructConst o.span (consts all))))
    (linear_simple_const (suc d)))
