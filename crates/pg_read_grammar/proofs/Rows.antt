-- Each reading function reads its row of the grammar.
use Rattle.std.proofs.Common.{◌≡◌, ℕ, zero, suc, List, [], ◌∷◌, Some, inr, IsTrue, Bool, true, false, refl}
use Rattle.pg_read_grammar.specs.declared.nesting.TheConstants.{INNER_NESTING_LIMIT}
use Rattle.pg_read_grammar.specs.declared.token.Token.{Token}
use Rattle.pg_read_grammar.specs.declared.class.Class.{Class}
use Rattle.pg_read_grammar.specs.declared.class.Class.TheVariants.{I1, I8, I16, I32, I64, Ptr, Void, X, To, Flag, OtherWord, Refused, True, False, Null, Undef, Poison, ZeroInitializer}
use Rattle.pg_read_grammar.specs.declared.class.Class.TheVariants.{GetElementPtr, IntToPtr, Int, Str, CStr, Local, Global, Meta, Attr, Comma, Equals, OpenRound, CloseRound, OpenBrace, CloseBrace}
use Rattle.pg_read_grammar.specs.declared.class.Class.TheVariants.{OpenSquare, CloseSquare}
use Rattle.pg_read_grammar.specs.declared.token.Fault.TheVariants.{Unsupported}
use Rattle.pg_read_grammar.specs.Classes.{is, none, ◌∪◌}
use Rattle.pg_read_grammar.specs.Language.{Lang, Gram, give}
use Rattle.pg_read_grammar.proofs.RowRests.{gep_rest, certain_value}
use Rattle.pg_read_grammar.specs.Grammar.{name_of, global_name, separated, listed, no_type, opens_type, simple_type, type_in, opens, plain, skip_to, flags, plain_value, named_value, typed_in}
use Rattle.pg_read_grammar.specs.Grammar.{other_value_in, value_in, opens_value, simple_const_in, const_in, attribute_word, attribute_name, metadata_name, attribute, attributes, gep_tail}
use Rattle.pg_read_grammar.specs.Grammar.{int_to_ptr_tail}
use Rattle.pg_read_grammar.specs.Reading.{Read, Good, ◌>>=◌}
use Rattle.pg_read_grammar.specs.Reader.{separated_at, listed_at, begins_type, simple_type_at, type_at, brackets, skip_at, plains_at, flags_at, begins_plain, plain_value_at, named_value_at}
use Rattle.pg_read_grammar.specs.Reader.{typed_in_at, gep_tail_at, int_to_ptr_tail_at, int_or, other_value_at, value_at, simple_const_at, const_at, begins_attribute, attribute_at, attributes_at}
use Rattle.pg_read_ast.specs.Syntax.{Ty}
use Rattle.pg_read_ast.specs.Syntax as syntax
use Rattle.pg_read_grammar.proofs.ClassTests.{within, apart, apart_none}
use Rattle.pg_read_grammar.proofs.Pieces.{Piece, Item, Gets}
use Rattle.pg_read_grammar.proofs.Choices.{gets_one}
use Rattle.pg_read_grammar.proofs.Rules.{first, next, give_it, token, case, unless_it, deep_it, many_of, recast, within_self, within_or_false, item_first, item_case, item_or, many_items}
use Rattle.pg_read_grammar.proofs.Rules.{many_tokens, dropped, token_of, gets_case, gets_unless}

pub simple_piece : {av : Class → Bool} → Piece simple_type_at simple_type (is I1 ∪ (is I8 ∪ (is I16 ∪ (is I32 ∪ (is I64 ∪ (is Ptr ∪ (is Void ∪ is Local))))))) none false av
simple_piece {av} = case I1 (λ t. give_it) (case I8 (λ t. give_it)
    (case I16 (λ t. give_it) (case I32 (λ t. give_it)
    (case I64 (λ t. give_it) (case Ptr (λ t. give_it) (case Void (λ t. give_it) (first (token Local) (λ t. give_it)) refl refl) refl refl) refl refl) refl refl) refl refl) refl refl) refl refl

-- items behind commas: what never stands behind an item
pub separated_piece : {A : Type 0} {r : List Token → Read A} {g : Gram A} {fi ma : Class → Bool} {av : Class → Bool} (ai : Class → Bool) → apart ai (is Comma) ≡ true
    → within ai av ≡ true → within (is Comma) av ≡ true → Piece r g fi ma false ai → Piece (separated_at r) (separated g) fi ma false av
separated_piece {A} {r} {g} {fi} {ma} {av} ai x y w e =
    recast fi ma (next {av = ai} e (λ a. recast (is Comma) none (next (many_of {av = ai} av Comma (λ t. e) x y w) (λ more. give_it) (apart_none av) (within_self av)) refl refl) x y)
    (within_or_false fi (is Comma)) (within_or_false ma none)

pub listed_by : {A : Type 0} {r : List Token → Read A} {g : Gram A} {fi ma : Class → Bool} {av : Class → Bool} (ai aj : Class → Bool) (close : Class) → apart ai (is Comma) ≡ true
    → within ai aj ≡ true → within (is Comma) aj ≡ true → apart aj (is close) ≡ true → apart (is close) fi ≡ true
    → Piece r g fi ma false ai → Piece (listed_at close r) (listed close g) (is close ∪ fi) ma false av
listed_by {A} {r} {g} {fi} {ma} {av} ai aj close x y w z v e = case close (λ t. give_it)
    (recast fi ma (next {av = aj} (separated_piece ai x y w e) (λ all. first (token close) (λ t. give_it)) z refl) (within_or_false fi (is close)) (within_or_false ma none)) v refl

pub listed_piece : {A : Type 0} {r : List Token → Read A} {g : Gram A} {fi ma : Class → Bool} {av : Class → Bool} (close : Class) → apart (is close) fi ≡ true
    → apart (is Comma) (is close) ≡ true → Piece r g fi ma false none → Piece (listed_at close r) (listed close g) (is close ∪ fi) ma false av
listed_piece {A} {r} {g} {fi} {ma} {av} close x y e = listed_by none (is Comma) close refl refl refl y x e

pub type_piece : (d : ℕ) → Piece (type_at d) (type_in d) begins_type no_type false none
unfolding type_at type_in
type_piece zero = recast begins_type no_type (unless_it no_type (deep_it opens_type simple_piece refl refl) refl refl) refl refl
type_piece (suc d) = recast begins_type no_type (unless_it no_type
    (case OpenSquare (λ t. first (token Int) (λ n. first (token X) (λ t. first (type_piece d) (λ t. first (token CloseSquare) (λ t. give_it)))))
    (case OpenBrace (λ t. first (listed_piece CloseBrace refl refl (type_piece d)) (λ all. give_it)) simple_piece refl refl) refl refl) refl refl) refl refl

simple_type_gets : Gets (is I1 ∪ (is I8 ∪ (is I16 ∪ (is I32 ∪ (is I64 ∪ (is Ptr ∪ (is Void ∪ is Local))))))) simple_type_at
simple_type_gets = gets_case {av = none} I1 (λ t. give_it)
    (gets_case {av = none} I8 (λ t. give_it) (gets_case {av = none} I16 (λ t. give_it)
    (gets_case {av = none} I32 (λ t. give_it) (gets_case {av = none} I64 (λ t. give_it)
    (gets_case {av = none} Ptr (λ t. give_it) (gets_case {av = none} Void (λ t. give_it)
    (gets_one (is Local) (λ t ts. Good (syntax.Named (name_of t)) ts) (λ t. give (syntax.Named (name_of t))) none none true none (λ t. give_it))))))))

-- with a bracket to spare, a type gets on at each of its first tokens
pub type_gets : (d : ℕ) → Gets begins_type (type_at (suc d))
unfolding type_at
type_gets d = gets_unless Unsupported no_type refl (gets_case {av = none} OpenSquare
    (λ t. first (token Int) (λ n. first (token X) (λ x. first (type_piece d) (λ t. first (token CloseSquare) (λ c. give_it)))))
    (gets_case {av = none} OpenBrace (λ t. first (listed_piece CloseBrace refl refl (type_piece d)) (λ all. give_it)) simple_type_gets))

-- any other Word is refused where a type may begin
pub type_exact : (d : ℕ) (K : Ty → Lang) (t : Token) → IsTrue (no_type t.class) → type_in (suc d) (Some Unsupported) K (t ∷ [])
unfolding type_in
type_exact d K t i = inr (refl, t, refl, i)

abbrev pub closers : Class → Bool
closers = is CloseRound ∪ (is CloseSquare ∪ is CloseBrace)

pub skip_piece : {av : Class → Bool} (d : ℕ) (close : Class) → within (is close) closers ≡ true → Piece (skip_at d close) (skip_to d close) (brackets ∪ closers) none false av
unfolding skip_at skip_to plains_at
skip_piece zero close w =
    recast (brackets ∪ closers) none (next (dropped (many_tokens plain plain Comma refl refl))
    (λ more. deep_it opens (recast closers none (first (token close) (λ t. give_it)) w refl) refl refl) refl refl) refl refl
skip_piece (suc d) close w = recast (brackets ∪ closers) none (next (dropped (many_items {av = none} brackets
    (item_case OpenRound (λ t. skip_piece d CloseRound refl)
    (item_case OpenSquare (λ t. skip_piece d CloseSquare refl) (item_case OpenBrace (λ t. skip_piece d CloseBrace refl) (item_first plain Comma refl (λ t. give_it)) refl) refl) refl)
    refl refl refl)) (λ more. recast closers none (first (token close) (λ t. give_it)) w refl) refl refl) refl refl

pub flags_piece : Piece flags_at flags (is Flag) none true (is Flag)
unfolding flags_at
flags_piece = recast (is Flag) none (next (many_tokens (is Flag) (is Flag) Flag refl refl) (λ all. give_it) refl refl) refl refl

plain_value_piece : {av : Class → Bool} → Piece plain_value_at plain_value begins_plain none false av
plain_value_piece {av} = case True (λ t. give_it) (case False (λ t. give_it)
    (case Null (λ t. give_it) (case Undef (λ t. give_it)
    (case Poison (λ t. give_it) (case ZeroInitializer (λ t. give_it) (first (token_of global_name Global refl) (λ t. give_it)) refl refl) refl refl) refl refl) refl refl) refl refl) refl refl

abbrev pub begins_named : Class → Bool
begins_named = is Local ∪ begins_plain

named_piece : {av : Class → Bool} → Piece named_value_at named_value begins_named none false av
named_piece {av} = case Local (λ t. give_it) plain_value_piece refl refl

abbrev pub begins_other : Class → Bool
begins_other = is GetElementPtr ∪ (is IntToPtr ∪ begins_named)

typed_piece : (d : ℕ) → Piece (other_value_at d) (other_value_in d) begins_other none false none → Piece (typed_in_at d (value_at d)) (typed_in d (value_in d)) begins_type no_type false none
typed_piece d e = first (type_piece d) (λ t. first (case Int (λ n. give_it) e refl refl) (λ v. give_it))

-- behind the first token of each constant instruction
pub gep_tail_item : {av : Class → Bool} (d : ℕ) → Piece (other_value_at d) (other_value_in d) begins_other none false none → (o : Token)
    → Item (gep_tail_at d (value_at d) o) (gep_tail d (value_in d) o) (is OpenRound) av
gep_tail_item {av} d e o =
    item_first (is OpenRound) OpenRound refl (λ o. first (type_piece d)
    (λ t. first (token Comma) (λ c. first (typed_piece d e)
    (λ p. next (many_of (is Comma) Comma (λ t. typed_piece d e) refl refl refl) (λ all. first (token CloseRound) (λ c. give_it)) refl refl))))

gep_rest_piece : {av : Class → Bool} (d : ℕ) → Piece (other_value_at d) (other_value_in d) begins_other none false none → (o : Token)
    → Piece (λ ts. flags_at ts >>= λ _. gep_tail_at d (value_at d) o) (gep_rest d (value_in d) o) (is Flag ∪ is OpenRound) none false av
gep_rest_piece {av} d e o = recast (is Flag ∪ is OpenRound) none (next flags_piece (λ f. (gep_tail_item d e o).piece) refl refl) refl refl

pub int_to_ptr_tail_item : {av : Class → Bool} (d : ℕ) (o : Token) → Item (int_to_ptr_tail_at d o) (int_to_ptr_tail d o) (is OpenRound) av
int_to_ptr_tail_item {av} d o = item_first (is OpenRound) OpenRound refl
    (λ o. first (type_piece d) (λ t. first (token Int) (λ n. first (token To) (λ t. first (type_piece d) (λ u. first (token CloseRound) (λ c. give_it))))))

pub other_value_piece : {av : Class → Bool} (d : ℕ) → Piece (other_value_at d) (other_value_in d) begins_other none false av
unfolding other_value_at other_value_in
other_value_piece {av} zero = recast begins_other none (deep_it opens_value named_piece refl refl) refl refl
other_value_piece {av} (suc d) = case GetElementPtr (gep_rest_piece d (other_value_piece d)) (case IntToPtr (λ o. (int_to_ptr_tail_item d o).piece) named_piece refl refl) refl refl

plain_value_gets : Gets begins_plain plain_value_at
plain_value_gets = gets_case {av = none} True (λ t. give_it)
    (gets_case {av = none} False (λ t. give_it) (gets_case {av = none} Null (λ t. give_it)
    (gets_case {av = none} Undef (λ t. give_it) (gets_case {av = none} Poison (λ t. give_it)
    (gets_case {av = none} ZeroInitializer (λ t. give_it) (gets_one global_name (λ t ts. Good (syntax.Global (name_of t)) ts) (λ t. give (syntax.Global (name_of t))) none none true none
    (λ t. give_it)))))))

named_gets : Gets begins_named named_value_at
named_gets = gets_case {av = none} Local (λ t. give_it) plain_value_gets

-- with a bracket to spare, a value gets on at each of its first tokens
pub value_gets : (d : ℕ) → Gets (is Int ∪ begins_other) (value_at (suc d))
unfolding other_value_at
value_gets d = gets_case {av = none} Int (λ n. give_it) (gets_case {av = none} GetElementPtr (gep_rest_piece d (other_value_piece d))
    (gets_case {av = none} IntToPtr (λ o. (int_to_ptr_tail_item {av = none} d o).piece) named_gets))

pub value_piece : {av : Class → Bool} (d : ℕ) → Piece (value_at d) (value_in d) (is Int ∪ begins_other) none false av
value_piece {av} d = case Int (λ n. give_it) (other_value_piece d) refl refl

pub certain_item : {av : Class → Bool} → Item (int_or plain_value_at) certain_value (is Int ∪ begins_plain) av
certain_item {av} = record { piece = case Int (λ n. give_it) plain_value_piece refl refl; gets = gets_case {av = none} Int (λ n. give_it) plain_value_gets }

-- ---- constants

abbrev pub begins_const : Class → Bool
begins_const = opens_type ∪ (is CStr ∪ (is Int ∪ begins_other))

simple_const_piece : {av : Class → Bool} (d : ℕ) → Piece (simple_const_at d) (simple_const_in d) (is CStr ∪ (is Int ∪ begins_other)) none false av
simple_const_piece {av} d = case CStr (λ t. give_it) (first (value_piece d) (λ v. give_it)) refl refl

pub const_piece : {av : Class → Bool} (d : ℕ) → Piece (const_at d) (const_in d) begins_const none false av
unfolding const_at const_in
const_piece {av} zero = recast begins_const none (deep_it opens_type (simple_const_piece zero) refl refl) refl refl
const_piece {av} (suc d) = recast begins_const none
    (case OpenSquare (λ o. first (listed_piece CloseSquare refl refl (first (type_piece d) (λ t. first (const_piece d) (λ c. give_it)))) (λ all. give_it))
    (case OpenBrace (λ o. first (listed_piece CloseBrace refl refl (first (type_piece d) (λ t. first (const_piece d) (λ c. give_it)))) (λ all. give_it))
    (simple_const_piece (suc d)) refl refl) refl refl) refl refl

-- ---- attributes

-- what never comes after an attribute, since it would belong to it
abbrev pub behind_attribute : Class → Bool
behind_attribute = is Int ∪ (is OpenRound ∪ is Equals)

pub attribute_item : Item attribute_at attribute begins_attribute behind_attribute
unfolding attribute_at
attribute_item = item_or (item_first attribute_word OtherWord refl (λ t. case Int (λ n. give_it) (case OpenRound (λ o. skip_piece INNER_NESTING_LIMIT CloseRound refl) give_it refl refl) refl refl))
    (item_or (item_first attribute_name Attr refl (λ t. give_it))
    (item_case Str (λ t. case Equals (λ e. first (token Str) (λ u. give_it)) give_it refl refl)
    (item_first metadata_name Meta refl (λ t. first {aw = behind_attribute} (token_of metadata_name Meta refl) (λ u. give_it))) refl) refl) refl

-- what never comes after attributes
abbrev pub behind_attributes : Class → Bool
behind_attributes = begins_attribute ∪ (behind_attribute ∪ is Refused)

pub attributes_piece : Piece attributes_at attributes begins_attribute (is Refused) true behind_attributes
unfolding attributes_at
attributes_piece = recast begins_attribute (is Refused) (next (dropped (many_items behind_attributes attribute_item refl refl refl)) (λ more. unless_it (is Refused) give_it refl refl) refl refl)
    refl refl
