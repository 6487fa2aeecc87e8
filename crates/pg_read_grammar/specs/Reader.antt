-- The reading of the grammar, token by token.
use Rattle.std.specs.Prelude.{ℕ, zero, suc, List, [], ◌∷◌, Bool, length}
use Rattle.pg_num.specs.declared.limits.TheConstants.{NESTING_LIMIT}
use Rattle.pg_read_grammar.specs.declared.class.Class.{Class}
use Rattle.pg_read_grammar.specs.declared.class.Class.TheVariants.{I1, I8, I16, I32, I64, Ptr, Void, X, To, Flag, Refused}
use Rattle.pg_read_grammar.specs.declared.class.Class.TheVariants.{True, False, Null, Undef, Poison, ZeroInitializer}
use Rattle.pg_read_grammar.specs.declared.class.Class.TheVariants.{GetElementPtr, IntToPtr, Int, Str, CStr, Local, Comma}
use Rattle.pg_read_grammar.specs.declared.class.Class.TheVariants.{Equals, OpenRound, CloseRound, OpenBrace, CloseBrace}
use Rattle.pg_read_grammar.specs.declared.class.Class.TheVariants.{OpenSquare, CloseSquare}
use Rattle.pg_read_grammar.specs.declared.nesting.TheConstants.{INNER_NESTING_LIMIT}
use Rattle.pg_read_grammar.specs.declared.token.Token.{Token}
use Rattle.pg_read_grammar.specs.declared.token.Fault.TheVariants.{Unsupported, TooDeep}
use Rattle.pg_read_grammar.specs.Classes.{is, ◌∪◌}
use Rattle.pg_read_grammar.specs.Reading.{Read, Good, ◌>>=◌, take_one, choose, unless, all_of, run}
use Rattle.pg_read_grammar.specs.Grammar.{no_type, opens_type, name_of, literal_of, opens, plain, attribute_word, attribute_name, metadata_name, opens_value, global_name}
use Rattle.pg_read_ast.specs.Syntax.{Ty, tys, Val, Typed, vals, Const, TypedC, consts}
use Rattle.pg_read_ast.specs.Syntax as syntax

abbrev pub behind_comma : {A : Type 0} → (List Token → Read A) → List Token → Read A
behind_comma r ts = take_one (is Comma) ts >>= λ _. r

abbrev pub separated_at : {A : Type 0} → (List Token → Read A) → List Token → Read (List A)
separated_at r ts = r ts >>= λ a ts. all_of (is Comma) (behind_comma r) ts >>= λ more. Good (a ∷ more)

abbrev pub listed_at : {A : Type 0} → Class → (List Token → Read A) → List Token → Read (List A)
listed_at close r = choose (is close) (λ ts. take_one (is close) ts >>= λ _. Good [])
    (λ ts. separated_at r ts >>= λ all ts. take_one (is close) ts >>= λ _. Good all)

abbrev pub begins_type : Class → Bool
begins_type = is OpenSquare ∪ (is OpenBrace ∪ (is I1 ∪ (is I8 ∪ (is I16 ∪ (is I32 ∪ (is I64 ∪ (is Ptr ∪ (is Void ∪ is Local))))))))

abbrev pub simple_type_at : List Token → Read Ty
simple_type_at = choose (is I1) (λ ts. take_one (is I1) ts >>= λ t. Good (syntax.I1 t.span))
    (choose (is I8) (λ ts. take_one (is I8) ts >>= λ t. Good (syntax.I8 t.span))
    (choose (is I16) (λ ts. take_one (is I16) ts >>= λ t. Good (syntax.I16 t.span))
    (choose (is I32) (λ ts. take_one (is I32) ts >>= λ t. Good (syntax.I32 t.span))
    (choose (is I64) (λ ts. take_one (is I64) ts >>= λ t. Good (syntax.I64 t.span))
    (choose (is Ptr) (λ ts. take_one (is Ptr) ts >>= λ t. Good (syntax.Ptr t.span))
    (choose (is Void) (λ ts. take_one (is Void) ts >>= λ t. Good (syntax.Void t.span))
    (λ ts. take_one (is Local) ts >>= λ t. Good (syntax.Named (name_of t)))))))))

abbrev pub array_at : (List Token → Read Ty) → List Token → Read Ty
array_at r ts =
    take_one (is OpenSquare) ts >>= λ o ts.
    take_one (is Int) ts >>= λ n ts.
    take_one (is X) ts >>= λ _ ts.
    r ts >>= λ t ts.
    take_one (is CloseSquare) ts >>= λ _.
    Good (syntax.Array o.span (literal_of n) t)

abbrev pub struct_at : (List Token → Read Ty) → List Token → Read Ty
struct_at r ts =
    take_one (is OpenBrace) ts >>= λ o ts.
    listed_at CloseBrace r ts >>= λ all.
    Good (syntax.Struct o.span (tys all))

unfoldable pub type_at : ℕ → List Token → Read Ty
type_at zero = unless Unsupported no_type (unless TooDeep opens_type simple_type_at)
type_at (suc d) = unless Unsupported no_type (choose (is OpenSquare) (array_at (type_at d)) (choose (is OpenBrace) (struct_at (type_at d)) simple_type_at))

-- ---- skips and attributes

abbrev pub drop_value_at : {A : Type 0} → (List Token → Read A) → List Token → Read (Unit {0})
drop_value_at r ts = r ts >>= λ _. Good tt

abbrev pub brackets : Class → Bool
brackets = is OpenRound ∪ (is OpenSquare ∪ (is OpenBrace ∪ plain))

abbrev pub bracketed_at : (Class → List Token → Read (Unit {0})) → List Token → Read (Unit {0})
bracketed_at r = choose (is OpenRound) (λ ts. take_one (is OpenRound) ts >>= λ _. r CloseRound)
    (choose (is OpenSquare) (λ ts. take_one (is OpenSquare) ts >>= λ _. r CloseSquare)
    (choose (is OpenBrace) (λ ts. take_one (is OpenBrace) ts >>= λ _. r CloseBrace) (drop_value_at (take_one plain))))

-- as many as come, of which none is kept
unfoldable pub plains_at : List Token → Read (Unit {0})
plains_at = drop_value_at (all_of plain (take_one plain))

abbrev pub inside_at : (Class → List Token → Read (Unit {0})) → List Token → Read (Unit {0})
inside_at r = drop_value_at (all_of brackets (bracketed_at r))

unfoldable pub skip_at : ℕ → Class → List Token → Read (Unit {0})
skip_at zero close ts = plains_at ts >>= λ _. unless TooDeep opens (drop_value_at (take_one (is close)))
skip_at (suc d) close ts = inside_at (skip_at d) ts >>= λ _. drop_value_at (take_one (is close))

-- ---- values

unfoldable pub flags_at : List Token → Read (Unit {0})
flags_at = drop_value_at (all_of (is Flag) (take_one (is Flag)))

abbrev pub plain_value_at : List Token → Read Val
plain_value_at = choose (is True) (λ ts. take_one (is True) ts >>= λ t. Good (syntax.True t.span))
    (choose (is False) (λ ts. take_one (is False) ts >>= λ t. Good (syntax.False t.span))
    (choose (is Null) (λ ts. take_one (is Null) ts >>= λ t. Good (syntax.Null t.span))
    (choose (is Undef) (λ ts. take_one (is Undef) ts >>= λ t. Good (syntax.Undef t.span))
    (choose (is Poison) (λ ts. take_one (is Poison) ts >>= λ t. Good (syntax.Poison t.span))
    (choose (is ZeroInitializer) (λ ts. take_one (is ZeroInitializer) ts >>= λ t. Good (syntax.ZeroInitializer t.span))
    (λ ts. take_one global_name ts >>= λ t. Good (syntax.Global (name_of t))))))))

abbrev pub begins_plain : Class → Bool
begins_plain = is True ∪ (is False ∪ (is Null ∪ (is Undef ∪ (is Poison ∪ (is ZeroInitializer ∪ global_name)))))

abbrev pub begins_value : Class → Bool
begins_value = is Int ∪ (is GetElementPtr ∪ (is IntToPtr ∪ (is Local ∪ begins_plain)))

abbrev pub named_value_at : List Token → Read Val
named_value_at = choose (is Local) (λ ts. take_one (is Local) ts >>= λ t. Good (syntax.Local (name_of t))) plain_value_at

abbrev pub typed_in_at : ℕ → (List Token → Read Val) → List Token → Read Typed
typed_in_at d r ts = type_at d ts >>= λ t ts. r ts >>= λ v. Good (record { ty = t; value = v })

-- behind the first token of a constant getelementptr and its flags
abbrev pub gep_tail_at : ℕ → (List Token → Read Val) → Token → List Token → Read Val
gep_tail_at d r o ts =
    take_one (is OpenRound) ts >>= λ _ ts.
    type_at d ts >>= λ t ts.
    take_one (is Comma) ts >>= λ _ ts.
    typed_in_at d r ts >>= λ p ts.
    all_of (is Comma) (behind_comma (typed_in_at d r)) ts >>= λ all ts.
    take_one (is CloseRound) ts >>= λ _.
    Good (syntax.GepVal o.span t p.ty p.value (vals all))

abbrev pub gep_at : ℕ → (List Token → Read Val) → List Token → Read Val
gep_at d r ts = take_one (is GetElementPtr) ts >>= λ o ts. flags_at ts >>= λ _. gep_tail_at d r o

-- behind the first token of a constant inttoptr
abbrev pub int_to_ptr_tail_at : ℕ → Token → List Token → Read Val
int_to_ptr_tail_at d o ts =
    take_one (is OpenRound) ts >>= λ _ ts.
    type_at d ts >>= λ t ts.
    take_one (is Int) ts >>= λ n ts.
    take_one (is To) ts >>= λ _ ts.
    type_at d ts >>= λ u ts.
    take_one (is CloseRound) ts >>= λ _.
    Good (syntax.IntToPtrVal o.span t (literal_of n) u)

abbrev pub int_to_ptr_at : ℕ → List Token → Read Val
int_to_ptr_at d ts = take_one (is IntToPtr) ts >>= int_to_ptr_tail_at d

abbrev pub int_or : (List Token → Read Val) → List Token → Read Val
int_or r = choose (is Int) (λ ts. take_one (is Int) ts >>= λ n. Good (syntax.Int (literal_of n))) r

unfoldable pub other_value_at : ℕ → List Token → Read Val
other_value_at zero = unless TooDeep opens_value named_value_at
other_value_at (suc d) = choose (is GetElementPtr) (gep_at d (int_or (other_value_at d))) (choose (is IntToPtr) (int_to_ptr_at d) named_value_at)

abbrev pub value_at : ℕ → List Token → Read Val
value_at d = int_or (other_value_at d)

-- ---- constants

abbrev pub typed_const_at : ℕ → (List Token → Read Const) → List Token → Read TypedC
typed_const_at d r ts = type_at d ts >>= λ t ts. r ts >>= λ c. Good (record { ty = t; value = c })

abbrev pub array_const_at : ℕ → (List Token → Read Const) → List Token → Read Const
array_const_at d r ts =
    take_one (is OpenSquare) ts >>= λ o ts.
    listed_at CloseSquare (typed_const_at d r) ts >>= λ all.
    Good (syntax.ArrayConst o.span (consts all))

abbrev pub struct_const_at : ℕ → (List Token → Read Const) → List Token → Read Const
struct_const_at d r ts =
    take_one (is OpenBrace) ts >>= λ o ts.
    listed_at CloseBrace (typed_const_at d r) ts >>= λ all.
    Good (syntax.StructConst o.span (consts all))

abbrev pub simple_const_at : ℕ → List Token → Read Const
simple_const_at d = choose (is CStr) (λ ts. take_one (is CStr) ts >>= λ t. Good (syntax.BytesConst (literal_of t))) (λ ts. value_at d ts >>= λ v. Good (syntax.ValConst v))

unfoldable pub const_at : ℕ → List Token → Read Const
const_at zero = unless TooDeep opens_type (simple_const_at zero)
const_at (suc d) = choose (is OpenSquare) (array_const_at d (const_at d)) (choose (is OpenBrace) (struct_const_at d (const_at d)) (simple_const_at (suc d)))

-- ---- attributes

abbrev pub begins_attribute : Class → Bool
begins_attribute = attribute_word ∪ (attribute_name ∪ (is Str ∪ metadata_name))

unfoldable pub attribute_at : List Token → Read (Unit {0})
attribute_at = choose attribute_word (λ ts. take_one attribute_word ts >>= λ _. choose (is Int) (drop_value_at (take_one (is Int)))
    (choose (is OpenRound) (λ ts. take_one (is OpenRound) ts >>= λ _. skip_at INNER_NESTING_LIMIT CloseRound) (Good tt)))
    (choose attribute_name (drop_value_at (take_one attribute_name))
    (choose (is Str) (λ ts. take_one (is Str) ts >>= λ _. choose (is Equals) (λ ts. take_one (is Equals) ts >>= λ _. drop_value_at (take_one (is Str))) (Good tt))
    (λ ts. take_one metadata_name ts >>= λ _. drop_value_at (take_one metadata_name))))

unfoldable pub attributes_at : List Token → Read (Unit {0})
attributes_at ts =
    drop_value_at (all_of begins_attribute attribute_at) ts >>= λ _.
    unless Unsupported (is Refused) (Good tt)

-- ---- arguments: an integer behind a Word is the value where the argument ends with it, else the attribute's

-- what stands before a place among the attributes of an argument: nothing that goes on, a Word, a Str, or a Word and an integer
pub data Pending : Type 0 where
  Fresh : Pending
  Bare : Pending
  Quoted : Pending
  Held : Token → Pending

abbrev pub fresh_at : List Token → Read Pending
fresh_at = choose attribute_word (λ ts. take_one attribute_word ts >>= λ _. Good Bare)
    (choose attribute_name (λ ts. take_one attribute_name ts >>= λ _. Good Fresh)
    (choose (is Str) (λ ts. take_one (is Str) ts >>= λ _. Good Quoted)
    (λ ts. take_one metadata_name ts >>= λ _ ts. take_one metadata_name ts >>= λ _. Good Fresh)))

-- one token more of the attributes, or a skip
unfoldable pub pending_at : Pending → List Token → Read Pending
pending_at Fresh = fresh_at
pending_at Bare = choose (is Int) (λ ts. take_one (is Int) ts >>= λ n. Good (Held n))
    (choose (is OpenRound) (λ ts. take_one (is OpenRound) ts >>= λ _ ts. skip_at INNER_NESTING_LIMIT CloseRound ts >>= λ _. Good Fresh) fresh_at)
pending_at Quoted = choose (is Equals) (λ ts. take_one (is Equals) ts >>= λ _ ts. take_one (is Str) ts >>= λ _. Good Fresh) fresh_at
pending_at (Held n) = fresh_at

abbrev pub begins_fresh : Class → Bool
begins_fresh = begins_attribute

abbrev pub begins_pending : Pending → Class → Bool
begins_pending Fresh = begins_fresh
begins_pending Bare = is Int ∪ (is OpenRound ∪ begins_fresh)
begins_pending Quoted = is Equals ∪ begins_fresh
begins_pending (Held n) = begins_fresh

-- the value, where no attribute goes on
unfoldable pub settled_at : Pending → List Token → Read Val
settled_at Fresh = unless Unsupported (is Refused) (value_at NESTING_LIMIT)
settled_at Bare = unless Unsupported (is Refused) (other_value_at NESTING_LIMIT)
settled_at Quoted = unless Unsupported (is Refused) (value_at NESTING_LIMIT)
settled_at (Held n) = unless Unsupported (is Refused) (choose begins_value (value_at NESTING_LIMIT) (λ ts. Good (syntax.Int (literal_of n)) ts))

unfoldable pub attributed_at : List Token → Read Val
attributed_at ts = run begins_pending pending_at settled_at (length ts) Fresh ts

abbrev pub argument_at : List Token → Read Typed
argument_at ts = type_at NESTING_LIMIT ts >>= λ t ts. attributed_at ts >>= λ v. Good (record { ty = t; value = v })
