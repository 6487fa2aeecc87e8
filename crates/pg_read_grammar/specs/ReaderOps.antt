-- The reading of operations. What stands behind the last operand, (, Meta Meta)*, is read with them.
use Rattle.std.specs.Prelude.{List, [], ◌∷◌, ◌++◌, Option, Some, None, Bool, true, false, length}
use Rattle.pg_num.specs.declared.limits.TheConstants.{NESTING_LIMIT}
use Rattle.pg_read_grammar.specs.declared.class.Class.{Class}
use Rattle.pg_read_grammar.specs.declared.class.Class.TheVariants.{LabelWord, To, Align, Volatile, Icmp, Select, Phi, Br}
use Rattle.pg_read_grammar.specs.declared.class.Class.TheVariants.{Switch, TailWord, Call, Unreachable, Alloca, Load, Store}
use Rattle.pg_read_grammar.specs.declared.class.Class.TheVariants.{GetElementPtr, Int, Dots, Local, Global, DroppedGlobal}
use Rattle.pg_read_grammar.specs.declared.class.Class.TheVariants.{Comma, OpenRound, CloseRound, OpenSquare, CloseSquare}
use Rattle.pg_read_grammar.specs.declared.nesting.TheConstants.{INNER_NESTING_LIMIT}
use Rattle.pg_read_grammar.specs.declared.token.Token.{Token}
use Rattle.pg_read_grammar.specs.declared.token.Fault.TheVariants.{Unsupported}
use Rattle.pg_read_grammar.specs.Classes.{is, is_word, ◌∪◌}
use Rattle.pg_read_grammar.specs.Reading.{Read, Good, ◌>>=◌, take_one, choose, unless, all_of, run}
use Rattle.pg_read_grammar.specs.Grammar.{no_type, name_of, literal_of, metadata_name}
use Rattle.pg_read_grammar.specs.GrammarOps.{binary_word, binary_of, predicate_word, predicate_of, cast_word, cast_of}
use Rattle.pg_read_grammar.specs.Reader.{listed_at, begins_type, type_at, drop_value_at, skip_at, flags_at, typed_in_at, value_at, attributes_at, argument_at}
use Rattle.pg_read_ast.specs.Syntax.{Ty, Typed, Op, Incoming, Case, Written, Count}
use Rattle.pg_read_ast.specs.Syntax as syntax
use Rattle.pg_read_ast.specs.declared.names.Name.{Name}

abbrev pub typed_value_at : List Token → Read Typed
typed_value_at = typed_in_at NESTING_LIMIT (value_at NESTING_LIMIT)

abbrev pub target_at : List Token → Read Name
target_at ts = take_one (is LabelWord) ts >>= λ _ ts. take_one (is Local) ts >>= λ t. Good (name_of t)

-- , Meta Meta
abbrev pub pair_at : List Token → Read Token
pair_at ts = take_one (is Comma) ts >>= λ _ ts. take_one metadata_name ts >>= λ _. take_one metadata_name

unfoldable pub metadata_at : List Token → Read (Unit {0})
metadata_at = drop_value_at (all_of (is Comma) pair_at)

-- an operation that takes no more commas, and the metadata behind it
abbrev pub lined : (List Token → Read Op) → List Token → Read Op
lined r ts = r ts >>= λ o ts. metadata_at ts >>= λ _. Good o

-- Meta Meta (, Meta Meta)*, behind a comma
abbrev pub metadata_tail_at : List Token → Read (Unit {0})
metadata_tail_at ts = take_one metadata_name ts >>= λ _ ts. take_one metadata_name ts >>= λ _. metadata_at

-- ---- items behind commas, where something else may stand behind the last comma

-- the items so far, and whether a comma stands behind them
pub record Listing (A : Type 0) : Type 0 where
  pub items : List A
  pub comma : Bool

abbrev pub begins_by : (Class → Bool) → Bool → Class → Bool
begins_by fi true = fi
begins_by fi false = is Comma

abbrev pub begins_listing : {A : Type 0} → (Class → Bool) → Listing A → Class → Bool
begins_listing fi s = begins_by fi s.comma

abbrev pub listing_by : {A : Type 0} → (List Token → Read A) → List A → Bool → List Token → Read (Listing A)
listing_by r all true ts = r ts >>= λ a. Good (record { items = all ++ a ∷ []; comma = false })
listing_by r all false ts = take_one (is Comma) ts >>= λ _. Good (record { items = all; comma = true })

-- a comma, or an item behind one
abbrev pub listing_at : {A : Type 0} → (List Token → Read A) → Listing A → List Token → Read (Listing A)
listing_at r s = listing_by r s.items s.comma

abbrev pub listing_end_by : {A : Type 0} → (List Token → Read (Unit {0})) → List A → Bool → List Token → Read (Listing A)
listing_end_by r all true ts = r ts >>= λ _. Good (record { items = all; comma = true })
listing_end_by r all false ts = Good (record { items = all; comma = false }) ts

-- nothing, or what stands behind the last comma
abbrev pub listing_end_at : {A : Type 0} → (List Token → Read (Unit {0})) → Listing A → List Token → Read (Listing A)
listing_end_at r s = listing_end_by r s.items s.comma

-- (, item)*, and then nothing or a comma and the other thing
unfoldable pub more_at : {A : Type 0} → (Class → Bool) → (List Token → Read A) → (List Token → Read (Unit {0})) → List Token → Read (Listing A)
more_at fi r end ts = run (begins_listing fi) (listing_at r) (listing_end_at end) (length ts) (record { items = []; comma = false }) ts

-- ---- numbers

abbrev pub binary_at : List Token → Read Op
binary_at ts =
    take_one binary_word ts >>= λ o ts.
    flags_at ts >>= λ _ ts.
    type_at NESTING_LIMIT ts >>= λ t ts.
    value_at NESTING_LIMIT ts >>= λ a ts.
    take_one (is Comma) ts >>= λ _ ts.
    value_at NESTING_LIMIT ts >>= λ b.
    Good (syntax.Binary o.span (binary_of o.class) t a b)

abbrev pub icmp_at : List Token → Read Op
icmp_at ts =
    take_one (is Icmp) ts >>= λ o ts.
    flags_at ts >>= λ _ ts.
    take_one predicate_word ts >>= λ p ts.
    type_at NESTING_LIMIT ts >>= λ t ts.
    value_at NESTING_LIMIT ts >>= λ a ts.
    take_one (is Comma) ts >>= λ _ ts.
    value_at NESTING_LIMIT ts >>= λ b.
    Good (syntax.Icmp o.span (predicate_of p.class) t a b)

-- behind the first token of a conversion
abbrev pub cast_tail_at : Token → List Token → Read Op
cast_tail_at o ts =
    flags_at ts >>= λ _ ts.
    typed_value_at ts >>= λ v ts.
    take_one (is To) ts >>= λ _ ts.
    type_at NESTING_LIMIT ts >>= λ t.
    Good (syntax.Cast o.span (cast_of o.class) v t)

abbrev pub cast_at : List Token → Read Op
cast_at ts = take_one cast_word ts >>= cast_tail_at

abbrev pub select_at : List Token → Read Op
select_at ts =
    take_one (is Select) ts >>= λ o ts.
    typed_value_at ts >>= λ c ts.
    take_one (is Comma) ts >>= λ _ ts.
    typed_value_at ts >>= λ a ts.
    take_one (is Comma) ts >>= λ _ ts.
    typed_value_at ts >>= λ b.
    Good (syntax.Select o.span c a b)

-- ---- the way through the blocks

abbrev pub incoming_at : List Token → Read Incoming
incoming_at ts =
    take_one (is OpenSquare) ts >>= λ _ ts.
    value_at NESTING_LIMIT ts >>= λ v ts.
    take_one (is Comma) ts >>= λ _ ts.
    take_one (is Local) ts >>= λ b ts.
    take_one (is CloseSquare) ts >>= λ _.
    Good (record { value = v; block = name_of b })

abbrev pub phi_at : List Token → Read Op
phi_at ts =
    take_one (is Phi) ts >>= λ o ts.
    type_at NESTING_LIMIT ts >>= λ t ts.
    incoming_at ts >>= λ i ts.
    more_at (is OpenSquare) incoming_at metadata_tail_at ts >>= λ more.
    Good (syntax.Phi o.span t i more.items)

abbrev pub branch_at : List Token → Read Op
branch_at ts = take_one (is Br) ts >>= λ o. choose (is LabelWord) (λ ts. target_at ts >>= λ b. Good (syntax.Br o.span b))
    (λ ts. typed_value_at ts >>= λ c ts. take_one (is Comma) ts >>= λ _ ts. target_at ts >>= λ a ts. take_one (is Comma) ts >>= λ _ ts. target_at ts >>= λ b. Good (syntax.CondBr o.span c a b))

abbrev pub case_at : List Token → Read Case
case_at ts =
    typed_value_at ts >>= λ v ts.
    take_one (is Comma) ts >>= λ _ ts.
    target_at ts >>= λ b.
    Good (record { value = v; block = b })

abbrev pub switch_at : List Token → Read Op
switch_at ts =
    take_one (is Switch) ts >>= λ o ts.
    typed_value_at ts >>= λ v ts.
    take_one (is Comma) ts >>= λ _ ts.
    target_at ts >>= λ b ts.
    take_one (is OpenSquare) ts >>= λ _ ts.
    all_of begins_type case_at ts >>= λ cases. unless Unsupported no_type (λ ts. take_one (is CloseSquare) ts >>= λ _. Good (syntax.Switch o.span v b cases))

abbrev pub unreachable_at : List Token → Read Op
unreachable_at ts = take_one (is Unreachable) ts >>= λ o. Good (syntax.Unreachable o.span)

-- ---- memory

-- [, align Int] (, Meta Meta)*
unfoldable pub alignment_at : List Token → Read (Unit {0})
alignment_at =
    choose (is Comma) (λ ts. take_one (is Comma) ts >>= λ _. choose (is Align)
    (λ ts. take_one (is Align) ts >>= λ _ ts. take_one (is Int) ts >>= λ _. metadata_at)
    metadata_tail_at) (Good tt)

-- [, type Int] [, align Int] (, Meta Meta)*
unfoldable pub count_at : List Token → Read (Option Count)
count_at =
    choose (is Comma) (λ ts. take_one (is Comma) ts >>= λ _. choose (is Align)
    (λ ts. take_one (is Align) ts >>= λ _ ts. take_one (is Int) ts >>= λ _ ts. metadata_at ts >>= λ _. Good None)
    (choose metadata_name (λ ts. metadata_tail_at ts >>= λ _. Good None)
    (λ ts. type_at NESTING_LIMIT ts >>= λ t ts. unless Unsupported (is Local) (take_one (is Int)) ts >>= λ n ts. alignment_at ts >>= λ _.
    Good (Some (record { ty = t; count = literal_of n }))))) (Good None)

abbrev pub alloca_at : List Token → Read Op
alloca_at ts =
    take_one (is Alloca) ts >>= λ o ts.
    type_at NESTING_LIMIT ts >>= λ t ts.
    count_at ts >>= λ n.
    Good (syntax.Alloca o.span t n)

abbrev pub volatile_at : List Token → Read (Unit {0})
volatile_at = choose (is Volatile) (drop_value_at (take_one (is Volatile))) (Good tt)

abbrev pub load_at : List Token → Read Op
load_at ts =
    take_one (is Load) ts >>= λ o ts.
    volatile_at ts >>= λ _ ts.
    type_at NESTING_LIMIT ts >>= λ t ts.
    take_one (is Comma) ts >>= λ _ ts.
    typed_value_at ts >>= λ p ts.
    alignment_at ts >>= λ _.
    Good (syntax.Load o.span t p)

abbrev pub store_at : List Token → Read Op
store_at ts =
    take_one (is Store) ts >>= λ o ts.
    volatile_at ts >>= λ _ ts.
    typed_value_at ts >>= λ v ts.
    take_one (is Comma) ts >>= λ _ ts.
    typed_value_at ts >>= λ p ts.
    alignment_at ts >>= λ _.
    Good (syntax.Store o.span v p)

-- behind the first token of a getelementptr and its flags
abbrev pub gep_op_tail_at : Token → List Token → Read Op
gep_op_tail_at o ts =
    type_at NESTING_LIMIT ts >>= λ t ts.
    take_one (is Comma) ts >>= λ _ ts.
    typed_value_at ts >>= λ p ts.
    more_at begins_type typed_value_at (unless Unsupported no_type metadata_tail_at) ts >>= λ more.
    Good (syntax.GetElementPtr o.span t p more.items)

abbrev pub gep_op_at : List Token → Read Op
gep_op_at ts = take_one (is GetElementPtr) ts >>= λ o ts. flags_at ts >>= λ _. gep_op_tail_at o

-- ---- calls

unfoldable pub written_at : List Token → Read Written
written_at ts = take_one (is OpenRound) ts >>= λ _.
    choose (is Dots) (λ ts. take_one (is Dots) ts >>= λ _ ts. take_one (is CloseRound) ts >>= λ _. Good (record { types = []; dots = true }))
    (choose (is Comma) (λ ts. take_one (is Comma) ts >>= λ _ ts. take_one (is Dots) ts >>= λ _ ts. take_one (is CloseRound) ts >>= λ _. Good (record { types = []; dots = true }))
    (choose (is CloseRound) (λ ts. take_one (is CloseRound) ts >>= λ _. Good (record { types = []; dots = false }))
    (λ ts. type_at NESTING_LIMIT ts >>= λ t ts. more_at begins_type (type_at NESTING_LIMIT) (unless Unsupported no_type (drop_value_at (take_one (is Dots)))) ts >>= λ more ts.
    take_one (is CloseRound) ts >>= λ _. Good (record { types = t ∷ more.items; dots = more.comma }))))

abbrev pub call_word_at : List Token → Read Token
call_word_at = choose (is Call) (take_one (is Call)) (λ ts. take_one (is TailWord) ts >>= λ o ts. take_one (is Call) ts >>= λ _. Good o)

abbrev pub callee_at : Token → Ty → Option Written → List Token → Read Op
callee_at o t w ts =
    unless Unsupported (is_word ∪ is Local) (take_one (is Global)) ts >>= λ f ts.
    take_one (is OpenRound) ts >>= λ _ ts.
    listed_at CloseRound argument_at ts >>= λ all.
    Good (syntax.Call o.span t w (name_of f) all)

abbrev pub dropped_callee_at : List Token → Read (Unit {0})
dropped_callee_at ts = take_one (is DroppedGlobal) ts >>= λ _ ts. take_one (is OpenRound) ts >>= λ _. skip_at INNER_NESTING_LIMIT CloseRound

-- a call, without the attributes behind its arguments
unfoldable pub call_at : List Token → Read (Option Op)
call_at ts =
    call_word_at ts >>= λ o ts.
    attributes_at ts >>= λ _ ts.
    type_at NESTING_LIMIT ts >>= λ t ts.
    choose (is OpenRound) (λ ts. written_at ts >>= λ w. Good (Some w)) (Good None) ts >>= λ w.
    choose (is DroppedGlobal) (λ ts. dropped_callee_at ts >>= λ _. Good None) (λ ts. callee_at o t w ts >>= λ c. Good (Some c))

-- ---- all operations but calls and returns

-- any of them but a getelementptr and a conversion
unfoldable pub plain_op_at : List Token → Read Op
plain_op_at = choose binary_word (lined binary_at)
    (choose (is Icmp) (lined icmp_at)
    (choose (is Select) (lined select_at)
    (choose (is Phi) phi_at
    (choose (is Br) (lined branch_at)
    (choose (is Switch) (lined switch_at)
    (choose (is Unreachable) (lined unreachable_at)
    (choose (is Alloca) alloca_at
    (choose (is Load) load_at store_at))))))))

unfoldable pub simple_op_at : List Token → Read Op
simple_op_at = choose (is GetElementPtr) gep_op_at (choose cast_word (lined cast_at) plain_op_at)
