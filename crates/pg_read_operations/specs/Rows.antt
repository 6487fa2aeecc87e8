-- Parts of the readings that are functions of their own in the code.
use Rattle.std.specs.Prelude.{List, Option, Some, None}
use Rattle.pg_num.specs.declared.limits.TheConstants.{NESTING_LIMIT}
use Rattle.pg_read_grammar.specs.declared.class.Class.TheVariants.{To, Phi, Br, Switch, Unreachable, Alloca, Load, Local, Global, DroppedGlobal, Comma, OpenRound, CloseRound, OpenSquare, CloseSquare}
use Rattle.pg_read_grammar.specs.declared.token.Token.{Token}
use Rattle.pg_read_grammar.specs.declared.token.Fault.TheVariants.{Unsupported}
use Rattle.pg_read_grammar.specs.Classes.{is, is_word, ◌∪◌}
use Rattle.pg_read_grammar.specs.Reading.{Read, Good, ◌>>=◌, take_one, choose, unless, all_of}
use Rattle.pg_read_grammar.specs.Grammar.{no_type, name_of}
use Rattle.pg_read_grammar.specs.GrammarOps.{binary_of, predicate_of, cast_of}
use Rattle.pg_read_grammar.specs.Reader.{behind_comma, begins_type, listed_at, type_at, value_at, argument_at}
use Rattle.pg_read_grammar.specs.ReaderOps.{lined, metadata_at, metadata_tail_at, typed_value_at, target_at, case_at}
use Rattle.pg_read_grammar.specs.ReaderOps.{more_at, alignment_at, phi_at, branch_at, switch_at, unreachable_at, alloca_at}
use Rattle.pg_read_grammar.specs.ReaderOps.{load_at, store_at, written_at, dropped_callee_at}
use Rattle.pg_read_ast.specs.Syntax.{Ty, Val, Typed, Op, Incoming, Case, Written}
use Rattle.pg_read_ast.specs.Syntax as syntax
use Rattle.pg_read_ast.specs.declared.names.Name.{Name}

-- the types that a call writes, or none
abbrev pub written_or_none_at : List Token → Read (Option Written)
written_or_none_at = choose (is OpenRound) (λ ts. written_at ts >>= λ w. Good (Some w)) (Good None)

-- the type of a call's result, and those that it writes for its callee
abbrev pub signature_at : List Token → Read (Ty × Option Written)
signature_at ts = type_at NESTING_LIMIT ts >>= λ t ts. written_or_none_at ts >>= λ w. Good (t, w)

-- a global that is called, and its arguments
abbrev pub called_at : List Token → Read (Name × List Typed)
called_at ts = unless Unsupported (is_word ∪ is Local) (take_one (is Global)) ts >>= λ f ts. take_one (is OpenRound) ts >>= λ _ ts. listed_at CloseRound argument_at ts >>= λ all. Good
    (name_of f, all)

-- what stands behind these types of a call
abbrev pub callee_end_at : Token → Ty × Option Written → List Token → Read (Option Op)
callee_end_at o s = choose (is DroppedGlobal) (λ ts. dropped_callee_at ts >>= λ _. Good None) (λ ts. called_at ts >>= λ c. Good (Some (syntax.Call o.span s.0 s.1 c.0 c.1)))

abbrev pub call_end_at : Token → List Token → Read (Option Op)
call_end_at o ts = signature_at ts >>= callee_end_at o

-- the metadata behind this operation
abbrev pub behind_op_at : Op → List Token → Read Op
behind_op_at op ts = metadata_at ts >>= λ _. Good op

abbrev pub memory_op_at : List Token → Read Op
memory_op_at = choose (is Alloca) alloca_at (choose (is Load) load_at store_at)

abbrev pub other_op_at : List Token → Read Op
other_op_at = choose (is Phi) phi_at (choose (is Br) (lined branch_at) (choose (is Switch) (lined switch_at) (choose (is Unreachable) (lined unreachable_at) memory_op_at)))

-- ---- what stands behind a value that is kept, in two parts: its reading, and what is made of it

-- two values with a comma between them, and the type before them
abbrev pub two_values_at : List Token → Read (Val × Val)
two_values_at ts = value_at NESTING_LIMIT ts >>= λ a ts. behind_comma (value_at NESTING_LIMIT) ts >>= λ b. Good (a, b)

abbrev pub operands_at : List Token → Read (Ty × Val × Val)
operands_at ts = type_at NESTING_LIMIT ts >>= λ t ts. two_values_at ts >>= λ v. Good (t, v.0, v.1)

abbrev pub binary_end_at : Token → List Token → Read Op
binary_end_at o ts = operands_at ts >>= λ x. Good (syntax.Binary o.span (binary_of o.class) x.0 x.1 x.2)

abbrev pub comparison_end_at : Token → Token → List Token → Read Op
comparison_end_at o p ts = operands_at ts >>= λ x. Good (syntax.Icmp o.span (predicate_of p.class) x.0 x.1 x.2)

-- a type behind the word to
abbrev pub to_type_at : List Token → Read Ty
to_type_at ts = take_one (is To) ts >>= λ _. type_at NESTING_LIMIT

abbrev pub cast_end_at : Token → Typed → List Token → Read Op
cast_end_at o v ts = to_type_at ts >>= λ t. Good (syntax.Cast o.span (cast_of o.class) v t)

abbrev pub select_end_at : Token → Typed → List Token → Read Op
select_end_at o c ts = behind_comma typed_value_at ts >>= λ a ts. behind_comma typed_value_at ts >>= λ b. Good (syntax.Select o.span c a b)

-- , Local ]
abbrev pub label_at : List Token → Read Name
label_at ts = take_one (is Comma) ts >>= λ _ ts. take_one (is Local) ts >>= λ b ts. take_one (is CloseSquare) ts >>= λ _. Good (name_of b)

abbrev pub came_by : Val → Name → Incoming
came_by v b = record { value = v; block = b }

abbrev pub incoming_tail_at : Val → List Token → Read Incoming
incoming_tail_at v ts = label_at ts >>= λ b. Good (came_by v b)

-- an address behind a comma, and the alignment and the metadata behind it
abbrev pub address_at : List Token → Read Typed
address_at ts = take_one (is Comma) ts >>= λ _ ts. typed_value_at ts >>= λ p ts. alignment_at ts >>= λ _. Good p

abbrev pub access_end_at : (Typed → Op) → List Token → Read Op
access_end_at k ts = address_at ts >>= λ p. Good (k p)

abbrev pub load_end_at : Token → Ty → List Token → Read Op
load_end_at o t = access_end_at (syntax.Load o.span t)

abbrev pub store_end_at : Token → Typed → List Token → Read Op
store_end_at o v = access_end_at (syntax.Store o.span v)

-- a pointer behind a comma, and the indices behind it
abbrev pub element_at : List Token → Read (Typed × List Typed)
element_at ts = take_one (is Comma) ts >>= λ _ ts. typed_value_at ts >>= λ p ts. more_at begins_type typed_value_at (unless Unsupported no_type metadata_tail_at) ts >>= λ more. Good (p, more.items)

abbrev pub gep_op_end_at : Token → Ty → List Token → Read Op
gep_op_end_at o t ts = element_at ts >>= λ e. Good (syntax.GetElementPtr o.span t e.0 e.1)

-- the two blocks behind a condition
abbrev pub targets_at : List Token → Read (Name × Name)
targets_at ts = take_one (is Comma) ts >>= λ _ ts. target_at ts >>= λ a ts. take_one (is Comma) ts >>= λ _ ts. target_at ts >>= λ b. Good (a, b)

abbrev pub branch_end_at : Token → Typed → List Token → Read Op
branch_end_at o c ts = targets_at ts >>= λ t. Good (syntax.CondBr o.span c t.0 t.1)

abbrev pub case_by : Typed → Name → Case
case_by v b = record { value = v; block = b }

abbrev pub case_end_at : Typed → List Token → Read Case
case_end_at v ts = behind_comma target_at ts >>= λ b. Good (case_by v b)

-- the cases of a switch, and the bracket behind them
abbrev pub closed_cases_at : List Token → Read (List Case)
closed_cases_at ts = all_of begins_type case_at ts >>= λ all. unless Unsupported no_type (λ ts. take_one (is CloseSquare) ts >>= λ _. Good all)

-- the default and the cases
abbrev pub ways_at : List Token → Read (Name × List Case)
ways_at ts = take_one (is Comma) ts >>= λ _ ts. target_at ts >>= λ b ts. take_one (is OpenSquare) ts >>= λ _ ts. closed_cases_at ts >>= λ all. Good (b, all)

abbrev pub switch_end_at : Token → Typed → List Token → Read Op
switch_end_at o v ts = ways_at ts >>= λ w. Good (syntax.Switch o.span v w.0 w.1)
