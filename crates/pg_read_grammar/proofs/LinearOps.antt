-- The rows of operations, lines and items depend on what may follow a list at a time.
use Rattle.std.proofs.Common.{[], Option, Some, None, Bool, true, false}
use Rattle.pg_num.specs.declared.limits.TheConstants.{NESTING_LIMIT}
use Rattle.pg_read_grammar.specs.declared.nesting.TheConstants.{INNER_NESTING_LIMIT}
use Rattle.pg_read_grammar.specs.declared.token.Token.{Token}
use Rattle.pg_read_grammar.specs.declared.token.Fault.TheVariants.{Unsupported}
use Rattle.pg_read_grammar.specs.declared.class.Class.{Class}
use Rattle.pg_read_grammar.specs.declared.class.Class.TheVariants.{Void, LabelWord, To, Align, Volatile, Icmp, Select, Phi, Br, Switch, TailWord, Call, Ret, Unreachable, Alloca, Load, Store}
use Rattle.pg_read_grammar.specs.declared.class.Class.TheVariants.{GetElementPtr, Int, Dots, Local, Global, DroppedGlobal, Comma, Equals, Label, DebugAttr, OpenRound, CloseRound, OpenSquare}
use Rattle.pg_read_grammar.specs.declared.class.Class.TheVariants.{CloseSquare}
use Rattle.pg_read_grammar.specs.Classes.{is, is_word, ◌∪◌}
use Rattle.pg_read_grammar.specs.Language.{Gram}
use Rattle.pg_read_grammar.specs.Grammar.{literal_of, name_of, metadata_name}
use Rattle.pg_read_grammar.specs.GrammarOps.{typed_value, target, binary_word, binary_of, binary, predicate_word, predicate_of, icmp, cast_word, cast_of, cast, select, incoming, phi, branch}
use Rattle.pg_read_grammar.specs.GrammarOps.{call_head}
use Rattle.pg_read_grammar.specs.GrammarOps.{case_of, switch, return, unreachable, alignment, count, alloca, volatile, load, store, gep, written, call_word, callee, dropped_callee, call}
use Rattle.pg_read_grammar.specs.GrammarOps.{plain_op, simple_op, no_op, op}
use Rattle.pg_read_grammar.specs.GrammarItems.{metadata, line_of, result_name, op_line, debug_line, part}
use Rattle.pg_read_ast.specs.Syntax.{Ty, Incoming, Case, Count, Written}
use Rattle.pg_read_ast.specs.Syntax as syntax
use Rattle.pg_read_grammar.proofs.ChoicesPast.{past}
use Rattle.pg_read_grammar.proofs.Linear.{Linear, linear_give, linear_one, linear_refused, linear_then, linear_or, linear_many}
use Rattle.pg_read_grammar.proofs.LinearRows.{linear_it, linear_case, linear_drop, linear_separated, linear_listed, linear_type, linear_skip, linear_attributes, linear_flags, linear_typed}
use Rattle.pg_read_grammar.proofs.LinearRows.{linear_value, linear_argument}
use Rattle.pg_read_grammar.proofs.OpRests.{cast_tail, gep_op_tail, metadata_tail}

pub linear_past : {A : Type 0} {g : Gram A} (test : Class → Bool) → Linear g → Linear (past test g)
linear_past test e = record { mono = λ m K L f us j. (j.0, e.mono m K L f us j.1); pick = λ m K us j. let q = e.pick m K us j.1 in (q.0, (j.0, q.1)); later = λ m K us j. (j.0, e.later m K us j.1) }

pub linear_typed_value : Linear typed_value
linear_typed_value = linear_typed NESTING_LIMIT (linear_value NESTING_LIMIT)

pub linear_target : Linear target
linear_target = linear_then (linear_one (is LabelWord)) (λ l. linear_then (linear_one (is Local)) (λ t. linear_it))

pub linear_metadata : Linear metadata
linear_metadata = linear_drop (linear_many (linear_then (linear_one (is Comma)) (λ c. linear_then (linear_one metadata_name) (λ m. linear_one metadata_name))))

pub linear_metadata_tail : Linear metadata_tail
linear_metadata_tail = linear_then (linear_one metadata_name) (λ m. linear_then (linear_one metadata_name) (λ m. linear_metadata))

linear_binary : Linear binary
linear_binary = linear_then (linear_one binary_word) (λ o. linear_then linear_flags
    (λ f. linear_then (linear_type NESTING_LIMIT) (λ t. linear_then (linear_value NESTING_LIMIT)
    (λ a. linear_then (linear_one (is Comma)) (λ c. linear_then (linear_value NESTING_LIMIT) (λ b. linear_give (syntax.Binary o.span (binary_of o.class) t a b)))))))

linear_icmp : Linear icmp
linear_icmp = linear_then (linear_one (is Icmp)) (λ o. linear_then linear_flags
    (λ f. linear_then (linear_one predicate_word) (λ p. linear_then (linear_type NESTING_LIMIT)
    (λ t. linear_then (linear_value NESTING_LIMIT) (λ a. linear_then (linear_one (is Comma))
    (λ c. linear_then (linear_value NESTING_LIMIT) (λ b. linear_give (syntax.Icmp o.span (predicate_of p.class) t a b))))))))

pub linear_cast_tail : (o : Token) → Linear (cast_tail o)
linear_cast_tail o = linear_then linear_flags (λ f. linear_then linear_typed_value
    (λ v. linear_then (linear_one (is To)) (λ x. linear_then (linear_type NESTING_LIMIT) (λ t. linear_give (syntax.Cast o.span (cast_of o.class) v t)))))

linear_cast : Linear cast
linear_cast = linear_then (linear_one cast_word) linear_cast_tail

linear_select : Linear select
linear_select = linear_then (linear_one (is Select)) (λ o. linear_then linear_typed_value
    (λ c. linear_then (linear_one (is Comma)) (λ k. linear_then linear_typed_value
    (λ a. linear_then (linear_one (is Comma)) (λ k. linear_then linear_typed_value (λ b. linear_give (syntax.Select o.span c a b)))))))

pub linear_incoming : Linear incoming
linear_incoming = linear_then (linear_one (is OpenSquare)) (λ o. linear_then (linear_value NESTING_LIMIT)
    (λ v. linear_then (linear_one (is Comma)) (λ c. linear_then (linear_one (is Local))
    (λ b. linear_then (linear_one (is CloseSquare)) (λ c. linear_give {A = Incoming} (record { value = v; block = name_of b }))))))

linear_phi : Linear phi
linear_phi = linear_then (linear_one (is Phi)) (λ o. linear_then (linear_type NESTING_LIMIT)
    (λ t. linear_then linear_incoming (λ i. linear_then (linear_many (linear_then (linear_one (is Comma)) (λ c. linear_incoming))) (λ more. linear_give (syntax.Phi o.span t i more)))))

linear_branch : Linear branch
linear_branch = linear_then (linear_one (is Br)) (λ o. linear_or (linear_then linear_target (λ b. linear_give (syntax.Br o.span b)))
    (linear_then linear_typed_value (λ c. linear_then (linear_one (is Comma))
    (λ k. linear_then linear_target (λ a. linear_then (linear_one (is Comma)) (λ k. linear_then linear_target (λ b. linear_give (syntax.CondBr o.span c a b))))))))

pub linear_case_of : Linear case_of
linear_case_of = linear_then linear_typed_value (λ v. linear_then (linear_one (is Comma)) (λ k. linear_then linear_target (λ b. linear_give {A = Case} (record { value = v; block = b }))))

linear_switch : Linear switch
linear_switch = linear_then (linear_one (is Switch)) (λ o. linear_then linear_typed_value
    (λ v. linear_then (linear_one (is Comma)) (λ c. linear_then linear_target
    (λ b. linear_then (linear_one (is OpenSquare)) (λ k. linear_then (linear_many linear_case_of)
    (λ all. linear_then (linear_one (is CloseSquare)) (λ k. linear_give (syntax.Switch o.span v b all))))))))

linear_return : Linear return
linear_return = linear_then (linear_one (is Ret)) (λ o. linear_case Void (λ t. linear_it) (linear_then linear_typed_value (λ v. linear_give (syntax.Ret o.span v))))

linear_unreachable : Linear unreachable
linear_unreachable = linear_then (linear_one (is Unreachable)) (λ o. linear_it)

linear_alignment : Linear alignment
linear_alignment = linear_case Comma (λ c. linear_then (linear_one (is Align)) (λ a. linear_drop (linear_one (is Int)))) linear_it

linear_count : Linear count
linear_count = linear_case Comma (λ c. linear_then (linear_type NESTING_LIMIT)
    (λ t. linear_then (linear_or (linear_one (is Int)) (linear_refused Unsupported (is Local))) (λ n. linear_give {A = Option Count} (Some (record { ty = t; count = literal_of n }))))) linear_it

linear_alloca : Linear alloca
linear_alloca = linear_then (linear_one (is Alloca)) (λ o. linear_then (linear_type NESTING_LIMIT)
    (λ t. linear_then linear_count (λ n. linear_then linear_alignment (λ u. linear_give (syntax.Alloca o.span t n)))))

linear_volatile : Linear volatile
linear_volatile = linear_or (linear_drop (linear_one (is Volatile))) linear_it

linear_load : Linear load
linear_load = linear_then (linear_one (is Load)) (λ o. linear_then linear_volatile
    (λ v. linear_then (linear_type NESTING_LIMIT) (λ t. linear_then (linear_one (is Comma))
    (λ c. linear_then linear_typed_value (λ p. linear_then linear_alignment (λ u. linear_give (syntax.Load o.span t p)))))))

linear_store : Linear store
linear_store = linear_then (linear_one (is Store)) (λ o. linear_then linear_volatile
    (λ v. linear_then linear_typed_value (λ t. linear_then (linear_one (is Comma))
    (λ c. linear_then linear_typed_value (λ p. linear_then linear_alignment (λ u. linear_give (syntax.Store o.span t p)))))))

linear_gep : Linear gep
linear_gep = linear_then (linear_one (is GetElementPtr)) (λ o. linear_then linear_flags
    (λ f. linear_then (linear_type NESTING_LIMIT) (λ t. linear_then (linear_one (is Comma))
    (λ c. linear_then linear_typed_value (λ p. linear_then (linear_many (linear_then (linear_one (is Comma)) (λ c. linear_typed_value)))
    (λ all. linear_give (syntax.GetElementPtr o.span t p all)))))))

pub linear_gep_op_tail : (o : Token) → Linear (gep_op_tail o)
linear_gep_op_tail o =
    linear_then (linear_type NESTING_LIMIT) (λ t. linear_then (linear_one (is Comma))
    (λ c. linear_then linear_typed_value (λ p. linear_then (linear_many (linear_then (linear_one (is Comma)) (λ c. linear_typed_value)))
    (λ all. linear_then linear_metadata (λ u. linear_give (syntax.GetElementPtr o.span t p all))))))

linear_written : Linear written
linear_written = linear_then (linear_one (is OpenRound)) (λ o. linear_then
    (linear_case Dots (λ d. linear_it) (linear_then (linear_or (linear_separated (linear_type NESTING_LIMIT)) (linear_give []))
    (λ types. linear_then (linear_case Comma (λ c. linear_then (linear_one (is Dots)) (λ d. linear_give true)) (linear_give false))
    (λ dots. linear_give {A = Written} (record { types = types; dots = dots })))))
    (λ w. linear_then (linear_one (is CloseRound)) (λ c. linear_give w)))

linear_call_word : Linear call_word
linear_call_word = linear_or (linear_one (is Call)) (linear_then (linear_one (is TailWord)) (λ o. linear_then (linear_one (is Call)) (λ c. linear_it)))

linear_callee : (o : Token) (t : Ty) (w : Option Written) → Linear (callee o t w)
linear_callee o t w = linear_then (linear_or (linear_one (is Global)) (linear_refused Unsupported (is_word ∪ is Local)))
    (λ f. linear_then (linear_one (is OpenRound)) (λ p. linear_then (linear_listed CloseRound linear_argument) (λ all. linear_give (syntax.Call o.span t w (name_of f) all))))

linear_dropped_callee : Linear dropped_callee
linear_dropped_callee = linear_then (linear_one (is DroppedGlobal)) (λ f. linear_then (linear_one (is OpenRound)) (λ p. linear_skip INNER_NESTING_LIMIT CloseRound))

pub linear_call_head : Linear call_head
linear_call_head = linear_then linear_call_word (λ o. linear_then linear_attributes
    (λ u. linear_then (linear_type NESTING_LIMIT) (λ t. linear_then (linear_or (linear_then linear_written (λ w. linear_give (Some w))) (linear_give None))
    (λ w. linear_or (linear_then linear_dropped_callee (λ u. linear_give None)) (linear_then (linear_callee o t w) (λ c. linear_give (Some c)))))))

linear_call : Linear call
linear_call = linear_then linear_call_head (λ c. linear_then linear_attributes (λ u. linear_give c))

linear_plain_op : Linear plain_op
linear_plain_op = linear_or linear_binary (linear_or linear_icmp
    (linear_or linear_select (linear_or linear_phi (linear_or linear_branch (linear_or linear_switch (linear_or linear_unreachable (linear_or linear_alloca (linear_or linear_load linear_store))))))))

pub linear_simple_op : Linear simple_op
linear_simple_op = linear_or linear_gep (linear_or linear_cast linear_plain_op)

pub linear_op : Linear op
linear_op = linear_or (linear_or linear_call (linear_then (linear_or linear_return linear_simple_op) (λ o. linear_give (Some o)))) (linear_refused Unsupported no_op)

pub linear_result_name : Linear result_name
linear_result_name = linear_case Local (λ t. linear_then (linear_one (is Equals)) (λ e. linear_it)) linear_it

linear_op_line : Linear op_line
linear_op_line = linear_then linear_result_name (λ name. linear_then linear_op (λ o. linear_then linear_metadata (λ u. linear_give (line_of name o))))

linear_debug_line : Linear debug_line
linear_debug_line = linear_then (linear_one (is DebugAttr)) (λ d. linear_then (linear_one (is OpenRound)) (λ o. linear_then (linear_skip INNER_NESTING_LIMIT CloseRound) (λ u. linear_it)))

pub linear_part : Linear part
linear_part = linear_case Label (λ t. linear_it) (linear_or linear_debug_line linear_op_line)
