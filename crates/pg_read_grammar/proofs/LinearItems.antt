-- The rows of items depend on what may follow a list at a time.
use Rattle.std.proofs.Common.{Some, None, true, false}
use Rattle.pg_num.specs.declared.limits.TheConstants.{NESTING_LIMIT}
use Rattle.pg_read_grammar.specs.declared.class.Class.TheVariants.{MetadataWord, TypeWord, Distinct, GlobalWord, ConstantWord, SourceFilename, Target, Declare, Define, Attributes, Dots, Str}
use Rattle.pg_read_grammar.specs.declared.class.Class.TheVariants.{Local, Meta, Bang, Comma, Equals, OpenRound, CloseRound, OpenBrace, CloseBrace}
use Rattle.pg_read_grammar.specs.declared.nesting.TheConstants.{INNER_NESTING_LIMIT}
use Rattle.pg_read_grammar.specs.declared.token.Fault.TheVariants.{Unsupported}
use Rattle.pg_read_grammar.specs.Classes.{is, is_word}
use Rattle.pg_read_grammar.specs.Language.{Gram}
use Rattle.pg_read_grammar.specs.Grammar.{name_of, global_name, attribute_name, metadata_name}
use Rattle.pg_read_grammar.specs.GrammarItems.{blocks_of, body, param, dparam, TypeItem, GlobalItem, DeclareItem, DefineItem, OtherItem, constancy, node, no_item, item, global_head, declare_head}
use Rattle.pg_read_grammar.specs.GrammarItems.{define_whole}
use Rattle.pg_read_grammar.specs.ReaderItems.{AfterItem, Done, Declared, Valued, Tailed, Items, items, add_item, begins_item}
use Rattle.pg_read_ast.specs.Syntax.{Param, NamedType, Variable, Declaration, Definition, Tree}
use Rattle.pg_read_ast.specs.Syntax as syntax
use Rattle.pg_read_grammar.proofs.Linear.{Linear, linear_give, linear_one, linear_refused, linear_then, linear_or, linear_many}
use Rattle.pg_read_grammar.proofs.LinearRows.{linear_case, linear_drop, linear_listed, linear_type, linear_skip, linear_attribute, linear_attributes, linear_const}
use Rattle.pg_read_grammar.proofs.LinearOps.{linear_part, linear_past}
use Rattle.pg_read_grammar.proofs.ItemRests.{node_tail, tails, tail, type_whole, attributes_whole, text_whole, opened_item, behind_attributes_item}
use Rattle.pg_read_grammar.proofs.ItemRests.{comma_or_item, next_item_of}

pub linear_body : Linear body
linear_body = linear_then (linear_one (is OpenBrace)) (λ o. linear_then (linear_many linear_part) (λ ps. linear_then (linear_one (is CloseBrace)) (λ c. linear_give (blocks_of ps))))

pub linear_param : Linear param
linear_param = linear_then (linear_type NESTING_LIMIT) (λ t. linear_then linear_attributes
    (λ u. linear_then (linear_case Local (λ n. linear_give (Some (name_of n))) (linear_give None)) (λ name. linear_give {A = Param} (record { ty = t; name = name }))))

linear_dparam : Linear dparam
linear_dparam = linear_case MetadataWord (λ t. linear_give (syntax.Metadata t.span))
    (linear_case Dots (λ t. linear_give (syntax.Dots t.span)) (linear_then linear_param (λ p. linear_give (syntax.ParamOf p))))

linear_node : Linear node
linear_node = linear_case Meta (λ m. linear_then (linear_one (is OpenRound)) (λ o. linear_skip INNER_NESTING_LIMIT CloseRound))
    (linear_then (linear_one (is Bang)) (λ b. linear_case OpenBrace (λ o. linear_skip INNER_NESTING_LIMIT CloseBrace)
    (linear_then (linear_one (is OpenRound)) (λ o. linear_skip INNER_NESTING_LIMIT CloseRound))))

pub linear_node_tail : Linear node_tail
linear_node_tail = linear_then (linear_one (is Equals)) (λ e. linear_then (linear_or (linear_drop (linear_one (is Distinct))) (linear_give tt)) (λ u. linear_node))

linear_constancy : Linear constancy
linear_constancy = linear_case GlobalWord (λ g. linear_give false) (linear_then (linear_one (is ConstantWord)) (λ c. linear_give true))

pub linear_global_head : Linear global_head
linear_global_head = linear_then (linear_one global_name) (λ n. linear_then (linear_one (is Equals))
    (λ e. linear_then linear_attributes (λ u. linear_then linear_constancy
    (λ c. linear_then (linear_type NESTING_LIMIT) (λ t. linear_then (linear_const NESTING_LIMIT)
    (λ v. linear_give {A = Variable} (record { name = name_of n; is_constant = c; ty = t; value = v })))))))

pub linear_tail : Linear tail
linear_tail = linear_then (linear_one (is Comma)) (λ c. linear_attributes)

pub linear_tails : Linear tails
linear_tails = linear_drop (linear_many linear_tail)

pub linear_declare_head : Linear declare_head
linear_declare_head =
    linear_then (linear_one (is Declare)) (λ d. linear_then linear_attributes
    (λ u. linear_then (linear_type NESTING_LIMIT) (λ t. linear_then (linear_one global_name)
    (λ n. linear_then (linear_one (is OpenRound)) (λ o. linear_then (linear_listed CloseRound linear_dparam)
    (λ ps. linear_give {A = Declaration} (record { result = t; name = name_of n; params = ps })))))))

pub linear_define_whole : Linear define_whole
linear_define_whole = linear_then (linear_one (is Define)) (λ d. linear_then linear_attributes
    (λ u. linear_then (linear_type NESTING_LIMIT) (λ t. linear_then (linear_one global_name)
    (λ n. linear_then (linear_one (is OpenRound)) (λ o. linear_then (linear_listed CloseRound (linear_or linear_param (linear_refused Unsupported (is Dots))))
    (λ ps. linear_then linear_attributes (λ u. linear_then linear_body (λ bs. linear_give {A = Definition} (record { result = t; name = name_of n; params = ps; blocks = bs })))))))))

pub linear_type_whole : Linear type_whole
linear_type_whole = linear_then (linear_one (is Local)) (λ n. linear_then (linear_one (is Equals))
    (λ e. linear_then (linear_one (is TypeWord)) (λ w. linear_then (linear_type NESTING_LIMIT) (λ t. linear_give {A = NamedType} (record { name = name_of n; ty = t })))))

pub linear_attributes_whole : Linear attributes_whole
linear_attributes_whole =
    linear_then (linear_one (is Attributes)) (λ a. linear_then (linear_one attribute_name)
    (λ n. linear_then (linear_one (is Equals)) (λ e. linear_then (linear_one (is OpenBrace)) (λ o. linear_skip INNER_NESTING_LIMIT CloseBrace))))

pub linear_text_whole : Linear text_whole
linear_text_whole = linear_case SourceFilename (λ s. linear_then (linear_one (is Equals)) (λ e. linear_drop (linear_one (is Str))))
    (linear_then (linear_one (is Target)) (λ t. linear_then (linear_one is_word) (λ w. linear_then (linear_one (is Equals)) (λ e. linear_drop (linear_one (is Str))))))

pub linear_item : Linear item
linear_item = linear_or (linear_or (linear_then (linear_one metadata_name) (λ m. linear_then linear_node_tail (λ u. linear_give OtherItem)))
    (linear_or (linear_then linear_global_head (λ g. linear_then linear_tails (λ u. linear_give (GlobalItem g))))
    (linear_or (linear_then linear_declare_head (λ d. linear_then linear_attributes (λ u. linear_give (DeclareItem d))))
    (linear_or (linear_then linear_define_whole (λ d. linear_give (DefineItem d)))
    (linear_or (linear_then linear_type_whole (λ n. linear_give (TypeItem n)))
    (linear_or (linear_then linear_attributes_whole (λ u. linear_give OtherItem)) (linear_then linear_text_whole (λ u. linear_give OtherItem)))))))) (linear_refused Unsupported no_item)

linear_opened_item : (t : Tree) → Linear (opened_item t)
linear_opened_item t = linear_or (linear_then (linear_one metadata_name) (λ m. linear_then linear_node_tail (λ u. linear_give (items t Done))))
    (linear_or (linear_then linear_global_head (λ g. linear_give (items (add_item t (GlobalItem g)) Valued)))
    (linear_or (linear_then linear_declare_head (λ d. linear_give (items (add_item t (DeclareItem d)) Declared)))
    (linear_or (linear_then linear_define_whole (λ d. linear_give (items (add_item t (DefineItem d)) Done)))
    (linear_or (linear_then linear_type_whole (λ n. linear_give (items (add_item t (TypeItem n)) Done)))
    (linear_or (linear_then linear_attributes_whole (λ u. linear_give (items t Done))) (linear_then linear_text_whole (λ u. linear_give (items t Done))))))))

linear_behind_attributes : (t : Tree) (after : AfterItem) → Linear (behind_attributes_item t after)
linear_behind_attributes t after = linear_or (linear_then (linear_one metadata_name)
    (λ m. linear_or (linear_then (linear_one metadata_name) (λ m. linear_give (items t after))) (linear_then linear_node_tail (λ u. linear_give (items t Done)))))
    (linear_past metadata_name (linear_or (linear_opened_item t) (linear_past begins_item (linear_then linear_attribute (λ u. linear_give (items t after))))))

linear_comma_or : (t : Tree) {g : Gram Items} → Linear g → Linear (comma_or_item t g)
linear_comma_or t e = linear_case Comma (λ c. linear_give (items t Tailed)) e

pub linear_next_item : (t : Tree) (after : AfterItem) → Linear (next_item_of t after)
linear_next_item t Done = linear_opened_item t
linear_next_item t Declared = linear_behind_attributes t Declared
linear_next_item t Valued = linear_comma_or t (linear_opened_item t)
linear_next_item t Tailed = linear_comma_or t (linear_behind_attributes t Tailed)
