-- The sets of classes that the code knows by a name, and the ends of two long readings.
use Rattle.std.specs.Prelude.{List, Bool}
use Rattle.pg_read_grammar.specs.declared.class.Class.{Class}
use Rattle.pg_read_grammar.specs.declared.class.Class.TheVariants.{I32, I64, Ptr, Void, Undef, Poison, ZeroInitializer, Local}
use Rattle.pg_read_grammar.specs.declared.token.Token.{Token}
use Rattle.pg_read_terms.specs.declared.sets.ClassSet.{ClassSet}
use Rattle.pg_read_terms.specs.declared.sets.ClassSet.TheVariants as sets
use Rattle.pg_read_grammar.specs.Classes.{is, is_word, ◌∪◌}
use Rattle.pg_read_grammar.specs.Reading.{Read, Good, ◌>>=◌, take_one, choose}
use Rattle.pg_read_grammar.specs.Grammar.{name_of, no_type, opens_type, opens, plain, attribute_word, attribute_name, metadata_name, opens_value, global_name}
use Rattle.pg_read_grammar.specs.GrammarOps.{binary_word, predicate_word, cast_word, op_word, no_op}
use Rattle.pg_read_grammar.specs.GrammarItems.{no_item}
use Rattle.pg_read_grammar.specs.Reader.{begins_type, brackets, begins_value, begins_attribute}
use Rattle.pg_read_grammar.specs.ReaderItems.{begins_certain, begins_call, begins_part, begins_item}
use Rattle.pg_read_ast.specs.Syntax.{Ty, Val}
use Rattle.pg_read_ast.specs.Syntax as syntax

abbrev pub members : ClassSet → Class → Bool
members sets.Word = is_word
members sets.NoCallee = is_word ∪ is Local
members sets.GlobalName = global_name
members sets.MetadataName = metadata_name
members sets.AttributeName = attribute_name
members sets.AttributeWord = attribute_word
members sets.Attribute = begins_attribute
members sets.Opening = opens
members sets.Plain = plain
members sets.Bracket = brackets
members sets.Type = begins_type
members sets.NoType = no_type
members sets.OpensType = opens_type
members sets.Value = begins_value
members sets.OpensValue = opens_value
members sets.CertainValue = begins_certain
members sets.Binary = binary_word
members sets.Predicate = predicate_word
members sets.Cast = cast_word
members sets.Call = begins_call
members sets.Operation = op_word
members sets.NoOperation = no_op
members sets.Part = begins_part
members sets.Item = begins_item
members sets.NoItem = no_item

-- `simple_type_at` behind all integers
abbrev pub other_type_at : List Token → Read Ty
other_type_at = choose (is Ptr) (λ ts. take_one (is Ptr) ts >>= λ t. Good (syntax.Ptr t.span))
    (choose (is Void) (λ ts. take_one (is Void) ts >>= λ t. Good (syntax.Void t.span))
    (λ ts. take_one (is Local) ts >>= λ t. Good (syntax.Named (name_of t))))

-- `simple_type_at` behind `i16`
abbrev pub wide_type_at : List Token → Read Ty
wide_type_at = choose (is I32) (λ ts. take_one (is I32) ts >>= λ t. Good (syntax.I32 t.span))
    (choose (is I64) (λ ts. take_one (is I64) ts >>= λ t. Good (syntax.I64 t.span)) other_type_at)

-- `plain_value_at` behind `null`
abbrev pub other_plain_value_at : List Token → Read Val
other_plain_value_at = choose (is Undef) (λ ts. take_one (is Undef) ts >>= λ t. Good (syntax.Undef t.span))
    (choose (is Poison) (λ ts. take_one (is Poison) ts >>= λ t. Good (syntax.Poison t.span))
    (choose (is ZeroInitializer) (λ ts. take_one (is ZeroInitializer) ts >>= λ t. Good (syntax.ZeroInitializer t.span))
    (λ ts. take_one global_name ts >>= λ t. Good (syntax.Global (name_of t)))))
