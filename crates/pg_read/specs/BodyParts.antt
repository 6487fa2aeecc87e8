-- What the code keeps of a body.
use Rattle.std.specs.Prelude.{List, [], Option, None, map, length}
use Rattle.pg_read_lex.specs.declared.token.Span.{Span}
use Rattle.pg_read_grammar.specs.declared.class.Class.TheVariants.{Local, Equals, GetElementPtr, IntToPtr, OpenRound}
use Rattle.pg_read_grammar.specs.declared.nesting.TheConstants.{INNER_NESTING_LIMIT}
use Rattle.pg_read_grammar.specs.Classes.{is}
use Rattle.pg_read_grammar.specs.Grammar.{name_of}
use Rattle.pg_read_grammar.specs.Reader.{flags_at, value_at, gep_tail_at, int_to_ptr_tail_at}
use Rattle.pg_read_grammar.specs.ReaderOps.{metadata_at, gep_op_tail_at, cast_tail_at}
use Rattle.pg_read_ast.specs.Syntax as syntax
use Rattle.pg_read_ast.specs.declared.names.Name.{Name}
use Rattle.pg_read.specs.declared.parts.BodyPart.{BodyPart}
use Rattle.pg_read.specs.declared.parts.BodyPart.TheVariants as parts
use Rattle.pg_read.specs.declared.parts.AfterPart.{AfterPart}
use Rattle.pg_read.specs.declared.parts.AfterPart.TheVariants as after
use Rattle.pg_read.specs.declared.parts.Body.{Body}
use Rattle.pg_read.specs.declared.next.Begun.{Begun}
use Rattle.pg_read.specs.declared.next.Begun.TheVariants as begun
use Rattle.pg_read_grammar.specs.declared.token.Token.{Token}
use Rattle.pg_read_grammar.specs.Reading.{Read, Good, ◌>>=◌, take_one, choose, run}
use Rattle.pg_read_grammar.specs.GrammarItems.{Part, LabelPart, LinePart, DroppedPart}
use Rattle.pg_read_grammar.specs.ReaderItems.{begins_next, next_part_at, body_end_at, complete}
use Rattle.pg_read_grammar.specs.ReaderItems as reader
use Rattle.pg_read_ast.specs.Syntax.{Block, Val, Op}
use Rattle.pg_read_ast.specs.Views.{val_of, op_of, line_of, block_of}

abbrev pub part_of : BodyPart → Part
part_of (parts.Label n) = LabelPart n
part_of (parts.Line l) = LinePart (line_of l)
part_of parts.Dropped = DroppedPart

abbrev pub after_part_of : AfterPart → reader.After
after_part_of after.Complete = reader.Complete
after_part_of after.Called = reader.Called
after_part_of (after.Returned r) = reader.Returned r.name r.word r.void

abbrev pub body_of : Body → reader.Body
body_of b = record { blocks = map block_of b.blocks.items; after = after_part_of b.after }

-- a body behind its opening brace
abbrev pub parts_at : List Token → Read (List Block)
parts_at ts = run begins_next next_part_at body_end_at (length ts) (complete []) ts

-- ---- behind ret void

abbrev pub void_line_at : List Block → Option Name → Span → Span → Val → List Token → Read reader.Body
void_line_at bs name o void v ts =
    metadata_at ts >>= λ _.
    Good (complete (reader.add_line bs name (syntax.Ret o (reader.void_value void v))))

abbrev pub behind_local_at : List Block → Option Name → Span → Span → List Token → Read reader.Body
behind_local_at bs name o void ts =
    take_one (is Local) ts >>= λ t.
    choose (is Equals) (reader.named_tail_at (reader.add_line bs name (syntax.RetVoid o void)) (name_of t))
    (reader.void_value_at bs name o void (Good (syntax.Local (name_of t))))

-- ---- what a word behind ret void begins: the value of the return, or the operation of the next line

pub data Begins : Type 0 where
  BeginsValue : Val → Begins
  BeginsLine : Op → Begins

abbrev pub begun_of : Begun → Begins
begun_of (begun.Value v) = BeginsValue (val_of v)
begun_of (begun.Line p) = BeginsLine (op_of p)

abbrev pub begun_value : Val → List Token → Read Begins
begun_value v = Good (BeginsValue v)

abbrev pub begun_line : Op → List Token → Read Begins
begun_line p = Good (BeginsLine p)

abbrev pub begun_gep_at : List Token → Read Begins
begun_gep_at ts =
    take_one (is GetElementPtr) ts >>= λ t ts.
    flags_at ts >>= λ _.
    choose (is OpenRound) (λ ts. gep_tail_at INNER_NESTING_LIMIT (value_at INNER_NESTING_LIMIT) t ts >>= begun_value) (λ ts. gep_op_tail_at t ts >>= begun_line)

abbrev pub begun_cast_at : List Token → Read Begins
begun_cast_at ts =
    take_one (is IntToPtr) ts >>= λ t.
    choose (is OpenRound) (λ ts. int_to_ptr_tail_at INNER_NESTING_LIMIT t ts >>= begun_value) (λ ts. cast_tail_at t ts >>= λ p ts. metadata_at ts >>= λ _. begun_line p)

-- a ret with that value, or a ret void and that line
abbrev pub behind_begun_at : List Block → Option Name → Span → Span → Begins → List Token → Read reader.Body
behind_begun_at bs name o void (BeginsValue v) = void_line_at bs name o void v
behind_begun_at bs name o void (BeginsLine p) = Good (complete (reader.add_line (reader.add_line bs name (syntax.RetVoid o void)) None p))

abbrev pub behind_gep_at : List Block → Option Name → Span → Span → List Token → Read reader.Body
behind_gep_at bs name o void ts = begun_gep_at ts >>= behind_begun_at bs name o void

abbrev pub behind_cast_at : List Block → Option Name → Span → Span → List Token → Read reader.Body
behind_cast_at bs name o void ts = begun_cast_at ts >>= behind_begun_at bs name o void
