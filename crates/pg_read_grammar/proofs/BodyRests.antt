-- The parts of a body, factored as they are read.
use Rattle.std.proofs.Common.{List, Option, Some, None}
use Rattle.pg_read_grammar.specs.declared.class.Class.TheVariants.{Void, IntToPtr, GetElementPtr, Ret, Label, Local, DebugAttr, Comma, Equals, OpenRound, CloseRound, CloseBrace}
use Rattle.pg_read_grammar.specs.declared.nesting.TheConstants.{INNER_NESTING_LIMIT}
use Rattle.pg_read_grammar.specs.declared.token.Fault.TheVariants.{Unsupported}
use Rattle.pg_read_grammar.specs.Classes.{is}
use Rattle.pg_read_grammar.specs.Language.{Gram, one, give, refused, ◌or◌, ◌>>=◌}
use Rattle.pg_read_grammar.specs.Grammar.{name_of, skip_to, flags, attribute, value_in, gep_tail, int_to_ptr_tail}
use Rattle.pg_read_grammar.specs.GrammarOps.{typed_value, simple_op, no_op, call_head}
use Rattle.pg_read_grammar.specs.GrammarItems.{LabelPart, DroppedPart, line_of, metadata}
use Rattle.pg_read_grammar.specs.ReaderItems.{add_part, add_line, After, Complete, Called, Returned, Body, complete, void_value, begins_part, blocks_by}
use Rattle.pg_read_lex.specs.declared.token.Span.{Span}
use Rattle.pg_read_ast.specs.Syntax.{Val, Block}
use Rattle.pg_read_ast.specs.Syntax as syntax
use Rattle.pg_read_ast.specs.declared.names.Name.{Name}
use Rattle.pg_read_grammar.proofs.ChoicesPast.{past}
use Rattle.pg_read_grammar.proofs.RowRests.{certain_value}
use Rattle.pg_read_grammar.proofs.OpRests.{with_metadata, metadata_tail, cast_tail, gep_op_tail}

abbrev pub called : List Block → Gram Body
called bs = (do
  _ ← one (is Comma)
  _ ← metadata_tail
  give (complete bs)) or give (record { blocks = bs; after = Called })

-- a value behind ret void, and metadata
abbrev pub void_line : List Block → Option Name → Span → Span → Gram Val → Gram Body
void_line bs name o void g = do
  v ← g
  _ ← metadata
  give (complete (add_line bs name (syntax.Ret o (void_value void v))))

abbrev pub void_end : List Block → Option Name → Span → Span → Gram Body
void_end bs name o void = void_line bs name o void certain_value or ((do
  _ ← one (is Comma)
  _ ← metadata_tail
  give (complete (add_line bs name (syntax.RetVoid o void)))) or give (record { blocks = bs; after = Returned name o void }))

abbrev pub return_line : List Block → Option Name → Gram Body
return_line bs name = do
  o ← one (is Ret)
  (do
    t ← one (is Void)
    void_end bs name o.span t.span) or past (is Void) (do
      v ← typed_value
      _ ← metadata
      give (complete (add_line bs name (syntax.Ret o.span v))))

abbrev pub op_part : List Block → Option Name → Gram Body
op_part bs name = (do
  c ← call_head
  called (add_part bs (line_of name c))) or (return_line bs name or (do
    o ← with_metadata simple_op
    give (complete (add_line bs name o))))

abbrev pub debug_tail : List Block → Gram Body
debug_tail bs = do
  _ ← one (is OpenRound)
  _ ← skip_to INNER_NESTING_LIMIT CloseRound
  give (complete (add_part bs DroppedPart))

abbrev pub named_tail : List Block → Name → Gram Body
named_tail bs name = do
  _ ← one (is Equals)
  op_part bs (Some name) or refused Unsupported no_op

abbrev pub opened : List Block → Gram Body
opened bs = (do
  t ← one (is Label)
  give (complete (add_part bs (LabelPart (name_of t))))) or ((do
    _ ← one (is DebugAttr)
    debug_tail bs) or ((do
      t ← one (is Local)
      named_tail bs (name_of t)) or op_part bs None))

abbrev pub behind_call : List Block → Gram Body
behind_call bs = (do
  _ ← one (is DebugAttr)
  debug_tail bs or called bs) or past (is DebugAttr) (opened bs or past begins_part (do
    _ ← attribute
    called bs))

abbrev pub behind_void : List Block → Option Name → Span → Span → Gram Body
behind_void bs name o void = (do
  t ← one (is Local)
  named_tail (add_line bs name (syntax.RetVoid o void)) (name_of t) or void_line bs name o void (give (syntax.Local (name_of t)))) or past (is Local) ((do
    t ← one (is GetElementPtr)
    _ ← flags
    void_line bs name o void (gep_tail INNER_NESTING_LIMIT (value_in INNER_NESTING_LIMIT) t) or (do
      p ← gep_op_tail t
      give (complete (add_line (add_line bs name (syntax.RetVoid o void)) None p)))) or past (is GetElementPtr) ((do
        t ← one (is IntToPtr)
        void_line bs name o void (int_to_ptr_tail INNER_NESTING_LIMIT t) or (do
          p ← cast_tail t
          _ ← metadata
          give (complete (add_line (add_line bs name (syntax.RetVoid o void)) None p)))) or past (is IntToPtr) (opened (add_line bs name (syntax.RetVoid o void)))))

abbrev pub next_by : List Block → After → Gram Body
next_by bs Complete = opened bs
next_by bs Called = behind_call bs
next_by bs (Returned name o void) = behind_void bs name o void

abbrev pub next_part : Body → Gram Body
next_part b = next_by b.blocks b.after

abbrev pub body_end : Body → Gram (List Block)
body_end b = (do
  _ ← one (is CloseBrace)
  give (blocks_by b.blocks b.after)) or refused Unsupported no_op
