-- What is read of a body from state to state is a body of the grammar.
use Rattle.std.proofs.Common.{◌≡◌, ℕ, zero, suc, List, ◌∷◌, Option, Some, None, inl, inr, ◌⊎◌, IsTrue, refl}
use Rattle.pg_num.specs.declared.limits.TheConstants.{NESTING_LIMIT}
use Rattle.pg_read_grammar.specs.declared.nesting.TheConstants.{INNER_NESTING_LIMIT}
use Rattle.pg_read_grammar.specs.declared.token.Token.{Token}
use Rattle.pg_read_grammar.specs.declared.class.Class.TheVariants.{Void, IntToPtr, GetElementPtr, Ret, Label, Local, Refused, Attr, DebugAttr, Comma, Equals, OpenRound, CloseRound, CloseBrace}
use Rattle.pg_read_grammar.specs.declared.token.Fault.{Fault}
use Rattle.pg_read_grammar.specs.declared.token.Fault.TheVariants.{Unsupported}
use Rattle.pg_read_grammar.specs.Classes.{is}
use Rattle.pg_read_grammar.specs.Language.{Lang, Gram, one, give, refused, ◌or◌, ◌>>=◌}
use Rattle.pg_read_grammar.specs.Grammar.{name_of, attribute, attributes, flags, value_in, gep_tail}
use Rattle.pg_read_grammar.specs.GrammarOps.{typed_value, cast_word, no_op, op}
use Rattle.pg_read_grammar.specs.GrammarItems.{line_of, metadata, part}
use Rattle.pg_read_grammar.specs.ReaderItems.{add_part, add_line, After, Complete, Called, Returned, Body, complete, void_value, begins_part}
use Rattle.pg_read_lex.specs.declared.token.Span.{Span}
use Rattle.pg_read_ast.specs.Syntax.{Val, Block}
use Rattle.pg_read_ast.specs.Syntax as syntax
use Rattle.pg_read_ast.specs.declared.names.Name.{Name}
use Rattle.pg_read_grammar.proofs.ClassTests.{within_is, in_right}
use Rattle.pg_read_grammar.proofs.StateLoops.{loop}
use Rattle.pg_read_grammar.proofs.Linear.{Linear, linear_give, linear_one, linear_refused, linear_then, linear_or}
use Rattle.pg_read_grammar.proofs.LinearRows.{linear_case, linear_skip, linear_attribute, linear_flags, linear_plain_value, linear_value, linear_gep_tail, linear_int_to_ptr_tail}
use Rattle.pg_read_grammar.proofs.LinearOps.{linear_past, linear_typed_value, linear_metadata, linear_metadata_tail, linear_cast_tail, linear_gep_op_tail, linear_call_head, linear_simple_op}
use Rattle.pg_read_grammar.proofs.LinearOps.{linear_part}
use Rattle.pg_read_grammar.proofs.Gathered.{gathered, gathered_more, many_more}
use Rattle.pg_read_grammar.proofs.RowRests.{certain_value}
use Rattle.pg_read_grammar.proofs.Firsts.{either_behind}
use Rattle.pg_read_grammar.proofs.ValueCases.{void_type, certain_is_value, local_is_value, gep_is_value, int_to_ptr_is_value}
use Rattle.pg_read_grammar.proofs.OpRests.{metadata_tail, gep_op_tail}
use Rattle.pg_read_grammar.proofs.BodyRests.{called, void_line, void_end, return_line, op_part, debug_tail, named_tail, opened, behind_call, behind_void, next_by, next_part, body_end}

-- ---- the parts depend on what may follow a list at a time

linear_called : (bs : List Block) → Linear (called bs)
linear_called bs = linear_case Comma (λ c. linear_then linear_metadata_tail (λ u. linear_give (complete bs))) (linear_give {A = Body} (record { blocks = bs; after = Called }))

linear_void_line : (bs : List Block) (name : Option Name) (o void : Span) {g : Gram Val} → Linear g → Linear (void_line bs name o void g)
linear_void_line bs name o void e = linear_then e (λ v. linear_then linear_metadata (λ u. linear_give (complete (add_line bs name (syntax.Ret o (void_value void v))))))

linear_certain : Linear certain_value
linear_certain = linear_or (linear_then (linear_one _) (λ n. linear_give _)) linear_plain_value

linear_void_end : (bs : List Block) (name : Option Name) (o void : Span) → Linear (void_end bs name o void)
linear_void_end bs name o void = linear_or (linear_void_line bs name o void linear_certain)
    (linear_case Comma (λ c. linear_then linear_metadata_tail (λ u. linear_give (complete (add_line bs name (syntax.RetVoid o void)))))
    (linear_give {A = Body} (record { blocks = bs; after = Returned name o void })))

linear_return_line : (bs : List Block) (name : Option Name) → Linear (return_line bs name)
linear_return_line bs name =
    linear_then (linear_one (is Ret)) (λ o. linear_or (linear_then (linear_one (is Void)) (λ t. linear_void_end bs name o.span t.span))
    (linear_past (is Void) (linear_then linear_typed_value (λ v. linear_then linear_metadata (λ u. linear_give (complete (add_line bs name (syntax.Ret o.span v))))))))

linear_op_part : (bs : List Block) (name : Option Name) → Linear (op_part bs name)
linear_op_part bs name = linear_or (linear_then linear_call_head (λ c. linear_called (add_part bs (line_of name c)))) (linear_or (linear_return_line bs name)
    (linear_then (linear_then linear_simple_op (λ o. linear_then linear_metadata (λ u. linear_give o))) (λ o. linear_give (complete (add_line bs name o)))))

linear_debug_tail : (bs : List Block) → Linear (debug_tail bs)
linear_debug_tail bs = linear_then (linear_one (is OpenRound)) (λ o. linear_then (linear_skip INNER_NESTING_LIMIT CloseRound) (λ u. linear_give _))

linear_named_tail : (bs : List Block) (name : Name) → Linear (named_tail bs name)
linear_named_tail bs name = linear_then (linear_one (is Equals)) (λ e. linear_or (linear_op_part bs (Some name)) (linear_refused Unsupported no_op))

linear_opened : (bs : List Block) → Linear (opened bs)
linear_opened bs = linear_case Label (λ t. linear_give _) (linear_case DebugAttr (λ t. linear_debug_tail bs) (linear_case Local (λ t. linear_named_tail bs (name_of t)) (linear_op_part bs None)))

linear_behind_call : (bs : List Block) → Linear (behind_call bs)
linear_behind_call bs = linear_or (linear_then (linear_one (is DebugAttr)) (λ t. linear_or (linear_debug_tail bs) (linear_called bs)))
    (linear_past (is DebugAttr) (linear_or (linear_opened bs) (linear_past begins_part (linear_then linear_attribute (λ u. linear_called bs)))))

linear_behind_void : (bs : List Block) (name : Option Name) (o void : Span) → Linear (behind_void bs name o void)
linear_behind_void bs name o void = linear_or (linear_then (linear_one (is Local))
    (λ t. linear_or (linear_named_tail (add_line bs name (syntax.RetVoid o void)) (name_of t)) (linear_void_line bs name o void (linear_give (syntax.Local (name_of t))))))
    (linear_past (is Local) (linear_or
    (linear_then (linear_one (is GetElementPtr)) (λ t. linear_then linear_flags
    (λ f. linear_or (linear_void_line bs name o void (linear_gep_tail INNER_NESTING_LIMIT (linear_value INNER_NESTING_LIMIT) t))
    (linear_then (linear_gep_op_tail t) (λ p. linear_give (complete (add_line (add_line bs name (syntax.RetVoid o void)) None p)))))))
    (linear_past (is GetElementPtr) (linear_or
    (linear_then (linear_one (is IntToPtr)) (λ t. linear_or (linear_void_line bs name o void (linear_int_to_ptr_tail INNER_NESTING_LIMIT t))
    (linear_then (linear_cast_tail t) (λ p. linear_then linear_metadata (λ u. linear_give (complete (add_line (add_line bs name (syntax.RetVoid o void)) None p)))))))
    (linear_past (is IntToPtr) (linear_opened (add_line bs name (syntax.RetVoid o void))))))))

pub linear_next : (bs : List Block) (after : After) → Linear (next_by bs after)
linear_next bs Complete = linear_opened bs
linear_next bs Called = linear_behind_call bs
linear_next bs (Returned name o void) = linear_behind_void bs name o void

-- ---- what is left of the grammar's body in each state

-- more parts, and the end
abbrev pub rest : List Block → Gram (List Block)
rest bs = do
  bs ← gathered add_part part bs
  _ ← one (is CloseBrace)
  give bs

abbrev left_by : List Block → After → Gram (List Block)
left_by bs Complete = rest bs
left_by bs Called = do
  _ ← attributes
  _ ← metadata
  rest bs
left_by bs (Returned name o void) = (do
  _ ← metadata
  rest (add_line bs name (syntax.RetVoid o void))) or (do
    v ← value_in NESTING_LIMIT
    _ ← metadata
    rest (add_line bs name (syntax.Ret o (void_value void v))))

abbrev left : Body → Gram (List Block)
left b = left_by b.blocks b.after

abbrev Left : Option Fault → (List Block → Lang) → Body → Lang
Left m K b us = left b m K us

metadata_more : (m : Option Fault) (L : Lang) (us : List Token) → (do
  _ ← one (is Comma)
  metadata_tail) m (λ u. L) us → metadata m (λ u. L) us
metadata_more m L us (t, vs, e, i, (a, as1, e1, i1, (b, bs, e2, i2, (n, j)))) = (suc n, (t, vs, e, i, (a, as1, e1, i1, (b, bs, e2, i2, j))))

called_left : (bs : List Block) (m : Option Fault) (K : List Block → Lang) (us : List Token) → called bs m (Left m K) us → left_by bs Called m K us
called_left bs m K us (inl j) = (0, inl (metadata_more m (rest bs m K) us j))
called_left bs m K us (inr j) = j

void_left : (bs : List Block) (name : Option Name) (o void : Token) (m : Option Fault) (K : List Block → Lang) (vs ws : List Token) → vs ≡ void ∷ ws → IsTrue (is Void void.class)
    → void_end bs name o.span void.span m (Left m K) ws
    → (do
      v ← one (is Void)
      give (syntax.RetVoid o.span v.span)) m (λ p. metadata m (λ u. rest (add_line bs name p) m K)) vs
    ⊎ typed_value m (λ v. metadata m (λ u. rest (add_line bs name (syntax.Ret o.span v)) m K)) vs
void_left bs name o t m K vs ws e i (inl v) = inr (void_type INNER_NESTING_LIMIT m _ vs (t, ws, e, i, certain_is_value m _ ws v))
void_left bs name o t m K vs ws e i (inr (inl c)) = inl (t, ws, e, i, metadata_more m (rest (add_line bs name (syntax.RetVoid o.span t.span)) m K) ws c)
void_left bs name o t m K vs ws e i (inr (inr (inl j))) = inl (t, ws, e, i, j)
void_left bs name o t m K vs ws e i (inr (inr (inr j))) = inr (void_type INNER_NESTING_LIMIT m _ vs (t, ws, e, i, j))

op_left : (bs : List Block) (name : Option Name) (m : Option Fault) (K : List Block → Lang) (us : List Token) → op_part bs name m (Left m K) us
    → op m (λ o. metadata m (λ u. rest (add_part bs (line_of name o)) m K)) us
op_left bs name m K us (inl j) = inl (inl
    (linear_call_head.mono m (λ c. called (add_part bs (line_of name c)) m (Left m K)) (λ c. attributes m (λ u. metadata m (λ w. rest (add_part bs (line_of name c)) m K)))
    (λ c vs i. called_left (add_part bs (line_of name c)) m K vs i) us j))
op_left bs name m K us (inr (inl (o, vs, e, i, inl (t, ws, e2, i2, j)))) = inl (inr (inl (o, vs, e, i, void_left bs name o t m K vs ws e2 i2 j)))
op_left bs name m K us (inr (inl (o, vs, e, i, inr j))) = inl (inr (inl (o, vs, e, i, inr j.1)))
op_left bs name m K us (inr (inr j)) = inl (inr (inr j))

part_left : (bs : List Block) (m : Option Fault) (K : List Block → Lang) (us : List Token) → opened bs m (Left m K) us → part m (λ p. rest (add_part bs p) m K) us
part_left bs m K us (inl j) = inl j
part_left bs m K us (inr (inl j)) = inr (inl j)
part_left bs m K us (inr (inr (inl (t, vs, e, i, (t2, ws, e2, i2, inl j))))) = inr (inr (inl (t, vs, e, i, (t2, ws, e2, i2, op_left bs (Some (name_of t)) m K ws j))))
part_left bs m K us (inr (inr (inl (t, vs, e, i, (t2, ws, e2, i2, inr j))))) = inr (inr (inl (t, vs, e, i, (t2, ws, e2, i2, inr j))))
part_left bs m K us (inr (inr (inr j))) = inr (inr (inr (op_left bs None m K us j)))

rest_more : (bs : List Block) (m : Option Fault) (K : List Block → Lang) (us : List Token) → part m (λ p. rest (add_part bs p) m K) us → rest bs m K us
rest_more bs m K us j = gathered_more add_part linear_part bs m (λ cs. one (is CloseBrace) m (λ c. K cs)) us j

abbrev attributes_end : Gram (Unit {0})
attributes_end = give tt or refused Unsupported (is Refused)

attribute_left : (bs : List Block) (m : Option Fault) (K : List Block → Lang) (us : List Token) → attribute m (λ u. left_by bs Called m K) us → left_by bs Called m K us
attribute_left bs m K us j = many_more linear_attribute m (attributes_end m (λ u. metadata m (λ w. rest bs m K))) us j

step_left : (bs : List Block) (after : After) (m : Option Fault) (K : List Block → Lang) (us : List Token) → next_by bs after m (Left m K) us → left_by bs after m K us
step_left bs Complete m K us j = rest_more bs m K us (part_left bs m K us j)
step_left bs Called m K us (inl (t, vs, e, i, inl j)) = (0, inl (0, rest_more bs m K us (inr (inl (t, vs, e, i, j)))))
step_left bs Called m K us (inl (t, vs, e, i, inr j)) = attribute_left bs m K us (inr (inl (t, vs, e, in_right (is Attr t.class) (is DebugAttr t.class) i, called_left bs m K vs j)))
step_left bs Called m K us (inr (n, inl j)) = (0, inl (0, rest_more bs m K us (part_left bs m K us j)))
step_left bs Called m K us (inr (n, inr (n2, j))) = attribute_left bs m K us
    (linear_attribute.mono m (λ u. called bs m (Left m K)) (λ u. left_by bs Called m K) (λ u vs i. called_left bs m K vs i) us j)
step_left bs (Returned name o void) m K us (inl (t, vs, e, i, inl j)) = let cs =
    add_line bs name (syntax.RetVoid o void) in inl (0, rest_more cs m K us (part_left cs m K us (inr (inr (inl (t, vs, e, i, j))))))
step_left bs (Returned name o void) m K us (inl (t, vs, e, i, inr j)) = inr (local_is_value m _ us (t, vs, e, i, j))
step_left bs (Returned name o void) m K us (inr (n, inl (t, vs, e, i, j))) =
    pick (either_behind linear_flags m (λ f. void_line bs name o void (gep_tail INNER_NESTING_LIMIT (value_in INNER_NESTING_LIMIT) t) m (Left m K))
    (λ f. gep_op_tail t m (λ p. Left m K (complete (add_line (add_line bs name (syntax.RetVoid o void)) None p)))) vs j)
  where
    pick : flags m (λ f. void_line bs name o void (gep_tail INNER_NESTING_LIMIT (value_in INNER_NESTING_LIMIT) t) m (Left m K)) vs
        ⊎ flags m (λ f. gep_op_tail t m (λ p. Left m K (complete (add_line (add_line bs name (syntax.RetVoid o void)) None p)))) vs → left_by bs (Returned name o void) m K us
    pick (inl x) = inr (gep_is_value m _ us (t, vs, e, i, x))
    pick (inr x) = inl (0, rest_more (add_line bs name (syntax.RetVoid o void)) m K us (inr (inr (inr (inl (inr (inr (inl (t, vs, e, i, x)))))))))
step_left bs (Returned name o void) m K us (inr (n, inr (n2, inl (t, vs, e, i, inl j)))) = inr (int_to_ptr_is_value m _ us (t, vs, e, i, j))
step_left bs (Returned name o void) m K us (inr (n, inr (n2, inl (t, vs, e, i, inr j)))) =
    inl (0, rest_more (add_line bs name (syntax.RetVoid o void)) m K us (inr (inr (inr (inl (inr (inr (inr (inl (t, vs, e, within_is (is IntToPtr) cast_word refl t.class i, j))))))))))
step_left bs (Returned name o void) m K us (inr (n, inr (n2, inr (n3, j)))) = let cs = add_line bs name (syntax.RetVoid o void) in inl (0, rest_more cs m K us (part_left cs m K us j))

end_left : (bs : List Block) (after : After) (m : Option Fault) (K : List Block → Lang) (us : List Token) → body_end (record { blocks = bs; after = after }) m K us → left_by bs after m K us
end_left bs Complete m K us (inl j) = (0, j)
end_left bs Called m K us (inl j) = (0, inl (0, (0, j)))
end_left bs (Returned name o void) m K us (inl j) = inl (0, (0, j))
end_left bs Complete m K us (inr j) = rest_more bs m K us (inr (inr (inr (inr j))))
end_left bs Called m K us (inr j) = (0, inl (0, rest_more bs m K us (inr (inr (inr (inr j))))))
end_left bs (Returned name o void) m K us (inr j) = inl (0, rest_more (add_line bs name (syntax.RetVoid o void)) m K us (inr (inr (inr (inr j)))))

pub loop_left : (n : ℕ) (b : Body) (m : Option Fault) (K : List Block → Lang) (us : List Token) → loop next_part body_end n b m K us → left b m K us
loop_left zero b m K us j = end_left b.blocks b.after m K us j
loop_left (suc n) b m K us j = step_left b.blocks b.after m K us ((linear_next b.blocks b.after).mono m (λ c. loop next_part body_end n c m K) (Left m K) (λ c vs i. loop_left n c m K vs i) us j)
