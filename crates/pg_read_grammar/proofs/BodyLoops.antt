-- A body of the grammar is read from state to state.
use Rattle.std.proofs.Common.{◌≡◌, ℕ, zero, suc, List, [], ◌∷◌, Option, Some, None, inl, inr, ◌⊎◌, Bool, true, false, IsTrue, refl, sym, subst, ◌&&◌, not}
use Rattle.pg_num.specs.declared.limits.TheConstants.{NESTING_LIMIT}
use Rattle.pg_read_grammar.specs.declared.nesting.TheConstants.{INNER_NESTING_LIMIT}
use Rattle.pg_read_grammar.specs.declared.token.Token.{Token}
use Rattle.pg_read_grammar.specs.declared.class.Class.{Class}
use Rattle.pg_read_grammar.specs.declared.class.Class.TheVariants.{Void, IntToPtr, GetElementPtr, Ret, Label, Local, Refused, DebugAttr, Str, CloseBrace, OpenBrace}
use Rattle.pg_read_grammar.specs.declared.token.Fault.{Fault}
use Rattle.pg_read_grammar.specs.declared.token.Fault.TheVariants.{Unsupported}
use Rattle.pg_read_grammar.specs.Classes.{is, none}
use Rattle.pg_read_grammar.specs.Language.{Lang, Gram, one, give, refused, ◌or◌, ◌>>=◌, many}
use Rattle.pg_read_grammar.specs.Grammar.{name_of, attribute_word, metadata_name, attribute, attributes, value_in, gep_tail}
use Rattle.pg_read_grammar.specs.GrammarOps.{typed_value, cast_word, op_word, no_op, op}
use Rattle.pg_read_grammar.specs.GrammarItems.{line_of, metadata, part, blocks_of, body}
use Rattle.pg_read_grammar.specs.Reading.{comes}
use Rattle.pg_read_grammar.specs.Reader.{begins_attribute}
use Rattle.pg_read_grammar.specs.ReaderItems.{add_part, add_line, After, Complete, Called, Returned, Body, complete, void_value, begins_call, begins_part, body_at}
use Rattle.pg_read_lex.specs.declared.token.Span.{Span}
use Rattle.pg_read_ast.specs.Syntax.{Val, Block, Op}
use Rattle.pg_read_ast.specs.Syntax as syntax
use Rattle.pg_read_ast.specs.declared.names.Name.{Name}
use Rattle.pg_read_grammar.proofs.ClassTests.{apart, apart_is, within_is}
use Rattle.pg_read_grammar.proofs.Pieces.{Piece}
use Rattle.pg_read_grammar.proofs.Rules.{first, token, alike}
use Rattle.pg_read_grammar.proofs.StateLoops.{loop, loops}
use Rattle.pg_read_grammar.proofs.Linear.{linear_many}
use Rattle.pg_read_grammar.proofs.LinearRows.{linear_attribute, linear_flags}
use Rattle.pg_read_grammar.proofs.LinearOps.{linear_call_head, linear_part}
use Rattle.pg_read_grammar.proofs.Gathered.{added, gather, star, to_many, from_many}
use Rattle.pg_read_grammar.proofs.Firsts.{first_comes, comes_first, item_comes, not_both}
use Rattle.pg_read_grammar.proofs.ValueCases.{void_only, value_cases, gep_value, int_to_ptr_value}
use Rattle.pg_read_grammar.proofs.RowRests.{certain_value}
use Rattle.pg_read_grammar.proofs.Rows.{attribute_item}
use Rattle.pg_read_grammar.proofs.OpRests.{gep_op_tail}
use Rattle.pg_read_grammar.proofs.OpRows.{begins_op, plain_op_item, call_item}
use Rattle.pg_read_grammar.proofs.BodyRests.{called, void_line, void_end, return_line, op_part, opened, behind_call, behind_void, next_by, next_part, body_end}
use Rattle.pg_read_grammar.proofs.BodyRows.{op_item, body_loop}
use Rattle.pg_read_grammar.proofs.BodyLeft.{linear_next, loop_left}
use Rattle.pg_read_grammar.proofs.Blocks.{blocks_from_left}

abbrev Loops : Option Fault → (List Block → Lang) → Body → Lang
Loops m K b us = loops next_part body_end b m K us

loops_more : (bs : List Block) (after : After) (m : Option Fault) (K : List Block → Lang) (us : List Token) → next_by bs after m (Loops m K) us
    → Loops m K (record { blocks = bs; after = after }) us
loops_more bs after m K us j = let q = (linear_next bs after).pick m (λ n c. loop next_part body_end n c m K) us j in (suc q.0, q.1)

-- ---- a part behind a call is one behind complete lines

opened_called : (bs : List Block) (m : Option Fault) (M : Body → Lang) (us : List Token) → opened bs m M us → behind_call bs m M us
opened_called bs m M us j = by (comes (is DebugAttr) us) refl j
  where
    by : (b : Bool) → comes (is DebugAttr) us ≡ b → opened bs m M us → behind_call bs m M us
    by false n j = inr (n, inl j)
    by true y (inl (t, vs, e, i, j)) = absurd (not_both (is DebugAttr) (is Label) refl us y (first_comes (is Label) t us vs e i))
    by true y (inr (inl (t, vs, e, i, j))) = inl (t, vs, e, i, inl j)
    by true y (inr (inr (inl (t, vs, e, i, j)))) = absurd (not_both (is DebugAttr) (is Local) refl us y (first_comes (is Local) t us vs e i))
    by true y (inr (inr (inr j))) = absurd (not_both (is DebugAttr) op_word refl us y (item_comes (op_item bs None) m M us j))

complete_called : (bs : List Block) (m : Option Fault) (K : List Block → Lang) (us : List Token) → Loops m K (complete bs) us → Loops m K (record { blocks = bs; after = Called }) us
complete_called bs m K us (zero, j) = (0, j)
complete_called bs m K us (suc n, j) = (suc n, opened_called bs m (λ c. loop next_part body_end n c m K) us j)

-- ---- a part behind ret void

-- of the operations that begin with these words
gep_part : (bs : List Block) (name : Option Name) (o void : Span) (m : Option Fault) (M : Body → Lang) (us : List Token) → comes (is Local) us ≡ false
    → comes (is GetElementPtr) us ≡ true → op_part (add_line bs name (syntax.RetVoid o void)) None m M us → behind_void bs name o void m M us
gep_part bs name o void m M us n y (inl j) = absurd (not_both (is GetElementPtr) begins_call refl us y
    (item_comes (call_item {av = none}) m (λ c. called (add_part (add_line bs name (syntax.RetVoid o void)) (line_of None c)) m M) us j))
gep_part bs name o void m M us n y (inr (inl (t, vs, e, i, j))) = absurd (not_both (is GetElementPtr) (is Ret) refl us y (first_comes (is Ret) t us vs e i))
gep_part bs name o void m M us n y (inr (inr (inl (t, vs, e, i, j)))) = inr (
  n,
  inl (
    t,
    vs,
    e,
    i,
    linear_flags.mono m (λ f. gep_op_tail t m (λ p. M (complete (add_line (add_line bs name (syntax.RetVoid o void)) None p))))
        (λ f ws. void_line bs name o void (gep_tail INNER_NESTING_LIMIT (value_in INNER_NESTING_LIMIT) t) m M ws
        ⊎ gep_op_tail t m (λ p. M (complete (add_line (add_line bs name (syntax.RetVoid o void)) None p))) ws) (λ f ws k. inr k) vs j,
  ),
)
gep_part bs name o void m M us n y (inr (inr (inr (inl (t, vs, e, i, j))))) = absurd (not_both (is GetElementPtr) cast_word refl us y (first_comes cast_word t us vs e i))
gep_part bs name o void m M us n y (inr (inr (inr (inr j)))) =
    absurd (not_both (is GetElementPtr) begins_op refl us y (item_comes plain_op_item m (λ p. M (complete (add_line (add_line bs name (syntax.RetVoid o void)) None p))) us j))

cast_part : (bs : List Block) (name : Option Name) (o void : Span) (m : Option Fault) (M : Body → Lang) (us : List Token) → comes (is Local) us ≡ false
    → comes (is GetElementPtr) us ≡ false → comes (is IntToPtr) us ≡ true → op_part (add_line bs name (syntax.RetVoid o void)) None m M us → behind_void bs name o void m M us
cast_part bs name o void m M us n n2 y (inl j) = absurd (not_both (is IntToPtr) begins_call refl us y
    (item_comes (call_item {av = none}) m (λ c. called (add_part (add_line bs name (syntax.RetVoid o void)) (line_of None c)) m M) us j))
cast_part bs name o void m M us n n2 y (inr (inl (t, vs, e, i, j))) = absurd (not_both (is IntToPtr) (is Ret) refl us y (first_comes (is Ret) t us vs e i))
cast_part bs name o void m M us n n2 y (inr (inr (inl (t, vs, e, i, j)))) = absurd (not_both (is IntToPtr) (is GetElementPtr) refl us y (first_comes (is GetElementPtr) t us vs e i))
cast_part bs name o void m M us n n2 y (inr (inr (inr (inl (t, vs, e, i, j))))) = inr (n, inr (n2, inl (t, vs, e, comes_first (is IntToPtr) t us vs e y, inr j)))
cast_part bs name o void m M us n n2 y (inr (inr (inr (inr j)))) = absurd
    (not_both (is IntToPtr) begins_op refl us y (item_comes plain_op_item m (λ p. M (complete (add_line (add_line bs name (syntax.RetVoid o void)) None p))) us j))

opened_void : (bs : List Block) (name : Option Name) (o void : Span) (m : Option Fault) (M : Body → Lang) (us : List Token) → opened (add_line bs name (syntax.RetVoid o void)) m M us
    → behind_void bs name o void m M us
opened_void bs name o void m M us j = local (comes (is Local) us) refl j
  where
    cast : (b : Bool) → comes (is Local) us ≡ false → comes (is GetElementPtr) us ≡ false → comes (is IntToPtr) us ≡ b → opened (add_line bs name (syntax.RetVoid o void)) m M us
        → behind_void bs name o void m M us
    cast false n n2 n3 j = inr (n, inr (n2, inr (n3, j)))
    cast true n n2 y (inl (t, vs, e, i, j)) = absurd (not_both (is IntToPtr) (is Label) refl us y (first_comes (is Label) t us vs e i))
    cast true n n2 y (inr (inl (t, vs, e, i, j))) = absurd (not_both (is IntToPtr) (is DebugAttr) refl us y (first_comes (is DebugAttr) t us vs e i))
    cast true n n2 y (inr (inr (inl (t, vs, e, i, j)))) = absurd (not_both (is IntToPtr) (is Local) refl us y (first_comes (is Local) t us vs e i))
    cast true n n2 y (inr (inr (inr j))) = cast_part bs name o void m M us n n2 y j

    gep : (b : Bool) → comes (is Local) us ≡ false → comes (is GetElementPtr) us ≡ b → opened (add_line bs name (syntax.RetVoid o void)) m M us → behind_void bs name o void m M us
    gep false n n2 j = cast (comes (is IntToPtr) us) n n2 refl j
    gep true n y (inl (t, vs, e, i, j)) = absurd (not_both (is GetElementPtr) (is Label) refl us y (first_comes (is Label) t us vs e i))
    gep true n y (inr (inl (t, vs, e, i, j))) = absurd (not_both (is GetElementPtr) (is DebugAttr) refl us y (first_comes (is DebugAttr) t us vs e i))
    gep true n y (inr (inr (inl (t, vs, e, i, j)))) = absurd (not_both (is GetElementPtr) (is Local) refl us y (first_comes (is Local) t us vs e i))
    gep true n y (inr (inr (inr j))) = gep_part bs name o void m M us n y j

    local : (b : Bool) → comes (is Local) us ≡ b → opened (add_line bs name (syntax.RetVoid o void)) m M us → behind_void bs name o void m M us
    local false n j = gep (comes (is GetElementPtr) us) n refl j
    local true y (inl (t, vs, e, i, j)) = absurd (not_both (is Local) (is Label) refl us y (first_comes (is Label) t us vs e i))
    local true y (inr (inl (t, vs, e, i, j))) = absurd (not_both (is Local) (is DebugAttr) refl us y (first_comes (is DebugAttr) t us vs e i))
    local true y (inr (inr (inl (t, vs, e, i, j)))) = inl (t, vs, e, i, inl j)
    local true y (inr (inr (inr j))) = absurd (not_both (is Local) op_word refl us y (item_comes (op_item (add_line bs name (syntax.RetVoid o void)) None) m M us j))

complete_returned : (bs : List Block) (name : Option Name) (o void : Span) (m : Option Fault) (K : List Block → Lang) (us : List Token)
    → Loops m K (complete (add_line bs name (syntax.RetVoid o void))) us → Loops m K (record { blocks = bs; after = Returned name o void }) us
complete_returned bs name o void m K us (zero, j) = (0, j)
complete_returned bs name o void m K us (suc n, j) = (suc n, opened_void bs name o void m (λ c. loop next_part body_end n c m K) us j)

-- ---- a value behind ret void

-- a line with this value behind ret void
abbrev Valued : List Block → Option Name → Span → Span → Option Fault → (List Block → Lang) → Val → Lang
Valued bs name o void m K v us = metadata m (λ u. Loops m K (complete (add_line bs name (syntax.Ret o (void_value void v))))) us

value_end : (bs : List Block) (name : Option Name) (o void : Span) (m : Option Fault) (K : List Block → Lang) (us : List Token) → value_in NESTING_LIMIT m (Valued bs name o void m K) us
    → void_end bs name o void m (Loops m K) us
value_end bs name o void m K us j = pick (value_cases m (Valued bs name o void m K) us j)
  where
    more : behind_void bs name o void m (Loops m K) us → void_end bs name o void m (Loops m K) us
    more j = inr (inr (loops_more bs (Returned name o void) m K us j))

    not_local : (test : Class → Bool) → apart (is Local) test ≡ true → comes test us ≡ true → comes (is Local) us ≡ false
    not_local test x y = by (comes (is Local) us) refl
      where
        by : (b : Bool) → comes (is Local) us ≡ b → comes (is Local) us ≡ false
        by true z = absurd (not_both (is Local) test x us z y)
        by false z = z

    not_gep : comes (is IntToPtr) us ≡ true → comes (is GetElementPtr) us ≡ false
    not_gep y = by (comes (is GetElementPtr) us) refl
      where
        by : (b : Bool) → comes (is GetElementPtr) us ≡ b → comes (is GetElementPtr) us ≡ false
        by true z = absurd (not_both (is GetElementPtr) (is IntToPtr) refl us z y)
        by false z = z

    pick : certain_value m (Valued bs name o void m K) us
        ⊎ ((one (is Local)) m (λ t. Valued bs name o void m K (syntax.Local (name_of t))) us
        ⊎ (gep_value m (Valued bs name o void m K) us ⊎ int_to_ptr_value m (Valued bs name o void m K) us)) → void_end bs name o void m (Loops m K) us
    pick (inl j) = inl j
    pick (inr (inl (t, vs, e, i, j))) = more (inl (t, vs, e, i, inr j))
    pick (inr (inr (inl (t, vs, e, i, j)))) = more (inr (
      not_local (is GetElementPtr) refl (first_comes (is GetElementPtr) t us vs e i),
      inl (
        t,
        vs,
        e,
        i,
        linear_flags.mono m (λ f. gep_tail INNER_NESTING_LIMIT (value_in INNER_NESTING_LIMIT) t m (Valued bs name o void m K))
            (λ f ws. void_line bs name o void (gep_tail INNER_NESTING_LIMIT (value_in INNER_NESTING_LIMIT) t) m (Loops m K) ws
            ⊎ gep_op_tail t m (λ p. Loops m K (complete (add_line (add_line bs name (syntax.RetVoid o void)) None p))) ws) (λ f ws k. inl k) vs j,
      ),
    ))
    pick (inr (inr (inr (t, vs, e, i, j)))) = let y = first_comes (is IntToPtr) t us vs e i in more (inr (not_local (is IntToPtr) refl y, inr (not_gep y, inl (t, vs, e, i, inl j))))

-- ---- behind a call

abbrev attributes_end : Gram (Unit {0})
attributes_end = give tt or refused Unsupported (is Refused)

-- the metadata behind a call, and what follows
abbrev Behind : List Block → Option Fault → (List Block → Lang) → Lang
Behind bs m K us = metadata m (λ u. Loops m K (complete bs)) us

called_base : (bs : List Block) (m : Option Fault) (K : List Block → Lang) (us : List Token) → attributes_end m (λ u. Behind bs m K) us → called bs m (Loops m K) us
called_base bs m K us (inl (zero, j)) = inr (complete_called bs m K us j)
called_base bs m K us (inl (suc n, (t, vs, e, i, (a, as1, e1, i1, (b, cs, e2, i2, j))))) = inl (t, vs, e, i, (a, as1, e1, i1, (b, cs, e2, i2, (n, j))))
called_base bs m K us (inr (w, t, e, i)) = inr (0, inr (w, t, e, within_is (is Refused) no_op refl t.class i))

-- an attribute that doesn't begin with a debug Attr begins no part
abbrev other_attribute : Class → Bool
other_attribute c = begins_attribute c && not (is DebugAttr c)

other : (a b : Bool) → a ≡ true → b ≡ false → (a && not b) ≡ true
other true false h k = refl
other true true h k = absurd cc
other false b h k = absurd cc

no_part : (us : List Token) → comes begins_attribute us ≡ true → comes (is DebugAttr) us ≡ false → comes begins_part us ≡ false
no_part [] h n = refl
no_part (t ∷ us) h n = by (begins_part t.class) refl
  where
    by : (b : Bool) → begins_part t.class ≡ b → begins_part t.class ≡ false
    by true z = absurd (apart_is other_attribute begins_part refl t.class (other (begins_attribute t.class) (is DebugAttr t.class) h n) z)
    by false z = z

called_more : (bs : List Block) (m : Option Fault) (K : List Block → Lang) (us : List Token) → attribute m (λ u. called bs m (Loops m K)) us → called bs m (Loops m K) us
called_more bs m K us j = inr (loops_more bs Called m K us (by (comes (is DebugAttr) us) refl j))
  where
    by : (b : Bool) → comes (is DebugAttr) us ≡ b → attribute m (λ u. called bs m (Loops m K)) us → behind_call bs m (Loops m K) us
    by false n j = inr (n, inr (no_part us (item_comes attribute_item m (λ u. called bs m (Loops m K)) us j) n, j))
    by true y (inl (t, vs, e, i, j)) = absurd (not_both (is DebugAttr) attribute_word refl us y (first_comes attribute_word t us vs e i))
    by true y (inr (inl (t, vs, e, i, j))) = inl (t, vs, e, comes_first (is DebugAttr) t us vs e y, inr j)
    by true y (inr (inr (inl (t, vs, e, i, j)))) = absurd (not_both (is DebugAttr) (is Str) refl us y (first_comes (is Str) t us vs e i))
    by true y (inr (inr (inr (t, vs, e, i, j)))) = absurd (not_both (is DebugAttr) metadata_name refl us y (first_comes metadata_name t us vs e i))

called_loops : (bs : List Block) (m : Option Fault) (K : List Block → Lang) (us : List Token) → attributes m (λ u. Behind bs m K) us → called bs m (Loops m K) us
called_loops bs m K us j = star linear_attribute m (called bs m (Loops m K)) (λ vs i. called_more bs m K vs i) us
    ((linear_many linear_attribute).mono m (λ all. attributes_end m (λ u. Behind bs m K)) (λ all. called bs m (Loops m K)) (λ all vs i. called_base bs m K vs i) us j)

-- ---- operations, and parts

-- what follows a line
abbrev Lined : List Block → Option Name → Option Fault → (List Block → Lang) → Option Op → Lang
Lined bs name m K o us = metadata m (λ u. Loops m K (complete (add_part bs (line_of name o)))) us

void_base : (bs : List Block) (name : Option Name) (o void : Span) (m : Option Fault) (K : List Block → Lang) (us : List Token)
    → metadata m (λ u. Loops m K (complete (add_line bs name (syntax.RetVoid o void)))) us → void_end bs name o void m (Loops m K) us
void_base bs name o void m K us (zero, j) = inr (inr (complete_returned bs name o void m K us j))
void_base bs name o void m K us (suc n, (t, vs, e, i, (a, as1, e1, i1, (b, cs, e2, i2, j)))) = inr (inl (t, vs, e, i, (a, as1, e1, i1, (b, cs, e2, i2, (n, j)))))

-- ret type val, where the type is void or not
typed_return : (bs : List Block) (name : Option Name) (o : Token) (m : Option Fault) (K : List Block → Lang) (us vs : List Token) → us ≡ o ∷ vs → IsTrue (is Ret o.class)
    → typed_value m (λ v. metadata m (λ u. Loops m K (complete (add_line bs name (syntax.Ret o.span v))))) vs → return_line bs name m (Loops m K) us
typed_return bs name o m K us [] e i j = (o, [], e, i, inr (refl, j))
typed_return bs name o m K us (t ∷ ws) e i j = by (is Void t.class) refl
  where
    by : (b : Bool) → is Void t.class ≡ b → return_line bs name m (Loops m K) us
    by true y = (o, t ∷ ws, e, i, inl (t, ws, refl, y, value_end bs name o.span t.span m K ws (void_only INNER_NESTING_LIMIT m _ t ws y j)))
    by false n = (o, t ∷ ws, e, i, inr (n, j))

op_loops : (bs : List Block) (name : Option Name) (m : Option Fault) (K : List Block → Lang) (us : List Token) → op m (Lined bs name m K) us
    → op_part bs name m (Loops m K) us ⊎ refused Unsupported no_op m (Loops m K) us
op_loops bs name m K us (inr j) = inr j
op_loops bs name m K us (inl (inl j)) = inl (inl
    (linear_call_head.mono m (λ c. attributes m (λ u. Lined bs name m K c)) (λ c. called (add_part bs (line_of name c)) m (Loops m K))
    (λ c vs i. called_loops (add_part bs (line_of name c)) m K vs i) us j))
op_loops bs name m K us (inl (inr (inl (o, vs, e, i, inl (t, ws, e2, i2, j))))) = inl (inr (inl (o, vs, e, i, inl (t, ws, e2, i2, void_base bs name o.span t.span m K ws j))))
op_loops bs name m K us (inl (inr (inl (o, vs, e, i, inr j)))) = inl (inr (inl (typed_return bs name o m K us vs e i j)))
op_loops bs name m K us (inl (inr (inr j))) = inl (inr (inr j))

part_loops : (bs : List Block) (m : Option Fault) (K : List Block → Lang) (us : List Token) → part m (λ p. Loops m K (complete (add_part bs p))) us → Loops m K (complete bs) us
part_loops bs m K us (inl j) = loops_more bs Complete m K us (inl j)
part_loops bs m K us (inr (inl j)) = loops_more bs Complete m K us (inr (inl j))
part_loops bs m K us (inr (inr (inl (t, vs, e, i, (t2, ws, e2, i2, j))))) = loops_more bs Complete m K us (inr (inr (inl (t, vs, e, i, (t2, ws, e2, i2, op_loops bs (Some (name_of t)) m K ws j)))))
part_loops bs m K us (inr (inr (inr j))) = pick (op_loops bs None m K us j)
  where
    pick : op_part bs None m (Loops m K) us ⊎ refused Unsupported no_op m (Loops m K) us → Loops m K (complete bs) us
    pick (inl q) = loops_more bs Complete m K us (inr (inr (inr q)))
    pick (inr q) = (0, inr q)

rest_loops : (n : ℕ) (bs : List Block) (m : Option Fault) (K : List Block → Lang) (us : List Token) → gather add_part part n bs m (λ cs. one (is CloseBrace) m (λ c. K cs)) us
    → Loops m K (complete bs) us
rest_loops zero bs m K us j = (0, inl j)
rest_loops (suc n) bs m K us j = part_loops bs m K us (linear_part.mono m (λ p. gather add_part part n (add_part bs p) m (λ cs. one (is CloseBrace) m (λ c. K cs)))
    (λ p. Loops m K (complete (add_part bs p))) (λ p vs i. rest_loops n (add_part bs p) m K vs i) us j)

-- ---- the body

abbrev body_rest : Gram (List Block)
body_rest = do
  ps ← many part
  _ ← one (is CloseBrace)
  give (blocks_of ps)

to_body : (m : Option Fault) (K : List Block → Lang) (us : List Token) → Loops m K (complete []) us → body_rest m K us
to_body m K us j = (linear_many linear_part).mono m (λ ps. one (is CloseBrace) m (λ c. K (added add_part [] ps))) (λ ps. one (is CloseBrace) m (λ c. K (blocks_of ps)))
    (λ ps vs i. subst (λ bs. one (is CloseBrace) m (λ c. K bs) vs) (blocks_from_left ps) i) us
    (to_many add_part linear_part [] m (λ bs. one (is CloseBrace) m (λ c. K bs)) us (loop_left j.0 (complete []) m K us j.1))

from_body : (m : Option Fault) (K : List Block → Lang) (us : List Token) → body_rest m K us → Loops m K (complete []) us
from_body m K us j = let q = from_many add_part linear_part [] m (λ bs. one (is CloseBrace) m (λ c. K bs)) us
    ((linear_many linear_part).mono m (λ ps. one (is CloseBrace) m (λ c. K (blocks_of ps))) (λ ps. one (is CloseBrace) m (λ c. K (added add_part [] ps)))
    (λ ps vs i. subst (λ bs. one (is CloseBrace) m (λ c. K bs) vs) (sym (blocks_from_left ps)) i) us j) in rest_loops q.0 [] m K us q.1

pub body_piece : {av : Class → Bool} → Piece body_at body (is OpenBrace) none false av
unfolding body_at
body_piece {av} = first (token OpenBrace) (λ o. alike body_rest to_body from_body body_loop)
