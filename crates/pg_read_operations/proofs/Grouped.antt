-- What stands behind a kept value is read the same in two parts: first what is read, then what is made of it.
use Rattle.std.proofs.Common.{◌≡◌, Bool, true, false, List, Option, Some, None, if◌then◌else◌, refl, ◌∙◌}
use Rattle.pg_num.specs.declared.limits.TheConstants.{NESTING_LIMIT}
use Rattle.pg_read_grammar.specs.declared.token.Token.{Token}
use Rattle.pg_read_grammar.specs.declared.class.Class.TheVariants.{To, Local, Global, DroppedGlobal, Comma, OpenRound, CloseRound, OpenSquare, CloseSquare}
use Rattle.pg_read_grammar.specs.declared.token.Fault.TheVariants.{Unsupported}
use Rattle.pg_read_grammar.specs.Classes.{is, is_word, ◌∪◌}
use Rattle.pg_read_grammar.specs.Reading.{Read, Good, Bad, ◌>>=◌, take_one, comes, choose, unless, all_of}
use Rattle.pg_read_grammar.specs.Grammar.{no_type, name_of}
use Rattle.pg_read_grammar.specs.GrammarOps.{cast_of}
use Rattle.pg_read_grammar.specs.Reader.{behind_comma, begins_type, listed_at, type_at, value_at, argument_at}
use Rattle.pg_read_grammar.specs.ReaderOps.{Listing, typed_value_at, target_at, case_at, more_at, metadata_tail_at, alignment_at, callee_at, dropped_callee_at}
use Rattle.pg_read_ast.specs.Syntax.{Ty, Val, Typed, Op, Case, Written}
use Rattle.pg_read_ast.specs.Syntax as syntax
use Rattle.pg_read_ast.specs.declared.names.Name.{Name}
use Rattle.pg_read_lex.specs.declared.token.Span.{Span}
use Rattle.pg_read_operations.specs.Rows.{written_or_none_at, called_at, callee_end_at, call_end_at, two_values_at, operands_at, cast_end_at, select_end_at, came_by, incoming_tail_at}
use Rattle.pg_read_operations.specs.Rows.{access_end_at, gep_op_end_at, branch_end_at, case_by, case_end_at, closed_cases_at, switch_end_at}

-- the second of two readings takes the third with it
then_in : {A B C : Type 0} (x : Read A) (r : A → List Token → Read B) (k : B → List Token → Read C) → (x >>= λ a ts. r a ts >>= k) ≡ ((x >>= r) >>= k)
then_in (Good a rest) r k = refl
then_in (Bad fault rest) r k = refl

-- what follows may be read in another way
then_as : {A B : Type 0} (x : Read A) (r s : A → List Token → Read B) → ((a : A) (ts : List Token) → r a ts ≡ s a ts) → (x >>= r) ≡ (x >>= s)
then_as (Good a rest) r s h = h a rest
then_as (Bad fault rest) r s h = refl

-- ---- two operands

abbrev paired : Ty → Val × Val → List Token → Read (Ty × Val × Val)
paired t v = Good (t, v.0, v.1)

abbrev operated : (Ty → Val → Val → Op) → Ty × Val × Val → List Token → Read Op
operated k x = Good (k x.0 x.1 x.2)

operand_second : (k : Ty → Val → Val → Op) (t : Ty) (a : Val) (x : Read Val) → (x >>= λ b. Good (k t a b)) ≡ (((x >>= λ b. Good (a, b)) >>= paired t) >>= operated k)
operand_second k t a (Good b rest) = refl
operand_second k t a (Bad fault rest) = refl

operand_comma : (k : Ty → Val → Val → Op) (t : Ty) (a : Val) (x : Read Token) → (x >>= λ _ ts. value_at NESTING_LIMIT ts >>= λ b. Good (k t a b))
    ≡ ((((x >>= λ _. value_at NESTING_LIMIT) >>= λ b. Good (a, b)) >>= paired t) >>= operated k)
operand_comma k t a (Good c rest) = operand_second k t a (value_at NESTING_LIMIT rest)
operand_comma k t a (Bad fault rest) = refl

operand_first : (k : Ty → Val → Val → Op) (t : Ty) (x : Read Val) → (x >>= λ a ts. take_one (is Comma) ts >>= λ _ ts. value_at NESTING_LIMIT ts >>= λ b. Good (k t a b))
    ≡ (((x >>= λ a ts. behind_comma (value_at NESTING_LIMIT) ts >>= λ b. Good (a, b)) >>= paired t) >>= operated k)
operand_first k t (Good a rest) = operand_comma k t a (take_one (is Comma) rest)
operand_first k t (Bad fault rest) = refl

operand_type : (k : Ty → Val → Val → Op) (x : Read Ty)
    → (x >>= λ t ts. value_at NESTING_LIMIT ts >>= λ a ts. take_one (is Comma) ts >>= λ _ ts. value_at NESTING_LIMIT ts >>= λ b. Good (k t a b))
    ≡ ((x >>= λ t ts. two_values_at ts >>= paired t) >>= operated k)
operand_type k (Good t rest) = operand_first k t (value_at NESTING_LIMIT rest)
operand_type k (Bad fault rest) = refl

pub operands_grouped : (k : Ty → Val → Val → Op) (ts : List Token)
    → (type_at NESTING_LIMIT ts >>= λ t ts. value_at NESTING_LIMIT ts >>= λ a ts. take_one (is Comma) ts >>= λ _ ts. value_at NESTING_LIMIT ts >>= λ b. Good (k t a b))
    ≡ (operands_at ts >>= operated k)
operands_grouped k ts = operand_type k (type_at NESTING_LIMIT ts)

-- ---- a conversion, and a choice

pub cast_grouped : (o : Token) (v : Typed) (ts : List Token)
    → (take_one (is To) ts >>= λ _ ts. type_at NESTING_LIMIT ts >>= λ t. Good (syntax.Cast o.span (cast_of o.class) v t)) ≡ cast_end_at o v ts
cast_grouped o v ts = then_in (take_one (is To) ts) (λ _. type_at NESTING_LIMIT) (λ t. Good (syntax.Cast o.span (cast_of o.class) v t))

-- a value behind a comma, and what is made of it
comma_grouped : (k : Typed → List Token → Read Op) (ts : List Token) → (take_one (is Comma) ts >>= λ _ ts. typed_value_at ts >>= k) ≡ (behind_comma typed_value_at ts >>= k)
comma_grouped k ts = then_in (take_one (is Comma) ts) (λ _. typed_value_at) k

abbrev second_by : Token → Typed → Typed → List Token → Read Op
second_by o c a ts = take_one (is Comma) ts >>= λ _ ts. typed_value_at ts >>= λ b. Good (syntax.Select o.span c a b)

abbrev second_in : Token → Typed → Typed → List Token → Read Op
second_in o c a ts = behind_comma typed_value_at ts >>= λ b. Good (syntax.Select o.span c a b)

pub select_grouped : (o : Token) (c : Typed) (ts : List Token)
    → (take_one (is Comma) ts >>= λ _ ts. typed_value_at ts >>= λ a ts. take_one (is Comma) ts >>= λ _ ts. typed_value_at ts >>= λ b. Good (syntax.Select o.span c a b)) ≡ select_end_at o c ts
select_grouped o c ts = comma_grouped (second_by o c) ts ∙ then_as (behind_comma typed_value_at ts) (second_by o c) (second_in o c)
    (λ a us. comma_grouped (λ b. Good (syntax.Select o.span c a b)) us)

label_close : (v : Val) (b : Token) (x : Read Token) → (x >>= λ _. Good (came_by v (name_of b))) ≡ ((x >>= λ _. Good (name_of b)) >>= λ n. Good (came_by v n))
label_close v b (Good t rest) = refl
label_close v b (Bad fault rest) = refl

label_local : (v : Val) (x : Read Token) → (x >>= λ b ts. take_one (is CloseSquare) ts >>= λ _. Good (came_by v (name_of b)))
    ≡ ((x >>= λ b ts. take_one (is CloseSquare) ts >>= λ _. Good (name_of b)) >>= λ n. Good (came_by v n))
label_local v (Good b rest) = label_close v b (take_one (is CloseSquare) rest)
label_local v (Bad fault rest) = refl

label_comma : (v : Val) (x : Read Token) → (x >>= λ _ ts. take_one (is Local) ts >>= λ b ts. take_one (is CloseSquare) ts >>= λ _. Good (came_by v (name_of b)))
    ≡ ((x >>= λ _ ts. take_one (is Local) ts >>= λ b ts. take_one (is CloseSquare) ts >>= λ _. Good (name_of b)) >>= λ n. Good (came_by v n))
label_comma v (Good t rest) = label_local v (take_one (is Local) rest)
label_comma v (Bad fault rest) = refl

pub incoming_grouped : (v : Val) (ts : List Token) → (take_one (is Comma) ts >>= λ _ ts. take_one (is Local) ts >>= λ b ts. take_one (is CloseSquare) ts >>= λ _. Good
    (came_by v (name_of b))) ≡ incoming_tail_at v ts
incoming_grouped v ts = label_comma v (take_one (is Comma) ts)

address_aligned : (k : Typed → Op) (p : Typed) (x : Read (Unit {0})) → (x >>= λ _. Good (k p)) ≡ ((x >>= λ _. Good p) >>= λ q. Good (k q))
address_aligned k p (Good u rest) = refl
address_aligned k p (Bad fault rest) = refl

address_value : (k : Typed → Op) (x : Read Typed) → (x >>= λ p ts. alignment_at ts >>= λ _. Good (k p)) ≡ ((x >>= λ p ts. alignment_at ts >>= λ _. Good p) >>= λ q. Good (k q))
address_value k (Good p rest) = address_aligned k p (alignment_at rest)
address_value k (Bad fault rest) = refl

address_comma : (k : Typed → Op) (x : Read Token) → (x >>= λ _ ts. typed_value_at ts >>= λ p ts. alignment_at ts >>= λ _. Good (k p))
    ≡ ((x >>= λ _ ts. typed_value_at ts >>= λ p ts. alignment_at ts >>= λ _. Good p) >>= λ q. Good (k q))
address_comma k (Good t rest) = address_value k (typed_value_at rest)
address_comma k (Bad fault rest) = refl

pub access_grouped : (k : Typed → Op) (ts : List Token) → (take_one (is Comma) ts >>= λ _ ts. typed_value_at ts >>= λ p ts. alignment_at ts >>= λ _. Good (k p)) ≡ access_end_at k ts
access_grouped k ts = address_comma k (take_one (is Comma) ts)

-- ---- an element

abbrev element : Span → Ty → Typed × List Typed → List Token → Read Op
element s t e = Good (syntax.GetElementPtr s t e.0 e.1)

element_indices : (s : Span) (t : Ty) (p : Typed) (x : Read (Listing Typed))
    → (x >>= λ more. Good (syntax.GetElementPtr s t p more.items)) ≡ ((x >>= λ more. Good (p, more.items)) >>= element s t)
element_indices s t p (Good more rest) = refl
element_indices s t p (Bad fault rest) = refl

element_pointer : (s : Span) (t : Ty) (x : Read Typed) → (x >>= λ p ts. more_at begins_type typed_value_at (unless Unsupported no_type metadata_tail_at) ts >>= λ more. Good
    (syntax.GetElementPtr s t p more.items)) ≡ ((x >>= λ p ts. more_at begins_type typed_value_at (unless Unsupported no_type metadata_tail_at) ts >>= λ more. Good (p, more.items)) >>=
    element s t)
element_pointer s t (Good p rest) = element_indices s t p (more_at begins_type typed_value_at (unless Unsupported no_type metadata_tail_at) rest)
element_pointer s t (Bad fault rest) = refl

element_comma : (s : Span) (t : Ty) (x : Read Token) → (x >>= λ _ ts. typed_value_at ts >>= λ p ts. more_at begins_type typed_value_at
    (unless Unsupported no_type metadata_tail_at) ts >>= λ more. Good (syntax.GetElementPtr s t p more.items))
    ≡ ((x >>= λ _ ts. typed_value_at ts >>= λ p ts. more_at begins_type typed_value_at (unless Unsupported no_type metadata_tail_at) ts >>= λ more. Good (p, more.items)) >>= element s t)
element_comma s t (Good c rest) = element_pointer s t (typed_value_at rest)
element_comma s t (Bad fault rest) = refl

pub gep_grouped : (o : Token) (t : Ty) (ts : List Token)
    → (take_one (is Comma) ts >>= λ _ ts. typed_value_at ts >>= λ p ts. more_at begins_type typed_value_at (unless Unsupported no_type metadata_tail_at) ts >>= λ more. Good
    (syntax.GetElementPtr o.span t p more.items)) ≡ gep_op_end_at o t ts
gep_grouped o t ts = element_comma o.span t (take_one (is Comma) ts)

-- ---- two blocks

abbrev branched : Span → Typed → Name × Name → List Token → Read Op
branched s c t = Good (syntax.CondBr s c t.0 t.1)

branch_second : (s : Span) (c : Typed) (a : Name) (x : Read Name) → (x >>= λ b. Good (syntax.CondBr s c a b)) ≡ ((x >>= λ b. Good (a, b)) >>= branched s c)
branch_second s c a (Good b rest) = refl
branch_second s c a (Bad fault rest) = refl

branch_comma : (s : Span) (c : Typed) (a : Name) (x : Read Token) → (x >>= λ _ ts. target_at ts >>= λ b. Good (syntax.CondBr s c a b))
    ≡ ((x >>= λ _ ts. target_at ts >>= λ b. Good (a, b)) >>= branched s c)
branch_comma s c a (Good t rest) = branch_second s c a (target_at rest)
branch_comma s c a (Bad fault rest) = refl

branch_first : (s : Span) (c : Typed) (x : Read Name) → (x >>= λ a ts. take_one (is Comma) ts >>= λ _ ts. target_at ts >>= λ b. Good (syntax.CondBr s c a b))
    ≡ ((x >>= λ a ts. take_one (is Comma) ts >>= λ _ ts. target_at ts >>= λ b. Good (a, b)) >>= branched s c)
branch_first s c (Good a rest) = branch_comma s c a (take_one (is Comma) rest)
branch_first s c (Bad fault rest) = refl

branch_begin : (s : Span) (c : Typed) (x : Read Token) → (x >>= λ _ ts. target_at ts >>= λ a ts. take_one (is Comma) ts >>= λ _ ts. target_at ts >>= λ b. Good (syntax.CondBr s c a b))
    ≡ ((x >>= λ _ ts. target_at ts >>= λ a ts. take_one (is Comma) ts >>= λ _ ts. target_at ts >>= λ b. Good (a, b)) >>= branched s c)
branch_begin s c (Good t rest) = branch_first s c (target_at rest)
branch_begin s c (Bad fault rest) = refl

pub branch_grouped : (o : Token) (c : Typed) (ts : List Token)
    → (take_one (is Comma) ts >>= λ _ ts. target_at ts >>= λ a ts. take_one (is Comma) ts >>= λ _ ts. target_at ts >>= λ b. Good (syntax.CondBr o.span c a b)) ≡ branch_end_at o c ts
branch_grouped o c ts = branch_begin o.span c (take_one (is Comma) ts)

-- ---- a case, and the cases of a switch

pub case_grouped : (v : Typed) (ts : List Token) → (take_one (is Comma) ts >>= λ _ ts. target_at ts >>= λ b. Good (case_by v b)) ≡ case_end_at v ts
case_grouped v ts = then_in (take_one (is Comma) ts) (λ _. target_at) (λ b. Good (case_by v b))

abbrev switched : Span → Typed → Name × List Case → List Token → Read Op
switched s v w = Good (syntax.Switch s v w.0 w.1)

switch_close : (s : Span) (v : Typed) (b : Name) (all : List Case) (x : Read Token)
    → (x >>= λ _. Good (syntax.Switch s v b all)) ≡ (((x >>= λ _. Good all) >>= λ cs. Good (b, cs)) >>= switched s v)
switch_close s v b all (Good t rest) = refl
switch_close s v b all (Bad fault rest) = refl

switch_unless : (s : Span) (v : Typed) (b : Name) (all : List Case) (ts : List Token) (refused : Bool)
    → (if refused then Bad (Some Unsupported) ts else (take_one (is CloseSquare) ts >>= λ _. Good (syntax.Switch s v b all)))
    ≡ (((if refused then Bad (Some Unsupported) ts else (take_one (is CloseSquare) ts >>= λ _. Good all)) >>= λ cs. Good (b, cs)) >>= switched s v)
switch_unless s v b all ts true = refl
switch_unless s v b all ts false = switch_close s v b all (take_one (is CloseSquare) ts)

switch_cases : (s : Span) (v : Typed) (b : Name) (x : Read (List Case)) → (x >>= λ all. unless Unsupported no_type (λ ts. take_one (is CloseSquare) ts >>= λ _. Good (syntax.Switch s v b all)))
    ≡ (((x >>= λ all. unless Unsupported no_type (λ ts. take_one (is CloseSquare) ts >>= λ _. Good all)) >>= λ cs. Good (b, cs)) >>= switched s v)
switch_cases s v b (Good all rest) = switch_unless s v b all rest (comes no_type rest)
switch_cases s v b (Bad fault rest) = refl

switch_open : (s : Span) (v : Typed) (b : Name) (x : Read Token)
    → (x >>= λ _ ts. all_of begins_type case_at ts >>= λ all. unless Unsupported no_type (λ ts. take_one (is CloseSquare) ts >>= λ _. Good (syntax.Switch s v b all)))
    ≡ ((x >>= λ _ ts. closed_cases_at ts >>= λ cs. Good (b, cs)) >>= switched s v)
switch_open s v b (Good t rest) = switch_cases s v b (all_of begins_type case_at rest)
switch_open s v b (Bad fault rest) = refl

switch_default : (s : Span) (v : Typed) (x : Read Name)
    → (x >>= λ b ts. take_one (is OpenSquare) ts >>= λ _ ts. all_of begins_type case_at ts >>= λ all. unless Unsupported no_type
    (λ ts. take_one (is CloseSquare) ts >>= λ _. Good (syntax.Switch s v b all)))
    ≡ ((x >>= λ b ts. take_one (is OpenSquare) ts >>= λ _ ts. closed_cases_at ts >>= λ cs. Good (b, cs)) >>= switched s v)
switch_default s v (Good b rest) = switch_open s v b (take_one (is OpenSquare) rest)
switch_default s v (Bad fault rest) = refl

switch_comma : (s : Span) (v : Typed) (x : Read Token) → (x >>= λ _ ts. target_at ts >>= λ b ts. take_one
    (is OpenSquare) ts >>= λ _ ts. all_of begins_type case_at ts >>= λ all. unless Unsupported no_type (λ ts. take_one (is CloseSquare) ts >>= λ _. Good (syntax.Switch s v b all)))
    ≡ ((x >>= λ _ ts. target_at ts >>= λ b ts. take_one (is OpenSquare) ts >>= λ _ ts. closed_cases_at ts >>= λ cs. Good (b, cs)) >>= switched s v)
switch_comma s v (Good t rest) = switch_default s v (target_at rest)
switch_comma s v (Bad fault rest) = refl

pub switch_grouped : (o : Token) (v : Typed) (ts : List Token)
    → (take_one (is Comma) ts >>= λ _ ts. target_at ts >>= λ b ts. take_one (is OpenSquare) ts >>= λ _ ts. all_of begins_type case_at ts >>= λ all. unless Unsupported no_type
    (λ ts. take_one (is CloseSquare) ts >>= λ _. Good (syntax.Switch o.span v b all)))
    ≡ switch_end_at o v ts
switch_grouped o v ts = switch_comma o.span v (take_one (is Comma) ts)

-- ---- a call

abbrev some_op : Op → List Token → Read (Option Op)
some_op c = Good (Some c)

abbrev called_by : Token → Ty → Option Written → Name × List Typed → List Token → Read (Option Op)
called_by o t w c = Good (Some (syntax.Call o.span t w c.0 c.1))

call_arguments : (o : Token) (t : Ty) (w : Option Written) (f : Token) (x : Read (List Typed))
    → ((x >>= λ all. Good (syntax.Call o.span t w (name_of f) all)) >>= some_op) ≡ ((x >>= λ all. Good (name_of f, all)) >>= called_by o t w)
call_arguments o t w f (Good all rest) = refl
call_arguments o t w f (Bad fault rest) = refl

call_open : (o : Token) (t : Ty) (w : Option Written) (f : Token) (x : Read Token)
    → ((x >>= λ _ ts. listed_at CloseRound argument_at ts >>= λ all. Good (syntax.Call o.span t w (name_of f) all)) >>= some_op)
    ≡ ((x >>= λ _ ts. listed_at CloseRound argument_at ts >>= λ all. Good (name_of f, all)) >>= called_by o t w)
call_open o t w f (Good b rest) = call_arguments o t w f (listed_at CloseRound argument_at rest)
call_open o t w f (Bad fault rest) = refl

call_global : (o : Token) (t : Ty) (w : Option Written) (x : Read Token)
    → ((x >>= λ f ts. take_one (is OpenRound) ts >>= λ _ ts. listed_at CloseRound argument_at ts >>= λ all. Good (syntax.Call o.span t w (name_of f) all)) >>= some_op)
    ≡ ((x >>= λ f ts. take_one (is OpenRound) ts >>= λ _ ts. listed_at CloseRound argument_at ts >>= λ all. Good (name_of f, all)) >>= called_by o t w)
call_global o t w (Good f rest) = call_open o t w f (take_one (is OpenRound) rest)
call_global o t w (Bad fault rest) = refl

call_dropped : (o : Token) (t : Ty) (w : Option Written) (ts : List Token) (dropped : Bool)
    → (if dropped then (dropped_callee_at ts >>= λ _. Good None) else (callee_at o t w ts >>= some_op))
    ≡ (if dropped then (dropped_callee_at ts >>= λ _. Good None) else (called_at ts >>= called_by o t w))
call_dropped o t w ts true = refl
call_dropped o t w ts false = call_global o t w (unless Unsupported (is_word ∪ is Local) (take_one (is Global)) ts)

call_written : (o : Token) (t : Ty) (x : Read (Option Written))
    → (x >>= λ w. choose (is DroppedGlobal) (λ ts. dropped_callee_at ts >>= λ _. Good None) (λ ts. callee_at o t w ts >>= some_op))
    ≡ ((x >>= λ w. Good (t, w)) >>= callee_end_at o)
call_written o t (Good w rest) = call_dropped o t w rest (comes (is DroppedGlobal) rest)
call_written o t (Bad fault rest) = refl

call_type : (o : Token) (x : Read Ty)
    → (x >>= λ t ts. written_or_none_at ts >>= λ w. choose (is DroppedGlobal) (λ ts. dropped_callee_at ts >>= λ _. Good None) (λ ts. callee_at o t w ts >>= some_op))
    ≡ ((x >>= λ t ts. written_or_none_at ts >>= λ w. Good (t, w)) >>= callee_end_at o)
call_type o (Good t rest) = call_written o t (written_or_none_at rest)
call_type o (Bad fault rest) = refl

pub call_grouped : (o : Token) (ts : List Token)
    → (type_at NESTING_LIMIT ts >>= λ t ts. written_or_none_at ts >>= λ w. choose (is DroppedGlobal) (λ ts. dropped_callee_at ts >>= λ _. Good None) (λ ts. callee_at o t w ts >>= some_op))
    ≡ call_end_at o ts
call_grouped o ts = call_type o (type_at NESTING_LIMIT ts)
