-- Each reading function of an operation reads its row of the grammar.
use Rattle.std.proofs.Common.{◌≡◌, zero, suc, List, Option, inl, inr, Bool, true, false, refl}
use Rattle.pg_num.specs.declared.limits.TheConstants.{NESTING_LIMIT}
use Rattle.pg_read_grammar.specs.declared.nesting.TheConstants.{INNER_NESTING_LIMIT}
use Rattle.pg_read_grammar.specs.declared.token.Token.{Token}
use Rattle.pg_read_grammar.specs.declared.class.Class.{Class}
use Rattle.pg_read_grammar.specs.declared.class.Class.TheVariants.{Add, Trunc, Icmp, Eq, Select, Phi, Br, Switch, Unreachable, Alloca, Load, Store, Volatile, GetElementPtr, Call, TailWord}
use Rattle.pg_read_grammar.specs.declared.class.Class.TheVariants.{LabelWord, To, Align, Flag, Int, Dots, Local, Global, DroppedGlobal, Meta, Comma, OpenRound, CloseRound, OpenSquare}
use Rattle.pg_read_grammar.specs.declared.class.Class.TheVariants.{CloseSquare}
use Rattle.pg_read_grammar.specs.declared.token.Fault.{Fault}
use Rattle.pg_read_grammar.specs.declared.token.Fault.TheVariants.{Unsupported}
use Rattle.pg_read_grammar.specs.Classes.{is, is_word, none, ◌∪◌}
use Rattle.pg_read_grammar.specs.Language.{Lang, Gram, one, give, refused, ◌or◌, many}
use Rattle.pg_read_grammar.specs.Language.{◌>>=◌ as ◌then◌}
use Rattle.pg_read_grammar.specs.Grammar.{no_type, metadata_name, type_in, drop_value}
use Rattle.pg_read_grammar.specs.GrammarOps.{typed_value, target, binary_word, binary, predicate_word, icmp, cast_word, cast, select, incoming, phi, branch, case_of as case_row, switch, call_head}
use Rattle.pg_read_grammar.specs.GrammarOps.{unreachable, alloca, volatile, load, store, gep, written, call_word, callee, dropped_callee, plain_op, simple_op}
use Rattle.pg_read_grammar.specs.GrammarItems.{metadata}
use Rattle.pg_read_grammar.specs.Reading.{Read, Good, ◌>>=◌, take_one}
use Rattle.pg_read_grammar.specs.Reader.{begins_type, drop_value_at}
use Rattle.pg_read_grammar.specs.ReaderOps.{typed_value_at, target_at, metadata_at, lined, metadata_tail_at, more_at, binary_at, icmp_at, cast_tail_at, cast_at, select_at, incoming_at, phi_at}
use Rattle.pg_read_grammar.specs.ReaderOps.{branch_at, case_at, switch_at, unreachable_at, alignment_at, count_at, alloca_at, volatile_at, load_at, store_at, gep_op_tail_at, gep_op_at}
use Rattle.pg_read_grammar.specs.ReaderOps.{written_at, call_word_at, callee_at, dropped_callee_at, call_at, plain_op_at, simple_op_at}
use Rattle.pg_read_ast.specs.Syntax.{Ty, Op, Written, Count}
use Rattle.pg_read_ast.specs.Syntax as syntax
use Rattle.pg_read_grammar.proofs.ClassTests.{within, within_none, apart}
use Rattle.pg_read_grammar.proofs.Pieces.{Piece, Item, Gets}
use Rattle.pg_read_grammar.proofs.Rules.{first, next, give_it, token, token_of, token_item, case, or_else, unless_it, recast, alike, dropped, many_of, item_first, item_or, item_then}
use Rattle.pg_read_grammar.proofs.Rules.{item_alike, gets_then}
use Rattle.pg_read_grammar.proofs.Linear.{Linear, linear_one, linear_then, linear_many}
use Rattle.pg_read_grammar.proofs.LinearRows.{linear_type}
use Rattle.pg_read_grammar.proofs.LinearOps.{linear_typed_value, linear_case_of, linear_incoming}
use Rattle.pg_read_grammar.proofs.Listings.{comma_item, ending, Refusing, followed_piece}
use Rattle.pg_read_grammar.proofs.Refusing.{many_refusing}
use Rattle.pg_read_grammar.proofs.Rows.{type_piece, type_gets, type_exact, value_piece, flags_piece, skip_piece, listed_by, attributes_piece}
use Rattle.pg_read_grammar.proofs.Attributed.{argument_piece, behind_argument}
use Rattle.pg_read_grammar.proofs.OpRests.{with_metadata, metadata_tail, cast_tail, alignment_line, alignment_first, count_line, count_first, written_first, gep_op_tail}

pub typed_value_piece : {av : Class → Bool} → Piece typed_value_at typed_value begins_type no_type false av
typed_value_piece {av} = first (type_piece NESTING_LIMIT) (λ t. first (value_piece NESTING_LIMIT) (λ v. give_it))

pub typed_value_gets : Gets begins_type typed_value_at
typed_value_gets = gets_then (type_gets INNER_NESTING_LIMIT) (λ t. first {aw = none} (value_piece NESTING_LIMIT) (λ v. give_it))

target_item : {av : Class → Bool} → Item target_at target (is LabelWord) av
target_item {av} = item_first (is LabelWord) LabelWord refl (λ l. first (token Local) (λ t. give_it))

-- ---- metadata

pub metadata_piece : {av : Class → Bool} → within (is Comma) av ≡ true → Piece metadata_at metadata (is Comma) none true av
unfolding metadata_at
metadata_piece {av} w = dropped (many_of {av = none} av Comma (λ c. first {aw = none} (token_of metadata_name Meta refl) (λ m. token_of metadata_name Meta refl)) refl refl w)

pub metadata_tail_item : Item metadata_tail_at metadata_tail metadata_name (is Comma)
metadata_tail_item = item_first metadata_name Meta refl (λ m. first (token_of metadata_name Meta refl) (λ m. metadata_piece refl))

lined_item : {r : List Token → Read Op} {g : Gram Op} {fi : Class → Bool} → Item r g fi none → Item (lined r) (with_metadata g) fi (is Comma)
lined_item e = item_then e (λ o. next {av = is Comma} (metadata_piece refl) (λ u. give_it) refl refl) refl refl

-- ---- numbers

binary_item : Item binary_at binary binary_word none
binary_item = item_first binary_word Add refl (λ o. next flags_piece
    (λ f. first (type_piece NESTING_LIMIT) (λ t. first (value_piece NESTING_LIMIT) (λ a. first (token Comma) (λ c. first (value_piece NESTING_LIMIT) (λ b. give_it))))) refl refl)

icmp_item : Item icmp_at icmp (is Icmp) none
icmp_item = item_first (is Icmp) Icmp refl (λ o. next flags_piece
    (λ f. first (token_of predicate_word Eq refl) (λ p. first (type_piece NESTING_LIMIT)
    (λ t. first (value_piece NESTING_LIMIT) (λ a. first (token Comma) (λ c. first (value_piece NESTING_LIMIT) (λ b. give_it)))))) refl refl)

pub cast_tail_piece : {av : Class → Bool} (o : Token) → Piece (cast_tail_at o) (cast_tail o) (is Flag ∪ begins_type) no_type false av
cast_tail_piece {av} o =
    recast (is Flag ∪ begins_type) no_type (next flags_piece (λ f. first typed_value_piece (λ v. first (token To) (λ x. first (type_piece NESTING_LIMIT) (λ t. give_it)))) refl refl) refl refl

cast_item : Item cast_at cast cast_word none
cast_item = item_first cast_word Trunc refl (λ o. cast_tail_piece o)

select_item : Item select_at select (is Select) none
select_item = item_first (is Select) Select refl (λ o. first typed_value_piece
    (λ c. first (token Comma) (λ k. first typed_value_piece (λ a. first (token Comma) (λ k. first typed_value_piece (λ b. give_it))))))

-- ---- the way through the blocks

branch_item : Item branch_at branch (is Br) none
branch_item = item_first (is Br) Br refl (λ o. or_else (item_then {av = none} target_item (λ b. give_it) refl refl)
    (first typed_value_piece (λ c. first (token Comma) (λ k. first target_item.piece (λ a. first (token Comma) (λ k. first target_item.piece (λ b. give_it)))))) refl refl)

case_piece : {av : Class → Bool} → Piece case_at case_row begins_type no_type false av
case_piece {av} = first typed_value_piece (λ v. first (token Comma) (λ k. first target_item.piece (λ b. give_it)))

case_gets : Gets begins_type case_at
case_gets = gets_then typed_value_gets (λ v. first {aw = none} (token Comma) (λ k. first target_item.piece (λ b. give_it)))

switch_item : Item switch_at switch (is Switch) none
switch_item = item_first (is Switch) Switch refl (λ o. first typed_value_piece (λ v. first (token Comma) (λ k. first target_item.piece (λ b. first (token OpenSquare) (λ k.
    many_refusing {av = none} begins_type case_piece case_gets linear_case_of (λ K t i. type_exact INNER_NESTING_LIMIT _ t i)
    (λ all. first (token CloseSquare) (λ k. give_it)) refl refl refl refl refl)))))

unreachable_item : Item unreachable_at unreachable (is Unreachable) none
unreachable_item = item_first (is Unreachable) Unreachable refl (λ o. give_it)

-- ---- an alignment behind a comma, and metadata

alignment_is : (m : Option Fault) (K : Unit {0} → Lang) (us : List Token) → alignment_first m K us → alignment_line m K us
alignment_is m K us (inl (t, vs, e, i, inl x)) = inl (t, vs, e, i, x)
alignment_is m K us (inl (t, vs, e, i, inr (a, as1, e1, i1, (b, bs, e2, i2, (n, j))))) = inr (suc n, (t, vs, e, i, (a, as1, e1, i1, (b, bs, e2, i2, j))))
alignment_is m K us (inr k) = inr (0, k)

alignment_from : (m : Option Fault) (K : Unit {0} → Lang) (us : List Token) → alignment_line m K us → alignment_first m K us
alignment_from m K us (inl (t, vs, e, i, x)) = inl (t, vs, e, i, inl x)
alignment_from m K us (inr (zero, k)) = inr k
alignment_from m K us (inr (suc n, (t, vs, e, i, (a, as1, e1, i1, (b, bs, e2, i2, j))))) = inl (t, vs, e, i, inr (a, as1, e1, i1, (b, bs, e2, i2, (n, j))))

alignment_piece : Piece alignment_at alignment_line (is Comma) none true (is Comma)
unfolding alignment_at
alignment_piece = alike alignment_line alignment_is alignment_from
    (recast (is Comma) none (case Comma (λ c. case Align (λ t. first (token Int) (λ n. metadata_piece refl)) metadata_tail_item.piece refl refl) give_it refl refl) refl refl)

count_is : (m : Option Fault) (K : Option Count → Lang) (us : List Token) → count_first m K us → count_line m K us
count_is m K us (inl (t, vs, e, i, inl x)) = inr (inl (t, vs, e, i, x))
count_is m K us (inl (t, vs, e, i, inr (inl (a, as1, e1, i1, (b, bs, e2, i2, (n, j)))))) = inr (inr (suc n, (t, vs, e, i, (a, as1, e1, i1, (b, bs, e2, i2, j)))))
count_is m K us (inl (t, vs, e, i, inr (inr x))) = inl (t, vs, e, i, x)
count_is m K us (inr k) = inr (inr (0, k))

count_from : (m : Option Fault) (K : Option Count → Lang) (us : List Token) → count_line m K us → count_first m K us
count_from m K us (inl (t, vs, e, i, x)) = inl (t, vs, e, i, inr (inr x))
count_from m K us (inr (inl (t, vs, e, i, x))) = inl (t, vs, e, i, inl x)
count_from m K us (inr (inr (zero, k))) = inr k
count_from m K us (inr (inr (suc n, (t, vs, e, i, (a, as1, e1, i1, (b, bs, e2, i2, j)))))) = inl (t, vs, e, i, inr (inl (a, as1, e1, i1, (b, bs, e2, i2, (n, j)))))

count_piece : Piece count_at count_line (is Comma) none true (is Comma)
unfolding count_at
count_piece = alike count_line count_is count_from (recast (is Comma) none
    (case Comma (λ c. case Align (λ t. first (token Int) (λ n. next {av = is Comma} (metadata_piece refl) (λ u. give_it) refl refl))
    (or_else (item_then metadata_tail_item (λ u. give_it) refl refl)
    (first (type_piece NESTING_LIMIT) (λ t. first (unless_it (is Local) (token Int) refl refl) (λ n. next alignment_piece (λ u. give_it) refl refl))) refl
    refl) refl refl) give_it refl refl) refl refl)

alloca_item : Item alloca_at (with_metadata alloca) (is Alloca) (is Comma)
alloca_item = item_first (is Alloca) Alloca refl (λ o. first (type_piece NESTING_LIMIT) (λ t. next count_piece (λ n. give_it) refl refl))

volatile_piece : Piece volatile_at volatile (is Volatile) none true (is Volatile)
volatile_piece = recast (is Volatile) none (or_else (item_first (is Volatile) Volatile refl (λ t. give_it)) give_it refl refl) refl refl

load_item : Item load_at (with_metadata load) (is Load) (is Comma)
load_item = item_first (is Load) Load refl (λ o. next volatile_piece
    (λ v. first (type_piece NESTING_LIMIT) (λ t. first (token Comma) (λ c. first typed_value_piece (λ p. next alignment_piece (λ u. give_it) refl refl)))) refl refl)

store_item : Item store_at (with_metadata store) (is Store) (is Comma)
store_item = item_first (is Store) Store refl (λ o. next volatile_piece
    (λ v. first typed_value_piece (λ t. first (token Comma) (λ c. first typed_value_piece (λ p. next alignment_piece (λ u. give_it) refl refl)))) refl refl)

-- ---- a list behind commas, and metadata

-- all items, and then metadata
abbrev listed_metadata : {A B : Type 0} → Gram A → (List A → B) → Gram B
listed_metadata g f = many (comma_item g) then λ all. metadata then λ u. give (f all)

listed_metadata_piece : {A B : Type 0} {r : List Token → Read A} {g : Gram A} {fi ma : Class → Bool} {end : List Token → Read (Unit {0})} {h0 : Gram (Unit {0})} {mb : Class → Bool}
    → Piece r g fi ma false none → Gets fi r → Piece end h0 metadata_name mb false (is Comma) → Refusing g metadata_tail h0 fi ma → apart fi metadata_name ≡ true → (f : List A → B)
    → Piece (λ ts. more_at fi r end ts >>= λ more. Good (f more.items)) (listed_metadata g f) (is Comma) none true (is Comma)
listed_metadata_piece {A} {B} {r} {g} {fi} {ma} {end} {h0} {mb} e gets k p x f =
    alike (listed_metadata g f) to from (recast (is Comma) none (next (followed_piece e gets k p x refl) (λ more. give_it) refl refl) refl refl)
  where
    items : Linear (many (comma_item g))
    items = linear_many (linear_then (linear_one (is Comma)) (λ c. p.linear))

    is_metadata : (m : Option Fault) (K : B → Lang) (all : List A) (us : List Token) → ending metadata_tail all m (λ l. K (f l.items)) us → metadata m (λ u. K (f all)) us
    is_metadata m K all us (inl (t, vs, e, i, (a, as1, e1, i1, (b, bs, e2, i2, (n, j))))) = (suc n, (t, vs, e, i, (a, as1, e1, i1, (b, bs, e2, i2, j))))
    is_metadata m K all us (inr j) = (0, j)

    from_metadata : (m : Option Fault) (K : B → Lang) (all : List A) (us : List Token) → metadata m (λ u. K (f all)) us → ending metadata_tail all m (λ l. K (f l.items)) us
    from_metadata m K all us (zero, j) = inr j
    from_metadata m K all us (suc n, (t, vs, e, i, (a, as1, e1, i1, (b, bs, e2, i2, j)))) = inl (t, vs, e, i, (a, as1, e1, i1, (b, bs, e2, i2, (n, j))))

    to : (m : Option Fault) (K : B → Lang) (us : List Token) → many (comma_item g) m (λ all. ending metadata_tail all m (λ l. K (f l.items))) us → listed_metadata g f m K us
    to m K us j = items.mono m (λ all. ending metadata_tail all m (λ l. K (f l.items))) (λ all. metadata m (λ u. K (f all))) (λ all vs i. is_metadata m K all vs i) us j

    from : (m : Option Fault) (K : B → Lang) (us : List Token) → listed_metadata g f m K us → many (comma_item g) m (λ all. ending metadata_tail all m (λ l. K (f l.items))) us
    from m K us j = items.mono m (λ all. metadata m (λ u. K (f all))) (λ all. ending metadata_tail all m (λ l. K (f l.items))) (λ all vs i. from_metadata m K all vs i) us j

pub incoming_item : {av : Class → Bool} → Item incoming_at incoming (is OpenSquare) av
incoming_item {av} = item_first (is OpenSquare) OpenSquare refl (λ o. first (value_piece NESTING_LIMIT)
    (λ v. first (token Comma) (λ c. first (token Local) (λ b. first (token CloseSquare) (λ c. give_it)))))

incoming_refusing : Refusing incoming metadata_tail metadata_tail (is OpenSquare) none
incoming_refusing = record {
  linear = linear_incoming;
  begins = (incoming_item {av = none}).piece.begins;
  empty = (incoming_item {av = none}).piece.empty;
  exact = λ K t i. absurd (let z : false ≡ true = i in cc);
  split = λ m K us j. inl j;
  whole = λ m K us j. j;
  mark = λ m K us j. absurd (let z : false ≡ true = j.3 in cc);
}

phi_item : Item phi_at (with_metadata phi) (is Phi) (is Comma)
phi_item = item_first (is Phi) Phi refl (λ o. first (type_piece NESTING_LIMIT)
    (λ t. first incoming_item.piece (λ i. listed_metadata_piece (incoming_item {av = none}).piece (incoming_item {av = none}).gets metadata_tail_item.piece incoming_refusing refl
    (λ all. syntax.Phi o.span t i all))))

index_refusing : Refusing typed_value metadata_tail (metadata_tail or refused Unsupported no_type) begins_type no_type
index_refusing = record {
  linear = linear_typed_value;
  begins = (typed_value_piece {av = none}).begins;
  empty = (typed_value_piece {av = none}).empty;
  exact = λ K t i. type_exact INNER_NESTING_LIMIT _ t i;
  split = λ m K us j. j;
  whole = λ m K us j. inl j;
  mark = λ m K us j. inr j;
}

pub gep_op_tail_piece : (o : Token) → Piece (gep_op_tail_at o) (gep_op_tail o) begins_type no_type false (is Comma)
gep_op_tail_piece o = first (type_piece NESTING_LIMIT) (λ t. first (token Comma)
    (λ c. first typed_value_piece (λ p. listed_metadata_piece typed_value_piece typed_value_gets (unless_it no_type metadata_tail_item.piece refl refl) index_refusing refl
    (λ all. syntax.GetElementPtr o.span t p all))))

gep_op_item : Item gep_op_at (with_metadata gep) (is GetElementPtr) (is Comma)
gep_op_item = item_first (is GetElementPtr) GetElementPtr refl (λ o. next flags_piece (λ f. gep_op_tail_piece o) refl refl)

-- ---- all operations but calls and returns

abbrev pub begins_op : Class → Bool
begins_op = binary_word ∪ (is Icmp ∪ (is Select ∪ (is Phi ∪ (is Br ∪ (is Switch ∪ (is Unreachable ∪ (is Alloca ∪ (is Load ∪ is Store))))))))

pub plain_op_item : Item plain_op_at (with_metadata plain_op) begins_op (is Comma)
unfolding plain_op_at
plain_op_item = item_or (lined_item binary_item) (item_or (lined_item icmp_item)
    (item_or (lined_item select_item) (item_or phi_item
    (item_or (lined_item branch_item) (item_or (lined_item switch_item) (item_or (lined_item unreachable_item) (item_or alloca_item (item_or load_item store_item refl) refl) refl) refl) refl)
    refl) refl) refl) refl

pub simple_op_item : Item simple_op_at (with_metadata simple_op) (is GetElementPtr ∪ (cast_word ∪ begins_op)) (is Comma)
unfolding simple_op_at
simple_op_item = item_or gep_op_item (item_or (lined_item cast_item) plain_op_item refl) refl

-- ---- calls

dots_item : {av : Class → Bool} → Item (drop_value_at (take_one (is Dots))) (drop_value (one (is Dots))) (is Dots) av
dots_item {av} = item_first (is Dots) Dots refl (λ t. give_it)

types_refusing : Refusing (type_in NESTING_LIMIT) (drop_value (one (is Dots))) (drop_value (one (is Dots)) or refused Unsupported no_type) begins_type no_type
types_refusing = record {
  linear = linear_type NESTING_LIMIT;
  begins = (type_piece NESTING_LIMIT).begins;
  empty = (type_piece NESTING_LIMIT).empty;
  exact = λ K t i. type_exact INNER_NESTING_LIMIT K t i;
  split = λ m K us j. j;
  whole = λ m K us j. inl j;
  mark = λ m K us j. inr j;
}

written_is : (m : Option Fault) (K : Written → Lang) (us : List Token) → written_first m K us → written m K us
written_is m K us (t, vs, e, i, inl j) = (t, vs, e, i, inl j)
written_is m K us (t, vs, e, i, inr (inl (c, ws, e1, i1, (d, xs, e2, i2, j)))) = (t, vs, e, i, inr (inr (inl (c, ws, e1, i1, (d, xs, e2, i2, j)))))
written_is m K us (t, vs, e, i, inr (inr (inl j))) = (t, vs, e, i, inr (inr (inr j)))
written_is m K us (t, vs, e, i, inr (inr (inr j))) = (t, vs, e, i, inr (inl j))

written_item : {av : Class → Bool} → Item written_at written_first (is OpenRound) av
unfolding written_at
written_item {av} = item_first (is OpenRound) OpenRound refl
    (λ o. case Dots (λ d. first (token CloseRound) (λ c. give_it)) (case Comma (λ c. first (token Dots) (λ d. first (token CloseRound) (λ c. give_it))) (case CloseRound (λ c. give_it)
    (first (type_piece NESTING_LIMIT) (λ t. next
    (followed_piece (type_piece NESTING_LIMIT) (type_gets INNER_NESTING_LIMIT) (unless_it no_type (dots_item {av = is Comma}).piece refl refl) types_refusing refl refl)
    (λ more. first (token CloseRound) (λ c. give_it)) refl refl)) refl refl) refl refl) refl refl)

written_from : (m : Option Fault) (K : Written → Lang) (us : List Token) → written m K us → written_first m K us
written_from m K us (t, vs, e, i, inl j) = (t, vs, e, i, inl j)
written_from m K us (t, vs, e, i, inr (inr (inl (c, ws, e1, i1, (d, xs, e2, i2, j))))) = (t, vs, e, i, inr (inl (c, ws, e1, i1, (d, xs, e2, i2, j))))
written_from m K us (t, vs, e, i, inr (inr (inr j))) = (t, vs, e, i, inr (inr (inl j)))
written_from m K us (t, vs, e, i, inr (inl j)) = (t, vs, e, i, inr (inr (inr j)))

written_row : {av : Class → Bool} → Item written_at written (is OpenRound) av
written_row {av} = item_alike written written_is written_from written_item

call_word_item : {av : Class → Bool} → Item call_word_at call_word (is Call ∪ is TailWord) av
call_word_item {av} = item_or (token_item Call) (item_first (is TailWord) TailWord refl (λ o. first (token Call) (λ c. give_it))) refl

callee_piece : {av : Class → Bool} (o : Token) (t : Ty) (w : Option Written) → Piece (callee_at o t w) (callee o t w) (is Global) (is_word ∪ is Local) false av
callee_piece {av} o t w =
    recast (is Global) (is_word ∪ is Local) (first (unless_it (is_word ∪ is Local) (token Global) refl refl)
    (λ f. first (token OpenRound) (λ p. first (listed_by behind_argument (behind_argument ∪ is Comma) CloseRound refl refl refl refl refl (argument_piece refl)) (λ all. give_it)))) refl refl

dropped_callee_item : {av : Class → Bool} → Item dropped_callee_at dropped_callee (is DroppedGlobal) av
dropped_callee_item {av} = item_first (is DroppedGlobal) DroppedGlobal refl (λ f. first (token OpenRound) (λ p. skip_piece INNER_NESTING_LIMIT CloseRound refl))

pub call_item : {av : Class → Bool} → Item call_at call_head (is Call ∪ is TailWord) av
unfolding call_at
call_item {av} = item_then {av = none} call_word_item (λ o. next attributes_piece
    (λ u. first (type_piece NESTING_LIMIT) (λ t. next {av = is OpenRound} (or_else (item_then {av = none} written_row (λ w. give_it) refl refl) give_it refl refl)
    (λ w. or_else (item_then {av = none} dropped_callee_item (λ u. give_it) refl (within_none av)) (first (callee_piece o t w) (λ c. give_it)) refl refl) refl refl)) refl refl) refl refl
