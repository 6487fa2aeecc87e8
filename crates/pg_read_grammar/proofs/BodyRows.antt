-- The parts of a body are read as they are factored.
use Rattle.std.proofs.Common.{◌≡◌, List, [], Option, Some, None, Bool, true, false, refl, length}
use Rattle.pg_read_grammar.specs.declared.nesting.TheConstants.{INNER_NESTING_LIMIT}
use Rattle.pg_read_grammar.specs.declared.token.Token.{Token}
use Rattle.pg_read_grammar.specs.declared.class.Class.{Class}
use Rattle.pg_read_grammar.specs.declared.class.Class.TheVariants.{Void, IntToPtr, GetElementPtr, Ret, Label, Local, DebugAttr, Comma, Equals, OpenRound, CloseRound, CloseBrace}
use Rattle.pg_read_grammar.specs.Classes.{is, none, ◌∪◌}
use Rattle.pg_read_grammar.specs.Language.{Gram}
use Rattle.pg_read_grammar.specs.GrammarOps.{no_op, op_word}
use Rattle.pg_read_grammar.specs.Reading.{Read, run}
use Rattle.pg_read_grammar.specs.ReaderItems.{After, Complete, Called, Returned, Body, complete, called_at, begins_certain, void_at, return_at, op_at, debug_tail_at, named_tail_at, begins_part}
use Rattle.pg_read_grammar.specs.ReaderItems.{part_at, behind_call_at, void_value_at, behind_void_at, next_part_by, next_part_at, begins_after, begins_next, body_end_at}
use Rattle.pg_read_lex.specs.declared.token.Span.{Span}
use Rattle.pg_read_ast.specs.Syntax.{Val, Block}
use Rattle.pg_read_ast.specs.declared.names.Name.{Name}
use Rattle.pg_read_grammar.proofs.ClassTests.{within_is, apart}
use Rattle.pg_read_grammar.proofs.Pieces.{Piece, Item}
use Rattle.pg_read_grammar.proofs.Rules.{first, next, give_it, token, case, or_else, unless_it, recast, item_first, item_case, item_or, item_then}
use Rattle.pg_read_grammar.proofs.ChoicesPast.{past_piece, item_past}
use Rattle.pg_read_grammar.proofs.StateLoops.{loops, loop_piece}
use Rattle.pg_read_grammar.proofs.Rows.{gep_tail_item, int_to_ptr_tail_item, other_value_piece, certain_item, flags_piece, skip_piece, attribute_item, behind_attribute}
use Rattle.pg_read_grammar.proofs.OpRows.{typed_value_piece, metadata_piece, metadata_tail_item, cast_tail_piece, gep_op_tail_piece, simple_op_item, call_item}
use Rattle.pg_read_grammar.proofs.BodyRests.{called, void_line, void_end, return_line, op_part, debug_tail, named_tail, opened, behind_call, behind_void, next_by, next_part, body_end}

-- what never begins a part
abbrev pub behind_part : Class → Bool
behind_part = is Comma ∪ (behind_attribute ∪ begins_certain)

called_piece : (bs : List Block) → Piece (called_at bs) (called bs) (is Comma) none true behind_part
called_piece bs = recast (is Comma) none (case Comma (λ c. next {av = is Comma} metadata_tail_item.piece (λ u. give_it) refl refl) give_it refl refl) refl refl

void_line_item : {r : List Token → Read Val} {g : Gram Val} {fi : Class → Bool} (bs : List Block) (name : Option Name) (o void : Span) → Item r g fi none
    → Item (void_value_at bs name o void r) (void_line bs name o void g) fi behind_part
void_line_item bs name o void e = item_then e (λ v. next {av = is Comma} (metadata_piece refl) (λ u. give_it) refl refl) refl refl

void_piece : (bs : List Block) (name : Option Name) (o void : Span) → Piece (void_at bs name o void) (void_end bs name o void) (begins_certain ∪ is Comma) none true behind_part
void_piece bs name o void =
    recast (begins_certain ∪ is Comma) none (or_else (item_then {av = none} certain_item (λ v. next {av = is Comma} (metadata_piece refl) (λ u. give_it) refl refl) refl refl)
    (case Comma (λ c. next {av = is Comma} metadata_tail_item.piece (λ u. give_it) refl refl) give_it refl refl) refl refl) refl refl

return_item : (bs : List Block) (name : Option Name) → Item (return_at bs name) (return_line bs name) (is Ret) behind_part
unfolding return_at
return_item bs name = item_first (is Ret) Ret refl (λ o. past_piece _ _ _ behind_part _ _ _ _ (is Comma) behind_part
    (item_first (is Void) Void refl (λ t. void_piece bs name o.span t.span)).piece (item_first (is Void) Void refl (λ t. void_piece bs name o.span t.span)).gets
    (first typed_value_piece (λ v. next {av = is Comma} (metadata_piece refl) (λ u. give_it) refl refl)) refl refl)

pub op_item : (bs : List Block) (name : Option Name) → Item (op_at bs name) (op_part bs name) op_word behind_part
unfolding op_at
op_item bs name = item_or (item_then {av = none} call_item (λ c. called_piece _) refl refl) (item_or (return_item bs name) (item_then simple_op_item (λ o. give_it) refl refl) refl) refl

debug_tail_item : (bs : List Block) → Item (debug_tail_at bs) (debug_tail bs) (is OpenRound) behind_part
debug_tail_item bs = item_first (is OpenRound) OpenRound refl (λ o. first (skip_piece INNER_NESTING_LIMIT CloseRound refl) (λ u. give_it))

named_tail_piece : (bs : List Block) (name : Name) → Piece (named_tail_at bs name) (named_tail bs name) (is Equals) none false behind_part
named_tail_piece bs name = first (token Equals) (λ e. unless_it no_op (op_item bs (Some name)).piece refl refl)

part_item : (bs : List Block) → Item (part_at bs) (opened bs) begins_part behind_part
unfolding part_at
part_item bs = item_case Label (λ t. give_it) (item_case DebugAttr (λ t. (debug_tail_item bs).piece) (item_case Local (λ t. named_tail_piece bs _) (op_item bs None) refl) refl) refl

behind_call_item : (bs : List Block) → Item (behind_call_at bs) (behind_call bs) (begins_after Called) behind_part
behind_call_item bs = item_past (item_first (is DebugAttr) DebugAttr refl (λ t. or_else (debug_tail_item bs) (called_piece bs) refl refl))
    (item_past (part_item bs) (item_then attribute_item (λ u. called_piece bs) refl refl))

behind_void_item : (bs : List Block) (name : Option Name) (o void : Span) → Item (behind_void_at bs name o void) (behind_void bs name o void) begins_part behind_part
behind_void_item bs name o void = larger (item_past
    (item_first (is Local) Local refl (λ t. case Equals (λ e. unless_it no_op (op_item _ (Some _)).piece refl refl) (next {av = is Comma} (metadata_piece refl) (λ u. give_it) refl refl) refl refl))
    (item_past (item_first (is GetElementPtr) GetElementPtr refl
    (λ t. next flags_piece (λ f. or_else (void_line_item bs name o void (gep_tail_item INNER_NESTING_LIMIT (other_value_piece INNER_NESTING_LIMIT) t))
    (next {av = is Comma} (gep_op_tail_piece t) (λ p. give_it) refl refl) refl refl) refl refl))
    (item_past (item_first (is IntToPtr) IntToPtr refl (λ t. or_else (void_line_item bs name o void (int_to_ptr_tail_item INNER_NESTING_LIMIT t))
    (first (cast_tail_piece t) (λ p. next {av = is Comma} (metadata_piece refl) (λ u. give_it) refl refl)) refl refl)) (part_item _))))
  where
    larger : Item (behind_void_at bs name o void) (behind_void bs name o void) (is Local ∪ (is GetElementPtr ∪ (is IntToPtr ∪ begins_part))) behind_part
        → Item (behind_void_at bs name o void) (behind_void bs name o void) begins_part behind_part
    larger e = record {
      piece = recast begins_part none e.piece refl refl;
      gets = record { on = λ t ts i. e.gets.on t ts (within_is begins_part (is Local ∪ (is GetElementPtr ∪ (is IntToPtr ∪ begins_part))) refl t.class i) };
    }

next_item : (bs : List Block) (after : After) → Item (next_part_by bs after) (next_by bs after) (begins_after after) behind_part
next_item bs Complete = part_item bs
next_item bs Called = behind_call_item bs
next_item bs (Returned name o void) = behind_void_item bs name o void

body_end_piece : {av : Class → Bool} (b : Body) → Piece (body_end_at b) (body_end b) (is CloseBrace) no_op false av
body_end_piece {av} b = recast (is CloseBrace) no_op (unless_it no_op (first (token CloseBrace) (λ c. give_it)) refl refl) refl refl

-- the parts up to the closing brace, from state to state
pub body_loop : {av : Class → Bool} → Piece (λ ts. run begins_next next_part_at body_end_at (length ts) (complete []) ts) (loops next_part body_end (complete []))
    (begins_part ∪ is CloseBrace) no_op false av
unfolding next_part_at
body_loop {av} = loop_piece next_part_at next_part begins_next behind_part body_end_at body_end (λ s. is CloseBrace) (λ s. no_op) (λ s. false) av
    (record {
      items = λ s. (next_item s.blocks s.after).piece;
      gets = λ s. (next_item s.blocks s.after).gets;
      tails = λ s. body_end_piece s;
      clear = λ s. clear s.after;
      ends = λ s. refl;
      items_behind = λ s. behind s.after;
      tails_behind = λ s. refl;
      ends_behind = λ s. refl;
    }) (complete [])
  where
    clear : (a : After) → apart (begins_after a) (is CloseBrace) ≡ true
    clear Complete = refl
    clear Called = refl
    clear (Returned name o void) = refl

    behind : (a : After) → apart behind_part (begins_after a) ≡ true
    behind Complete = refl
    behind Called = refl
    behind (Returned name o void) = refl
