-- The items are read as they are factored.
use Rattle.std.proofs.Common.{◌≡◌, Bool, true, false, refl, length}
use Rattle.pg_num.specs.declared.limits.TheConstants.{NESTING_LIMIT}
use Rattle.pg_read_grammar.specs.declared.class.Class.{Class}
use Rattle.pg_read_grammar.specs.declared.class.Class.TheVariants.{MetadataWord, TypeWord, Distinct, GlobalWord, ConstantWord, SourceFilename, Target, Declare, Define, Attributes, OtherWord}
use Rattle.pg_read_grammar.specs.declared.class.Class.TheVariants.{Dots, Str, Local, Global, Meta, Bang, Attr, Comma, Equals, OpenRound, CloseRound, OpenBrace, CloseBrace}
use Rattle.pg_read_grammar.specs.declared.nesting.TheConstants.{INNER_NESTING_LIMIT}
use Rattle.pg_read_grammar.specs.Classes.{is, is_word, none, ◌∪◌}
use Rattle.pg_read_grammar.specs.Grammar.{no_type, global_name, attribute_name, metadata_name}
use Rattle.pg_read_grammar.specs.GrammarItems.{param, dparam, constancy, node, no_item, global_head, declare_head, define_whole}
use Rattle.pg_read_grammar.specs.Reading.{run}
use Rattle.pg_read_grammar.specs.Reader.{begins_type, begins_attribute}
use Rattle.pg_read_grammar.specs.ReaderItems.{param_at, dparam_at, AfterItem, Done, Declared, Valued, Tailed, Items, items, empty, node_at, metadata_item_tail_at, constancy_at, global_item_at}
use Rattle.pg_read_grammar.specs.ReaderItems.{declare_item_at, define_item_at, type_item_at, attributes_item_at, text_item_at, begins_item, item_at, behind_attributes_at, next_item_by}
use Rattle.pg_read_grammar.specs.ReaderItems.{next_item_at, begins_after_item, begins_next_item, items_end_at}
use Rattle.pg_read_ast.specs.Syntax.{Tree}
use Rattle.pg_read_grammar.proofs.ClassTests.{within, apart}
use Rattle.pg_read_grammar.proofs.Pieces.{Piece, Item}
use Rattle.pg_read_grammar.proofs.Rules.{first, next, give_it, token, token_of, case, or_else, unless_it, recast, item_first, item_case, item_or, item_then}
use Rattle.pg_read_grammar.proofs.ChoicesPast.{item_past}
use Rattle.pg_read_grammar.proofs.StateLoops.{loops, loop_piece}
use Rattle.pg_read_grammar.proofs.Rows.{type_piece, skip_piece, listed_by, const_piece, attribute_item, behind_attribute, attributes_piece, behind_attributes}
use Rattle.pg_read_grammar.proofs.BodyLoops.{body_piece}
use Rattle.pg_read_grammar.proofs.ItemRests.{node_tail, type_whole, attributes_whole, text_whole, opened_item, behind_attributes_item, next_item_of}
use Rattle.pg_read_grammar.proofs.ItemRests.{next_item, items_end}

-- ---- parameters

-- what never stands behind a parameter
abbrev behind_param : Class → Bool
behind_param = behind_attributes ∪ is Local

param_piece : Piece param_at param begins_type no_type false behind_param
unfolding param_at
param_piece = first (type_piece NESTING_LIMIT) (λ t. next attributes_piece
    (λ u. next {av = is Local} (or_else (item_first (is Local) Local refl (λ n. give_it)) give_it refl refl) (λ name. give_it) refl refl) refl refl)

dparam_piece : Piece dparam_at dparam (is MetadataWord ∪ (is Dots ∪ begins_type)) no_type false behind_param
dparam_piece = case MetadataWord (λ t. give_it) (case Dots (λ t. give_it) (recast begins_type no_type (next param_piece (λ p. give_it) refl refl) refl refl) refl refl) refl refl

-- ---- items

node_item : {av : Class → Bool} → Item node_at node metadata_name av
node_item {av} = item_case Meta (λ m. first (token OpenRound) (λ o. skip_piece INNER_NESTING_LIMIT CloseRound refl))
    (item_first (is Bang) Bang refl (λ b. case OpenBrace (λ o. skip_piece INNER_NESTING_LIMIT CloseBrace refl)
    (first (token OpenRound) (λ o. skip_piece INNER_NESTING_LIMIT CloseRound refl)) refl refl)) refl

node_tail_piece : {av : Class → Bool} → Piece metadata_item_tail_at node_tail (is Equals) none false av
unfolding metadata_item_tail_at
node_tail_piece {av} = first (token Equals) (λ e. next {av = is Distinct} (or_else (item_first (is Distinct) Distinct refl (λ d. give_it)) give_it refl refl) (λ u. node_item.piece) refl refl)

constancy_item : {av : Class → Bool} → Item constancy_at constancy (is GlobalWord ∪ is ConstantWord) av
constancy_item {av} = item_case GlobalWord (λ g. give_it) (item_first (is ConstantWord) ConstantWord refl (λ c. give_it)) refl

pub global_head_item : {av : Class → Bool} → Item global_item_at global_head global_name av
unfolding global_item_at
global_head_item {av} = item_first global_name Global refl (λ n. first (token Equals)
    (λ e. next attributes_piece (λ u. first constancy_item.piece (λ c. first (type_piece NESTING_LIMIT) (λ t. first (const_piece NESTING_LIMIT) (λ v. give_it)))) refl refl))

pub declare_head_item : {av : Class → Bool} → Item declare_item_at declare_head (is Declare) av
unfolding declare_item_at
declare_head_item {av} =
    item_first (is Declare) Declare refl (λ d. next attributes_piece
    (λ u. first (type_piece NESTING_LIMIT) (λ t. first (token_of global_name Global refl)
    (λ n. first (token OpenRound) (λ o. first (listed_by behind_param (behind_param ∪ is Comma) CloseRound refl refl refl refl refl dparam_piece) (λ ps. give_it))))) refl refl)

pub define_item_row : {av : Class → Bool} → Item define_item_at define_whole (is Define) av
unfolding define_item_at
define_item_row {av} = item_first (is Define) Define refl (λ d. next attributes_piece
    (λ u. first (type_piece NESTING_LIMIT) (λ t. first (token_of global_name Global refl)
    (λ n. first (token OpenRound) (λ o. first (listed_by behind_param (behind_param ∪ is Comma) CloseRound refl refl refl refl refl (unless_it (is Dots) param_piece refl refl))
    (λ ps. next attributes_piece (λ u. first body_piece (λ bs. give_it)) refl refl))))) refl refl)

pub type_item_row : {av : Class → Bool} → Item type_item_at type_whole (is Local) av
unfolding type_item_at
type_item_row {av} = item_first (is Local) Local refl (λ n. first (token Equals) (λ e. first (token TypeWord) (λ w. first (type_piece NESTING_LIMIT) (λ t. give_it))))

pub attributes_item_row : {av : Class → Bool} → Item attributes_item_at attributes_whole (is Attributes) av
unfolding attributes_item_at
attributes_item_row {av} =
    item_first (is Attributes) Attributes refl (λ a. first (token_of attribute_name Attr refl)
    (λ n. first (token Equals) (λ e. first (token OpenBrace) (λ o. skip_piece INNER_NESTING_LIMIT CloseBrace refl))))

pub text_item_row : {av : Class → Bool} → Item text_item_at text_whole (is SourceFilename ∪ is Target) av
unfolding text_item_at
text_item_row {av} = item_case SourceFilename (λ s. first (token Equals) (λ e. first (token Str) (λ t. give_it)))
    (item_first (is Target) Target refl (λ t. first (token_of is_word OtherWord refl) (λ w. first (token Equals) (λ e. first (token Str) (λ t. give_it))))) refl

opened_item_row : (t : Tree) → Item (item_at t) (opened_item t) begins_item behind_attribute
unfolding item_at
opened_item_row t = item_or (item_first metadata_name Meta refl (λ m. first node_tail_piece (λ u. give_it)))
    (item_or (item_then {av = none} global_head_item (λ g. give_it) refl refl)
    (item_or (item_then {av = none} declare_head_item (λ d. give_it) refl refl) (item_or (item_then {av = none} define_item_row (λ d. give_it) refl refl)
    (item_or (item_then {av = none} type_item_row (λ n. give_it) refl refl)
    (item_or (item_then {av = none} attributes_item_row (λ u. give_it) refl refl) (item_then {av = none} text_item_row (λ u. give_it) refl refl) refl) refl) refl) refl) refl) refl

behind_attributes_row : (t : Tree) (after : AfterItem) → Item (behind_attributes_at t after) (behind_attributes_item t after) (metadata_name ∪ (begins_item ∪ begins_attribute)) behind_attribute
behind_attributes_row t after = item_past (item_first metadata_name Meta refl
    (λ m. or_else (item_first metadata_name Meta refl (λ m. give_it)) (first node_tail_piece (λ u. give_it)) refl refl))
    (item_past (opened_item_row t) (item_then attribute_item (λ u. give_it) refl refl))

next_item_row : (t : Tree) (after : AfterItem) → Item (next_item_by t after) (next_item_of t after) (begins_after_item after) behind_attribute
next_item_row t Done = opened_item_row t
next_item_row t Declared = behind_attributes_row t Declared
next_item_row t Valued = item_case Comma (λ c. give_it) (opened_item_row t) refl
next_item_row t Tailed = item_case Comma (λ c. give_it) (behind_attributes_row t Tailed) refl

-- what never follows the items
abbrev pub anything : Class → Bool
anything c = true

items_end_piece : (s : Items) → Piece (items_end_at s) (items_end s) none no_item true anything
items_end_piece s = recast none no_item (unless_it no_item give_it refl refl) refl refl

-- the items, from state to state
pub items_loop : Piece (λ ts. run begins_next_item next_item_at items_end_at (length ts) (items empty Done) ts) (loops next_item items_end (items empty Done)) begins_item no_item true anything
unfolding next_item_at
items_loop = recast begins_item no_item (loop_piece next_item_at next_item begins_next_item behind_attribute items_end_at items_end (λ s. none) (λ s. no_item) (λ s. true) anything
    (record {
      items = λ s. (next_item_row s.tree s.after).piece;
      gets = λ s. (next_item_row s.tree s.after).gets;
      tails = items_end_piece;
      clear = λ s. clear s.after;
      ends = λ s. ends s.after;
      items_behind = λ s. behind s.after;
      tails_behind = λ s. refl;
      ends_behind = λ s. refl;
    }) (items empty Done)) refl refl
  where
    clear : (a : AfterItem) → apart (begins_after_item a) none ≡ true
    clear Done = refl
    clear Declared = refl
    clear Valued = refl
    clear Tailed = refl

    ends : (a : AfterItem) → within (begins_after_item a) anything ≡ true
    ends Done = refl
    ends Declared = refl
    ends Valued = refl
    ends Tailed = refl

    behind : (a : AfterItem) → apart behind_attribute (begins_after_item a) ≡ true
    behind Done = refl
    behind Declared = refl
    behind Valued = refl
    behind Tailed = refl
