-- The argument of a call: its attributes and its value, which may both begin with an integer.
use Rattle.std.proofs.Common.{◌≡◌, ℕ, zero, suc, List, Option, Bool, true, false, refl, inl, inr, if◌then◌else◌, length}
use Rattle.pg_num.specs.declared.limits.TheConstants.{NESTING_LIMIT}
use Rattle.pg_read_grammar.specs.declared.nesting.TheConstants.{INNER_NESTING_LIMIT}
use Rattle.pg_read_grammar.specs.declared.token.Token.{Token}
use Rattle.pg_read_grammar.specs.declared.class.Class.{Class}
use Rattle.pg_read_grammar.specs.declared.token.Fault.{Fault}
use Rattle.pg_read_grammar.specs.declared.token.Fault.TheVariants.{Unsupported}
use Rattle.pg_read_grammar.specs.declared.class.Class.TheVariants.{Refused, OtherWord, Attr, Meta, Int, Str, Equals, OpenRound, CloseRound}
use Rattle.pg_read_grammar.specs.Classes.{is, none, ◌∪◌}
use Rattle.pg_read_grammar.specs.Language.{Gram, Lang, one, give, refused, ◌or◌, ◌>>=◌, times}
use Rattle.pg_read_grammar.specs.Grammar.{skip_to, attribute, attribute_word, attribute_name, metadata_name, attributes, argument, no_type, drop_value, other_value_in, value_in, literal_of}
use Rattle.pg_read_grammar.specs.Reading.{Good, run}
use Rattle.pg_read_grammar.specs.Reader.{Pending, Fresh, Bare, Quoted, Held, fresh_at, pending_at, begins_fresh, begins_pending, begins_type, begins_value, settled_at, value_at}
use Rattle.pg_read_grammar.specs.Reader.{attributed_at, argument_at}
use Rattle.pg_read_grammar.proofs.ClassTests.{within, apart, apart_none, apart_from_none}
use Rattle.pg_read_grammar.proofs.Pieces.{Piece, Item}
use Rattle.pg_read_grammar.proofs.Choices.{choose_piece}
use Rattle.pg_read_grammar.proofs.Rules.{first, next, give_it, token, unless_it, recast, item_first, item_case, item_or, token_of, alike}
use Rattle.pg_read_grammar.proofs.StateLoops.{loop, loops, States, loop_piece}
use Rattle.pg_read_grammar.proofs.Linear.{Linear, linear_give, linear_one, linear_then, linear_or}
use Rattle.pg_read_grammar.proofs.LinearRows.{linear_skip, linear_attribute}
use Rattle.pg_read_grammar.proofs.Rows.{type_piece, skip_piece, value_piece, other_value_piece, begins_other, value_gets}
use Rattle.pg_read_ast.specs.Syntax.{Val}
use Rattle.pg_read_ast.specs.Syntax as syntax

abbrev fresh : Gram Pending
fresh = (do
  _ ← one attribute_word
  give Bare) or ((do
    _ ← one attribute_name
    give Fresh) or ((do
      _ ← one (is Str)
      give Quoted) or (do
        _ ← one metadata_name
        _ ← one metadata_name
        give Fresh)))

abbrev pub pending : Pending → Gram Pending
pending Fresh = fresh
pending Bare = (do
  n ← one (is Int)
  give (Held n)) or ((do
    _ ← one (is OpenRound)
    _ ← skip_to INNER_NESTING_LIMIT CloseRound
    give Fresh) or fresh)
pending Quoted = (do
  _ ← one (is Equals)
  _ ← one (is Str)
  give Fresh) or fresh
pending (Held n) = fresh

abbrev pub settled : Pending → Gram Val
settled Fresh = value_in NESTING_LIMIT or refused Unsupported (is Refused)
settled Bare = other_value_in NESTING_LIMIT or refused Unsupported (is Refused)
settled Quoted = value_in NESTING_LIMIT or refused Unsupported (is Refused)
settled (Held n) = (value_in NESTING_LIMIT or give (syntax.Int (literal_of n))) or refused Unsupported (is Refused)

fresh_item : Item fresh_at fresh begins_fresh none
fresh_item = item_or (item_first attribute_word OtherWord refl (λ t. give_it))
    (item_or (item_first attribute_name Attr refl (λ t. give_it))
    (item_case Str (λ t. give_it) (item_first metadata_name Meta refl (λ t. first {aw = none} (token_of metadata_name Meta refl) (λ u. give_it))) refl) refl) refl

pending_item : (s : Pending) → Item (pending_at s) (pending s) (begins_pending s) none
unfolding pending_at
pending_item Fresh = fresh_item
pending_item Bare = item_case Int (λ n. give_it) (item_case OpenRound (λ o. first (skip_piece INNER_NESTING_LIMIT CloseRound refl) (λ u. give_it)) fresh_item refl) refl
pending_item Quoted = item_case Equals (λ t. first (token Str) (λ u. give_it)) fresh_item refl
pending_item (Held n) = fresh_item

-- what never comes behind an argument
abbrev pub behind_argument : Class → Bool
behind_argument = begins_value ∪ (is Refused ∪ begins_fresh)

abbrev begins_settled : Pending → Class → Bool
begins_settled Fresh = begins_value
begins_settled Bare = begins_other
begins_settled Quoted = begins_value
begins_settled (Held n) = begins_value

abbrev may_settle : Pending → Bool
may_settle Fresh = false
may_settle Bare = false
may_settle Quoted = false
may_settle (Held n) = true

settled_piece : (s : Pending) → Piece (settled_at s) (settled s) (begins_settled s) (is Refused) (may_settle s) behind_argument
unfolding settled_at
settled_piece Fresh = recast begins_value (is Refused) (unless_it (is Refused) (value_piece NESTING_LIMIT) refl refl) refl refl
settled_piece Bare = recast begins_other (is Refused) (unless_it (is Refused) (other_value_piece NESTING_LIMIT) refl refl) refl refl
settled_piece Quoted = recast begins_value (is Refused) (unless_it (is Refused) (value_piece NESTING_LIMIT) refl refl) refl refl
settled_piece (Held n) = recast begins_value (is Refused) (unless_it (is Refused)
    (choose_piece (value_at NESTING_LIMIT) (value_in NESTING_LIMIT) begins_value behind_argument (λ ts. Good (syntax.Int (literal_of n)) ts)
    (give (syntax.Int (literal_of n))) none none true behind_argument behind_argument (value_piece NESTING_LIMIT) (value_gets INNER_NESTING_LIMIT) give_it refl refl refl refl) refl refl) refl refl

states : States pending_at pending begins_pending none settled_at settled begins_settled (λ s. is Refused) may_settle behind_argument
states = record {
  items = λ s. (pending_item s).piece;
  gets = λ s. (pending_item s).gets;
  tails = settled_piece;
  clear = clear;
  ends = ends;
  items_behind = λ s. apart_from_none (begins_pending s);
  tails_behind = λ s. apart_from_none (begins_settled s);
  ends_behind = λ s. either (may_settle s);
}
  where
    clear : (s : Pending) → apart (begins_pending s) (begins_settled s) ≡ true
    clear Fresh = refl
    clear Bare = refl
    clear Quoted = refl
    clear (Held n) = refl

    either : (v : Bool) → (if v then within none behind_argument else true) ≡ true
    either true = refl
    either false = refl

    ends : (s : Pending) → (if may_settle s then within (begins_pending s) behind_argument else true) ≡ true
    ends Fresh = refl
    ends Bare = refl
    ends Quoted = refl
    ends (Held n) = refl

-- the attributes and the value, read from state to state
pub settled_loop : Piece (λ ts. run begins_pending pending_at settled_at (length ts) Fresh ts) (loops pending settled Fresh) (begins_fresh ∪ begins_value) (is Refused) false behind_argument
settled_loop = loop_piece pending_at pending begins_pending none settled_at settled begins_settled (λ s. is Refused) may_settle behind_argument states Fresh

-- ---- the same lists as the grammar's attributes and value

linear_fresh : Linear fresh
linear_fresh = linear_or (linear_then (linear_one attribute_word) (λ t. linear_give Bare))
    (linear_or (linear_then (linear_one attribute_name) (λ t. linear_give Fresh)) (linear_or (linear_then (linear_one (is Str)) (λ t. linear_give Quoted))
    (linear_then (linear_one metadata_name) (λ t. linear_then (linear_one metadata_name) (λ u. linear_give Fresh)))))

linear_pending : (s : Pending) → Linear (pending s)
linear_pending Fresh = linear_fresh
linear_pending Bare = linear_or (linear_then (linear_one (is Int)) (λ n. linear_give (Held n)))
    (linear_or (linear_then (linear_one (is OpenRound)) (λ o. linear_then (linear_skip INNER_NESTING_LIMIT CloseRound) (λ u. linear_give Fresh))) linear_fresh)
linear_pending Quoted = linear_or (linear_then (linear_one (is Equals)) (λ t. linear_then (linear_one (is Str)) (λ u. linear_give Fresh))) linear_fresh
linear_pending (Held n) = linear_fresh

abbrev pub attributed : Gram Val
attributed = do
  _ ← attributes
  value_in NESTING_LIMIT

abbrev option_after_word : Gram (Unit {0})
option_after_word = (drop_value (one (is Int))) or ((do
  _ ← one (is OpenRound)
  skip_to INNER_NESTING_LIMIT CloseRound) or give tt)

abbrev option_after_text : Gram (Unit {0})
option_after_text = (do
  _ ← one (is Equals)
  drop_value (one (is Str))) or give tt

-- what is left of the attributes and the value, state by state
abbrev left : Pending → Gram Val
left Fresh = attributed
left Bare = do
  _ ← option_after_word
  attributed
left Quoted = do
  _ ← option_after_text
  attributed
left (Held n) = attributed or give (syntax.Int (literal_of n))

abbrev Value : Option Fault → (Val → Lang) → Lang
Value m K us = (value_in NESTING_LIMIT or refused Unsupported (is Refused)) m K us

abbrev Attributes : ℕ → Option Fault → (Val → Lang) → Lang
Attributes n m K us = times attribute n m (λ all. Value m K) us

fresh_left : (m : Option Fault) (K : Val → Lang) (us : List Token) → fresh m (λ s. left s m K) us → attributed m K us
fresh_left m K us (inl (t, vs, e, i, inl (t2, ws, e2, i2, (k, j)))) = (suc k, inl (t, vs, e, i, inl (t2, ws, e2, i2, j)))
fresh_left m K us (inl (t, vs, e, i, inr (inl (t2, ws, e2, i2, j)))) = let q =
    (linear_skip INNER_NESTING_LIMIT CloseRound).pick m (λ n u. Attributes n m K) ws j in (suc q.0, inl (t, vs, e, i, inr (inl (t2, ws, e2, i2, q.1))))
fresh_left m K us (inl (t, vs, e, i, inr (inr (k, j)))) = (suc k, inl (t, vs, e, i, inr (inr j)))
fresh_left m K us (inr (inl (t, vs, e, i, (k, j)))) = (suc k, inr (inl (t, vs, e, i, j)))
fresh_left m K us (inr (inr (inl (t, vs, e, i, inl (t2, ws, e2, i2, (t3, xs, e3, i3, (k, j))))))) = (suc k, inr (inr (inl (t, vs, e, i, inl (t2, ws, e2, i2, (t3, xs, e3, i3, j))))))
fresh_left m K us (inr (inr (inl (t, vs, e, i, inr (k, j))))) = (suc k, inr (inr (inl (t, vs, e, i, inr j))))
fresh_left m K us (inr (inr (inr (t, vs, e, i, (t2, ws, e2, i2, (k, j)))))) = (suc k, inr (inr (inr (t, vs, e, i, (t2, ws, e2, i2, j)))))

pending_left : (s : Pending) (m : Option Fault) (K : Val → Lang) (us : List Token) → pending s m (λ s'. left s' m K) us → left s m K us
pending_left Fresh m K us j = fresh_left m K us j
pending_left Bare m K us (inl (t, vs, e, i, inl j)) = inl (t, vs, e, i, j)
pending_left Bare m K us (inl (t, vs, e, i, inr k)) = inr (inr (0, inl (inl (t, vs, e, i, k))))
pending_left Bare m K us (inr (inl j)) = inr (inl j)
pending_left Bare m K us (inr (inr j)) = inr (inr (fresh_left m K us j))
pending_left Quoted m K us (inl j) = inl j
pending_left Quoted m K us (inr j) = inr (fresh_left m K us j)
pending_left (Held n) m K us j = inl (fresh_left m K us j)

settled_left : (s : Pending) (m : Option Fault) (K : Val → Lang) (us : List Token) → settled s m K us → left s m K us
settled_left Fresh m K us j = (0, j)
settled_left Bare m K us (inl j) = inr (inr (0, inl (inr j)))
settled_left Bare m K us (inr j) = inr (inr (0, inr j))
settled_left Quoted m K us j = inr (0, j)
settled_left (Held n) m K us (inl (inl j)) = inl (0, inl j)
settled_left (Held n) m K us (inl (inr k)) = inr k
settled_left (Held n) m K us (inr j) = inl (0, inr j)

loop_left : (n : ℕ) (s : Pending) (m : Option Fault) (K : Val → Lang) (us : List Token) → loop pending settled n s m K us → left s m K us
loop_left zero s m K us j = settled_left s m K us j
loop_left (suc n) s m K us j = pending_left s m K us ((linear_pending s).mono m (λ s'. loop pending settled n s' m K) (λ s'. left s' m K) (λ s' vs i. loop_left n s' m K vs i) us j)

-- and back
to_held : (n : ℕ) (t : Token) (m : Option Fault) (K : Val → Lang) (us : List Token) → loop pending settled n Fresh m K us → loop pending settled n (Held t) m K us
to_held zero t m K us (inl j) = inl (inl j)
to_held zero t m K us (inr j) = inr j
to_held (suc n) t m K us j = j

to_quoted : (n : ℕ) (m : Option Fault) (K : Val → Lang) (us : List Token) → loop pending settled n Fresh m K us → loop pending settled n Quoted m K us
to_quoted zero m K us j = j
to_quoted (suc n) m K us j = inr j

to_bare : (n : ℕ) (m : Option Fault) (K : Val → Lang) (us : List Token) → loop pending settled n Fresh m K us → loops pending settled Bare m K us
to_bare zero m K us (inl (inl (t, vs, e, i, k))) = (1, inl (t, vs, e, i, inl (inr k)))
to_bare zero m K us (inl (inr j)) = (0, inl j)
to_bare zero m K us (inr j) = (0, inr j)
to_bare (suc n) m K us j = (suc n, inr (inr j))

attribute_loops : (m : Option Fault) (K : Val → Lang) (us : List Token) → attribute m (λ u. loops pending settled Fresh m K) us → loops pending settled Fresh m K us
attribute_loops m K us (inl (t, vs, e, i, inl (t2, ws, e2, i2, (k, j)))) = (suc (suc k), inl (t, vs, e, i, inl (t2, ws, e2, i2, to_held k t2 m K ws j)))
attribute_loops m K us (inl (t, vs, e, i, inr (inl (t2, ws, e2, i2, j)))) = let q =
    (linear_skip INNER_NESTING_LIMIT CloseRound).pick m (λ n u. loop pending settled n Fresh m K) ws j in (suc (suc q.0), inl (t, vs, e, i, inr (inl (t2, ws, e2, i2, q.1))))
attribute_loops m K us (inl (t, vs, e, i, inr (inr (k, j)))) = let q = to_bare k m K vs j in (suc q.0, inl (t, vs, e, i, q.1))
attribute_loops m K us (inr (inl (t, vs, e, i, (k, j)))) = (suc k, inr (inl (t, vs, e, i, j)))
attribute_loops m K us (inr (inr (inl (t, vs, e, i, inl (t2, ws, e2, i2, (t3, xs, e3, i3, (k, j))))))) = (suc (suc k), inr (inr (inl (t, vs, e, i, inl (t2, ws, e2, i2, (t3, xs, e3, i3, j))))))
attribute_loops m K us (inr (inr (inl (t, vs, e, i, inr (k, j))))) = (suc k, inr (inr (inl (t, vs, e, i, to_quoted k m K vs j))))
attribute_loops m K us (inr (inr (inr (t, vs, e, i, (t2, ws, e2, i2, (k, j)))))) = (suc k, inr (inr (inr (t, vs, e, i, (t2, ws, e2, i2, j)))))

times_loops : (n : ℕ) (m : Option Fault) (K : Val → Lang) (us : List Token) → Attributes n m K us → loops pending settled Fresh m K us
times_loops zero m K us j = (0, j)
times_loops (suc n) m K us j = attribute_loops m K us (linear_attribute.mono m (λ u. Attributes n m K) (λ u. loops pending settled Fresh m K) (λ u vs i. times_loops n m K vs i) us j)

-- attributes and a value are read from state to state
pub attributed_piece : Piece attributed_at attributed (begins_fresh ∪ begins_value) (is Refused) false behind_argument
unfolding attributed_at
attributed_piece = alike attributed (λ m K us j. loop_left j.0 Fresh m K us j.1) (λ m K us j. times_loops j.0 m K us j.1) settled_loop

pub argument_piece : {av : Class → Bool} → within behind_argument av ≡ true → Piece argument_at argument begins_type no_type false av
argument_piece {av} w = recast begins_type no_type (first (type_piece NESTING_LIMIT) (λ t. next attributed_piece (λ v. give_it) (apart_none behind_argument) w)) refl refl
