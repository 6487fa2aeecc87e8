-- What a text leaves out: attributes, flags, metadata.
use Rattle.std.proofs.Common.{ℕ, zero, suc, List, Bool}
use Rattle.pg_read_grammar.specs.declared.class.Class.{Class}
use Rattle.pg_read_grammar.specs.declared.class.Class.TheVariants.{Flag, Comma, OpenRound, CloseRound, OpenBrace, CloseBrace, OpenSquare, CloseSquare}
use Rattle.pg_read_grammar.specs.declared.nesting.TheConstants.{INNER_NESTING_LIMIT}
use Rattle.pg_read_grammar.specs.Classes.{is}
use Rattle.pg_read_grammar.specs.Language.{Gram, one, ◌or◌}
use Rattle.pg_read_grammar.specs.Language.{◌>>=◌ as ◌then◌}
use Rattle.pg_read_grammar.specs.Grammar.{plain, drop_value, skip_to, metadata_name, attribute, attributes, flags}
use Rattle.pg_read_grammar.specs.GrammarItems.{metadata}
use Rattle.pg_law_canonical.proofs.ReadAgain.{Again, left_text, none_text}
use Rattle.pg_law_canonical.proofs.CommaLists.{mark_then}
use Rattle.pg_law_canonical.proofs.PieceYields.{Yields, Any, yields_give, yields_one, yields_then, yields_or, yields_refused, yields_many}

-- ---- what is left out may be left out

pub no_flags : {A : Type 0} {before : List ℕ → Bool} {Q : A → Type 0} {h : Gram A} {more : List ℕ} → Again before h more Q → Again before (flags then (λ u. h)) more Q
no_flags {A} {before} {Q} {h} {more} e = mark_then (none_text (one (is Flag))) (λ fs _. e)

pub no_attributes : {A : Type 0} {before : List ℕ → Bool} {Q : A → Type 0} {h : Gram A} {more : List ℕ} → Again before h more Q → Again before (attributes then (λ u. h)) more Q
no_attributes {A} {before} {Q} {h} {more} e = mark_then (none_text attribute) (λ all _. left_text e)

pub no_metadata : {A : Type 0} {before : List ℕ → Bool} {Q : A → Type 0} {h : Gram A} {more : List ℕ} → Again before h more Q → Again before (metadata then (λ u. h)) more Q
no_metadata {A} {before} {Q} {h} {more} e = mark_then (none_text (one (is Comma) then (λ c. one metadata_name then (λ m. one metadata_name)))) (λ all _. e)

-- ---- the tokens behind it

abbrev skipped : ℕ → Gram (Unit {0})
skipped d = (one (is OpenRound) then (λ o. skip_to d CloseRound)) or
    ((one (is OpenSquare) then (λ o. skip_to d CloseSquare)) or ((one (is OpenBrace) then (λ o. skip_to d CloseBrace)) or drop_value (one plain)))

pub skip_yields : (d : ℕ) (close : Class) → Yields (skip_to d close) Any
unfolding skip_to
skip_yields zero close = yields_then (yields_many (yields_one {test = plain})) (λ ys _. yields_or (yields_then yields_one (λ c _. yields_give tt)) (yields_refused _ _))
skip_yields (suc d) close = yields_then (yields_many (inner d (skip_yields d CloseRound) (skip_yields d CloseSquare) (skip_yields d CloseBrace)))
    (λ ys _. yields_then yields_one (λ c _. yields_give tt))
  where
    inner : (n : ℕ) → Yields (skip_to n CloseRound) Any → Yields (skip_to n CloseSquare) Any → Yields (skip_to n CloseBrace) Any → Yields (skipped n) Any
    inner n a b c = yields_or (yields_then yields_one (λ o _. a))
        (yields_or (yields_then yields_one (λ o _. b)) (yields_or (yields_then yields_one (λ o _. c)) (yields_then yields_one (λ t _. yields_give tt))))

attribute_yields : Yields attribute Any
attribute_yields = yields_or (yields_then yields_one
    (λ w _. yields_or (yields_then yields_one (λ n _. yields_give tt)) (yields_or (yields_then yields_one (λ o _. skip_yields INNER_NESTING_LIMIT CloseRound)) (yields_give tt))))
    (yields_or (yields_then yields_one (λ a _. yields_give tt))
    (yields_or (yields_then yields_one (λ s _. yields_or (yields_then yields_one (λ e _. yields_then yields_one (λ t _. yields_give tt))) (yields_give tt)))
    (yields_then yields_one (λ m _. yields_then yields_one (λ n _. yields_give tt)))))

pub flags_then : {A : Type 0} {Q : A → Type 1} {h : Gram A} → Yields h Q → Yields (flags then (λ u. h)) Q
flags_then {A} {Q} {h} e = yields_then (yields_many (yields_one {test = is Flag})) (λ fs _. e)

pub attributes_then : {A : Type 0} {Q : A → Type 1} {h : Gram A} → Yields h Q → Yields (attributes then (λ u. h)) Q
attributes_then {A} {Q} {h} e = yields_then (yields_many attribute_yields) (λ all _. yields_or e (yields_refused _ _))

pub metadata_then : {A : Type 0} {Q : A → Type 1} {h : Gram A} → Yields h Q → Yields (metadata then (λ u. h)) Q
metadata_then {A} {Q} {h} e = yields_then (yields_many
    (yields_then (yields_one {test = is Comma}) (λ c _. yields_then (yields_one {test = metadata_name}) (λ m _. yields_one {test = metadata_name})))) (λ all _. e)

pub attributes_yields : Yields attributes Any
attributes_yields = yields_then (yields_many attribute_yields) (λ all _. yields_or (yields_give tt) (yields_refused _ _))
