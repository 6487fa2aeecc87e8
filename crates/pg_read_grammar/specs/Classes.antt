-- Classes of tokens, and sets of them.
use Rattle.std.specs.Prelude.{ℕ, Bool, true, false, ◌||◌, ◌==◌}
use denote.Enum.Declared.{tag_of}
use Rattle.pg_read_grammar.specs.contracts.class.Class.{the_type}
use Rattle.pg_read_grammar.specs.declared.class.Class.{Class}
use Rattle.pg_read_grammar.specs.declared.class.Class.TheVariants.{Label, Int, Dots, CStr, Odd, Str, Local, Global}
use Rattle.pg_read_grammar.specs.declared.class.Class.TheVariants.{DroppedGlobal, Meta, Bang, Attr, DebugAttr, OpenRound}
use Rattle.pg_read_grammar.specs.declared.class.Class.TheVariants.{CloseRound, OpenBrace, CloseBrace, OpenSquare}
use Rattle.pg_read_grammar.specs.declared.class.Class.TheVariants.{CloseSquare, Less, Greater, Comma, Equals, Star, Bar}
use Rattle.pg_read_grammar.specs.declared.class.Class.TheVariants.{Colon}

-- the number of a class, in the order of their declaration
abbrev pub code : Class → ℕ
code = tag_of the_type

abbrev pub is : Class → Class → Bool
is wanted c = code c == code wanted

abbrev pub none : Class → Bool
none c = false

infixl 8 ◌∪◌
abbrev pub ◌∪◌ : (Class → Bool) → (Class → Bool) → Class → Bool
(p ∪ q) c = p c || q c

-- the words
abbrev pub is_word : Class → Bool
is_word Label = false
is_word Int = false
is_word Dots = false
is_word CStr = false
is_word Odd = false
is_word Str = false
is_word Local = false
is_word Global = false
is_word DroppedGlobal = false
is_word Meta = false
is_word Bang = false
is_word Attr = false
is_word DebugAttr = false
is_word OpenRound = false
is_word CloseRound = false
is_word OpenBrace = false
is_word CloseBrace = false
is_word OpenSquare = false
is_word CloseSquare = false
is_word Less = false
is_word Greater = false
is_word Comma = false
is_word Equals = false
is_word Star = false
is_word Bar = false
is_word Colon = false
is_word _ = true
