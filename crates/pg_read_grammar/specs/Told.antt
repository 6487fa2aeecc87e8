-- What is said of a refused text.
use Rattle.std.specs.Prelude.{◌≡◌, ℕ, List, Option, Some, None}
use Rattle.pg_read_lex.specs.declared.token.Span.{Span}
use Rattle.pg_read_lex.specs.declared.token.LexFault.{LexFault}
use Rattle.pg_read_lex.specs.declared.token.LexFault.TheVariants as lexical
use Rattle.pg_read_grammar.specs.declared.token.Token.{Token}
use Rattle.pg_read_grammar.specs.declared.token.Fault.{Fault}
use Rattle.pg_read_grammar.specs.declared.token.Fault.TheVariants as fault
use Rattle.pg_read_grammar.specs.declared.fault.ReadFault.{ReadFault}
use Rattle.pg_read_grammar.specs.declared.fault.ReadFault.TheVariants.{BadByte, OpenString, Unexpected, Unsupported, TooDeep, OutOfMemory}
use Rattle.pg_read_grammar.specs.Reading.{Bad}
use Rattle.pg_read_grammar.specs.ReaderItems.{program_at}
use Rattle.pg_read_grammar.specs.Answers.{ended}
use Rattle.pg_read_grammar.specs.Accepted.{place_of}

-- what is said of a fault at a place
abbrev pub told : Option Fault → Span → ReadFault
told None place = Unexpected place.start
told (Some fault.Unsupported) place = Unsupported place
told (Some fault.TooDeep) place = TooDeep place.start

abbrev pub lexical_of : LexFault → ReadFault
lexical_of (lexical.BadByte at) = BadByte at
lexical_of (lexical.OpenString at) = OpenString at
lexical_of lexical.OutOfMemory = OutOfMemory

-- this is said of the first refused one of these tokens of a text
abbrev pub IsTold : List ℕ → List Token → ReadFault → Type 0
IsTold text ts e = (f : Option Fault) × (rest : List Token) × (ended (program_at ts) ≡ Bad f rest) × (e ≡ told f (place_of text rest))
