-- Which module a text is, and where a text that is none is refused first.
use Rattle.std.specs.Prelude.{◌≡◌, ℕ, List, [], ◌∷◌, ◌++◌, Option, Some, None, length, Ok, Err}
use Rattle.pg_read_lex.specs.declared.token.Span.{Span}
use Rattle.pg_read_lex.specs.declared.token.Token.{Token as Lexed}
use Rattle.pg_read_lex.specs.declared.token.LexFault.TheVariants as lexical
use Rattle.pg_read_lex.specs.Tokens.{tokens}
use Rattle.pg_read_ast.specs.Syntax.{Tree}
use Rattle.pg_read_grammar.specs.declared.token.Token.{Token}
use Rattle.pg_read_grammar.specs.declared.token.Fault.{Fault}
use Rattle.pg_read_grammar.specs.declared.token.Fault.TheVariants as fault
use Rattle.pg_read_grammar.specs.declared.fault.ReadFault.{ReadFault}
use Rattle.pg_read_grammar.specs.declared.fault.ReadFault.TheVariants.{BadByte, OpenString, Unexpected, Unsupported, TooDeep, OutOfMemory}
use Rattle.pg_read_grammar.specs.GrammarItems.{program}
use Rattle.pg_read_grammar.specs.Verdict.{IsRead, Refused}
use Rattle.pg_read_grammar.specs.Words.{classified}

-- the text is this module
abbrev pub IsModule : List ℕ → Tree → Type 0
IsModule text m = (ts : List Lexed) × (tokens text ≡ Ok ts) × IsRead program (classified text ts) m

-- the place of the first of these tokens of a text, or its end
abbrev pub place_of : List ℕ → List Token → Span
place_of text [] = record { start = length text; end = length text }
place_of text (t ∷ ts) = t.span

-- The text has tokens, and the first one with which they begin no module, or the end of the text where there is none
-- such, is at this place. The fault says whether that token isn't supported, or is too deep, there.
abbrev pub IsRefused : List ℕ → Option Fault → Span → Type 0
IsRefused text fault place =
    (ts : List Lexed) × (tokens text ≡ Ok ts)
    × (front rest : List Token) × (classified text ts ≡ front ++ rest)
    × Refused program fault front rest × (place ≡ place_of text rest)

-- the first refusal of the text
abbrev pub IsUnread : List ℕ → ReadFault → Type 0
IsUnread text (BadByte at) = tokens text ≡ Err (lexical.BadByte at)
IsUnread text (OpenString at) = tokens text ≡ Err (lexical.OpenString at)
IsUnread text (Unexpected at) = (place : Span) × (place.start ≡ at) × IsRefused text None place
IsUnread text (Unsupported place) = IsRefused text (Some fault.Unsupported) place
IsUnread text (TooDeep at) = (place : Span) × (place.start ≡ at) × IsRefused text (Some fault.TooDeep) place
IsUnread text OutOfMemory = ⊥
