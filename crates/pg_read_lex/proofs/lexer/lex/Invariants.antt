use Rattle.std.proofs.Common.{◌≤◌, ◌-◌, length}
use Rattle.pg_read_lex.specs.Tokens.{IsAscending}
use Rattle.pg_read_lex.proofs.Tokenize.{Stands}
use Rattle.pg_read_lex.proofs.lexer.lex.Given as goal

abbrev pub invariant-lexing : goal.invariant-lexing
invariant-lexing l = (l.at ≤ length l.text) × Stands l.text l.found.items l.at × IsAscending 0 l.found.items l.at

abbrev pub decreases-lexing : goal.decreases-lexing
decreases-lexing l = length l.text - l.at
