use Rattle.std.proofs.Common.{◌≡◌, ℕ, length, drop, ◌++◌}
use Rattle.pg_read_lex.specs.Tokens.{IsAscending}
use Rattle.pg_read_grammar.specs.Words.{classified}
use Rattle.pg_read_grammar.proofs.words.classify.Given as goal

abbrev pub invariant-loop-token : goal.invariant-loop-token
invariant-loop-token l = (l.all.items ++ classified l.text (drop l.token-index l.tokens) ≡ classified l.text l.tokens)
    × ((from : ℕ) × IsAscending from (drop l.token-index l.tokens) (length l.text))
