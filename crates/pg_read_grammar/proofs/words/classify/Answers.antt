use Rattle.std.proofs.Common.{ℕ, zero, suc, ◌≤◌, ◌<◌, List, [], ◌∷◌, length, drop, get_or, arith}
use Rattle.pg_read_lex.specs.declared.token.Token.{Token}
use Rattle.pg_read_lex.specs.Tokens.{IsAscending}
use Rattle.pg_read_grammar.proofs.words.classify.Goals as goal

ascending_le : (from to : ℕ) (ts : List Token) → IsAscending from ts to → from ≤ to
ascending_le from to [] h = h
ascending_le from to (t ∷ ts) (a, b, h) = omega (arith, a, b, ascending_le t.span.end to ts h)

-- each token ends within the text
ascending_end : (from to : ℕ) (ts : List Token) (i : ℕ) (d : Token) → IsAscending from (drop i ts) to → i < length ts → (get_or ts i d).span.end ≤ to
ascending_end from to [] i d h k = absurd (omega (arith, k))
ascending_end from to (t ∷ ts) zero d (a, b, h) k = ascending_le t.span.end to ts h
ascending_end from to (t ∷ ts) (suc i) d h k = ascending_end from to ts i d h (omega (arith, k))

pub see-requires-clause-end : goal.see-requires-clause-end
see-requires-clause-end c = let i = c.loop-token.invariant.1 in ascending_end i.0 (length c.args.text.now) c.args.tokens.now c.loop-token.token-index _ i.1 c.loop-token-test.true
