use Rattle.std.proofs.Common.{◌≡◌, subst, sym, length, take, drop, ◌-◌, length-drop, arith}
use Rattle.std.proofs.lemmas.List.{length-take}
use Rattle.pg_read_lex.specs.Tokens.{IsWithin, piece_of}
use Rattle.pg_read_lex.proofs.Tokenize.{within_piece}
use Rattle.pg_read_lex.proofs.lexer.piece_at.Goals as goal

pub returns-clause-within : goal.returns-clause-within
returns-clause-within c =
    let room = length c.args.text.now - c.args.at in
    let rest = take room (drop c.args.at c.args.text.now) in
    let size : length rest ≡ room = omega (arith, length-take room (drop c.args.at c.args.text.now), length-drop c.args.at c.args.text.now) in
    subst (λ p. IsWithin p room) (sym c.piece.ensures) (subst (IsWithin (piece_of rest)) size (within_piece rest))
