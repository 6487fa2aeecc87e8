use Rattle.std.proofs.Common.{subst}
use Rattle.pg_session_book.specs.LoadedBooks.{IsFirstRefused}
use Rattle.pg_session_book.proofs.Wants.{not_gate, not_turns}
use Rattle.pg_session_book.proofs.book.refusal_of.Goals as goal

pub returns-in-Gate : goal.returns-in-Gate
returns-in-Gate c = λ p bs h. (h, not_gate _ c.in-Gate.is)

pub returns-in_default : goal.returns-in_default
returns-in_default c = λ p bs h. (subst (IsFirstRefused p bs c.args.number) c.in-Turns.is h, not_turns _ c.in_default.not-OutOfMemory)
