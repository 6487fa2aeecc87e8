use Rattle.pg_book.proofs.Limits.{book_limited}
use Rattle.pg_book.proofs.laws.what_is_read_is_within_limits.Goals as goal

pub returns : goal.returns
returns c = book_limited
