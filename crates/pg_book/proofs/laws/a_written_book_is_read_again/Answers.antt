use Rattle.pg_book.proofs.Written.{is_book}
use Rattle.pg_book.proofs.laws.a_written_book_is_read_again.Goals as goal

pub returns : goal.returns
returns c = is_book c.a_kind_has_a_name_of_its_own.ensures.found
