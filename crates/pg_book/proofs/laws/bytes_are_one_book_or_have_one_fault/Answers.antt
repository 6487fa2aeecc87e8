use Rattle.pg_book.proofs.Exact.{is_told, no_fault, one_book, one_fault}
use Rattle.pg_book.proofs.laws.bytes_are_one_book_or_have_one_fault.Goals as goal

pub returns-clause-one : goal.returns-clause-one
returns-clause-one c = is_told

pub returns-clause-not_both : goal.returns-clause-not_both
returns-clause-not_both c = no_fault

pub returns-clause-book : goal.returns-clause-book
returns-clause-book c = one_book

pub returns-clause-fault : goal.returns-clause-fault
returns-clause-fault c = one_fault
