use Rattle.pg_session_book.proofs.OneReason.{one_reason, opened_or_refused}
use Rattle.pg_session_book.proofs.laws.a_book_is_opened_or_refused_for_one_reason.Goals as goal

pub returns-clause-not_both : goal.returns-clause-not_both
returns-clause-not_both c p bytes first refusal h r =
    let law = c.bytes_are_one_book_or_have_one_fault.ensures in
    opened_or_refused p bytes (law.book bytes) (law.not_both bytes) (law.fault bytes) first refusal h r

pub returns-clause-one : goal.returns-clause-one
returns-clause-one c p bytes refusal other a b =
    let law = c.bytes_are_one_book_or_have_one_fault.ensures in
    one_reason p bytes (law.book bytes) (law.not_both bytes) (law.fault bytes) refusal other a b
