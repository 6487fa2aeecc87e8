use Rattle.std.proofs.Common.{◌∙◌, rules, inr, sym}
use Rattle.pg_num.specs.declared.limits.TheConstants.{BOOK_LIMIT}
use Rattle.pg_commands.proofs.LongTexts.{long_bytes}
use Rattle.pg_commands.proofs.ShelfFaults.{all_stay, counts_told, is_err, own_stays}
use Rattle.pg_commands.proofs.books.fetch_book.Goals as goal

pub returns-in_err-open_book-in-Ok-clause-counts : goal.returns-in_err-open_book-in-Ok-clause-counts
returns-in_err-open_book-in-Ok-clause-counts g c = λ name. inr (all_stay _ _ _ c.in-Ok.ensures.others_stay (search rules) name)

pub returns-in_ok-open_book-in-Ok-clause-counts : goal.returns-in_ok-open_book-in-Ok-clause-counts
returns-in_ok-open_book-in-Ok-clause-counts g c = λ name. inr (all_stay _ _ _ c.in-Ok.ensures.others_stay (search rules) name)

pub returns-in-Some-clause-counts : goal.returns-in-Some-clause-counts
returns-in-Some-clause-counts g c = λ name. counts_told c.in-Err.fault c.in-Some.cause _ _ _ (sym c.in-Some.is ∙ c.unfetched.ensures.cause) c.in-Err.ensures.others_stay c.in-Err.ensures.count_stays name

pub returns-in_err-refused_book-in-None-clause-counts : goal.returns-in_err-refused_book-in-None-clause-counts
returns-in_err-refused_book-in-None-clause-counts g c = λ name.
    inr (all_stay _ _ _ c.in-Err.ensures.others_stay (own_stays c.in-Err.fault c.in-None.ensures.too_long c.in-Err.ensures.count_stays) name)

pub returns-in_ok-refused_book-in-None-clause-opened : goal.returns-in_ok-refused_book-in-None-clause-opened
returns-in_ok-refused_book-in-None-clause-opened g c =
    long_bytes _ BOOK_LIMIT _ (c.in-Err.ensures.too_long (is_err _ _ c.in-None.ensures.too_long)) (c.in_ok-refused_book-in-None.ensures _)

pub returns-in_ok-refused_book-in-None-clause-counts : goal.returns-in_ok-refused_book-in-None-clause-counts
returns-in_ok-refused_book-in-None-clause-counts g c = λ name.
    inr (all_stay _ _ _ c.in-Err.ensures.others_stay (own_stays c.in-Err.fault c.in-None.ensures.too_long c.in-Err.ensures.count_stays) name)
