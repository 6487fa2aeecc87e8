use Rattle.std.proofs.Common.{◌≡◌, ℕ, List, refl, ap, subst, sym}
use Rattle.pg_session_runner.specs.pg_num.declared.limits.TheConstants.{CACHE_LIMIT}
use Rattle.pg_book.specs.Books.{AreLimited}
use Rattle.pg_book.specs.Parts.{BookEntryParts}
use Rattle.pg_session_runner.specs.pg_cache.Kept.{Kept}
use Rattle.pg_session_runner.specs.pg_session.Lines.{lines_of}
use Rattle.pg_session_runner.specs.pg_session.Sessions.{begin}
use Rattle.pg_session_runner.specs.pg_session.Texts.{inputs_of}
use Rattle.pg_session_runner.specs.Entries.{EntryParts}
use Rattle.pg_session_book.proofs.SavedEntries.{are_within, lines_have_few_numbers, loaded_parts, none_within}
use Rattle.pg_session_book.proofs.laws.what_a_session_keeps_can_be_saved.Goals as goal

pub returns-clause-recorded : goal.returns-clause-recorded
returns-clause-recorded c p way kept input h =
    c.what_a_session_keeps_is_within_limits.ensures p way begin kept (inputs_of (lines_of input)) h.answers refl none_within (lines_have_few_numbers (lines_of input)) h.session

pub returns-clause-loaded : goal.returns-clause-loaded
returns-clause-loaded c p way bytes first kept input b h =
    let limited = subst AreLimited (sym (loaded_parts p b.entries first.values b.loaded)) (c.what_is_read_is_within_limits.ensures bytes b.entries b.is_book) in
    c.what_a_session_keeps_is_within_limits.ensures p way first kept (inputs_of (lines_of input)) h.answers (ap (λ (k : Kept EntryParts). k.size) b.is_opened)
    (are_within first.values limited) (lines_have_few_numbers (lines_of input)) h.session
