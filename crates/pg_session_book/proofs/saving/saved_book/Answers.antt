use Rattle.pg_session_book.proofs.SavedEntries.{is_saved}
use Rattle.pg_session_book.proofs.saving.saved_book.Goals as goal

pub returns : goal.returns
returns c = is_saved _ _ _ c.in_ok-book.ensures c.in_ok-text.ensures.text c.in_ok-text.ensures.again c.requires
