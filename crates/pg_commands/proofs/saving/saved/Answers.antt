use Rattle.pg_commands.proofs.saving.saved.Goals as goal

pub saved_book-requires : goal.saved_book-requires
saved_book-requires g c = c.what_a_session_keeps_can_be_saved.ensures.recorded _ _ _ _ c.in_ok-kept.ensures.ends.done.2.all
