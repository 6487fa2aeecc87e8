use Rattle.std.proofs.Common.{inl, refl}
use Rattle.pg_commands.proofs.BookEnds.{not_saved, saved, saving_line}
use Rattle.pg_commands.proofs.CommandEnds.{stayed}
use Rattle.pg_commands.proofs.saving.save_book.Goals as goal

pub returns-in-Ok-Refused-clause-ends : goal.returns-in-Ok-Refused-clause-ends
returns-in-Ok-Refused-clause-ends g c =
    saving_line _ _ _ c.in-Ok-Refused.line.items c.write_text.result (record { rest = refl; reads = refl; rounds = refl })
    (λ name. stayed _ _ _ (λ e. cc) (c.in-Ok-Refused.ensures.counts name))
    (rw c.as_str.ensures.value at (rw c.in-Ok-Refused.field-0-is at c.in-Ok-Refused.ensures.loaded)) (rw c.deref.ensures.value at c.write_text.ensures)

-- there is no book

pub returns-in-Err-clause-ends : goal.returns-in-Err-clause-ends
returns-in-Err-clause-ends g c =
    let loaded = rw c.as_str.ensures.value at (rw c.in-Ok-Accepted.field-0-is at c.in-Ok-Accepted.ensures.loaded) in
    rw c.status_of.ensures (not_saved _ _ _ c.in-Ok-Accepted.program (loaded.0, loaded.1, loaded.2.0) (λ name. stayed _ _ _ (λ e. cc) (c.in-Ok-Accepted.ensures.counts name))
    c.in-Err.ensures.takes (record { rounds = c.in-Err.ensures.others; turns = inl tt }) _ c.in-Err.fault (record { taken = refl; writes = refl }) (record {
      no_write = c.in-Err.ensures.no_write;
      input_limit = c.in-Err.ensures.input_limit;
      read_cause = c.in-Err.ensures.read_cause;
      read_within = c.in-Err.ensures.read_within;
      read_count = c.in-Err.ensures.read_count;
    }))

-- there is one

pub returns-clause-ends : goal.returns-clause-ends
returns-clause-ends g c =
    let loaded = rw c.as_str.ensures.value at (rw c.in-Ok-Accepted.field-0-is at c.in-Ok-Accepted.ensures.loaded) in
    saved _ _ _ c.in-Ok-Accepted.program (loaded.0, loaded.1, loaded.2.0) (λ name. stayed _ _ _ (λ e. cc) (c.in-Ok-Accepted.ensures.counts name))
    c.in-Ok.ensures.takes (record { rounds = c.in-Ok.ensures.others; turns = inl tt }) c.in-Ok.text.items _ (stayed _ _ _ (λ e. cc) c.in-Ok.ensures.read_count) c.in-Ok.ensures.saves
    (rw c.deref-2.ensures.value at c.write_text-2.ensures)
