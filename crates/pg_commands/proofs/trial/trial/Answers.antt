use Rattle.std.proofs.Common.{refl, inl, inr}
use Rattle.pg_commands.proofs.CommandEnds.{handed_on, takes_none}
use Rattle.pg_commands.proofs.TrialEnds.{trial_written}
use Rattle.pg_commands.proofs.trial.trial.Goals as goal

pub returns-clause-ends : goal.returns-clause-ends
returns-clause-ends g c = λ texts fetches rest reads rounds.
    trial_written _ _ _ _ _ (record { reads = refl; takes = takes_none rest 0; crews = record { rounds = inr refl; turns = inl tt } }) (λ name. refl)
    c.in-Ok.ensures.status c.in-Ok.ensures.reply (rw c.deref.ensures.value at c.write_text.ensures)

pub returns-clause-keeps : goal.returns-clause-keeps
returns-clause-keeps g c = handed_on _ _ _ _ _ _ _ c.in-Ok.ensures.status c.write_text.ensures
