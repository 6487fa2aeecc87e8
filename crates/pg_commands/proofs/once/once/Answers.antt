use Rattle.std.proofs.Common.{refl, inr}
use Rattle.pg_commands.proofs.CommandEnds.{handed_on}
use Rattle.pg_commands.proofs.OnceEnds.{once_written}
use Rattle.pg_commands.proofs.once.once.Goals as goal

pub returns-clause-ends : goal.returns-clause-ends
returns-clause-ends g c = λ texts fetches rounds turns.
    once_written _ _ _ _ _ _ (λ name. refl) c.in-Ok.ensures.count_stays c.in-Ok.ensures.takes (record { rounds = inr refl; turns = inr refl }) c.in-Ok.ensures.status
    c.in-Ok.ensures.reply (rw c.deref.ensures.value at c.write_text.ensures)

pub returns-clause-keeps : goal.returns-clause-keeps
returns-clause-keeps g c = handed_on _ _ _ _ _ _ _ c.in-Ok.ensures.status c.write_text.ensures
