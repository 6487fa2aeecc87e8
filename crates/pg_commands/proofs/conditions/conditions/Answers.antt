use Rattle.std.proofs.Common.{inl, inr, refl}
use Rattle.pg_commands.proofs.CommandEnds.{ends_as, handed_on, stayed, takes_none}
use Rattle.pg_commands.proofs.ConditionsEnds.{conditions_written}
use Rattle.pg_commands.proofs.conditions.conditions.Goals as goal

pub returns-clause-ends : goal.returns-clause-ends
returns-clause-ends g c = λ rest reads turns.
    conditions_written _ _ _ _ _ _ _ (record { reads = refl; takes = takes_none rest 0; crews = record { rounds = c.in-Ok.ensures.others; turns = inr refl } }) (λ name. stayed _ _ _ (λ e. cc) (c.in-Ok.ensures.counts name))
    c.in-Ok.ensures.status c.in-Ok.ensures.rounds c.in-Ok.ensures.reply (rw c.deref.ensures.value at c.write_text.ensures)

pub returns-clause-keeps : goal.returns-clause-keeps
returns-clause-keeps g c = handed_on _ _ _ _ _ _ _ c.in-Ok.ensures.status c.write_text.ensures

pub returns-in-Err-ShelfFault-clause-ends : goal.returns-in-Err-ShelfFault-clause-ends
returns-in-Err-ShelfFault-clause-ends g c = λ rest reads turns.
    let rose = (rw c.in-Err-ShelfFault.field-0-is at c.in-Err-ShelfFault.ensures.cause) refl in
    ends_as _ _ _ (record { name = _; fetched = refl; rose = rose; rest = refl; taken = refl })
    (record { fetches = λ name. inl refl; reads = inr refl; writes = inr refl }) (takes_none rest 0) (record { rounds = c.in-Err-ShelfFault.ensures.others; turns = inr refl })
    (λ n. absurd (n.fetches _ refl rose))
