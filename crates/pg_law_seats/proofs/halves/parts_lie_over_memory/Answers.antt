use Rattle.std.proofs.Common.{refl}
use Rattle.pg_law_seats.specs.Cuts.{standing}
use Rattle.pg_law_seats.specs.Halves.{owners, rows}
use Rattle.pg_law_seats.specs.Rows.{dids_from}
use Rattle.pg_law_seats.proofs.Computed.{next_in}
use Rattle.pg_law_seats.proofs.halves.parts_lie_over_memory.Goals as goal

pub returns-clause-none : goal.returns-clause-none
returns-clause-none c r h = rw (next_in owners (dids_from h.open_of 0 rows) (standing r 0 1) h.turns h.plan) refl

pub returns-clause-argument : goal.returns-clause-argument
returns-clause-argument c r h = rw (next_in owners (dids_from h.open_of 0 rows) (standing r 0 1) h.turns h.plan) refl

pub returns-clause-number_later : goal.returns-clause-number_later
returns-clause-number_later c r h = rw (next_in owners (dids_from h.open_of 0 rows) (standing r 0 1) h.turns h.plan) refl

pub returns-clause-number : goal.returns-clause-number
returns-clause-number c r h = rw (next_in owners (dids_from h.open_of 0 rows) (standing r 0 1) h.turns h.plan) refl

pub returns-clause-beside : goal.returns-clause-beside
returns-clause-beside c r h = rw (next_in owners (dids_from h.open_of 0 rows) (standing r 0 1) h.turns h.plan) refl
