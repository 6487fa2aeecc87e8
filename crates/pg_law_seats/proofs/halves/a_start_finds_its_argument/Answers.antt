use Rattle.std.proofs.Common.{refl}
use Rattle.pg_law_seats.specs.Cuts.{due_standing}
use Rattle.pg_law_seats.specs.Halves.{owners, rows}
use Rattle.pg_law_seats.specs.Rows.{dids_from}
use Rattle.pg_law_seats.proofs.Computed.{cells_in, next_in}
use Rattle.pg_law_seats.proofs.halves.a_start_finds_its_argument.Goals as goal

pub returns-clause-may : goal.returns-clause-may
returns-clause-may c r h = rw (next_in owners (dids_from h.open_of 0 rows) (due_standing r 1 0 0) h.turns h.plan) refl

pub returns-clause-finds : goal.returns-clause-finds
returns-clause-finds c r h = rw (cells_in r (dids_from h.open_of 0 rows) 1 0 33554433 h.plan) refl

pub returns-clause-not_other : goal.returns-clause-not_other
returns-clause-not_other c r h = rw (next_in owners (dids_from h.open_of 0 rows) (due_standing r 1 0 0) h.turns h.plan) refl

pub returns-clause-join : goal.returns-clause-join
returns-clause-join c r h = rw (next_in owners (dids_from h.open_of 0 rows) (due_standing r 0 4 0) h.turns h.plan) refl
