use Rattle.std.proofs.Common.{refl}
use Rattle.pg_law_seats.specs.Cuts.{due_standing, standing}
use Rattle.pg_law_seats.specs.Halves.{owners, rows}
use Rattle.pg_law_seats.specs.Rows.{dids_from}
use Rattle.pg_law_seats.proofs.Computed.{next_in}
use Rattle.pg_law_seats.proofs.halves.halves_are_stored_apart.Goals as goal

pub returns-clause-lower : goal.returns-clause-lower
returns-clause-lower c r h = rw (next_in owners (dids_from h.open_of 0 rows) (standing r 0 2) h.turns h.plan) refl

pub returns-clause-upper : goal.returns-clause-upper
returns-clause-upper c r h = rw (next_in owners (dids_from h.open_of 0 rows) (standing r 1 1) h.turns h.plan) refl

pub returns-clause-not_whole : goal.returns-clause-not_whole
returns-clause-not_whole c r h = rw (next_in owners (dids_from h.open_of 0 rows) (standing r 0 2) h.turns h.plan) refl

pub returns-clause-not_other : goal.returns-clause-not_other
returns-clause-not_other c r h = rw (next_in owners (dids_from h.open_of 0 rows) (standing r 0 2) h.turns h.plan) refl

pub returns-clause-not_here : goal.returns-clause-not_here
returns-clause-not_here c r h = rw (next_in owners (dids_from h.open_of 0 rows) (standing r 0 2) h.turns h.plan) refl

pub returns-clause-no_turn : goal.returns-clause-no_turn
returns-clause-no_turn c r h = rw (next_in owners (dids_from h.open_of 0 rows) (due_standing r 0 2 0) h.turns h.plan) refl
