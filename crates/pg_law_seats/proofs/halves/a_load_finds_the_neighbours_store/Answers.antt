use Rattle.std.proofs.Common.{refl}
use Rattle.pg_run_memory.specs.Bytes.{number_of}
use Rattle.pg_law_seats.specs.Cuts.{due_standing, standing}
use Rattle.pg_law_seats.specs.Halves.{owners, rows}
use Rattle.pg_law_seats.specs.Rows.{dids_from}
use Rattle.pg_law_seats.proofs.Computed.{cells_all, next_in}
use Rattle.pg_law_seats.proofs.halves.a_load_finds_the_neighbours_store.Goals as goal

pub returns-clause-may : goal.returns-clause-may
returns-clause-may c r h = rw (next_in owners (dids_from h.open_of 0 rows) (standing r 0 5) h.turns h.plan) refl

pub returns-clause-finds : goal.returns-clause-finds
unfolding number_of
returns-clause-finds c r h = rw (cells_all r (dids_from h.open_of 0 rows) 0 5 h.plan) refl

pub returns-clause-upper : goal.returns-clause-upper
unfolding number_of
returns-clause-upper c r h = rw (cells_all r (dids_from h.open_of 0 rows) 0 5 h.plan) refl

pub returns-clause-not_before : goal.returns-clause-not_before
returns-clause-not_before c r h = rw (next_in owners (dids_from h.open_of 0 rows) (standing r 0 4) h.turns h.plan) refl

pub returns-clause-name : goal.returns-clause-name
unfolding number_of
returns-clause-name c r h = rw (cells_all r (dids_from h.open_of 0 rows) 0 3 h.plan) refl

pub returns-clause-no_turn : goal.returns-clause-no_turn
returns-clause-no_turn c r h = rw (next_in owners (dids_from h.open_of 0 rows) (due_standing r 0 5 0) h.turns h.plan) refl
