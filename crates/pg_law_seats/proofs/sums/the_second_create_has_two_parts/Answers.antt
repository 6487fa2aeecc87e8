use Rattle.std.proofs.Common.{◌++◌, refl}
use Rattle.pg_law_seats.specs.Cuts.{due_standing, standing}
use Rattle.pg_law_seats.specs.Sums.{owners, rows}
use Rattle.pg_law_seats.specs.Rows.{dids_from}
use Rattle.pg_law_seats.proofs.Computed.{next_in}
use Rattle.pg_law_seats.proofs.sums.the_second_create_has_two_parts.Goals as goal

pub returns-clause-due : goal.returns-clause-due
returns-clause-due c r h = rw (next_in owners (dids_from h.open_of 0 rows ++ h.later) (standing r 0 2) h.turns h.plan) refl

pub returns-clause-due_before : goal.returns-clause-due_before
returns-clause-due_before c r h = rw (next_in owners (dids_from h.open_of 0 rows ++ h.later) (standing r 0 2) h.turns h.plan) refl

pub returns-clause-needs : goal.returns-clause-needs
returns-clause-needs c r h = rw (next_in owners (dids_from h.open_of 0 rows ++ h.later) (standing r 0 2) h.turns h.plan) refl

pub returns-clause-argument : goal.returns-clause-argument
returns-clause-argument c r h = rw (next_in owners (dids_from h.open_of 0 rows ++ h.later) (due_standing r 0 2 0) h.turns h.plan) refl

pub returns-clause-first_thread : goal.returns-clause-first_thread
returns-clause-first_thread c r h = rw (next_in owners (dids_from h.open_of 0 rows ++ h.later) (due_standing r 0 2 0) h.turns h.plan) refl

pub returns-clause-number : goal.returns-clause-number
returns-clause-number c r h = rw (next_in owners (dids_from h.open_of 0 rows ++ h.later) (due_standing r 0 2 1) h.turns h.plan) refl

pub returns-clause-number_later : goal.returns-clause-number_later
returns-clause-number_later c r h = rw (next_in owners (dids_from h.open_of 0 rows ++ h.later) (due_standing r 0 2 0) h.turns h.plan) refl

pub returns-clause-end_later : goal.returns-clause-end_later
returns-clause-end_later c r h = rw (next_in owners (dids_from h.open_of 0 rows ++ h.later) (due_standing r 0 2 1) h.turns h.plan) refl

pub returns-clause-end : goal.returns-clause-end
returns-clause-end c r h = rw (next_in owners (dids_from h.open_of 0 rows ++ h.later) (due_standing r 0 2 2) h.turns h.plan) refl

pub returns-clause-over_argument : goal.returns-clause-over_argument
returns-clause-over_argument c r h = rw (next_in owners (dids_from h.open_of 0 rows ++ h.later) (standing r 0 2) h.turns h.plan) refl

pub returns-clause-over_number_later : goal.returns-clause-over_number_later
returns-clause-over_number_later c r h = rw (next_in owners (dids_from h.open_of 0 rows ++ h.later) (standing r 0 2) h.turns h.plan) refl

pub returns-clause-over_number : goal.returns-clause-over_number
returns-clause-over_number c r h = rw (next_in owners (dids_from h.open_of 0 rows ++ h.later) (standing r 0 2) h.turns h.plan) refl
