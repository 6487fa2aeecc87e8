use Rattle.std.proofs.Common.{refl}
use Rattle.pg_law_seats.specs.Cuts.{due_standing, standing}
use Rattle.pg_law_seats.specs.Halves.{owners, rows}
use Rattle.pg_law_seats.specs.Rows.{dids_from}
use Rattle.pg_law_seats.proofs.Computed.{next_in}
use Rattle.pg_law_seats.proofs.halves.a_create_has_two_parts.Goals as goal

pub returns-clause-needs : goal.returns-clause-needs
returns-clause-needs c r h = rw (next_in owners (dids_from h.open_of 0 rows) (standing r 0 1) h.turns h.plan) refl

pub returns-clause-argument : goal.returns-clause-argument
returns-clause-argument c r h = rw (next_in owners (dids_from h.open_of 0 rows) (due_standing r 0 1 0) h.turns h.plan) refl

pub returns-clause-argument_once : goal.returns-clause-argument_once
returns-clause-argument_once c r h = rw (next_in owners (dids_from h.open_of 0 rows) (due_standing r 0 1 1) h.turns h.plan) refl

pub returns-clause-other_argument : goal.returns-clause-other_argument
returns-clause-other_argument c r h = rw (next_in owners (dids_from h.open_of 0 rows) (due_standing r 0 1 0) h.turns h.plan) refl

pub returns-clause-other_thread : goal.returns-clause-other_thread
returns-clause-other_thread c r h = rw (next_in owners (dids_from h.open_of 0 rows) (due_standing r 0 1 0) h.turns h.plan) refl

pub returns-clause-number_later : goal.returns-clause-number_later
returns-clause-number_later c r h = rw (next_in owners (dids_from h.open_of 0 rows) (due_standing r 0 1 0) h.turns h.plan) refl

pub returns-clause-number : goal.returns-clause-number
returns-clause-number c r h = rw (next_in owners (dids_from h.open_of 0 rows) (due_standing r 0 1 1) h.turns h.plan) refl

pub returns-clause-not_due : goal.returns-clause-not_due
returns-clause-not_due c r h = refl

pub returns-clause-end_later : goal.returns-clause-end_later
returns-clause-end_later c r h = rw (next_in owners (dids_from h.open_of 0 rows) (due_standing r 0 1 1) h.turns h.plan) refl

pub returns-clause-end : goal.returns-clause-end
returns-clause-end c r h = rw (next_in owners (dids_from h.open_of 0 rows) (due_standing r 0 1 2) h.turns h.plan) refl
