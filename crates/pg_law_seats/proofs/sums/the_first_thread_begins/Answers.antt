use Rattle.std.proofs.Common.{◌++◌, refl}
use Rattle.pg_run_memory.specs.Bytes.{number_of}
use Rattle.pg_law_seats.specs.Cuts.{due_standing, standing}
use Rattle.pg_law_seats.specs.Sums.{owners, rows}
use Rattle.pg_law_seats.specs.Rows.{dids_from}
use Rattle.pg_law_seats.proofs.Computed.{cells_all, cells_in, next_in}
use Rattle.pg_law_seats.proofs.sums.the_first_thread_begins.Goals as goal

pub returns-clause-due : goal.returns-clause-due
returns-clause-due c r h = rw (next_in owners (dids_from h.open_of 0 rows ++ h.later) (standing r 1 0) h.turns h.plan) refl

pub returns-clause-due_before : goal.returns-clause-due_before
returns-clause-due_before c r h = rw (next_in owners (dids_from h.open_of 0 rows ++ h.later) (standing r 1 0) h.turns h.plan) refl

pub returns-clause-hears : goal.returns-clause-hears
returns-clause-hears c r h = rw (next_in owners (dids_from h.open_of 0 rows ++ h.later) (due_standing r 1 0 0) h.turns h.plan) refl

pub returns-clause-argument : goal.returns-clause-argument
returns-clause-argument c r h = rw (cells_in r (dids_from h.open_of 0 rows ++ h.later) 1 0 33554433 h.plan) refl

pub returns-clause-sum : goal.returns-clause-sum
returns-clause-sum c r h = rw (next_in owners (dids_from h.open_of 0 rows ++ h.later) (standing r 1 1) h.turns h.plan) refl

pub returns-clause-count : goal.returns-clause-count
returns-clause-count c r h = rw (next_in owners (dids_from h.open_of 0 rows ++ h.later) (standing r 1 2) h.turns h.plan) refl

pub returns-clause-load : goal.returns-clause-load
returns-clause-load c r h = rw (next_in owners (dids_from h.open_of 0 rows ++ h.later) (standing r 1 3) h.turns h.plan) refl

pub returns-clause-finds : goal.returns-clause-finds
unfolding number_of
returns-clause-finds c r h = rw (cells_all r (dids_from h.open_of 0 rows ++ h.later) 1 3 h.plan) refl

pub returns-clause-names : goal.returns-clause-names
unfolding number_of
returns-clause-names c r h = rw (cells_all r (dids_from h.open_of 0 rows ++ h.later) 1 3 h.plan) refl
