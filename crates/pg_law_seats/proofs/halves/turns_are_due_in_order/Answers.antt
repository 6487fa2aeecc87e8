use Rattle.std.proofs.Common.{refl}
use Rattle.pg_law_seats.specs.Cuts.{standing}
use Rattle.pg_law_seats.specs.Halves.{owners, rows}
use Rattle.pg_law_seats.specs.Rows.{dids_from}
use Rattle.pg_law_seats.proofs.Computed.{next_in}
use Rattle.pg_law_seats.proofs.halves.turns_are_due_in_order.Goals as goal

pub returns-clause-main_start : goal.returns-clause-main_start
returns-clause-main_start c r h = rw (next_in owners (dids_from h.open_of 0 rows) (standing r 0 0) h.turns h.plan) refl

pub returns-clause-create : goal.returns-clause-create
returns-clause-create c r h = rw (next_in owners (dids_from h.open_of 0 rows) (standing r 0 1) h.turns h.plan) refl

pub returns-clause-create_before : goal.returns-clause-create_before
returns-clause-create_before c r h = rw (next_in owners (dids_from h.open_of 0 rows) (standing r 0 1) h.turns h.plan) refl

pub returns-clause-start : goal.returns-clause-start
returns-clause-start c r h = rw (next_in owners (dids_from h.open_of 0 rows) (standing r 1 0) h.turns h.plan) refl

pub returns-clause-start_before : goal.returns-clause-start_before
returns-clause-start_before c r h = rw (next_in owners (dids_from h.open_of 0 rows) (standing r 1 0) h.turns h.plan) refl

pub returns-clause-exit : goal.returns-clause-exit
returns-clause-exit c r h = rw (next_in owners (dids_from h.open_of 0 rows) (standing r 1 2) h.turns h.plan) refl

pub returns-clause-join_before : goal.returns-clause-join_before
returns-clause-join_before c r h = rw (next_in owners (dids_from h.open_of 0 rows) (standing r 0 4) h.turns h.plan) refl

pub returns-clause-join : goal.returns-clause-join
returns-clause-join c r h = rw (next_in owners (dids_from h.open_of 0 rows) (standing r 0 4) h.turns h.plan) refl

pub returns-clause-store : goal.returns-clause-store
returns-clause-store c r h turns = rw (next_in owners (dids_from h.open_of 0 rows) (standing r 0 2) h.turns h.plan) refl

pub returns-clause-behind : goal.returns-clause-behind
returns-clause-behind c r h = rw (next_in owners (dids_from h.open_of 0 rows) (standing r 1 3) h.turns h.plan) refl
