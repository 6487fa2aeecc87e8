use Rattle.std.proofs.Common.{◌∷◌, [], refl}
use Rattle.pg_law_seats.specs.Cuts.{words_of}
use Rattle.pg_law_seats.specs.Halves.{both, cells, owners, rows}
use Rattle.pg_law_seats.specs.Rows.{dids_from}
use Rattle.pg_law_seats.proofs.Stood.{stands_at}
use Rattle.pg_law_seats.proofs.halves.words_stand_at_cuts.Goals as goal

pub returns-clause-begin : goal.returns-clause-begin
returns-clause-begin c r h = stands_at r owners (dids_from h.open_of 0 rows) 0 0 0 0 0 (words_of 0 0 0 (0 ∷ 0 ∷ [])) cells h.turns h.plan h.zeros refl refl refl refl refl refl

pub returns-clause-argument : goal.returns-clause-argument
returns-clause-argument c r h = stands_at r owners (dids_from h.open_of 0 rows) 1 1 0 0 1 (words_of 1 0 0 (0 ∷ 0 ∷ [])) cells h.turns h.plan h.zeros refl refl refl refl refl refl

pub returns-clause-number : goal.returns-clause-number
returns-clause-number c r h = stands_at r owners (dids_from h.open_of 0 rows) 1 1 0 0 2 (words_of 1 0 0 (0 ∷ 1 ∷ [])) cells h.turns h.plan h.zeros refl refl refl refl refl refl

pub returns-clause-lower : goal.returns-clause-lower
returns-clause-lower c r h = stands_at r owners (dids_from h.open_of 0 rows) 2 3 0 0 0 (words_of 2 0 0 (5 ∷ 1 ∷ [])) cells h.turns h.plan h.zeros refl refl refl refl refl refl

pub returns-clause-upper : goal.returns-clause-upper
returns-clause-upper c r h = stands_at r owners (dids_from h.open_of 0 rows) 3 2 2 0 0 (words_of 3 0 0 (30064771072 ∷ 1 ∷ [])) cells h.turns h.plan h.zeros refl refl refl refl refl refl

pub returns-clause-both : goal.returns-clause-both
returns-clause-both c r h = stands_at r owners (dids_from h.open_of 0 rows) 3 3 2 0 0 (words_of 3 0 0 (both ∷ 1 ∷ [])) cells h.turns h.plan h.zeros refl refl refl refl refl refl

pub returns-clause-end : goal.returns-clause-end
returns-clause-end c r h = stands_at r owners (dids_from h.open_of 0 rows) 7 8 3 0 0 (words_of 7 0 0 (both ∷ 1 ∷ [])) cells h.turns h.plan h.zeros refl refl refl refl refl refl
