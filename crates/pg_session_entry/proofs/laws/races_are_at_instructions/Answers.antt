use Rattle.std.proofs.Common.{[]}
use Rattle.pg_session_entry.proofs.RaceInstructions.{races_within}
use Rattle.pg_session_entry.proofs.laws.races_are_at_instructions.Goals as goal

pub returns : goal.returns
returns c p input xs z can h = races_within p xs (c.runs_fit.ensures [] p input z xs can.program can.bytes can.small h.run)
