use Rattle.std.proofs.Common.{rules}
use Rattle.pg_slice_back.proofs.NeedsBackOverSteps.{register_met}
use Rattle.pg_slice_back.proofs.moves.put_value.Goals as goal

pub returns-in-Register : goal.returns-in-Register
returns-in-Register c = search (rules, register_met)
