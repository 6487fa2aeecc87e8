use Rattle.pg_rounds.proofs.Merges.{none_read}
use Rattle.pg_rounds.proofs.merge.Reader.new.Goals as goal

pub returns-clause-left : goal.returns-clause-left
returns-clause-left c = none_read c.args.workers.now 64
