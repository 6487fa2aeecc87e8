use Rattle.std.proofs.Common.{◌/◌, ◌*◌, ◌^◌}
use Rattle.std.proofs.lemmas.Nat.{and_mask}
use Rattle.pg_run_memory.proofs.Parts.{part_small}
use Rattle.pg_run_memory.proofs.words.part.Goals as goal

pub returns-clause-value : goal.returns-clause-value
returns-clause-value c = rw c.mask.ensures (and_mask (c.args.word / 2 ^ (8 * c.args.first)) (8 * c.args.bytes))

pub returns-clause-in_range : goal.returns-clause-in_range
returns-clause-in_range c =
    rw (c.mask.ensures, and_mask (c.args.word / 2 ^ (8 * c.args.first)) (8 * c.args.bytes)) (part_small c.args.word c.args.first c.args.bytes)
