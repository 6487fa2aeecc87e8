use Rattle.std.proofs.Common.{◌/◌, ◌%◌, ◌*◌, ◌^◌}
use Rattle.std.proofs.lemmas.Nat.{and_mask}
use Rattle.pg_run_memory.proofs.Parts.{part_small}
use Rattle.pg_words.proofs.words.part.Goals as goal

pub returns-clause-value : goal.returns-clause-value
returns-clause-value c = rw (c.mask.ensures, c.bytes.ensures.value, c.first.ensures.value) (and_mask (c.args.word / 2 ^ (8 * (c.args.at.start % 8))) (8 * c.args.at.bytes))

pub returns-clause-in_range : goal.returns-clause-in_range
returns-clause-in_range c =
    rw (c.mask.ensures, c.bytes.ensures.value, c.first.ensures.value, and_mask (c.args.word / 2 ^ (8 * (c.args.at.start % 8))) (8 * c.args.at.bytes)) (part_small c.args.word (c.args.at.start % 8) c.args.at.bytes)
