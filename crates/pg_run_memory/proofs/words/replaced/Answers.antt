use Rattle.std.proofs.Common.{◌^◌, ◌<◌, rules}
use Rattle.pg_run_memory.specs.Words.{with_part}
use Rattle.pg_run_memory.proofs.Parts.{replace_is, with_part_small}
use Rattle.pg_run_memory.proofs.words.replaced.Goals as goal

pub overflow_add-result : goal.overflow_add-result
overflow_add-result c =
    let e = replace_is c.args.word c.args.first c.args.bytes c.args.number c.part-old.result c.ranges.word.fits c.requires.small c.requires.fits c.part-old.ensures.value in
    let h : with_part c.args.word c.args.first c.args.bytes c.args.number < 2 ^ 64 =
    with_part_small c.args.word c.args.first c.args.bytes c.args.number c.ranges.word.fits c.requires.small c.requires.fits in
    rw e (search rules)

pub returns : goal.returns
returns c = replace_is c.args.word c.args.first c.args.bytes c.args.number c.part-old.result c.ranges.word.fits c.requires.small c.requires.fits c.part-old.ensures.value
