use Rattle.std.proofs.Common.{arith}
use Rattle.pg_crew.specs.pg_worker.Standing.{run_in}
use Rattle.pg_room.proofs.LaidGranules.{global_word}
use Rattle.pg_room.proofs.laying.lay_global.Goals as goal

pub lay_granule-requires-clause-bytes : goal.lay_granule-requires-clause-bytes
lay_granule-requires-clause-bytes c = global_word (run_in c.args.shared.now) c.args.start c.loop-number.number c.args.bytes.now c.word_at-word.result c.requires.bytes (omega arith) c.word_at-word.ensures
