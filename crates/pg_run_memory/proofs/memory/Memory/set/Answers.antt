use Rattle.std.proofs.Common.{◌∙◌, sym, ap}
use Rattle.pg_run_memory.specs.Memory.{Words, byte_at}
use Rattle.pg_run_memory.proofs.Places.{written_is_put, byte_at-written}
use Rattle.pg_run_memory.proofs.memory.Memory.set.Goals as goal

pub returns-clause-value : goal.returns-clause-value
returns-clause-value c =
    rw (c.put_word.ensures, c.replaced.ensures, c.word-word.ensures)
    (sym (written_is_put c.args.self.now (record { start = c.args.start; bytes = c.args.bytes }) c.args.number c.facts.ensures c.requires.within c.requires.fits c.requires.small))

pub returns-clause-bytes : goal.returns-clause-bytes
returns-clause-bytes c = λ b.
    rw (c.put_word.ensures, c.replaced.ensures, c.word-word.ensures)
    (ap (λ (w : Words). byte_at w b) (sym
    (written_is_put c.args.self.now (record { start = c.args.start; bytes = c.args.bytes }) c.args.number c.facts.ensures c.requires.within c.requires.fits c.requires.small))
    ∙ byte_at-written c.args.self.now (record { start = c.args.start; bytes = c.args.bytes }) c.args.number b c.facts.ensures c.requires.within c.requires.fits c.requires.small)
