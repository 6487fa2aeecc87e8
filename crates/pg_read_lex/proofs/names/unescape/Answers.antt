use Rattle.std.proofs.Common.{refl, true}
use Rattle.std.proofs.lemmas.List.{drop_all}
use Rattle.pg_read_lex.proofs.Escapes.{reads_escape, ends_escapes}
use Rattle.pg_read_lex.proofs.names.unescape.Goals as goal

pub reading-preserved : goal.reading-preserved
reading-preserved c = let e = c.escape_at-byte in (
  e.ensures.within,
  reads_escape c.args.text.now c.reading.bytes.items c.push.new.self.items c.reading.at e.result.0 e.result.1 true c.reading-test.true e.ensures.byte e.ensures.size e.ensures.some
      e.ensures.within c.in_ok-push.ensures.items refl c.reading.invariant.1,
)

pub returns : goal.returns
returns c = ends_escapes c.args.text.now c.reading.bytes.items c.reading.at (drop_all c.reading.at c.args.text.now c.reading-test.false) c.reading.invariant.1
