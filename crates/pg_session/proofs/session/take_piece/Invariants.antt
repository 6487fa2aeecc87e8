use Rattle.std.proofs.Common.{◌≡◌, ◌≤◌, ◌+◌, length, take}
use Rattle.pg_num.specs.declared.limits.TheConstants.{LINE_LIMIT}
use Rattle.pg_session.specs.Counts.{told}
use Rattle.pg_session.specs.Progress.{Answered, begun_after, inputs_after}
use Rattle.pg_session.specs.Sessions.{admits_by}
use Rattle.pg_session.proofs.session.take_piece.Given as goal

abbrev pub invariant-loop-byte : goal.invariant-loop-byte
invariant-loop-byte g l = record {
  answered : Answered l.form (admits_by g.R.Entry.Admits.meaning g.R.Entry.Admits.test) (g.R.Runner.runs (g.R.Runner.subject l.fn.runner)) l.fn.session.cache
      (inputs_after l.fn.session.line.items (take l.byte-index l.piece)) l.session.cache
      (told (g.K.Sink.taken l.fn.out) (g.R.Runner.counts l.fn.runner)) (told (g.K.Sink.taken l.out) (g.R.Runner.counts l.runner));
  line : l.session.line.items ≡ begun_after l.fn.session.line.items (take l.byte-index l.piece);
  short : length l.session.line.items ≤ LINE_LIMIT + 1;
  count : g.K.Sink.faults l.out ≡ g.K.Sink.faults l.fn.out;
  subject : g.R.Runner.subject l.runner ≡ g.R.Runner.subject l.fn.runner;
}
