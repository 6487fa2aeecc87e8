use Rattle.std.proofs.Common.{◌≡◌, ◌≤◌, ◌-◌}
use Rattle.pg_num.specs.declared.limits.TheConstants.{SESSION_INPUT_LIMIT}
use Rattle.pg_session.specs.Counts.{told}
use Rattle.pg_session.specs.Sessions.{admits_by}
use Rattle.pg_session.proofs.TakenBytes.{SoFar}
use Rattle.pg_session.proofs.serving.take_pieces.Given as goal

abbrev pub invariant-loop-taken : goal.invariant-loop-taken
invariant-loop-taken g l = record {
  far : SoFar l.form (admits_by g.R.Entry.Admits.meaning g.R.Entry.Admits.test) (g.R.Runner.runs (g.R.Runner.subject l.fn.runner)) l.fn.session.cache (g.S.Source.rest l.fn.src) (g.S.Source.rest l.src)
      (told (g.K.Sink.taken l.fn.out) (g.R.Runner.counts l.fn.runner)) (told (g.K.Sink.taken l.out) (g.R.Runner.counts l.runner)) l.session.cache l.session.line.items l.taken;
  within : l.taken ≤ SESSION_INPUT_LIMIT;
  read_count : g.S.Source.faults l.src ≡ g.S.Source.faults l.fn.src;
  write_count : g.K.Sink.faults l.out ≡ g.K.Sink.faults l.fn.out;
  subject : g.R.Runner.subject l.runner ≡ g.R.Runner.subject l.fn.runner;
}

abbrev pub decreases-loop-taken : goal.decreases-loop-taken
decreases-loop-taken g l = SESSION_INPUT_LIMIT - l.taken
