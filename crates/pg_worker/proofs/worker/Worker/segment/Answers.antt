use Rattle.pg_worker.specs.Standing.{run_in}
use Rattle.pg_worker.proofs.Segments.{paused_later, went_more, went_none}
use Rattle.pg_worker.proofs.worker.Worker.segment.Goals as goal

pub loop-self-init : goal.loop-self-init
loop-self-init g c = (c.requires.at, went_none c.args.self.now)

pub returns-in-Some-clause-went : goal.returns-in-Some-clause-went
returns-in-Some-clause-went g c = went_more c.args.self.now c.loop-self.self c.go_on.new.self c.loop-self.invariant.1 c.in-Some.ensures.paused.0

pub returns-in-Some-clause-paused : goal.returns-in-Some-clause-paused
returns-in-Some-clause-paused g c = paused_later (run_in c.args.shared.now) c.in-Some.paused c.args.self.now c.loop-self.self c.go_on.new.self c.loop-self.invariant.1 c.in-Some.ensures.paused.1
