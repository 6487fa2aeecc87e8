use Rattle.pg_crew.proofs.hooks.segment.Goals as goal

pub returns-clause-gone : goal.returns-clause-gone
returns-clause-gone g c = record { went = c.segment.ensures.went; why = c.segment.result; paused = c.segment.ensures.paused }
