use Rattle.pg_worker.proofs.Segments.{it_asks, it_does}
use Rattle.pg_worker.proofs.segment.ask.Goals as goal

pub returns-in-Asks-clause-asks : goal.returns-in-Asks-clause-asks
returns-in-Asks-clause-asks c = it_asks c.args.p.now c.args.fiber.now c.advance.new.self c.in-Asks.action c.in-Asks.ensures.step

pub returns-in-Done-clause-does : goal.returns-in-Done-clause-does
returns-in-Done-clause-does c = it_does c.args.p.now c.args.fiber.now c.advance.new.self _ c.in-Done.ensures.step
