use Rattle.pg_run_thread.proofs.PresentInstructions.{is_present}
use Rattle.pg_run_thread.proofs.NextActions.{can_go}
use Rattle.pg_run_thread.proofs.fiber.Fiber.resume.Goals as goal

pub act-requires-clause-present : goal.act-requires-clause-present
act-requires-clause-present c = is_present c.args.p.now c.args.self.now c.instr-instr.result.now c.facts.ensures.holds c.requires.of (can_go c.args.p.now c.args.self.now c.requires.can)
    (rw c.id.ensures.id at c.instr-instr.ensures.at)
