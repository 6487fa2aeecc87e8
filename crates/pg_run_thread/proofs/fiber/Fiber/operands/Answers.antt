use Rattle.std.proofs.Common.{◌<◌, arith, length}
use Rattle.pg_run_thread.proofs.PresentInstructions.{is_present}
use Rattle.pg_run_thread.proofs.fiber.Fiber.operands.Goals as goal

pub operand_numbers-requires : goal.operand_numbers-requires
operand_numbers-requires c =
    let g : 0 < length c.args.self.now.frames = grind (arith, c.if-is_ended.false, c.is_ended.ensures) in
    rw c.top.ensures (is_present c.args.p.now c.args.self.now c.instr-instr.result.now c.facts.ensures.holds c.requires g (rw c.id.ensures.id at c.instr-instr.ensures.at)).operands
