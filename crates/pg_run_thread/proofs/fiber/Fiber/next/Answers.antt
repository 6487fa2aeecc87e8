use Rattle.std.proofs.Common.{◌<◌, arith, length}
use Rattle.pg_run_thread.proofs.PresentInstructions.{is_present}
use Rattle.pg_run_thread.proofs.fiber.Fiber.next.Goals as goal

pub action_of-requires-clause-operands : goal.action_of-requires-clause-operands
action_of-requires-clause-operands c =
    let g : 0 < length c.args.self.now.frames = grind (arith, c.if-is_ended.false, c.is_ended.ensures) in
    rw c.present.ensures.registers (is_present c.args.p.now c.args.self.now c.instr-instr.result.now c.facts.ensures.holds c.requires g (rw c.id.ensures.id at c.instr-instr.ensures.at)).operands

pub action_of-requires-clause-edges : goal.action_of-requires-clause-edges
action_of-requires-clause-edges c =
    let g : 0 < length c.args.self.now.frames = grind (arith, c.if-is_ended.false, c.is_ended.ensures) in
    rw c.present.ensures.registers (is_present c.args.p.now c.args.self.now c.instr-instr.result.now c.facts.ensures.holds c.requires g (rw c.id.ensures.id at c.instr-instr.ensures.at)).edges

pub action_of-requires-clause-widths : goal.action_of-requires-clause-widths
action_of-requires-clause-widths c =
    let g : 0 < length c.args.self.now.frames = grind (arith, c.if-is_ended.false, c.is_ended.ensures) in
    rw c.present.ensures.registers (is_present c.args.p.now c.args.self.now c.instr-instr.result.now c.facts.ensures.holds c.requires g (rw c.id.ensures.id at c.instr-instr.ensures.at)).widths

pub action_of-requires-clause-ends : goal.action_of-requires-clause-ends
action_of-requires-clause-ends c =
    let g : 0 < length c.args.self.now.frames = grind (arith, c.if-is_ended.false, c.is_ended.ensures) in
    (is_present c.args.p.now c.args.self.now c.instr-instr.result.now c.facts.ensures.holds c.requires g (rw c.id.ensures.id at c.instr-instr.ensures.at)).ends
