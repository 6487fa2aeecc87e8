use Rattle.pg_slice_replay.proofs.Steps.{instr_within, targets_then}
use Rattle.pg_slice_replay.proofs.step.take_step.Goals as goal

pub instr-requires : goal.instr-requires
instr-requires c = instr_within c.args.machine.now.gated c.args.p.now c.args.machine.now.input c.args.machine.now.state c.args.step.now c.requires.of c.requires.takes

pub returns-clause-targets : goal.returns-clause-targets
returns-clause-targets c =
    targets_then c.args.machine.now.gated c.args.p.now c.args.machine.now.input c.args.machine.now.state c.args.step.now c.requires.of c.requires.takes c.args.targets.now.kept.items
    c.put.new.self.kept.items c.in_ok-step.field-0 c.step.new.self.state c.instr.result.now c.depth-depth.result
    c.requires.targets c.instr.ensures.at c.depth-depth.ensures.count c.put.ensures c.in_ok-step.ensures.step
