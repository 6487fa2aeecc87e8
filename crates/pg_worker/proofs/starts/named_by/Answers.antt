use Rattle.std.proofs.Common.{◌∙◌, sym}
use Rattle.pg_worker.proofs.NamedStarts.{instr_starts}
use Rattle.pg_worker.proofs.starts.named_by.Goals as goal

pub operand-requires : goal.operand-requires
operand-requires c f e = (instr_starts c.args.p.now c.args.turn.now.instr.0 c.instr.result.now f c.instr.ensures.fits e).0

pub returns-in-Some-clause-fits : goal.returns-in-Some-clause-fits
returns-in-Some-clause-fits c = (instr_starts c.args.p.now c.args.turn.now.instr.0 c.instr.result.now c.in-Some.f c.instr.ensures.fits (sym c.operand.ensures ∙ c.in-Some.is)).1
