use Rattle.std.proofs.Common.{◌≡◌, ◌∙◌, ap, sym, rules}
use Rattle.pg_run_thread.specs.LocalState.{own_memory}
use Rattle.pg_run_thread.specs.Step.{result_number, top_registers}
use Rattle.pg_run_thread.specs.Told.{or_zero}
use Rattle.pg_run_thread.specs.Needs.{IsStraight}
use Rattle.pg_run_thread.proofs.RegisterSteps.{goes_straight, straight_state}
use Rattle.pg_run_thread.proofs.fiber.Fiber.act.Goals as goal

pub returns-in_default : goal.returns-in_default
returns-in_default c =
    let l = c.args.self.now in
    let straight : IsStraight c.args.instr.now.op = search rules in
    let n : c.plain_number-n.result ≡ result_number c.args.p.now (own_memory l) (top_registers l.frames) c.args.instr.now.op c.args.reply =
    rw c.top-in_default.ensures at (c.plain_number-n.ensures (own_memory l)) in
    record {
      state = c.put_number.ensures.state ∙ straight_state c.args.p.now l c.args.instr.now c.args.reply c.plain_number-n.result c.args.instr.now.op straight n;
      number = c.put_number.ensures.number ∙ ap (or_zero c.args.instr.now.result) (n ∙ sym ((goes_straight c.args.p.now l c.args.instr.now c.args.reply c.args.instr.now.op straight).own));
    }
