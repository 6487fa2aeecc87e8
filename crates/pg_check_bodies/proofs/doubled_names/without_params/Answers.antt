use Rattle.std.proofs.Common.{◌≤◌, ◌-◌, drop, length, arith, length-drop}
use Rattle.std.proofs.lemmas.List.{take_all}
use Rattle.pg_check_bodies.proofs.doubled_names.without_params.Goals as goal

pub returns : goal.returns
returns c =
    let names = c.args.registers.now in
    let whole : length (drop c.args.params names) ≤ length names - c.args.params = omega (arith, length-drop c.args.params names) in
    take_all (length names - c.args.params) (drop c.args.params names) whole
