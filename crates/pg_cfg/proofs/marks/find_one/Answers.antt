use Rattle.std.proofs.Common.{◌≡◌, ◌<◌, false, length, arith}
use Rattle.pg_cfg.specs.Searches.{is_in}
use Rattle.pg_cfg.proofs.Found.{found_first}
use Rattle.pg_cfg.proofs.marks.find_one.Goals as goal

pub returns : goal.returns
returns c =
    let before = c.args.found.now.items in
    let fits : c.args.target < length c.args.found.now.items = omega (arith, c.args.found.now.ok.0) in
    let out : is_in c.args.found.now.items c.args.target ≡ false = rw c.as_slice.ensures.value at c.if-as_slice-at.false in
    rw c.in_ok-push.ensures.items (found_first c.args.target c.args.found.now.items c.args.pending.now.items fits out)
