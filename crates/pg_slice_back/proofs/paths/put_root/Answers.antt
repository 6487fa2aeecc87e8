use Rattle.pg_slice_back.proofs.NeedsBackOverSteps.{register_met}
use Rattle.pg_slice_back.proofs.RegionPathNeeds.{root_is}
use Rattle.pg_slice_back.proofs.paths.put_root.Goals as goal

pub returns-in_ok-put_register-in-Register : goal.returns-in_ok-put_register-in-Register
returns-in_ok-put_register-in-Register c = λ s y th dp h m.
    let t = c.args.at.thread.0 in
    let k = c.args.at.depth in
    let r = c.in-Register.register in
    let e = c.in_ok-put_register-in-Register.ensures in
    register_met s c.args.demanded.now c.put_register.new.self t k r c.args.whole (root_is s y c.args.root r c.args.whole t k c.in-Register.is th dp h) e.registers e.bytes m
