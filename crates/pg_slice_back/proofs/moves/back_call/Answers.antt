use Rattle.std.proofs.Common.{List, sym, subst}
use Rattle.pg_law_demands.specs.Back.{is_target}
use Rattle.pg_slice_back.specs.declared.moves.Wanted.{Wanted}
use Rattle.pg_slice_back.specs.Leaves.{none}
use Rattle.pg_slice_back.specs.Wanted.{AreWanted}
use Rattle.pg_slice_back.proofs.NeedsBackOverSteps.{less_met, without_met}
use Rattle.pg_slice_back.proofs.moves.back_call.Goals as goal

pub returns : goal.returns
returns c = λ after before l f m.
    let t = c.args.at.thread.0 in
    let k = c.args.at.depth in
    let old = c.args.demanded.now in
    let mid = c.take_parameters.new.demanded in
    let e = c.in_ok-wanted.ensures in
    c.in_ok-put_wanted.ensures before (without_met t k (is_target c.args.target) none after before mid c.leave-was.new.demanded l c.leave-was.ensures.without (less_met after old mid e.less m))
    (subst (λ (xs : List Wanted). AreWanted before t k xs) (sym c.as_slice.ensures.value) (e.wanted after before m f))
