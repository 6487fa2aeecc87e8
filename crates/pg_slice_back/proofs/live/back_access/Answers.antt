use Rattle.std.proofs.Common.{sym, ap, ◌∙◌}
use Rattle.std.proofs.lemmas.Result.{IfOk-weaker}
use Rattle.pg_slice_back.specs.Edges.{held_by}
use Rattle.pg_slice_back.proofs.Dispatch.{access_back, load_back, store_back}
use Rattle.pg_slice_back.proofs.live.back_access.Goals as goal

pub returns-in-Load-clause-back : goal.returns-in-Load-clause-back
returns-in-Load-clause-back c = IfOk-weaker c.back_load.result _ _ (λ o h R e p r step counts m st call kind count met.
    load_back R e p r c.args.instr.now step counts c.args.number m st c.args.at call c.args.a kind c.args.demanded.now c.back_load.new.demanded _ _ c.in-Load.is c.held.result (c.held.ensures
    ∙ ap (held_by c.args.instr.now.result) (sym count)) o h met) c.back_load.ensures.met

pub returns-in-Store-clause-back : goal.returns-in-Store-clause-back
returns-in-Store-clause-back c = IfOk-weaker c.back_store.result _ _ (λ o h R e p r step counts m st call kind count met.
    store_back R e p r c.args.instr.now step counts c.args.number m st c.args.at call c.args.a kind c.args.demanded.now c.back_store.new.demanded _ _ _ c.in-Store.is o h met) c.back_store.ensures.met

pub returns-in_default-clause-back : goal.returns-in_default-clause-back
returns-in_default-clause-back c = λ R e p r step counts m st call kind count met.
    (access_back R e p r c.args.instr.now step counts c.args.number m st c.args.at call c.args.a kind c.args.demanded.now c.leave_access.new.demanded c.leave_access.ensures met, tt)
