use Rattle.pg_law_order.proofs.GoodRunsServe.{whole}
use Rattle.pg_law_order.proofs.served.a_good_run_is_an_ordered_full_run.Goals as goal

pub returns : goal.returns
returns c p input s g = whole p input s g
