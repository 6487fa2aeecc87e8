use Rattle.pg_law_order.proofs.GoodRunsServe.{serves}
use Rattle.pg_law_order.proofs.served.a_good_run_serves.Goals as goal

pub returns : goal.returns
returns c p input s can g = serves p input s can g
