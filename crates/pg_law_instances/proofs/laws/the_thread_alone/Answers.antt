use Rattle.pg_law_instances.proofs.RunsOfOneThread.{thread_alone}
use Rattle.pg_law_instances.proofs.laws.the_thread_alone.Goals as goal

pub returns : goal.returns
returns c = λ I gated input s z t l xs h r o. thread_alone I gated input s z t l xs h r o
