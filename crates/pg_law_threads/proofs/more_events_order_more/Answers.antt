use Rattle.pg_law_threads.proofs.EventChains.{ordered_finer}
use Rattle.pg_law_threads.proofs.more_events_order_more.Goals as goal

pub returns : goal.returns
returns c V W turns more xs finer a b o = ordered_finer V W finer turns more xs a b o
