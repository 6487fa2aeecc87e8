use Rattle.pg_region.proofs.EdgesBeforeJoin as stays
use Rattle.pg_region.proofs.laws.edges_stay.Goals as goal

pub returns : goal.returns
returns c = λ p gated sums b j blocks accesses h. stays.edges_stay p gated sums b j blocks accesses h
