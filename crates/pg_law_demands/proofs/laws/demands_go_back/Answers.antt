use Rattle.pg_law_demands.proofs.DueDemands.{due_before}
use Rattle.pg_law_demands.proofs.laws.demands_go_back.Goals as goal

pub returns : goal.returns
returns c = λ R keeps d n y a q h. due_before R keeps d n y a q h
