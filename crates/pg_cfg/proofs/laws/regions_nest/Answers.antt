use Rattle.pg_cfg.proofs.Nesting as nesting
use Rattle.pg_cfg.proofs.laws.regions_nest.Goals as goal

pub returns : goal.returns
returns c = λ g quiet b n d j v h. nesting.regions_nest g quiet b n d j v h
