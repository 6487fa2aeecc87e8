use Rattle.pg_law_admitted.proofs.MemoryFromSources.{memory}
use Rattle.pg_law_admitted.proofs.prefixes.memory_is_from_its_sources.Goals as goal

pub returns : goal.returns
returns c r d input sums turns xs z h = memory r d input sums h.portions h.each h.in_order
