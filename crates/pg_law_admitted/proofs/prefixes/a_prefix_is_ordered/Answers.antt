use Rattle.pg_law_admitted.proofs.prefixes.a_prefix_is_ordered.Goals as goal

pub returns : goal.returns
returns c r d input sums turns xs z h = h.ordered
