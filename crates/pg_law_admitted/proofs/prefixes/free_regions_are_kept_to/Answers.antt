use Rattle.pg_law_threads.proofs.DoneLists.{all_map}
use Rattle.pg_law_admitted.proofs.prefixes.free_regions_are_kept_to.Goals as goal

pub returns : goal.returns
returns c r d input sums turns xs z h = record { threads = h.threads; instances = all_map (λ e k. k.inside) h.portions h.each }
