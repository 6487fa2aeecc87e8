use Rattle.std.proofs.Common.{ℕ, Bool, subst, IfOk}
use mathlib.Core.Path.{fun_ext}
use Rattle.pg_region_accesses.specs.Accesses.{summary_of}
use Rattle.pg_slice_replay.specs.Sought.{AreFound}
use Rattle.pg_slice_replay.proofs.seek.regions_of.Goals as goal

pub returns-clause-found : goal.returns-clause-found
returns-clause-found c = subst (λ (G : ℕ → Bool). IfOk c.seek_each.result (λ r. AreFound c.args.p.now G (summary_of c.args.sums.now) r.blocks.items r.regions.items))
    (fun_ext c.in_ok-finder.ensures.gated) c.seek_each.ensures.found
