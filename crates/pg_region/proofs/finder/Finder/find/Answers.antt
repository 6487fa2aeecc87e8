use Rattle.std.proofs.Common.{ℕ, sym, ap, subst, IfOk}
use Rattle.pg_region_accesses.specs.Accesses.{summary_of}
use Rattle.pg_region_accesses.specs.Tables.{in_table}
use Rattle.pg_region.specs.Alike.{IsFound}
use Rattle.pg_region.specs.Regions.{block_in}
use Rattle.pg_region.proofs.finder.Finder.find.Goals as goal

pub returns-clause-found : goal.returns-clause-found
returns-clause-found c = subst (λ (b : ℕ). IfOk c.find_behind.result (IsFound c.args.p.now (in_table c.args.self.now.gated) (summary_of c.args.sums.now) b))
    (sym (ap block_in c.instr.ensures.at)) c.find_behind.ensures.found
