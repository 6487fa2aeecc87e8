use Rattle.std.proofs.Common.{refl}
use Rattle.pg_region_accesses.specs.Accesses.{summary_of}
use Rattle.pg_region.proofs.AlikeBranches.{has_region}
use Rattle.pg_region.proofs.PreparedFinders.{vertex_within}
use Rattle.pg_region.proofs.finder.Finder.find_behind.Goals as goal

pub is_alike-requires-clause-block : goal.is_alike-requires-clause-block
is_alike-requires-clause-block c = vertex_within c.args.p.now (summary_of c.args.sums.now) c.args.self.now c.requires.finder c.args.self.now refl c.args.block c.requires.block

pub returns-then-is_alike-clause-found : goal.returns-then-is_alike-clause-found
returns-then-is_alike-clause-found c = rw c.is_alike.ensures.first
    (has_region c.args.p.now (summary_of c.args.sums.now) c.args.self.now c.requires.finder c.args.alike.now.first c.args.block (c.in_ok-is_alike.ensures.alike c.if-is_alike.true))
