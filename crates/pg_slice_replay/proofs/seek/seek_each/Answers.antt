use Rattle.std.proofs.Common.{arith}
use Rattle.std.proofs.lemmas.Option.{slice_get_within}
use Rattle.pg_region_accesses.specs.Accesses.{summary_of}
use Rattle.pg_region_accesses.specs.Tables.{in_table}
use Rattle.pg_slice_replay.proofs.SoughtRegions.{sought_more}
use Rattle.pg_slice_replay.proofs.seek.seek_each.Goals as goal

pub loop-i-init : goal.loop-i-init
loop-i-init c = record {
  found = c.in_ok-known.ensures (in_table c.args.finder.now.gated) (summary_of c.args.sums.now);
  alike = c.none-alike.ensures.kept c.args.finder.now;
  sought = λ n x lt e. absurd (omega (arith, lt));
}

pub returns-clause-sought : goal.returns-clause-sought
returns-clause-sought c = λ n x e. c.loop-i.invariant.sought n x (omega (arith, slice_get_within c.args.t.now.steps n x e, c.loop-i-test.false, c.loop-i.auto.i-end)) e

pub loop-i-preserved : goal.loop-i-preserved
loop-i-preserved c = record {
  found = c.in_ok-seek_step.ensures.found;
  alike = c.in_ok-seek_step.ensures.alike;
  sought = sought_more c.args.p.now c.args.t.now.steps c.loop-i.known.blocks.items c.seek_step.new.known.blocks.items c.loop-i.i c.step-step.result c.loop-i.invariant.sought
      c.in_ok-seek_step.ensures.kept c.step-step.ensures c.in_ok-seek_step.ensures.sought;
}
