use Rattle.std.proofs.Common.{arith}
use Rattle.pg_run_trace.specs.declared.step.Step.{Step}
use Rattle.pg_law_effects.specs.pg_run.State.{State}
use Rattle.pg_slice_replay.specs.Landmarks.{Landmark, landmark_with}
use Rattle.pg_slice_replay.specs.Sought.{freed_in}
use Rattle.pg_slice_replay.proofs.Replays.{replayed_all, replayed_first, replayed_next, row_told, takes_of}
use Rattle.pg_slice_replay.proofs.Steps.{instr_within}
use Rattle.pg_slice_replay.proofs.replay.replay.Goals as goal

pub loop-i-init : goal.loop-i-init
loop-i-init c = record {
  of = c.requires.of;
  targets = c.requires.targets;
  replayed = replayed_first (λ s x. landmark_with c.args.run.now.program.now (freed_in c.args.run.now.program.now c.args.run.now.regions.now.blocks.items c.args.run.now.regions.now.regions.items s x) s x) c.args.run.now.program.now
      c.args.run.now.regions.now.regions.items c.args.machine.now c.args.run.now.trace.now.steps c.args.rows.now.items c.args.ats.now.items c.requires.rows c.requires.run;
}

pub row_of-requires : goal.row_of-requires
row_of-requires c =
    instr_within c.loop-i.machine.gated c.args.run.now.program.now c.loop-i.machine.input c.loop-i.machine.state c.step-step.result c.loop-i.invariant.of
    (takes_of (λ s x. landmark_with c.args.run.now.program.now (freed_in c.args.run.now.program.now c.args.run.now.regions.now.blocks.items c.args.run.now.regions.now.regions.items s x) s x) c.args.run.now.program.now c.args.run.now.regions.now.regions.items
    c.args.machine.now c.args.run.now.trace.now.steps c.loop-i.i c.loop-i.machine c.loop-i.rows.items c.loop-i.ats.items c.loop-i.invariant.replayed c.step-step.result c.step-step.ensures)

pub take_step-requires-clause-takes : goal.take_step-requires-clause-takes
take_step-requires-clause-takes c =
    takes_of (λ s x. landmark_with c.args.run.now.program.now (freed_in c.args.run.now.program.now c.args.run.now.regions.now.blocks.items c.args.run.now.regions.now.regions.items s x) s x) c.args.run.now.program.now c.args.run.now.regions.now.regions.items
    c.args.machine.now c.args.run.now.trace.now.steps c.loop-i.i c.loop-i.machine c.loop-i.rows.items c.loop-i.ats.items c.loop-i.invariant.replayed c.step-step.result c.step-step.ensures

pub loop-i-preserved : goal.loop-i-preserved
loop-i-preserved c =
    let tell : State → Step → Landmark = λ s x. landmark_with c.args.run.now.program.now (freed_in c.args.run.now.program.now c.args.run.now.regions.now.blocks.items c.args.run.now.regions.now.regions.items s x) s x in
    let takes = takes_of tell c.args.run.now.program.now c.args.run.now.regions.now.regions.items c.args.machine.now c.args.run.now.trace.now.steps c.loop-i.i c.loop-i.machine c.loop-i.rows.items c.loop-i.ats.items
    c.loop-i.invariant.replayed c.step-step.result c.step-step.ensures in
    record {
      of = c.in_ok-take_step.ensures.of;
      targets = c.in_ok-take_step.ensures.targets;
      replayed = replayed_next tell c.args.run.now.program.now c.args.run.now.regions.now.regions.items c.args.machine.now c.args.run.now.trace.now.steps c.loop-i.i c.loop-i.machine c.loop-i.rows.items c.loop-i.ats.items
          c.loop-i.invariant.replayed c.step-step.result c.step-step.ensures
          c.take_step.new.machine c.row_of.new.ats.items c.in_ok-row.ensures.free.0 c.in_ok-row.row c.push.new.self.items c.in_ok-take_step.ensures.step c.take_step.ensures.gated
          c.take_step.ensures.input c.in_ok-row.ensures.free.1.behind
          (row_told c.loop-i.machine.gated c.args.run.now.program.now c.loop-i.machine.input c.loop-i.machine.state c.step-step.result c.loop-i.targets.kept.items
          (freed_in c.args.run.now.program.now c.args.run.now.regions.now.blocks.items c.args.run.now.regions.now.regions.items c.loop-i.machine.state c.step-step.result) c.args.run.now.regions.now.regions.items c.loop-i.ats.items
          c.row_of.new.ats.items c.in_ok-row.ensures.free.0 c.in_ok-row.row
          c.loop-i.invariant.of takes c.loop-i.invariant.targets c.in_ok-row.ensures.depth c.in_ok-row.ensures.function c.in_ok-row.ensures.edge c.in_ok-row.ensures.target c.in_ok-row.ensures.free.1)
          c.in_ok-row.ensures.free.1.fits c.in_ok-push.ensures.items;
    }

pub returns : goal.returns
returns c = record {
  rows = replayed_all (λ s x. landmark_with c.args.run.now.program.now (freed_in c.args.run.now.program.now c.args.run.now.regions.now.blocks.items c.args.run.now.regions.now.regions.items s x) s x) c.args.run.now.program.now
      c.args.run.now.regions.now.regions.items c.args.machine.now c.args.run.now.trace.now.steps c.loop-i.i c.loop-i.machine c.loop-i.rows.items c.loop-i.ats.items
      (omega (arith, c.loop-i-test.false, c.loop-i.auto.i-end)) c.loop-i.invariant.replayed;
}
