use Rattle.std.proofs.Common.{◌≡◌, ◌∙◌, arith, length, refl, subst}
use Rattle.pg_crew.specs.pg_worker.Standing.{run_in}
use Rattle.pg_room.specs.Laying.{IsLaidBelow, begin_of}
use Rattle.pg_room.proofs.LaidGranules.{all_laid, fits_inside, laid_before, laid_behind, none_laid, start_begins}
use Rattle.pg_room.proofs.laying.lay_globals.Goals as goal

pub loop-number-init : goal.loop-number-init
loop-number-init c = record { own = (refl, refl); laid = none_laid (run_in c.args.shared.now) c.args.pool.now.me c.args.laid.now.words.items c.requires.before }

pub lay_global-requires-clause-before : goal.lay_global-requires-clause-before
lay_global-requires-clause-before c = laid_before (run_in c.args.shared.now) c.loop-number.number c.global-global.result.now c.facts.ensures.holds.globals c.global-global.ensures.at c.global-global.ensures.fits.bytes
    c.as_slice.result.now c.as_slice.ensures.items c.loop-number.pool.me c.loop-number.laid.words.items c.loop-number.invariant.laid

pub lay_global-requires-clause-inside : goal.lay_global-requires-clause-inside
lay_global-requires-clause-inside c = fits_inside (run_in c.args.shared.now) c.loop-number.number c.global-global.result.now c.facts.ensures.holds.globals c.global-global.ensures.at c.global-global.ensures.fits.bytes
    c.as_slice.result.now c.as_slice.ensures.items c.global-global.ensures.fits.below

pub lay_global-requires-clause-bytes : goal.lay_global-requires-clause-bytes
lay_global-requires-clause-bytes c = start_begins (run_in c.args.shared.now) c.loop-number.number c.global-global.result.now c.facts.ensures.holds.globals c.global-global.ensures.at c.global-global.ensures.fits.bytes
    c.as_slice.result.now c.as_slice.ensures.items

pub loop-number-preserved : goal.loop-number-preserved
loop-number-preserved c = record {
  own = (c.lay_global.ensures.own.0 ∙ c.loop-number.invariant.own.0, c.lay_global.ensures.own.1 ∙ c.loop-number.invariant.own.1);
  laid = laid_behind (run_in c.args.shared.now) c.loop-number.number c.global-global.result.now c.facts.ensures.holds.globals c.global-global.ensures.at c.global-global.ensures.fits.bytes
      c.as_slice.result.now c.as_slice.ensures.items c.lay_global.new.pool.me c.lay_global.new.laid.words.items c.lay_global.ensures.laid;
}

pub returns-clause-laid : goal.returns-clause-laid
returns-clause-laid c =
    let all : c.loop-number.number ≡ length c.args.shared.now.program.now.globals = omega arith in
    all_laid (run_in c.args.shared.now) c.loop-number.pool.me c.loop-number.laid.words.items c.facts.ensures.holds.globals
    (subst (λ n. IsLaidBelow (run_in c.args.shared.now) (begin_of 1 c.args.shared.now.program.now.globals n) c.loop-number.pool.me c.loop-number.laid.words.items) all c.loop-number.invariant.laid)
