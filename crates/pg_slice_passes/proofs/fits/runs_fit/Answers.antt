use Rattle.pg_slice_passes.proofs.RunsFit.{run_fits}
use Rattle.pg_slice_passes.proofs.fits.runs_fit.Goals as goal

pub returns : goal.returns
returns c = run_fits
